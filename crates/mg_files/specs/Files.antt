-- What stands in the files of a buffer.
use Rattle.std.specs.Prelude.{ℕ, List, Option, encode_utf8_all}
use Rattle.rga_ops.specs.Content.{Content}
use Rattle.rga_ops.specs.Order.{text}

-- the bytes of a log, and those of a text, where they are there
pub record Files : Type 0 where
  pub log : Option (List ℕ)
  pub text : Option (List ℕ)

-- the text of a content in UTF-8
abbrev pub text_bytes : Content → List ℕ
text_bytes c = encode_utf8_all (text c)
