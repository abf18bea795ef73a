-- The claims of a log, as they are written.
use Rattle.std.specs.Prelude.{◌≡◌, ℕ, List, [], ◌∷◌, ◌++◌, length, take, drop, codes, Option, Some, None, if◌then◌else◌}
use Rattle.std.specs.Str.{bytes_eq}
use Rattle.rga_ops.specs.Content.{Content}
use Rattle.rga_exchange.specs.Counting.{Calls, Writes, WritesFront}
use Rattle.rga_lines.specs.Stream.{newline}
use Rattle.rga_brief.specs.Told.{IsTold}
use Rattle.mgr_show.specs.Shown.{log_content}
use Rattle.mgr_show.specs.Note.{IsReadable}

-- the head of claims, without its newline: it names the version of the lines
unfoldable pub head_line : List ℕ
head_line = codes "{\"op\":\"claims\",\"version\":1}"

abbrev pub head_text : List ℕ
head_text = head_line ++ newline ∷ []

-- what stands after the head, if the bytes begin with it
abbrev pub after_head : List ℕ → Option (List ℕ)
after_head bytes =
    if bytes_eq (take (length head_text) bytes) head_text then Some (drop (length head_text) bytes) else None

-- the head, and after it what is told of a content
pub record AreClaimsOf (text : List ℕ) (c : Content) : Type 0 where
  pub lines : List ℕ
  pub is : text ≡ head_text ++ lines
  pub told : IsTold lines c

module _ {W : Type 0} (contents : W → Option (List ℕ)) (old new : Calls W) where
  -- the claims of a log's content were written
  pub record TellsClaims (bytes : List ℕ) : Type 0 where
    pub readable : IsReadable bytes
    pub text : List ℕ
    pub claims : AreClaimsOf text (log_content bytes)
    pub written : Writes contents old new text

  -- a beginning of them was written
  pub record BeginsToTell (bytes : List ℕ) : Type 0 where
    pub readable : IsReadable bytes
    pub text : List ℕ
    pub claims : AreClaimsOf text (log_content bytes)
    pub begun : WritesFront contents old new text
