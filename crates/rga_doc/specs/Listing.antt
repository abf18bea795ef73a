-- The characters of a text, listed beside its store.
use Rattle.std.specs.Prelude.{◌≡◌, ℕ, Bool, true, List}
use Rattle.rga_ops.specs.Content.{Content}
use Rattle.rga_ops.specs.Order.{text}

-- where they are listed, the characters are the content's text
abbrev pub IsListing : Content → Bool → List ℕ → Type 0
IsListing c listed characters = listed ≡ true → characters ≡ text c
