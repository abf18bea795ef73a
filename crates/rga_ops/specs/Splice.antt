-- A splice of a list, and several splices of a text.
use Rattle.std.specs.Prelude.{ℕ, ◌+◌, ◌&&◌, Bool, true, nat_le, List, [], ◌∷◌, ◌++◌, take, drop, length}

-- characters `lo` to `hi - 1` of a text become `put`
pub record Splice : Type 0 where
  pub lo : ℕ
  pub hi : ℕ
  pub put : List ℕ

-- items `lo` to `hi - 1` are replaced by `put`: the first `lo` items, then `put`, then the items from `hi` on
abbrev pub spliced : {A : Type 0} → List A → ℕ → ℕ → List A → List A
spliced xs lo hi put = take lo xs ++ put ++ drop hi xs

-- a text after each splice in turn
abbrev pub text_after : List ℕ → List Splice → List ℕ
text_after chars [] = chars
text_after chars (s ∷ splices) = text_after (spliced chars s.lo s.hi s.put) splices

-- whether the places fall and keep apart: none reaches over the begin of the one before it, nor over the bound
abbrev pub are_falling : ℕ → List Splice → Bool
are_falling bound [] = true
are_falling bound (s ∷ splices) = (nat_le s.lo s.hi && nat_le s.hi bound) && are_falling s.lo splices

-- where the first one ends, and so all of them where they fall
abbrev pub end_of : List Splice → ℕ
end_of [] = 0
end_of (s ∷ splices) = s.hi

-- how many characters are new
abbrev pub new_characters : List Splice → ℕ
new_characters [] = 0
new_characters (s ∷ splices) = length s.put + new_characters splices
