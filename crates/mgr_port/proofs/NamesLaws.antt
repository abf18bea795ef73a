-- Where a log stands.
use Rattle.std.proofs.Common.{◌≡◌, inl, inr, ◌∙◌, ℕ, ◌<◌, true, nat_eq, List, ◌++◌, length, get_or, slice_get, Option, Some, Result, Ok, Err, codes, string_bytes, ap, sym, subst}
use Rattle.std.specs.Cmp.Lexicographic.{pointwise}
use Rattle.std.proofs.lemmas.Option.{slice_get-get_or}
use Rattle.std.specs.Cmp.Lexicographic.{same_text}
use Rattle.mgr_port.specs.Folder.{History, Looks, Steps, after}
use Rattle.mgr_port.specs.Names.{IsLogOf, IsNamed}
use Rattle.mgr_port.specs.declared.note.Note.{Note}
use Rattle.mgr_port.specs.declared.spare.Look.{Look}

-- nothing was led to
pub not_resolved : (name log spelled : List ℕ) (found : Option Look) (a b c : History) → log ≡ name ++ codes ".ops" → spelled ≡ log → b ≡ after (Looks spelled found) a → c ≡ b → IsLogOf name log a c
not_resolved name log spelled found a b c named is looked same = inl (named, inr (found, same ∙ looked ∙ ap (λ path. after (Looks path found) a) (is ∙ named)))

-- a look was tried
pub looked_at : {A E : Type 0} (r : Result A E) (found : A → Option Look) (name log spelled : List ℕ) (a b : History) → log ≡ name ++ codes ".ops" → spelled ≡ log
    → Steps r (λ s. Looks spelled (found s)) a b → IsLogOf name log a b
looked_at (Ok s) found name log spelled a b named is step = inl (named, inr (found s, step ∙ ap (λ path. after (Looks path (found s)) a) (is ∙ named)))
looked_at (Err e) found name log spelled a b named is step = inl (named, inl step)

-- a note has the name that was looked for
pub named_at : {T : Type 0} (name spelled : List ℕ) (notes : List (Note T)) (i : ℕ) (note : Note T) → i < length notes → note ≡ get_or notes i note → spelled ≡ string_bytes note.paths.text
    → true ≡ pointwise nat_eq spelled name → IsNamed name (slice_get notes i)
named_at name spelled notes i note within is text same =
    subst (λ o. IsNamed name o) (sym (slice_get-get_or notes i note within ∙ ap (λ n. Some n) (sym is))) (sym text ∙ same_text spelled name same)
