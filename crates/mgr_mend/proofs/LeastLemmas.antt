-- A map that has the least insertion of each identifier, as it grows.
use Rattle.std.proofs.Common.{◌≡◌, Bool, true, false, if◌then◌else◌, List, [], ◌∷◌, ◌++◌, Option, Some, None, Ok, refl, sym, subst, inl, inr, ◌∙◌}
use Rattle.std.specs.Prelude.{Contains}
use Rattle.std.proofs.lemmas.Bool.{true≢false, cases_Bool, false_from_ne_true}
use Rattle.std.proofs.lemmas.List.Elements.{Contains-append_left, Contains-push, Contains-push_cases}
use Rattle.indexmap.specs.IndexMap.{IndexMap, get}
use Rattle.rga_ops.specs.Identifier.{Identifier, is_id}
use Rattle.rga_ops.specs.Operation.{checked, id_of}
use Rattle.rga_ops.specs.declared.op.Op.{Op}
use Rattle.rga_ops.specs.declared.op.Op.TheVariants.{Insert, Delete}
use Rattle.rga_ops.proofs.IdentifierLaws.{is_id-is, is_id-itself}
use Rattle.rga_lines.specs.Spelling.{IsWritable}
use Rattle.mgr_mend.specs.Mending.{beats, is_beaten}
use Rattle.mgr_mend.specs.Parts.{inserts, AreWritableIfSound, IsLeast, HasLeast}
use Rattle.mgr_mend.proofs.BeatsLemmas.{beats-itself, beats-trans, beats-inserts, beats-between, inserts-id, beaten_of, none_of}

-- ---- one identifier, and one operation more

each_more : (P : Op → Type 0) (ops : List Op) (x : Op) → ((op : Op) → Contains ops op → P op) → P x → (op : Op) → Contains (ops ++ x ∷ []) op → P op
each_more P ops x each this op there = elim (Contains-push_cases ops x op there) [
  | inl before ↦ each op before
  | inr last ↦ subst P last this
]

-- an operation that does not insert the identifier beats no insertion of it
other_beats_none : (id : Identifier) (x y : Op) → inserts id y ≡ true → inserts id x ≡ false → beats x y ≡ false
other_beats_none id x y inserted other = false_from_ne_true (beats x y) (λ e. true≢false (sym (beats-inserts id x y inserted e) ∙ other))

-- what does not beat the least insertion leaves it
pub least-stays : (ops : List Op) (x y : Op) (id : Identifier) → beats x y ≡ false → IsLeast ops id (Some y) → IsLeast (ops ++ x ∷ []) id (Some y)
least-stays ops x y id not (there, inserted, none) =
    (Contains-append_left ops (x ∷ []) y there, inserted, each_more (λ other. beats other y ≡ false) ops x none not)

-- an operation that does not insert the identifier changes nothing
pub least-other : (ops : List Op) (x : Op) (id : Identifier) (found : Option Op) → inserts id x ≡ false → IsLeast ops id found → IsLeast (ops ++ x ∷ []) id found
least-other ops x id None other none = each_more (λ op. inserts id op ≡ false) ops x none other
least-other ops x id (Some y) other (there, inserted, none) =
    least-stays ops x y id (other_beats_none id x y inserted other) (there, inserted, none)

-- the first insertion of the identifier is the least
pub least-first : (ops : List Op) (x : Op) (id : Identifier) → inserts id x ≡ true → IsLeast ops id None → IsLeast (ops ++ x ∷ []) id (Some x)
least-first ops x id inserted none =
    (Contains-push ops x, inserted, each_more (λ other. beats other x ≡ false) ops x (λ other there. other_beats_none id other x inserted (none other there)) (beats-itself x))

-- what beats the least one is the least one
pub least-less : (ops : List Op) (x y : Op) (id : Identifier) → inserts id x ≡ true → beats x y ≡ true → IsLeast ops id (Some y) → IsLeast (ops ++ x ∷ []) id (Some x)
least-less ops x y id inserted e (there, was, none) =
    (Contains-push ops x, inserted, each_more (λ other. beats other x ≡ false) ops x (λ other among. false_from_ne_true (beats other x) (λ p. true≢false (sym (beats-trans other x y p e) ∙ none other among))) (beats-itself x))

-- ---- the map

module _ {S : Type 0} where
  -- the insertion gets an entry, where the one that it has is beaten or there is none
  pub least-insert : (ops : List Op) (m n : IndexMap Identifier Op S) (x : Op) (id : Identifier) → inserts id x ≡ true → IsLeast (ops ++ x ∷ []) id (Some x)
      → ((other : Identifier) → get is_id n other ≡ (if is_id id other then Some x else get is_id m other))
      → HasLeast ops m → HasLeast (ops ++ x ∷ []) n
  least-insert ops m n x id inserted least updated has other = rw (updated other) (by (is_id id other) refl)
    where
      apart : is_id id other ≡ false → inserts other x ≡ false
      apart e = false_from_ne_true (inserts other x) (λ p. true≢false (sym (subst (λ (i : Identifier). is_id id i ≡ true) (inserts-id id x inserted ∙ sym (inserts-id other x p)) (is_id-itself id)) ∙ e))

      by : (t : Bool) → is_id id other ≡ t → IsLeast (ops ++ x ∷ []) other (if t then Some x else get is_id m other)
      by true e = subst (λ (i : Identifier). IsLeast (ops ++ x ∷ []) i (Some x)) (is_id-is id other e) least
      by false e = least-other ops x other (get is_id m other) (apart e) (has other)

  -- it stays as it is, where the entry of the operation's identifier is still the least
  pub least-same : (ops : List Op) (m : IndexMap Identifier Op S) (x : Op) → IsLeast (ops ++ x ∷ []) (id_of x) (get is_id m (id_of x)) → HasLeast ops m → HasLeast (ops ++ x ∷ []) m
  least-same ops m x least has id = elim (cases_Bool (inserts id x)) [
    | inl p ↦ subst (λ (i : Identifier). IsLeast (ops ++ x ∷ []) i (get is_id m i)) (sym (inserts-id id x p)) least
    | inr p ↦ least-other ops x id (get is_id m id) p (has id)
  ]

-- ---- what the least insertion says

-- an operation of the list is beaten exactly if the least insertion of its identifier beats it
pub beaten_by_least : (ops : List Op) (x y : Op) (id : Identifier) → Contains ops x → inserts id x ≡ true → IsLeast ops id (Some y) → beats y x ≡ is_beaten ops x
beaten_by_least ops x y id among inserted (there, least, none) = by (beats y x) refl
  where
    not : beats y x ≡ false → (other : Op) → Contains ops other → beats other x ≡ false
    not e other h = false_from_ne_true (beats other x) (λ p. true≢false (sym (beats-between id other x y inserted least p (none other h)) ∙ e))

    by : (t : Bool) → beats y x ≡ t → t ≡ is_beaten ops x
    by true e = sym (beaten_of ops y x there e)
    by false e = sym (none_of (λ other. beats other x) ops (not e))

pub never_without : (ops : List Op) (x : Op) (id : Identifier) → Contains ops x → inserts id x ≡ true → IsLeast ops id None → ⊥
never_without ops x id among inserted none = true≢false (sym inserted ∙ none x among)

pub deletion_stays : (ops : List Op) (id : Identifier) → false ≡ is_beaten ops (Delete id)
deletion_stays ops id = sym (none_of (λ other. beats other (Delete id)) ops (λ other there. never other))
  where
    never : (other : Op) → beats other (Delete id) ≡ false
    never (Insert a f c) = refl
    never (Delete a) = refl

pub writable_more : (ops : List Op) (x : Op) → AreWritableIfSound ops → (checked x ≡ Ok tt → IsWritable x) → AreWritableIfSound (ops ++ x ∷ [])
writable_more ops x before last = each_more (λ op. checked op ≡ Ok tt → IsWritable op) ops x before last
