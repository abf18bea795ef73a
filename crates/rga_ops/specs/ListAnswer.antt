-- What a store answers to a list of operations that it takes whole or not at all, and to the content of another store.
use Rattle.std.specs.Prelude.{◌≡◌, ◌≢◌, ◌⊎◌, ℕ, nat_le, Bool, not, false, List, [], ◌∷◌, ◌++◌, find, take_while, Contains, Option, Some, None, Result, Ok, Err, MatchResult, if◌then◌else◌}
use Rattle.std.specs.Option.{option_map_or}
use Rattle.std.specs.FinMap as finite_map
use Rattle.rga_ops.specs.Identifier.{Identifier, IsLarger}
use Rattle.rga_ops.specs.Operation.{checked, id_of}
use Rattle.rga_ops.specs.Content.{Element, Content, HasAnother, Agree, IsAgreed, known_count, join, single, content_of}
use Rattle.rga_ops.specs.Answer.{is_element}
use Rattle.rga_ops.specs.declared.op.Op.{Op}
use Rattle.rga_ops.specs.declared.op.Op.TheVariants.{Insert, Delete}
use Rattle.rga_ops.specs.declared.refusal.Refusal.{Refusal}
use Rattle.rga_ops.specs.declared.refusal.Refusal.TheVariants.{Conflict, Full}
use Rattle.rga_ops.specs.Memory.{Memory}

abbrev pub Verdict : Type 0
Verdict = Result (Unit {0}) Refusal

-- the result is as the verdict says, want of memory aside
abbrev pub IsAnswer : {A : Type 0} → Result A Refusal → Verdict → Type 0
IsAnswer r verdict = MatchResult r (λ _. verdict ≡ Ok tt) (λ e. (e ≡ Memory) ⊎ (verdict ≡ Err e))

-- the second check is made where the first finds nothing
abbrev pub and_check : Verdict → Verdict → Verdict
and_check (Ok u) r = r
and_check (Err e) r = Err e

-- what the first ill-formed operation is refused for
abbrev pub all_checked : List Op → Verdict
all_checked [] = Ok tt
all_checked (op ∷ ops) = and_check (checked op) (all_checked ops)

-- whether the content has another insertion of the operation's identifier
abbrev pub has_another : Content → Op → Bool
has_another c (Insert id parent ch) = option_map_or (λ x. not (is_element x parent ch)) (finite_map.get c.inserted id) false
has_another c (Delete id) = false

-- the identifier of the first operation that conflicts with the content or with one before it in the list
abbrev pub first_conflict : Content → List Op → Option Identifier
first_conflict c [] = None
first_conflict c (op ∷ ops) = if has_another c op then Some (id_of op) else first_conflict (join c (single op)) ops

-- whether the operation inserts what the content has not inserted
abbrev pub inserts_anew : Content → Op → Bool
inserts_anew c (Insert id parent ch) = not (finite_map.contains_key c.inserted id)
inserts_anew c (Delete id) = false

-- The first conflict, if it stands in front of all that the list inserts anew. What stands there conflicts with the content
-- or not at all, so it is found before anything of the list has to be remembered.
abbrev pub early_conflict : Content → List Op → Option Identifier
early_conflict c ops = first_conflict c (take_while (λ op. not (inserts_anew c op)) ops)

-- a conflict, or a union with more identifiers than the limit
abbrev pub union_answer : ℕ → Option Identifier → Content → Verdict
union_answer limit (Some id) c = Err (Conflict id)
union_answer limit None c = if nat_le (known_count c) limit then Ok tt else Err Full

-- the answer to a list that is taken whole or not at all
abbrev pub list_answer : ℕ → Content → List Op → Verdict
list_answer limit c ops = and_check (all_checked ops) (union_answer limit (first_conflict c ops) (join c (content_of ops)))

-- whether both contents insert the identifier, and differ
abbrev pub is_conflict : Content → Content → Identifier → Bool
is_conflict c d id = option_map_or (λ x. has_another d (Insert id x.parent x.ch)) (finite_map.get c.inserted id) false

-- the least identifier that names two insertions; the keys of a finite map rise
abbrev pub least_conflict : Content → Content → Option Identifier
least_conflict c d = find (is_conflict c d) (finite_map.keys c.inserted)

-- the answer to a merge
abbrev pub merge_answer : ℕ → Content → Content → Verdict
merge_answer limit c d = union_answer limit (least_conflict c d) (join c d)

-- ---- in words

-- each operation of the list is well-formed
abbrev pub AreWellFormed : List Op → Type 0
AreWellFormed ops = (op : Op) → Contains ops op → checked op ≡ Ok tt

-- the operations agree with one another and with the content
pub record IsJoinable (c : Content) (ops : List Op) : Type 0 where
  pub agreed : IsAgreed ops
  pub agree : Agree c (content_of ops)

-- the list's first ill-formed operation, and what it is refused for
pub record IsFirstIllFormed (ops : List Op) (e : Refusal) : Type 0 where
  pub before : List Op
  pub op : Op
  pub after : List Op
  pub split : ops ≡ before ++ op ∷ after
  pub well_formed : AreWellFormed before
  pub refused : checked op ≡ Err e

-- the list's first operation that conflicts with the content or with one before it, and its identifier
pub record IsFirstConflict (c : Content) (ops : List Op) (id : Identifier) : Type 0 where
  pub before : List Op
  pub op : Op
  pub after : List Op
  pub split : ops ≡ before ++ op ∷ after
  pub joinable : IsJoinable c before
  pub another : HasAnother (join c (content_of before)) op
  pub named : id ≡ id_of op

-- both contents insert the identifier, and differ
pub record IsConflict (c d : Content) (id : Identifier) : Type 0 where
  pub here : Element
  pub there : Element
  pub inserted_here : finite_map.get c.inserted id ≡ Some here
  pub inserted_there : finite_map.get d.inserted id ≡ Some there
  pub differ : here ≢ there

-- the least identifier on which two contents do not agree
pub record IsLeastConflict (c d : Content) (id : Identifier) : Type 0 where
  pub conflict : IsConflict c d id
  pub least : (other : Identifier) → IsConflict c d other → IsLarger id other → ⊥
