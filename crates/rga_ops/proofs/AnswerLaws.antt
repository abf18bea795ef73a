-- The answers in words: which of them comes exactly when.
use Rattle.std.proofs.Common.{◌≡◌, ℕ, true, false, ◌||◌, sym, ap, ◌∙◌, nat_le, is_some, arith}
use Rattle.std.specs.Prelude.{None, Result, Ok, Err, ◌⊎◌, ◌≢◌, ◌↔◌}
use Rattle.std.specs.FinMap as finite_map
use Rattle.std.specs.FinSet as finite_set
use Rattle.rga_ops.specs.Identifier.{Identifier, is_root}
use Rattle.rga_ops.specs.Operation.{checked, id_of}
use Rattle.rga_ops.specs.Content.{Element, element, Content, known_ids, Holds, HasAnother}
use Rattle.rga_ops.specs.Answer.{is_element, answer}
use Rattle.rga_ops.proofs.IdentifierLaws.{ids_total}
use Rattle.rga_ops.specs.declared.op.Op.{Op}
use Rattle.rga_ops.specs.declared.op.Op.TheVariants.{Insert, Delete}
use Rattle.rga_ops.specs.declared.refusal.Taken.{Taken}
use Rattle.rga_ops.specs.declared.refusal.Taken.TheVariants.{New, Known}
use Rattle.rga_ops.specs.declared.refusal.Refusal.{Refusal}
use Rattle.rga_ops.specs.declared.refusal.Refusal.TheVariants.{BadId, BadOrder, Conflict, Full, Range, Clock, Memory}
use Rattle.rga_ops.specs.ListAnswer.{has_another}
use Rattle.std.proofs.lemmas.Bool.Decides.{nat_tests}

abbrev pub Answer : Type 0
Answer = Result Taken Refusal

-- what is known is inserted, deleted or both
pub contains-known : (c : Content) (q : Identifier) → finite_set.contains (known_ids c) q ≡ (is_some (finite_map.get c.inserted q) || finite_set.contains c.deleted q)
contains-known c q =
    finite_set.contains-union ids_total (finite_set.from_list (finite_map.keys c.inserted)) c.deleted q
    ∙ ap (λ b. b || finite_set.contains c.deleted q) (finite_set.contains-from_list ids_total (finite_map.keys c.inserted) q ∙ sym (finite_map.contains_key-keys c.inserted q))

pub is_element-is : (x : Element) (parent : Identifier) (ch : ℕ) → is_element x parent ch ≡ true → x ≡ element parent ch
is_element-is x parent ch h = grind arith

pub is_element-itself : (parent : Identifier) (ch : ℕ) → is_element (element parent ch) parent ch ≡ true
is_element-itself parent ch = grind (arith, nat_tests)

-- ---- the cases

-- room for an identifier: it is known already, or fewer are known than the limit
abbrev pub HasRoom : ℕ → Content → Identifier → Type 0
HasRoom limit c id = (finite_set.contains (known_ids c) id ≡ true) ⊎ (finite_set.len (known_ids c) ≢ limit)

-- ---- what an answer tells, and what leads to it

abbrev pub ok : Taken → Answer
ok t = Ok t

abbrev pub err : Refusal → Answer
err e = Err e

abbrev pub passed : Result (Unit {0}) Refusal
passed = Ok tt

abbrev pub bad : Refusal → Result (Unit {0}) Refusal
bad e = Err e

pub another : (c : Content) (op : Op) → has_another c op ≡ true → HasAnother c op
another c op h = grind (arith, is_element-itself)

pub known-iff : (limit : ℕ) (c : Content) (op : Op) → (answer limit c op ≡ Ok Known) ↔ ((checked op ≡ Ok tt) × Holds c op)
known-iff limit c op = (λ h. grind (arith, is_element-is), λ h. grind (arith, is_element-itself))

pub conflict-iff : (limit : ℕ) (c : Content) (op : Op) (id : Identifier) → (answer limit c op ≡ Err (Conflict id)) ↔ ((checked op ≡ Ok tt) × HasAnother c op × (id ≡ id_of op))
conflict-iff limit c op id = (λ h. (grind arith, another c op (grind arith), grind arith), λ h. grind (arith, is_element-is))

pub full-iff : (limit : ℕ) (c : Content) (op : Op) → (answer limit c op ≡ Err Full) ↔ ((checked op ≡ Ok tt) × (finite_set.contains (known_ids c) (id_of op) ≡ false) × (finite_set.len (known_ids c) ≡ limit))
full-iff limit c op = (λ h. grind (arith, contains-known), λ h. grind (arith, contains-known))

-- what holds of an operation that is new
pub record IsNew (limit : ℕ) (c : Content) (op : Op) : Type 0 where
  pub well_formed : checked op ≡ Ok tt
  pub not_held : ¬ (Holds c op)
  pub no_other : ¬ (HasAnother c op)
  pub room : HasRoom limit c (id_of op)

pub new-iff : (limit : ℕ) (c : Content) (op : Op) → (answer limit c op ≡ Ok New) ↔ IsNew limit c op
new-iff limit c op = grind (arith, is_element-itself, contains-known, is_element-is)

-- the other refusals: those of the operation itself
abbrev pub IsOfOperation : Refusal → Type 0
IsOfOperation e = (e ≡ BadId) ⊎ (e ≡ BadOrder)

pub ill_formed-iff : (limit : ℕ) (c : Content) (op : Op) (e : Refusal) → ((answer limit c op ≡ Err e) × IsOfOperation e) ↔ (checked op ≡ Err e)
ill_formed-iff limit c op e = (λ h. grind arith, λ h. grind arith)

-- there is no further refusal
abbrev pub IsAnswered : Refusal → Type 0
IsAnswered BadId = Unit {0}
IsAnswered BadOrder = Unit {0}
IsAnswered (Conflict id) = Unit {0}
IsAnswered Full = Unit {0}
IsAnswered Range = ⊥
IsAnswered Clock = ⊥
IsAnswered (Memory _) = ⊥

pub no_other_refusal : (limit : ℕ) (c : Content) (op : Op) (e : Refusal) → answer limit c op ≡ Err e → IsAnswered e
no_other_refusal limit c op e h = grind arith

-- ---- what is new, part by part

-- an insertion that is new: its identifier is not inserted, and is deleted early or has room
pub record IsNewInsertion (limit : ℕ) (c : Content) (id parent : Identifier) : Type 0 where
  pub falls : nat_le id.counter parent.counter ≡ false
  pub absent : finite_map.get c.inserted id ≡ None
  pub room : (finite_set.contains c.deleted id ≡ true) ⊎ (finite_set.len (known_ids c) ≢ limit)

-- a deletion that is new: its identifier is an element's, is not deleted, and is inserted or has room
pub record IsNewDeletion (limit : ℕ) (c : Content) (id : Identifier) : Type 0 where
  pub element : is_root id ≡ false
  pub absent : finite_set.contains c.deleted id ≡ false
  pub room : (is_some (finite_map.get c.inserted id) ≡ true) ⊎ (finite_set.len (known_ids c) ≢ limit)

-- a well-formed insertion is of an element, with a counter above its parent's
pub well_formed_insertion : (id parent : Identifier) (ch : ℕ) → checked (Insert id parent ch) ≡ Ok tt → (is_root id ≡ false) × (nat_le id.counter parent.counter ≡ false)
well_formed_insertion id parent ch h = grind arith

pub new_insertion : (limit : ℕ) (c : Content) (id parent : Identifier) (ch : ℕ) → answer limit c (Insert id parent ch) ≡ Ok New → IsNewInsertion limit c id parent
new_insertion limit c id parent ch h = grind (arith, contains-known)

pub new_deletion : (limit : ℕ) (c : Content) (id : Identifier) → answer limit c (Delete id) ≡ Ok New → IsNewDeletion limit c id
new_deletion limit c id h = grind (arith, contains-known)
