-- What a store answers to an operation, want of memory aside.
use Rattle.std.specs.Prelude.{ℕ, ◌&&◌, ◌||◌, ◌==◌, Bool, not, is_some, List, [], ◌∷◌, Option, Some, None, Result, Ok, Err, if◌then◌else◌}
use Rattle.std.specs.FinMap as finite_map
use Rattle.std.specs.FinSet as finite_set
use Rattle.rga_ops.specs.Identifier.{Identifier, is_id}
use Rattle.rga_ops.specs.Operation.{checked, id_of}
use Rattle.rga_ops.specs.Content.{Element, Content, known_count, join, single}
use Rattle.rga_ops.specs.declared.op.Op.{Op}
use Rattle.rga_ops.specs.declared.op.Op.TheVariants.{Insert, Delete}
use Rattle.rga_ops.specs.declared.refusal.Taken.{Taken}
use Rattle.rga_ops.specs.declared.refusal.Taken.TheVariants.{New, Known}
use Rattle.rga_ops.specs.declared.refusal.Refusal.{Refusal}
use Rattle.rga_ops.specs.declared.refusal.Refusal.TheVariants.{Conflict, Full}

-- what a store knows of an operation's identifier, and of its own room
pub record Facts : Type 0 where
  pub found : Option Element
  pub deleted : Bool
  pub known : ℕ
  pub limit : ℕ

abbrev pub facts : ℕ → Content → Identifier → Facts
facts limit c id = record {
  found = finite_map.get c.inserted id;
  deleted = finite_set.contains c.deleted id;
  known = known_count c;
  limit = limit;
}

-- a known identifier needs no room
abbrev pub has_room : Facts → Bool
has_room f = (is_some f.found || f.deleted) || not (f.known == f.limit)

abbrev pub is_element : Element → Identifier → ℕ → Bool
is_element x parent ch = is_id x.parent parent && (x.ch == ch)

-- another insertion of the identifier is a conflict, the same one is known
abbrev pub insertion_answer : Identifier → Identifier → ℕ → Facts → Option Element → Result Taken Refusal
insertion_answer id parent ch f (Some x) = if is_element x parent ch then Ok Known else Err (Conflict id)
insertion_answer id parent ch f None = if has_room f then Ok New else Err Full

abbrev pub deletion_answer : Facts → Result Taken Refusal
deletion_answer f = if f.deleted then Ok Known else if has_room f then Ok New else Err Full

abbrev pub answer_well_formed : Op → Facts → Result Taken Refusal
answer_well_formed (Insert id parent ch) f = insertion_answer id parent ch f f.found
answer_well_formed (Delete id) f = deletion_answer f

abbrev pub and_then : Result (Unit {0}) Refusal → Result Taken Refusal → Result Taken Refusal
and_then (Ok u) r = r
and_then (Err e) r = Err e

abbrev pub answer_from : Op → Facts → Result Taken Refusal
answer_from op f = and_then (checked op) (answer_well_formed op f)

-- the answer of a store that holds the content and may know that many identifiers
abbrev pub answer : ℕ → Content → Op → Result Taken Refusal
answer limit c op = answer_from op (facts limit c (id_of op))

-- ---- taking

abbrev pub after_answer : Content → Op → Result Taken Refusal → Result Content Refusal
after_answer c op (Ok New) = Ok (join c (single op))
after_answer c op (Ok Known) = Ok c
after_answer c op (Err e) = Err e

-- what a store holds once it took the operation, or why it did not
abbrev pub taken : ℕ → Content → Op → Result Content Refusal
taken limit c op = after_answer c op (answer limit c op)

abbrev pub and_take : Result Content Refusal → (Content → Result Content Refusal) → Result Content Refusal
and_take (Ok c) f = f c
and_take (Err e) f = Err e

-- the same for a list of operations, one by one, up to the first refusal
abbrev pub taken_one_by_one : ℕ → Content → List Op → Result Content Refusal
taken_one_by_one limit c [] = Ok c
taken_one_by_one limit c (op ∷ ops) = and_take (taken limit c op) (λ d. taken_one_by_one limit d ops)
