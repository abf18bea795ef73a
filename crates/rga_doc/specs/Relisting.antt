-- What is listed while the store has taken operations that are still to be made in it.
use Rattle.std.specs.Prelude.{◌≡◌, ℕ, suc, ◌+◌, ◌-◌, ◌<◌, ◌≤◌, List, Option, Some, Ok, take, drop, length, IfSome}
use Rattle.std.specs.List.{slice_get, AllByRecursion}
use Rattle.rga_ops.specs.Identifier.{Identifier}
use Rattle.rga_ops.specs.Answer.{answer}
use Rattle.rga_ops.specs.Content.{Content, join, single}
use Rattle.rga_ops.specs.Order.{text}
use Rattle.rga_ops.specs.Places.{visible, place}
use Rattle.rga_ops.specs.Operation.{id_of}
use Rattle.rga_ops.specs.declared.op.Op.{Op}
use Rattle.rga_ops.specs.declared.op.Op.TheVariants.{Insert, Delete}
use Rattle.rga_ops.specs.declared.refusal.Taken.TheVariants.{New}

-- ---- one operation of another replica

-- the operation deletes the element at the index
abbrev pub DeletesAt : List Identifier → Op → ℕ → Type 0
DeletesAt elements (Delete id) index = slice_get elements index ≡ Some id
DeletesAt elements (Insert id parent ch) index = ⊥

-- the operation was new to the content, and the characters are still those from before it; if an index is known, the
-- operation deleted the visible element there
pub record IsTextBefore (c : Content) (op : Op) (index : Option ℕ) (characters : List ℕ) : Type 0 where
  pub limit : ℕ
  pub before : Content
  pub new : answer limit before op ≡ Ok New
  pub taken : c ≡ join before (single op)
  pub text_before : characters ≡ text before
  pub deleted_at : IfSome index (DeletesAt (visible before) op)

-- ---- a revert

-- an element of the text has so many visible elements before it and so many behind it, at least
pub record StandsBetween (c : Content) (front back : ℕ) (id : Identifier) : Type 0 where
  pub index : ℕ
  pub placed : place c id ≡ Some (suc index)
  pub not_in_front : front ≤ index
  pub not_at_back : index + back < length (visible c)

-- the elements of all operations do
abbrev pub AllBetween : Content → ℕ → ℕ → List Op → Type 0
AllBetween c front back ops = AllByRecursion (λ op. StandsBetween c front back (id_of op)) ops

-- two texts begin with the same characters and end with the same, so many of each
pub record AgreeOutside (front back : ℕ) (old new : List ℕ) : Type 0 where
  pub same_front : take front old ≡ take front new
  pub same_back : drop (length old - back) old ≡ drop (length new - back) new

-- so do the old characters and the text of the content within these margins, once the insertions stand between them too
abbrev pub WillAgreeOutside : Content → ℕ → ℕ → List Op → List ℕ → Type 0
WillAgreeOutside c front back insertions characters =
    (f b : ℕ) → f ≤ front → b ≤ back → AllBetween c f b insertions → AgreeOutside f b characters (text c)
