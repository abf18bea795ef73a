-- Changes of the live buffer's text, as splices.
use Rattle.std.specs.Prelude.{◌≡◌, ◌≤◌, ℕ, suc, ◌-◌, List, [], ◌∷◌, ◌++◌, length, take, drop, reverse, Option, Some, None, if◌then◌else◌, nat_eq}
use Rattle.std.specs.List.{slice_range}
use Rattle.rga_exchange.specs.Counting.{one_more}
use Rattle.rga_ops.specs.Splice.{Splice}
use Rattle.mg_live.specs.declared.changes.Kept.{Kept}

-- the text as it was told last, how many changes were told since the start, and those of this block
pub record Changes : Type 0 where
  pub text : List ℕ
  pub count : ℕ
  pub list : List Splice

abbrev pub no_changes : Changes
no_changes = record { text = []; count = 0; list = [] }

-- how many characters two texts have in common at their begins
abbrev pub common_front : List ℕ → List ℕ → ℕ
common_front [] new = 0
common_front (x ∷ old) [] = 0
common_front (x ∷ old) (y ∷ new) = if nat_eq x y then suc (common_front old new) else 0

-- and at their ends
abbrev pub common_end : List ℕ → List ℕ → ℕ
common_end old new = common_front (reverse old) (reverse new)

-- the splice that makes one text the other, without what they have in common at the begin, and then at the end
abbrev pub splice_between : List ℕ → List ℕ → Splice
splice_between old new =
    let lo = common_front old new in
    let same = common_end (drop lo old) (drop lo new) in
    record { lo = lo; hi = length old - same; put = slice_range new lo (length new - same) }

-- none, where nothing goes and nothing comes
abbrev pub change_between : List ℕ → List ℕ → Option Splice
change_between old new =
    let s = splice_between old new in
    if nat_eq s.lo s.hi then (if nat_eq (length s.put) 0 then None else Some s) else Some s

-- with the change to that text, if it is another one
abbrev pub noted : List ℕ → Changes → Changes
noted text c = elim (change_between c.text text) [
  | None ↦ c
  | Some s ↦ record { text = text; count = one_more c.count; list = c.list ++ s ∷ [] }
]

-- how many changes were told, where they are asked for
abbrev pub change_count : Option Changes → ℕ
change_count None = 0
change_count (Some c) = c.count

-- of the code: so much of two texts is the same
pub record AreKept (kept : Kept) (old new : List ℕ) : Type 0 where
  pub front_in_old : kept.front ≤ length old
  pub front_in_new : kept.front ≤ length new
  pub front : take kept.front old ≡ take kept.front new
  pub end_in_old : kept.end ≤ length old
  pub end_in_new : kept.end ≤ length new
  pub end : drop (length old - kept.end) old ≡ drop (length new - kept.end) new
