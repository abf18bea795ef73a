-- An edit that is reverted: the operations that delete what it inserted and insert again what it deleted, when they are
-- refused, and where the restored elements stand.
use Rattle.std.specs.Prelude.{◌≡◌, ℕ, ◌+◌, ◌&&◌, Bool, true, not, List, [], ◌∷◌, ◌++◌, map, filter, length}
use Rattle.std.specs.List.{list_any}
use Rattle.rga_ops.specs.Identifier.{Identifier, identifier, is_id}
use Rattle.rga_ops.specs.Content.{Content, clock_of}
use Rattle.rga_ops.specs.RootPath.{is_complete}
use Rattle.rga_ops.specs.Places.{is_visible}
use Rattle.rga_ops.specs.Placement.{without, put_behind}
use Rattle.rga_ops.specs.ListAnswer.{Verdict}
use Rattle.rga_ops.specs.declared.op.Op.{Op}
use Rattle.rga_ops.specs.declared.op.Op.TheVariants.{Insert, Delete}
use Rattle.rga_doc.specs.LocalEdit.{edit_answer}

-- each identifier once, where it stands first
abbrev pub distinct_elements : List Identifier → List Identifier
distinct_elements [] = []
distinct_elements (id ∷ ids) = id ∷ without id (distinct_elements ids)

-- an insertion of each character behind the element that it restores, with counters that go on from the last one
abbrev pub restorations : ℕ → ℕ → List (Identifier × ℕ) → List Op
restorations replica last [] = []
restorations replica last (b ∷ back) = Insert (identifier (last + 1) replica) b.0 b.1 ∷ restorations replica (last + 1) back

-- deletions of those elements that are visible, each once, and then the insertions, which go on from the clock
abbrev pub revert_operations : ℕ → Content → List Identifier → List (Identifier × ℕ) → List Op
revert_operations replica c gone back = map Delete (distinct_elements (filter (is_visible c) gone)) ++ restorations replica (clock_of c) back

-- ---- refusals

-- whether each element is complete, and none stands twice
abbrev pub are_restorable : Content → List (Identifier × ℕ) → Bool
are_restorable c [] = true
are_restorable c (b ∷ back) = (is_complete c b.0 && not (list_any (λ (x : Identifier × ℕ). is_id x.0 b.0) back)) && are_restorable c back

abbrev pub revert_answer : ℕ → Content → List (Identifier × ℕ) → Verdict
revert_answer limit c back = edit_answer limit c (are_restorable c back) (length back)

-- ---- places

-- the list with the identifier of each restored element directly behind the element that it restores
abbrev pub put_back : ℕ → ℕ → List (Identifier × ℕ) → List Identifier → List Identifier
put_back replica last [] xs = xs
put_back replica last (b ∷ back) xs = put_back replica (last + 1) back (put_behind b.0 (identifier (last + 1) replica) xs)

-- the second element stands directly behind the first one in the list
pub record StandsDirectlyBehind (xs : List Identifier) (x y : Identifier) : Type 0 where
  pub before : List Identifier
  pub after : List Identifier
  pub parts : xs ≡ before ++ x ∷ y ∷ after
