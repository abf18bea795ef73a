-- What a content has together with operations that were added to it.
use Rattle.std.specs.Prelude.{◌≡◌, ◌||◌, ℕ}
use Rattle.std.specs.Option.{option_or}
use Rattle.std.specs.FinSet as finite_set
use Rattle.std.specs.HashMap.{HashMap}
use Rattle.std.specs.HashSet.{HashSet, contains}
use Rattle.indexmap.specs.IndexMap.{get}
use Rattle.rga_ops.specs.Identifier.{Identifier, is_id}
use Rattle.rga_ops.specs.Content.{Content, element_at}

module _ {S : Type 0} where
  -- the first content has, or else the added insertions have, what the second inserts
  abbrev pub ReachesElements : Content → HashMap Identifier (Identifier × ℕ) S → Content → Type 0
  ReachesElements c added d = (q : Identifier) → option_or (element_at c q) (get is_id added q) ≡ element_at d q

  -- the first content has, or the added deletions have, what the second deletes
  abbrev pub ReachesDeletions : Content → HashSet Identifier S → Content → Type 0
  ReachesDeletions c added d = (q : Identifier) → (finite_set.contains c.deleted q || contains is_id added q) ≡ finite_set.contains d.deleted q

  -- with what was added the first content has what the second has
  pub record Reaches (c : Content) (inserted : HashMap Identifier (Identifier × ℕ) S) (deleted : HashSet Identifier S) (d : Content) : Type 0 where
    pub elements : ReachesElements c inserted d
    pub deletions : ReachesDeletions c deleted d
