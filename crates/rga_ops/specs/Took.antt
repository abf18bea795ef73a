-- What a replica came to hold by the operations that it took.
use Rattle.std.specs.Prelude.{◌≡◌, List, [], ◌∷◌, ◌++◌}
use Rattle.rga_ops.specs.Content.{Content, nothing, join, single, content_of}
use Rattle.rga_ops.specs.declared.op.Op.{Op}

-- The replica was empty, and then took one operation, new or known, or a list whole, or all that another replica holds.
-- A local edit is a list that the replica took of itself.
pub data Took : List Op → Content → Type 0 where
  empty : {ops : List Op} {c : Content} → ops ≡ [] → c ≡ nothing → Took ops c
  one : {ops : List Op} {c : Content} (before : List Op) (d : Content) (op : Op) → Took before d → ops ≡ before ++ op ∷ [] → c ≡ join d (single op) → Took ops c
  list : {ops : List Op} {c : Content} (before : List Op) (d : Content) (more : List Op) → Took before d → ops ≡ before ++ more → c ≡ join d (content_of more) → Took ops c
  merged : {ops : List Op} {c : Content} (own : List Op) (d : Content) (others : List Op) (e : Content) → Took own d → Took others e → ops ≡ own ++ others → c ≡ join d e → Took ops c
