-- Where a new element goes in a list of elements, and the list without one.
use Rattle.std.specs.Prelude.{List, [], ◌∷◌, filter, not, if◌then◌else◌}
use Rattle.std.specs.Ordering.{is_gt}
use Rattle.rga_ops.specs.Identifier.{Identifier, id_cmp, is_id, is_root}

-- the list with what stands behind the identifier changed; as it is where the identifier is not in it
abbrev pub change_after : Identifier → (List Identifier → List Identifier) → List Identifier → List Identifier
change_after id change [] = []
change_after id change (x ∷ xs) = if is_id x id then x ∷ change xs else x ∷ change_after id change xs

-- the same; behind the root stand all
abbrev pub change_behind : Identifier → (List Identifier → List Identifier) → List Identifier → List Identifier
change_behind id change xs = if is_root id then change xs else change_after id change xs

-- an identifier directly behind its parent
abbrev pub put_behind : Identifier → Identifier → List Identifier → List Identifier
put_behind parent id xs = change_behind parent (λ ys. id ∷ ys) xs

-- an identifier past the larger ones at the front of a list
abbrev pub put_past_larger : Identifier → List Identifier → List Identifier
put_past_larger id [] = id ∷ []
put_past_larger id (x ∷ xs) = if is_gt (id_cmp x id) then x ∷ put_past_larger id xs else id ∷ x ∷ xs

-- an identifier behind its parent, and there past the larger ones: the rule of the Replicated Growable Array
-- (Roh and others 2011)
abbrev pub put_by_skip_rule : Identifier → Identifier → List Identifier → List Identifier
put_by_skip_rule parent id xs = change_behind parent (put_past_larger id) xs

-- the list without an identifier
abbrev pub without : Identifier → List Identifier → List Identifier
without id xs = filter (λ x. not (is_id x id)) xs
