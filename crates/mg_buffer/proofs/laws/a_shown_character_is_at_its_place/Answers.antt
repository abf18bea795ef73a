use Rattle.mg_buffer.proofs.Prelude.{◌≡◌, ◌+◌, ◌-◌, ◌∙◌, true, false, cond, not, list_any, sym, ap, arith, and_parts, not-true, slice_get, Some, unwrap_or, Identifier, Content, is_complete, visible, place, place_of}
use Rattle.std.specs.FinSet as finite_set
use Rattle.rga_ops.proofs.PlacementLaws.{member_at}
use Rattle.rga_ops.proofs.VisibleLaws.{own_index, place_at, visible_elements}
use Rattle.mg_buffer.proofs.laws.a_shown_character_is_at_its_place.Goals as goal

pub returns : goal.returns
returns call = λ c id i at.
    let gone = finite_set.contains c.deleted id in
    let shown = sym (visible_elements c id) ∙ member_at (visible c) i id at in
    let stays : gone ≡ false = not-true gone (and_parts (is_complete c id) (not gone) shown).1 in
    let behind : place_of c id ≡ i + 1 = ap (λ o. unwrap_or o 0) (place_at c id i (own_index c id i at)) in
    let before : place_of c id - 1 ≡ i = omega (arith, behind) in
    ap (λ b. cond b (place_of c id) (place_of c id - 1)) stays ∙ before
