use Rattle.mg_buffer.proofs.Prelude.{rules, ◌≡◌, ◌≢◌, suc, List, [], ◌∷◌, ◌++◌, length, slice_get, refl, ap, ◌∙◌, length-append, add-one, Some, option_map, Op, Past, past_of, with_group, last_group}
use Rattle.rga_doc.proofs.UndoApart.{undo_of_edit}
use Rattle.mg_buffer.specs.Ran.{operations_of_splices}
use Rattle.mg_buffer.proofs.laws.undoing_a_command_gives_the_text_before.Goals as goal

at_end : (groups : List Past) (g : Past) → slice_get (groups ++ g ∷ []) (length groups) ≡ Some g
at_end [] g = refl
at_end (x ∷ groups) g = at_end groups g

-- outside a run of undos the group that was added last is taken
newest : (groups : List Past) (g : Past) → last_group (groups ++ g ∷ []) (length (groups ++ g ∷ [])) ≡ Some (length groups, g)
newest groups g =
    let long : length (groups ++ g ∷ []) ≡ suc (length groups) = length-append groups (g ∷ []) ∙ add-one (length groups) in
    ap (last_group (groups ++ g ∷ [])) long ∙ ap (option_map (λ (x : Past). (length groups, x))) (at_end groups g)

added : (groups : List Past) (g : Past) (ops : List Op) → ops ≢ [] → with_group groups g ops ≡ groups ++ g ∷ []
added groups g [] some = absurd (some refl)
added groups g (op ∷ ops) some = refl

pub returns : goal.returns
returns c = λ call before between after first second third ran some undid.
    let ops : List Op = operations_of_splices before ran.plan.splices in
    let groups = added before.groups (past_of before.content ops) ops some in
    let last = newest before.groups (past_of before.content ops) in
    let same = undo_of_edit before.limit before.replica before.content ran.plan.splices ran.edited.allowed in
    search rules
