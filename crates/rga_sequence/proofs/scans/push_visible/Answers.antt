use Rattle.std.proofs.Common.{◌≡◌, ◌+◌, ◌-◌, ◌++◌, ◌∷◌, [], List, take, drop, sym, ap, ◌∙◌, append_assoc, arith}
use Rattle.std.proofs.lemmas.List.{drop_more, take_all}
use Rattle.rga_ops.specs.Identifier.{Identifier}
use Rattle.rga_sequence.specs.declared.entry.Entry.{Entry}
use Rattle.rga_sequence.specs.Entries.{visible_ids}
use Rattle.rga_sequence.proofs.CountLaws.{range_both, ids_both, count_ids, count_within}
use Rattle.rga_sequence.proofs.scans.push_visible.Goals as goal

pub loop-entry-preserved : goal.loop-entry-preserved
loop-entry-preserved c =
    let es : List Entry = c.args.entries.now in
    let e : Entry = c.entry-item.result in
    let later : List Identifier = visible_ids (drop (c.loop-entry.entry-index + 1) es) in
    let all : visible_ids (drop c.loop-entry.entry-index es) ≡ visible_ids (e ∷ []) ++ later = ap visible_ids (drop_more es c.loop-entry.entry-index e c.loop-entry-test.true ∙ ap (λ x. x ∷ drop (c.loop-entry.entry-index + 1) es) (sym c.entry-item.is)) ∙ ids_both (e ∷ []) (drop (c.loop-entry.entry-index + 1) es) in
    let one : take c.loop-entry.end (visible_ids (e ∷ [])) ≡ visible_ids (e ∷ []) = take_all c.loop-entry.end (visible_ids (e ∷ [])) (omega (arith, count_ids (e ∷ []), count_within (e ∷ []), c.if-end-skip.false)) in
    ap (λ xs. xs ++ drop c.saturating_sub-skip.result (take c.saturating_sub-end.result later)) (c.in_ok-push_one.ensures.ok ∙ ap (λ xs. c.loop-entry.list.items ++ drop c.loop-entry.skip xs) (sym one))
    ∙ append_assoc c.loop-entry.list.items (drop c.loop-entry.skip (take c.loop-entry.end (visible_ids (e ∷ [])))) (drop c.saturating_sub-skip.result (take c.saturating_sub-end.result later))
    ∙ ap (λ xs. c.loop-entry.list.items ++ xs) (sym (range_both (visible_ids (e ∷ [])) later c.loop-entry.skip c.loop-entry.end c.saturating_sub-skip.result c.saturating_sub-end.result
    (c.saturating_sub-skip.ensures ∙ ap (λ n. c.loop-entry.skip - n) (c.count_one.ensures ∙ sym (count_ids (e ∷ []))))
    (c.saturating_sub-end.ensures ∙ ap (λ n. c.loop-entry.end - n) (c.count_one-in-loop-entry.ensures ∙ sym (count_ids (e ∷ []))))))
    ∙ ap (λ xs. c.loop-entry.list.items ++ drop c.loop-entry.skip (take c.loop-entry.end xs)) (sym all)
    ∙ c.loop-entry.invariant
