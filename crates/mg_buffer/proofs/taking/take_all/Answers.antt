use Rattle.mg_buffer.proofs.Prelude.{◌≤◌, ◌∙◌, ℕ, sym, subst}
use Rattle.rga_ops.specs.Content.{Content, known_count}
use Rattle.rga_ops.specs.Prelude.{Memory}
use Rattle.rga_ops.proofs.ListAnswerLaws.{no_other_list_refusal, one_by_one_list}
use Rattle.mg_buffer.proofs.taking.take_all.Goals as goal

-- what the early answer refuses is not refused for want of memory
pub returns-in-Err-clause-early : goal.returns-in-Err-clause-early
returns-in-Err-clause-early g c = λ h. absurd (no_other_list_refusal 0 (g.S.Taker.content c.store.result.now) c.args.ops.now Memory (c.in-Err.ensures.refused 0 ∙ h))

pub returns-in-Err-clause-growth : goal.returns-in-Err-clause-growth
returns-in-Err-clause-growth g c = λ h. absurd (no_other_list_refusal 0 (g.S.Taker.content c.store.result.now) c.args.ops.now Memory (c.in-Err.ensures.refused 0 ∙ h))

-- what is known can be taken
pub returns-then-not-has_unknown-clause-exact : goal.returns-then-not-has_unknown-clause-exact
returns-then-not-has_unknown-clause-exact g c = λ _.
    let held : Content = c.args.doc.now.content in
    let limit : ℕ = c.args.doc.now.limit in
    let below : c.known-known.result ≤ limit = subst (λ n. c.known-known.result ≤ n) c.store-2.ensures.limit c.known-known.ensures.within in
    let fits : known_count held ≤ limit = subst (λ d. known_count d ≤ limit) c.store-2.ensures.content (subst (λ n. n ≤ limit) c.known-known.ensures.known below) in
    sym (one_by_one_list limit held held c.args.ops.now fits (c.has_unknown.ensures.taken c.if-not-has_unknown.true limit))
