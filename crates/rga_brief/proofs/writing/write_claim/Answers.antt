use Rattle.rga_brief.proofs.Prelude.{ℕ, ◌≢◌, List, ◌≤◌, sym, ap, ◌∙◌, subst, option_and_then, All, Data, depth, max_depth, claim_of, has_float, compact_text}
use Rattle.rga_brief.proofs.TellingLaws.{no_float, line_of, one_line, claim_back, not_deep}
use Rattle.rga_brief.proofs.writing.write_claim.Goals as goal

pub returns-clause-ok : goal.returns-clause-ok
returns-clause-ok c =
    c.in_ok-text.ensures.text (ap has_float c.in_ok-value.ensures.data ∙ no_float c.args.claim)
    ∙ ap compact_text c.in_ok-value.ensures.data ∙ line_of c.args.claim

pub returns-clause-one_line : goal.returns-clause-one_line
returns-clause-one_line c =
    subst (λ (bytes : List ℕ). All (λ b. b ≢ 10) bytes) (sym (c.in_ok-text.ensures.text (ap has_float c.in_ok-value.ensures.data ∙ no_float c.args.claim) ∙ ap compact_text c.in_ok-value.ensures.data ∙ line_of c.args.claim))
    (one_line c.args.claim c.in_ok-value.ensures.range)

pub returns-clause-reads_back : goal.returns-clause-reads_back
returns-clause-reads_back c =
    ap (option_and_then claim_of) (c.in_ok-text.ensures.reads_back (subst (λ (d : Data). depth d ≤ max_depth) (sym c.in_ok-value.ensures.data) (not_deep c.args.claim)))
    ∙ ap claim_of c.in_ok-value.ensures.data
    ∙ claim_back c.args.claim c.in_ok-value.ensures.range
