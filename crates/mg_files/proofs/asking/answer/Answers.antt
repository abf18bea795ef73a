use Rattle.std.proofs.Common.{rules, ◌≡◌, Option, Result, Err, sym, subst, ◌∙◌}
use Rattle.rga_brief.specs.Summary.{Summary}
use Rattle.mg_files.specs.Asking.{Asks, Waits}
use Rattle.mg_files.specs.declared.fault.ExchangeFault.{ExchangeFault}
use Rattle.mg_files.specs.declared.fault.ExchangeFault.TheVariants.{Send}
use Rattle.mg_files.proofs.asking.answer.Goals as goal

pub returns-in_err-say : goal.returns-in_err-say
returns-in_err-say g c =
    let is : c.from_residual-in_err-say.result ≡ Err (Send c.in_err-say.field-0.0) = search rules in
    subst (λ (r : Result (Option Summary) ExchangeFault). Asks _ r Waits c.args.opened.now c.args.link.now c.say.new.writer) (sym is)
    (sym c.is_brief.ensures ∙ search rules, (c.in_ok-peer.peer, record { mid = c.hear_summary.new.reader; learns = record { outcome = c.in_ok-peer.ensures.outcome; last = c.in_ok-peer.ensures.last; device = c.in_ok-peer.ensures.device }; says = c.in_err-say.ensures c.args.opened.now.buffer.content c.own_lines-lines.ensures }))

pub returns : goal.returns
returns g c =
    (sym c.is_brief.ensures ∙ search rules, record { mid = c.hear_summary.new.reader; learns = record { outcome = c.in_ok-peer.ensures.outcome; last = c.in_ok-peer.ensures.last; device = c.in_ok-peer.ensures.device }; says = c.in_ok-say.ensures c.args.opened.now.buffer.content c.own_lines-lines.ensures })
