use Rattle.std.proofs.Common.{rules, ◌≡◌, Option, Result, Err, sym, subst, ◌∙◌}
use Rattle.rga_brief.specs.Summary.{Summary}
use Rattle.mg_files.specs.Asking.{Asks, Connects}
use Rattle.mg_files.specs.declared.fault.ExchangeFault.{ExchangeFault}
use Rattle.mg_files.specs.declared.fault.ExchangeFault.TheVariants.{Receive, Send}
use Rattle.mg_files.proofs.asking.ask.Goals as goal

pub returns-in_err-say : goal.returns-in_err-say
returns-in_err-say g c =
    let is : c.from_residual.result ≡ Err (Send c.in_err-say.field-0.0) = search rules in
    subst (λ (r : Result (Option Summary) ExchangeFault). Asks _ r Connects c.args.opened.now c.args.link.now c.say.new.writer) (sym is)
    (sym c.is_brief.ensures ∙ search rules, c.in_err-say.ensures c.args.opened.now.buffer.content c.own_lines.ensures)

pub returns-in_err-peer : goal.returns-in_err-peer
returns-in_err-peer g c =
    let is : c.from_residual-in_err-peer.result ≡ Err (Receive c.in_err-peer.field-0.0) = search rules in
    subst (λ (r : Result (Option Summary) ExchangeFault). Asks _ r Connects c.args.opened.now c.args.link.now c.hear_summary.new.reader) (sym is)
    (sym c.is_brief.ensures ∙ search rules, record { mid = c.say.new.writer; says = c.in_ok-say.ensures c.args.opened.now.buffer.content c.own_lines.ensures; learns = record { outcome = c.in_err-peer.ensures.outcome; last = c.in_err-peer.ensures.last; device = c.in_err-peer.ensures.device } })

pub returns : goal.returns
returns g c =
    (sym c.is_brief.ensures ∙ search rules, record { mid = c.say.new.writer; says = c.in_ok-say.ensures c.args.opened.now.buffer.content c.own_lines.ensures; learns = record { outcome = c.in_ok-peer.ensures.outcome; last = c.in_ok-peer.ensures.last; device = c.in_ok-peer.ensures.device } })
