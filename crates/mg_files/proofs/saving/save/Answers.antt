use Rattle.std.proofs.Common.{rules, arith, ◌≡◌, Bool, Result, Err, sym, subst}
use Rattle.std.proofs.lemmas.Grind.{common_steps}
use Rattle.mg_files.specs.Saving.{AtText, SavesTo}
use Rattle.mg_files.specs.declared.port.PortFault.{PortFault}
use Rattle.mg_files.proofs.saving.save.Goals as goal

pub returns-in_err-save_text-clause-saves : goal.returns-in_err-save_text-clause-saves
returns-in_err-save_text-clause-saves g c =
    let is : c.from_residual-in_err-save_text.result ≡ Err c.in_err-save_text.field-0.0 = search rules in
    subst (λ (r : Result Bool PortFault). SavesTo r (g.P.Port.calls c.args.port.now) (g.P.Port.calls c.save_text.new.port) c.args.opened.now c.save_text.new.opened) (sym is)
    (AtText, record { due = grind (arith, common_steps); calls = grind (arith, common_steps); left = grind (arith, common_steps) })
