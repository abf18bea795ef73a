use Rattle.std.proofs.Common.{◌≡◌, Ok, Err, refl, sym, ap, ◌∙◌, rules}
use Rattle.rga_lines.specs.declared.line.Line.{Line}
use Rattle.rga_lines.specs.declared.fault.LineFault.{LineFault}
use Rattle.rga_lines.specs.declared.fault.LineFault.TheVariants as fault
use Rattle.mg_events.proofs.ReportLemmas.{accepted, is_short, of_other_kind, other_said, refused}
use Rattle.mg_events.proofs.RunLemmas.{read_is_sound}
use Rattle.mg_events.proofs.reading.read_report.Goals as goal

ok_is_no_fault : (x : Line) → Ok x ≡ of_other_kind → ⊥
ok_is_no_fault x e = cc

is_no_other : (x : LineFault) → ¬ (x ≡ fault.Kind) → Err x ≡ of_other_kind → ⊥
is_no_other x other e = other cc

pub returns-in-Ok-clause-exact : goal.returns-in-Ok-clause-exact
returns-in-Ok-clause-exact c = other_said c.args.line.now (Ok c.in-Ok.said) _ c.in-Ok.ensures.exact (ok_is_no_fault c.in-Ok.said) c.operations_report.ensures

pub returns-in-Ok-clause-run : goal.returns-in-Ok-clause-run
returns-in-Ok-clause-run c = read_is_sound c.args.line.now _ (returns-in-Ok-clause-exact c)

pub returns-in-Ok-from_slice-clause-exact : goal.returns-in-Ok-from_slice-clause-exact
returns-in-Ok-from_slice-clause-exact c =
    let short = is_short c.args.line.now (Err c.in-Err.fault) c.in-Err.ensures.exact (ap Err c.in-Kind.is) in
    λ n. c.report_of.ensures n ∙ sym (accepted c.args.line.now _ short c.in-Ok-from_slice.ensures.ok.0 c.in-Ok-from_slice.ensures.ok.1)

pub returns-in-Ok-from_slice-clause-run : goal.returns-in-Ok-from_slice-clause-run
returns-in-Ok-from_slice-clause-run c = read_is_sound c.args.line.now _ (returns-in-Ok-from_slice-clause-exact c)

pub returns-in-None-clause-exact : goal.returns-in-None-clause-exact
returns-in-None-clause-exact c =
    let short = is_short c.args.line.now (Err c.in-Err.fault) c.in-Err.ensures.exact (ap Err c.in-Kind.is) in
    λ _. sym (refused c.args.line.now short (c.in-Err-from_slice.ensures.err (search rules)))

pub returns-in_default-clause-exact : goal.returns-in_default-clause-exact
returns-in_default-clause-exact c = other_said c.args.line.now (Err c.in-Err.fault) _ c.in-Err.ensures.exact (is_no_other c.in-Err.fault c.in_default.not-Kind) refl
