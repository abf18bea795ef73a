use Rattle.std.proofs.Common.{refl}
use Rattle.mgr_port.proofs.PlaceLaws.{puts_chain, puts_look, puts_none, puts_written}
use Rattle.mgr_port.proofs.rewriting.end_line.Goals as goal

pub returns-then-length-eq0-clause-only : goal.returns-then-length-eq0-clause-only
returns-then-length-eq0-clause-only g c = λ path name. puts_look _ path name _ _ _ _ (puts_none _ path name _ _ refl) c.in_ok-length.ensures.step tt

pub returns-in_err-ends_in_newline-clause-only : goal.returns-in_err-ends_in_newline-clause-only
returns-in_err-ends_in_newline-clause-only g c = λ path name.
    puts_chain _ path name _ _ _ (puts_look _ path name _ _ _ _ (puts_none _ path name _ _ refl) c.in_ok-length.ensures.step tt) (puts_none _ path name _ _ c.in_err-ends_in_newline.ensures.step)

pub returns-then-branch-clause-only : goal.returns-then-branch-clause-only
returns-then-branch-clause-only g c = λ path name.
    puts_look _ path name _ _ _ _ (puts_look _ path name _ _ _ _ (puts_none _ path name _ _ refl) c.in_ok-length.ensures.step tt) c.in_ok-ends_in_newline.ensures.step tt

pub returns-clause-only : goal.returns-clause-only
returns-clause-only g c = λ path name.
    puts_written _ path name c.write.result _ _ _ _
    (puts_look _ path name _ _ _ _ (puts_look _ path name _ _ _ _ (puts_none _ path name _ _ refl) c.in_ok-length.ensures.step tt) c.in_ok-ends_in_newline.ensures.step tt)
    c.write.ensures.step
