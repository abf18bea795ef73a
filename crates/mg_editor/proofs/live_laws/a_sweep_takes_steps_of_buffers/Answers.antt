use Rattle.mg_editor.proofs.SweepSteps.{swept_goes, own_names_stay}
use Rattle.mg_editor.proofs.live_laws.a_sweep_takes_steps_of_buffers.Goals as goal

pub returns-clause-steps : goal.returns-clause-steps
returns-clause-steps c = swept_goes

pub returns-clause-names : goal.returns-clause-names
returns-clause-names c = own_names_stay
