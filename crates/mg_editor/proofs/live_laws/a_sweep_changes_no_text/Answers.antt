use Rattle.mg_editor.proofs.SweepLaws.{same_count, kept, others_stay}
use Rattle.mg_editor.proofs.live_laws.a_sweep_changes_no_text.Goals as goal

pub returns-clause-count : goal.returns-clause-count
returns-clause-count c = λ writing. same_count writing 0

pub returns-clause-kept : goal.returns-clause-kept
returns-clause-kept c = kept

pub returns-clause-others : goal.returns-clause-others
returns-clause-others c = others_stay
