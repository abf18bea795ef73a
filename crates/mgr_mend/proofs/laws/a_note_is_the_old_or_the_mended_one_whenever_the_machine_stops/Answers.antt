use Rattle.std.proofs.Common.{inl, inr, Some}
use Rattle.mgr_port.proofs.DiskLaws.{one_of_them, old_stands}
use Rattle.mgr_mend.specs.Fitting.{fitted}
use Rattle.mgr_mend.proofs.laws.a_note_is_the_old_or_the_mended_one_whenever_the_machine_stops.Goals as goal

pub returns : goal.returns
returns c bytes found p made untouched (inl begins) may =
    one_of_them (Some bytes) found (fitted bytes) p made untouched begins may
returns c bytes found p made untouched (inr given) may =
    inl (old_stands (Some bytes) found p (fitted bytes) made untouched given may)
