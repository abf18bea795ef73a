use Rattle.std.proofs.Common.{inl, inr, sym, refl, Some}
use Rattle.mgr_port.proofs.DiskLaws.{one_of_them, old_stands}
use Rattle.mgr_show.specs.Compacted.{compacted}
use Rattle.mgr_mend.proofs.laws.compaction.a_note_keeps_its_content_whenever_the_machine_stops.Goals as goal

pub returns : goal.returns
returns c dels bytes found p made keeps untouched (inl begins) may =
    elim (one_of_them (Some bytes) found (compacted dels bytes) p made untouched begins may) [
      | inl is ↦ (bytes, is, refl)
      | inr is ↦ (compacted dels bytes, is, sym keeps.stands.content)
    ]
returns c dels bytes found p made keeps untouched (inr given) may =
    (bytes, old_stands (Some bytes) found p (compacted dels bytes) made untouched given may, refl)
