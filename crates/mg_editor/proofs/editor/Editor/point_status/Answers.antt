use Rattle.mg_buffer.proofs.PlaceLaws.{seen_point_within}
use Rattle.mg_editor.proofs.editor.Editor.point_status.Goals as goal

pub column_of-requires : goal.column_of-requires
column_of-requires g c = seen_point_within _ _ _ c.in_ok-sight.ensures c.as_slice.ensures.value
