use Rattle.mg_events.specs.StatusText.{changes_members, members_after_changes, status_members}
use Rattle.mg_events.proofs.AddedLemmas.{nothing, next, joined, token, object_added, same_text}
use Rattle.mg_events.proofs.lines.add_status.Goals as goal

pub returns : goal.returns
unfolding status_members members_after_changes
returns c =
    let s = c.args.status.now in
    object_added (status_members s) (token c.in_ok-begin_object.ensures)
    (next c.in_ok-add_flag.ensures (next c.in_ok-add_buffer.ensures
    (joined (changes_members s.changes) (members_after_changes s) c.in_ok-add_changes.ensures
    (next c.in_ok-add_cursor.ensures (next c.in_ok-add_count.ensures
    (next c.in_ok-add_live.ensures (next c.in_ok-add_flag-2.ensures
    (next c.in_ok-add_text.ensures (next (same_text c.name_of_asking.ensures c.in_ok-add_text-2.ensures)
    (next c.in_ok-add_flag-3.ensures (next c.in_ok-add_count-2.ensures
    (next c.in_ok-add_places.ensures (next c.in_ok-add_point.ensures (next c.in_ok-add_prompt.ensures
    (next c.in_ok-add_refusals.ensures (next c.in_ok-add_count-3.ensures (next c.in_ok-add_count-4.ensures
    (next (same_text c.name_of_saved.ensures c.in_ok-add_text-3.ensures) (next c.in_ok-add_windows.ensures nothing)))))))))))))))))))
    (token c.in_ok-end_object.ensures)
