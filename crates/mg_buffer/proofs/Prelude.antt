-- What most proofs of this crate cite.
pub use Rattle.std.proofs.Common.{[], ◌&&◌, ◌++◌, ◌+◌, ◌-◌, ◌<◌, ◌||◌, ◌∙◌, ◌∷◌, ◌≡◌, ◌≢◌, ◌≤◌, Bool, Err, IfSome, List, MatchResult, None, Ok, Option, Result, Some, add-one, ap, append-nil, append_assoc, arith, cond, count_by, drop, drop-drop, encode_utf8_all, false, filter, get_or, if◌then◌else◌, is_err, is_some, length, length-append, map, min, not, option_map, refl, rules, slice_get, string_bytes, subst, suc, sym, take, take-take, true, true≢false, unwrap_or, vec_capacity, vec_len, zero, ℕ}
pub use Rattle.std.proofs.lemmas.List.{drop_all, length-take, map-append, map-id, take-append-le}
pub use Rattle.std.proofs.lemmas.Bool.{and_parts, cond_both, not-true, or_parts, or_right}
pub use Rattle.std.proofs.lemmas.Option.{get_or_from_slice_get, same_Some, slice_get-get_or, slice_get_within}
pub use Rattle.std.specs.List.{AllByRecursion, list_all, list_any}
pub use Rattle.std.specs.Option.{option_map_or}
pub use Rattle.std.proofs.Math.Nat.{min-eq_left, min-le_left, min-le_right}
pub use Rattle.rga_ops.specs.Identifier.{Identifier, identifier, is_id, is_root}
pub use Rattle.rga_ops.specs.Content.{Content, clock_of, content_of, join, nothing, single}
pub use Rattle.rga_ops.specs.Order.{order, text}
pub use Rattle.rga_ops.specs.Places.{is_visible, place, up_to, visible}
pub use Rattle.rga_ops.specs.RootPath.{is_complete}
pub use Rattle.rga_ops.specs.Splice.{Splice, new_characters, spliced, text_after}
pub use Rattle.rga_ops.specs.declared.op.Op.{Op}
pub use Rattle.rga_ops.specs.declared.op.Op.TheVariants.{Delete, Insert}
pub use Rattle.rga_doc.specs.Document.{Document}
pub use Rattle.rga_doc.specs.UndoGroup.{deleted_elements, element_characters, inserted_elements}
pub use Rattle.rga_doc.specs.Revert.{StandsDirectlyBehind, are_restorable, distinct_elements, restorations, revert_answer, revert_operations}
pub use Rattle.rga_doc.specs.LocalEdit.{edit_answer, splices_answer, splices_operations}
pub use Rattle.rga_ops.proofs.MemberLaws.{all_append, all_map}
pub use Rattle.mg_buffer.specs.Groups.{Past, all_substituted, are_revertible, last_group, past_at, past_of, point_after, stand_in, substituted, with_group}
pub use Rattle.mg_buffer.specs.Restored.{AreApart, AreFirst, AreNewerThan, AreRising, IsFirst, IsShortened, PastList, Restored, Restores, deleted_ones, greatest_counter, latest, newest_restored, old_ones, restored_by}
pub use Rattle.mg_buffer.specs.State.{State}
pub use Rattle.mg_buffer.specs.Kept.{IsAtHand, IsKeptBuffer, IsLineOfPlace, stands}
pub use Rattle.mg_buffer.specs.Sight.{CommandCall, Notes, command_call, effect_of_call, place_of, situation_of}
pub use Rattle.mg_plain.specs.Effect.{Effect}
pub use Rattle.mg_plain.specs.declared.outcome.Notice.{Notice}
pub use Rattle.mg_buffer.specs.Faults.{fault_of, growth_answer, run_answer, stored}
pub use Rattle.mg_buffer.specs.declared.marker.Marker.{Marker}
pub use Rattle.mg_buffer.specs.declared.line_numbers.KnownLine.{KnownLine}
pub use Rattle.mg_buffer.specs.LineNumbers.{least_begin, line_of}
pub use Rattle.mg_buffer.specs.Following.{TakesOperations, takes_no_operations}
