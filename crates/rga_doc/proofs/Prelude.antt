-- What most proofs of this crate cite.
pub use Rattle.std.proofs.Common.{Bool, List, Ok, Some, [], ap, append-nil, append_assoc, arith, cond, drop, drop-drop, drop_at, false, filter, get_or, inl, inr, is_some, leb-true, length, length-append, length-drop, length-take-le, lt-ltb}
pub use Rattle.std.proofs.Common.{ltb-false, map, max, min, nat_le, nat_lt, not, refl, replicate, rules, subst, suc, sym, take, take-append-drop, take-take, take_all, take_at, true, true≢false, vec_capacity, vec_len, zero, ℕ, ◌&&◌, ◌++◌, ◌+◌, ◌-◌}
pub use Rattle.std.proofs.Common.{◌<◌, ◌||◌, ◌∙◌, ◌∷◌, ◌≡◌, ◌≤◌}
pub use Rattle.std.proofs.Math.Bool.{and-false, and-true, or-false}
pub use Rattle.std.proofs.lemmas.Bool.{and_parts, false_from_ne_true, not-false, not-true, or_cases, or_left, or_parts, or_right}
pub use Rattle.std.proofs.lemmas.Bool.Decides.{nat_tests}
pub use Rattle.std.proofs.lemmas.List.{at_drop_more, drop-append-le, drop-map, drop-take, drop_all, drop_more, length-replicate, map-append, nil_from_length, take-append-le, take-map, take_more}
pub use Rattle.std.proofs.lemmas.Option.{none-some, same_Some, slice_get-get_or, slice_get_within}
pub use Rattle.std.proofs.lemmas.Result.{IfOk-weaker, on_ok_weaker}
pub use Rattle.std.specs.List.{AllByRecursion, cons_option, copy_within, filter_map, list_all, list_any, slice_get}
pub use Rattle.std.specs.Option.{option_map, option_map_or, option_or, unwrap_or}
pub use Rattle.std.specs.Prelude.{Err, IfSome, None, Option, Result, ◌⊎◌}
pub use Rattle.indexmap.specs.IndexSet.{contains}
pub use Rattle.rga_ops.proofs.AnswerLaws.{bad, contains-known, passed}
pub use Rattle.rga_ops.proofs.ContentLaws.{contains-join, get-join, join_assoc, join_nothing, or_none, within_join}
pub use Rattle.rga_ops.proofs.DeletionLaws.{clock-deletion_complete, order-deletion, text-deletion_at, visible-deletion_at}
pub use Rattle.rga_ops.proofs.IdentifierLaws.{ids_total, is, is_id-is, is_id-itself, is_id-same, is_itself, is_swap, same_id}
pub use Rattle.rga_ops.proofs.InsertionLaws.{is_complete-insertion, is_root_or_complete, not_complete_before}
pub use Rattle.rga_ops.proofs.ListSteps.{from}
pub use Rattle.rga_ops.proofs.MemberLaws.{all_append, all_filter, all_map, all_members, distinct_filter, filter_alike, of_member}
pub use Rattle.rga_ops.proofs.NewestLaws.{newest_absent, newest_element, newest_kept, newest_leaf, order-newest}
pub use Rattle.rga_ops.proofs.OperationLaws.{contains-single, content_of-append, get-single}
pub use Rattle.rga_ops.proofs.OrderLaws.{order_distinct, order_list}
pub use Rattle.rga_ops.proofs.PathLaws.{inserted_if_complete, is_complete-iff, not_complete_root, root_path-absent}
pub use Rattle.rga_ops.proofs.VisibleLaws.{characters_within, filtered, is_kept, no_place, order_complete, own_index, place_at, text_is, text_long, visible_distinct, visible_elements, visible_is}
pub use Rattle.rga_ops.specs.Content.{Content, Element, clock_of, content_of, element, element_at, join, known_ids, single}
pub use Rattle.rga_ops.specs.Identifier.{Identifier, id_cmp, identifier, is_id, is_in_range, is_root, root}
pub use Rattle.rga_ops.specs.ListAnswer.{Verdict, all_checked, and_check, first_conflict, list_answer, union_answer}
pub use Rattle.rga_ops.specs.Operation.{checked, id_of}
pub use Rattle.rga_ops.specs.Order.{order, shown, text, waiting}
pub use Rattle.rga_ops.specs.Placement.{change_after, put_behind, without}
pub use Rattle.rga_ops.specs.Places.{character, is_visible, place, up_to, visible}
pub use Rattle.rga_ops.specs.RootPath.{is_complete, root_path}
pub use Rattle.rga_ops.specs.Splice.{Splice, are_falling, end_of, new_characters, spliced, text_after}
pub use Rattle.rga_ops.specs.declared.id.TheConstants.Id.{MAX_COUNTER}
pub use Rattle.rga_ops.specs.declared.op.Op.{Op}
pub use Rattle.rga_ops.specs.declared.op.Op.TheVariants.{Delete, Insert}
pub use Rattle.rga_ops.specs.declared.refusal.Refusal.TheVariants.{BadId, BadOrder, Clock, Conflict, Full, Range}
pub use Rattle.rga_ops.specs.Memory.{Memory}
pub use Rattle.rga_doc.specs.Document.{Document}
pub use Rattle.rga_doc.specs.Excerpt.{Excerpted, begin_of, excerpt}
pub use Rattle.rga_doc.specs.LocalEdit.{chain, counter_answer, draft_operations, edit_answer, element_behind, elements_after, left_of, new_ids, order_after, place_answer, put_row_behind, room_answer, splice_answer, splice_operations}
pub use Rattle.rga_doc.specs.LocalEdit.{splice_operations_at, splices_answer, splices_operations}
pub use Rattle.rga_doc.specs.Relisting.{AgreeOutside, AllBetween, DeletesAt, IsTextBefore, StandsBetween, WillAgreeOutside}
pub use Rattle.rga_doc.specs.Revert.{StandsDirectlyBehind, are_restorable, distinct_elements, put_back, restorations, revert_answer, revert_operations}
pub use Rattle.rga_doc.specs.UndoGroup.{deleted_elements, element_characters, inserted_elements}
