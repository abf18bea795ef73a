-- What most proofs of this crate cite.
pub use Rattle.std.proofs.Common.{Bool, List, T, [], add-one, ap, arith, cond, drop, false, filter, get_or, inl, inr, is_some, length, length-append, map, not, position, refl, rules, slice_index_or, subst, suc, sym, take, take_all, true, true≢false, zero, ℕ, ◌&&◌, ◌++◌, ◌+◌, ◌-◌, ◌<◌, ◌||◌, ◌∙◌, ◌∷◌, ◌≡◌, ◌≤◌}
pub use Rattle.std.proofs.Math.Bool.{and-false, or-false, or-true}
pub use Rattle.std.proofs.lemmas.Bool.{not-false, not-true}
pub use Rattle.std.proofs.lemmas.List.{append-nil, drop-append-le, length-map, take-append-drop, take-append-le, take_more}
pub use Rattle.std.proofs.lemmas.Option.{none-some, same_Some}
pub use Rattle.std.specs.BTreeMap.{get}
pub use Rattle.std.specs.BTreeSet.{btree_set_len, contains}
pub use Rattle.std.specs.List.{AllByRecursion, IsDistinct, list_any, slice_get, take_while}
pub use Rattle.std.specs.Map.{lookup}
pub use Rattle.std.specs.Option.{option_map, option_map_or, option_or}
pub use Rattle.std.specs.Prelude.{Err, IfSome, None, Ok, OnOk, Option, Some, SomeIff, max, ◌≢◌, ◌⊎◌}
pub use Rattle.rga_ops.proofs.AnswerLaws.{Answer, IsNew, IsNewDeletion, IsNewInsertion, bad, contains-known, err, is_element-is, known-iff, new-iff, new_deletion, new_insertion, ok, passed}
pub use Rattle.rga_ops.proofs.CaseSteps.{on_err_always, on_ok_map}
pub use Rattle.rga_ops.proofs.ClockLaws.{clock_deletion, clock_insertion, clock_within, falls_to}
pub use Rattle.rga_ops.proofs.ContentLaws.{contains-join, get-join, join_nothing, or_none, same_content, within_join}
pub use Rattle.rga_ops.proofs.EarlyLaws.{early_is_first, first_none, no_early_behind_new, no_early_if_none}
pub use Rattle.rga_ops.proofs.IdentifierLaws.{ids_exact, ids_total, is, is_id-is, is_id-same, is_itself, is_swap, same_id}
pub use Rattle.rga_ops.proofs.KnownLaws.{known_nothing, known_taken, len-le_union}
pub use Rattle.rga_ops.proofs.ListAnswerLaws.{first_conflict-iff, first_conflict_found, list_one_by_one}
pub use Rattle.rga_ops.proofs.ListSteps.{checked_without_memory, free_more, from, get-deletion, get-insertion, join_more, known_more}
pub use Rattle.rga_ops.proofs.OperationLaws.{contains-single, get-single}
pub use Rattle.rga_ops.proofs.OperationsLaws.{any-rising, content_of-operations}
pub use Rattle.rga_ops.proofs.TakenLaws.{held_adds_nothing, held_stays, one_by_one-append, taken_is}
pub use Rattle.rga_ops.specs.Answer.{after_answer, and_take, answer, is_element, taken, taken_one_by_one}
pub use Rattle.rga_ops.specs.Content.{Content, Element, Holds, IsSound, IsWithin, clock_of, content_of, element, element_at, join, known_ids, nothing, single}
pub use Rattle.rga_ops.specs.Identifier.{Identifier, id_cmp, is_id, root}
pub use Rattle.rga_ops.specs.ListAnswer.{Verdict, all_checked, and_check, early_conflict, first_conflict, has_another, inserts_anew, least_conflict, merge_answer, union_answer}
pub use Rattle.rga_ops.specs.NewOperations.{holds, new_operations}
pub use Rattle.rga_ops.specs.Operation.{checked, id_of}
pub use Rattle.rga_ops.specs.Operations.{alone, operations, rising}
pub use Rattle.rga_ops.specs.declared.op.Op.{Op}
pub use Rattle.rga_ops.specs.declared.op.Op.TheVariants.{Delete, Insert}
pub use Rattle.rga_ops.specs.Memory.{Memory}
pub use Rattle.rga_ops.specs.declared.refusal.Taken.TheVariants.{Known, New}
pub use Rattle.rga_store.specs.Counted.{IsCounted}
pub use Rattle.rga_store.specs.Reached.{Reaches}
pub use Rattle.rga_store.specs.Without.{without_deletion, without_insertion, without_operation}
