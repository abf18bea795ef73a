-- What most proofs of this crate cite.
pub use Rattle.std.proofs.Common.{Bool, Err, List, None, Ok, OnOk, Option, Result, Some, [], ap, append-nil, append_assoc, ap₂, arith, codes, cond, decimal, drop, eqb, false, get_or, if◌then◌else◌, inl, inr, is_ok, le-ltb, leb, length, length-append}
pub use Rattle.std.proofs.Common.{lit≤, lt-ltb, ltb, nat_eq, nat_le, nat_lt, ne_eqb, not, option_and_then, option_map, position, refl, rules, string_bytes, subst, suc, sym, take, true, zero, ℕ, ◌%◌, ◌&&◌, ◌*◌, ◌++◌, ◌+◌, ◌-◌, ◌/◌, ◌<◌, ◌==◌, ◌^◌}
pub use Rattle.std.proofs.Common.{◌||◌, ◌∙◌, ◌∷◌, ◌≡◌, ◌≢◌, ◌≤◌, ◌⊎◌}
pub use Rattle.std.proofs.lemmas.Bool.{and_left, and_parts, cases_eq, cases_lt, eqb-false, eqb-true, false_from_ne_true, false≢true, leb-false, leb-true, lt-leb, ltb-false, ltb-true, not-true, or_cases, true≢false}
pub use Rattle.std.proofs.lemmas.Fmt.{IsAscii-decimal, decimal_by_steps, decimal_digit, decimal_step, length-decimal-le}
pub use Rattle.std.proofs.lemmas.List.{drop_at, get_or-drop, get_or-take, length-drop, length-take, length-take-le, length_push, nil_from_length, take-append-drop, take-take, take_all, take_rest}
pub use Rattle.std.proofs.lemmas.List.Elements.{All-cons, All-from_get_or, All-from_recursion, All-head, All-nil, All-tail}
pub use Rattle.std.proofs.lemmas.Str.{IsUtf8-append, IsUtf8-encode, IsUtf8-from_ascii, IsUtf8-from_is_utf8, IsUtf8-past_char, chars-encodes, chars-nil, chars_from_encodes, chars_past_char, encode_ascii, encodes-chars, is_utf8-from_IsUtf8}
pub use Rattle.std.proofs.lemmas.Str.{len_utf8_bounds, length-encode, scalars-chars}
pub use Rattle.std.specs.Char.{IsScalar, digit_char, encode_utf8}
pub use Rattle.std.specs.List.{AllByRecursion, flat_map, position_or_len}
pub use Rattle.std.specs.Prelude.{All, IfSome, is_some, ok_or, unwrap_or, ⊤}
pub use Rattle.std.specs.Str.{IsUtf8, bytes_eq, chars, encode_utf8_all, is_utf8}
pub use Rattle.itoa.proofs.Decimal.{PAIRS_at, decimal_pair, length_four, length_one, length_pair, length_two, pair}
pub use Rattle.json.proofs.Printed.Decimals.{IsNumber-decimal}
pub use Rattle.json.proofs.Printed.Utf8.{IsUtf8-are_ascii, IsUtf8-quoted}
pub use Rattle.json.specs.Print.{escape, escape_byte, quoted}
pub use Rattle.rga_ops.specs.Identifier.{Identifier, identifier, is_in_range, is_root}
pub use Rattle.rga_ops.specs.Operation.{checked}
pub use Rattle.rga_ops.specs.declared.id.TheConstants.Id.{MAX_COUNTER}
pub use Rattle.rga_ops.specs.declared.op.Op.{Op}
pub use Rattle.rga_ops.specs.declared.op.Op.TheVariants.{Delete, Insert}
pub use Rattle.serde_json.specs.Data.{Data, array, item, member, no_items, no_members, object, unsigned}
pub use Rattle.serde_json.specs.Events.{members_len}
pub use Rattle.serde_json.specs.Find.{as_array, as_object, as_str, get_member}
pub use Rattle.serde_json.specs.Read.{max_depth, of_items, of_json, read}
pub use Rattle.serde_json.specs.Written.{compact_text, outline}
pub use Rattle.rga_lines.specs.Faults.{Demand, LineKind, counter_in, deletion_count, deletion_line, deletions_line, demand, element, element_or_root, first_fault, has_length, has_type, insertion_line, is_identifier, is_operation, is_run_length}
pub use Rattle.rga_lines.specs.Faults.{is_single, kind_among, kind_demands, kind_of, kinds, length_in, line_demands, number_in, one_character, operation_count, operation_demands, read_demands, run_text, value_demands, version}
pub use Rattle.rga_lines.specs.Runs.{IsDeletionRun, IsRun, Stretch, deletion_run, deletions_from, longest_run, next, run_deletions, run_operations, stretch, stretch_operations}
pub use Rattle.rga_lines.specs.Spelling.{BeginsWithCharacter, BeginsWithIdentifier, IsElement, IsElementOrRoot, IsWritable, IsWritableRun, ReadsInsertions, code_escape, deletion_run_line, escaped, line, pair_text, run_from}
pub use Rattle.rga_lines.specs.Stream.{Answer, BeginsLong, EndsNextLine, Feed, HasNoNewline, IsCut, Next, Splitting, StreamCall, after_calls, bytes_fed, bytes_of_lines, fed, gave_up, line_in, lines_given, lines_of, newline, next_of, next_of_lines}
pub use Rattle.rga_lines.specs.Stream.{rest_of, splitting_with, to_first_line, to_rest}
pub use Rattle.rga_lines.specs.Table.{AnyReading, Reading, any_line_at, element_of, if_in_range, if_root_or_in_range, line_at, longest_line, only_char, operation_alone, parent_of, text_line, two_numbers, value_line}
pub use Rattle.rga_lines.specs.declared.deletion_run.DeletionRun.{DeletionRun}
pub use Rattle.rga_lines.specs.declared.fault.LineFault.{LineFault}
pub use Rattle.rga_lines.specs.declared.line.Line.TheVariants.{Deletions, Head, Last, One, Run}
pub use Rattle.rga_lines.specs.declared.line.TheConstants.{MAX_LINE}
