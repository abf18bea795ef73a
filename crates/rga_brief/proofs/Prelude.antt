-- What most proofs of this crate cite.
pub use Rattle.std.proofs.Common.{Bool, List, T, [], ap, append-nil, append_assoc, arith, codes, cond, decimal, drop, eq-eqb, eqb-true, false, filter, inl, inr, length, lit<, lit≤, map, nat_lt, not, refl, subst, sym, take, true, true≢false, ℕ, ◌%◌, ◌&&◌, ◌*◌, ◌++◌, ◌+◌, ◌/◌, ◌<◌, ◌==◌, ◌^◌, ◌∙◌, ◌∷◌, ◌≡◌, ◌≢◌, ◌≤◌}
pub use Rattle.std.proofs.lemmas.Bool.{and_parts, le-ltb, lt-ltb, ltb-false, ltb-true, ne_eqb, or_cases, or_left, or_right}
pub use Rattle.std.proofs.lemmas.List.{length-append, length-take}
pub use Rattle.std.proofs.lemmas.List.Elements.{All-cons, All-nil, filter-append}
pub use Rattle.std.proofs.lemmas.List.Sums.{AllPass-from_list_all, fold-append}
pub use Rattle.std.proofs.lemmas.Str.{IsUtf8-append, IsUtf8-from_is_utf8, is_utf8-from_IsUtf8}
pub use Rattle.std.specs.List.{All, AllByRecursion, list_all}
pub use Rattle.std.specs.Option.{option_eq, option_map_or, option_or, unwrap_or}
pub use Rattle.std.specs.Prelude.{Contains, Err, IfOk, None, Ok, OnOk, Option, Result, Some, Vec, option_and_then, ◌↔◌}
pub use Rattle.std.specs.Str.{IsUtf8, is_utf8}
pub use Rattle.rga_exchange.proofs.AppendedLaws.{cut_again, exchange_lines-cut, exchange_rest, exchange_says, later_well_formed, later_writable, lines_and_end, sound_list}
pub use Rattle.rga_exchange.specs.Counting.{Calls, OnBytes, Writes, WritesFront}
pub use Rattle.rga_exchange.specs.Receiving.{exchange_outcome, number_received}
pub use Rattle.rga_exchange.specs.Sending.{AreWritable, exchange_text, stream_text}
pub use Rattle.rga_exchange.specs.declared.fault.ReceiveFault.{ReceiveFault}
pub use Rattle.rga_lines.proofs.ReadBack.{IsUtf8-decimal, end_back, head_back, line_back, read_tokens}
pub use Rattle.rga_lines.proofs.SplitterLemmas.{GivesLine, fed_holds, gives_up, passes_line, rest_is_all}
pub use Rattle.rga_lines.specs.Stream.{BeginsLong, HasNoNewline, Splitting, bytes_of_lines, lines_of, rest_of, splitting_with}
pub use Rattle.rga_lines.specs.declared.fault.LineFault.{LineFault}
pub use Rattle.rga_lines.specs.declared.line.TheConstants.{MAX_LINE}
pub use Rattle.rga_ops.proofs.ContentLaws.{contains-join, get-join, join_assoc, join_swap, within_itself, within_join}
pub use Rattle.rga_ops.proofs.OperationLaws.{Contains-cases, Contains-first, Contains-later, content_deleted, content_inserted, inserted-iff}
pub use Rattle.rga_ops.specs.Answer.{after_answer, taken}
pub use Rattle.rga_ops.specs.Content.{Agree, Content, Element, Holds, IsAgreed, IsSound, IsWithin, content_of, join, known_count, single}
pub use Rattle.rga_ops.specs.ListAnswer.{AreWellFormed, IsJoinable}
pub use Rattle.rga_ops.specs.Operation.{checked, id_of}
pub use Rattle.rga_ops.specs.Operations.{deletions, insertions, operations}
pub use Rattle.rga_ops.specs.declared.op.Op.{Op}
pub use Rattle.rga_ops.specs.declared.refusal.Refusal.{Refusal}
pub use Rattle.serde_json.specs.Data.{Data, depth}
pub use Rattle.serde_json.specs.Read.{max_depth, of_json, read}
pub use Rattle.serde_json.specs.Written.{compact_text, has_float, outline}
pub use Rattle.rga_brief.specs.Claims.{IsDigest, IsInRange, claim_data, claim_in, claim_line, claim_of, claim_with, digest_data, digest_of, pair_data, pair_text, part_text, with_digests}
pub use Rattle.rga_brief.specs.Digest.{block_cmp, block_of, deleted, deleted_in, deletes_in, digest, digests_of, inserted, inserted_in, inserts_in, is_block, mixed_operation, own_digests, with_operation}
pub use Rattle.rga_brief.specs.Heard.{HasHeard}
pub use Rattle.rga_brief.specs.Hearing.{digests_told, hears_on}
pub use Rattle.rga_brief.specs.Lacking.{Lacking, Lacks, lacks_between, lacks_on}
pub use Rattle.rga_brief.specs.Lines.{claim_line_at, claim_or_end, claim_said, end_said}
pub use Rattle.rga_brief.specs.Summaries.{claims_of, entry_claim, last_claimed, put_claims, summary_from}
pub use Rattle.rga_brief.specs.Summary.{DigestsTellApart, IsSummary, Summary, digests_at, lacks, lacks_by, missing}
pub use Rattle.rga_brief.specs.Taking.{Outcome, go_on, taken_in_turn}
pub use Rattle.rga_brief.specs.Told.{IsHeardAs, IsTold, SayClaims, StopsAs, TellsSummary, after_claim_line, bytes_heard, claim_lines, ended, lines_heard, summary_heard, summary_text, unended}
pub use Rattle.rga_brief.specs.declared.block.Block.{Block}
pub use Rattle.rga_brief.specs.declared.claim.Claim.{Claim}
pub use Rattle.rga_brief.specs.declared.claim_line.ClaimLine.{ClaimLine}
pub use Rattle.rga_brief.specs.declared.claim_line.ClaimLine.TheVariants.{Last, One}
pub use Rattle.rga_brief.specs.declared.digests.Digests.{Digests}
