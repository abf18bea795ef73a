use Rattle.std.proofs.Common.{◌≡◌, List, ℕ, ◌++◌, ◌∙◌, length, slice_index, refl, sym, ap, subst, true≢false, arith}
use Rattle.std.specs.Result.{is_ok}
use Rattle.rga_ops.specs.declared.op.Op.{Op}
use Rattle.rga_ops.specs.Content.{content_of}
use Rattle.rga_ops.specs.Operations.{operations}
use Rattle.rga_exchange.specs.Counting.{WritesAllBut}
use Rattle.rga_lines.specs.Stream.{bytes_of_lines}
use Rattle.rga_exchange.proofs.WrittenLemmas.{begun_start}
use Rattle.rga_exchange.proofs.BegunLemmas.{begun_part}
use Rattle.rga_exchange.specs.Turns.{lines_from}
use Rattle.rga_exchange.specs.Compacting.{compact_lines, compact_text}
use Rattle.rga_exchange.proofs.TurnLaws.{all_in_turn, one_at_most, Leaves, begun_turn, begun_last, fewer_left, none_left, operation_well_formed}
use Rattle.rga_exchange.proofs.compacting.push_compacted.Goals as goal

pub loop-index-init : goal.loop-index-init
loop-index-init g c =
    let ends = slice_index c.in_ok-ends.ends in
    let deleted = slice_index c.in_ok-deleted.deleted in
    let content = content_of c.args.ops.now in
    let turns : lines_from content c.most_of-most.result ends deleted c.args.ops.now ≡ compact_lines c.args.dels content =
    ap (λ (ops : List Op). lines_from content c.most_of-most.result ends deleted ops) c.requires.all
    ∙ ap (λ (most : ℕ). lines_from content most ends deleted (operations content)) c.most_of-most.ensures.most
    ∙ all_in_turn content c.args.dels ends deleted c.in_ok-ends.ensures c.in_ok-deleted.ensures in
    record {
      begun = subst (λ (ls : List (List ℕ)). WritesAllBut g.W.Write.contents c.args.writer.now c.args.writer.now (c.args.block.now ++ compact_text c.args.dels content) (c.args.block.now ++ bytes_of_lines ls)) (sym turns)
          (begun_start g.W.Write.contents c.args.writer.now (c.args.block.now ++ compact_text c.args.dels content));
      number = omega (arith, ap length turns);
      few = omega arith;
      unfailed = refl;
    }

pub push_operation-requires-clause-checked : goal.push_operation-requires-clause-checked
push_operation-requires-clause-checked g c = operation_well_formed (content_of c.args.ops.now) c.args.ops.now c.loop-index.index c.index-ops-index.result c.requires.sound c.requires.all c.loop-index-test.true c.index-ops-index.is

pub loop-index-preserved : goal.loop-index-preserved
loop-index-preserved g c =
    let content = content_of c.args.ops.now in
    let ends = slice_index c.loop-index.ends in
    let deleted = slice_index c.loop-index.deleted in
    let most = c.most_of-most.result in
    let op = c.index-ops-index.result in
    let one = one_at_most content most ends deleted op in
    let leaves : Leaves content most ends (slice_index c.push_operation.new.ends) deleted (slice_index c.push_operation.new.deleted) op =
    record { next_is = c.in_ok-lines.ensures.ends; later_is = c.in_ok-lines.ensures.deleted } in
    record {
      begun = begun_turn _ _ _ _ _ _ _ content most ends (slice_index c.push_operation.new.ends) deleted (slice_index c.push_operation.new.deleted) c.args.ops.now c.loop-index.index op c.loop-index-test.true c.index-ops-index.is leaves c.loop-index.invariant.begun c.in_ok-lines.ensures.ok;
      number = fewer_left content most ends (slice_index c.push_operation.new.ends) deleted (slice_index c.push_operation.new.deleted) c.args.ops.now c.loop-index.index op c.loop-index.lines c.in_ok-lines.field-0 _ c.loop-index-test.true c.index-ops-index.is leaves c.in_ok-lines.ensures.number c.loop-index.invariant.number;
      few = omega (arith, one, c.in_ok-lines.ensures.number, c.loop-index.invariant.few);
      unfailed = c.in_ok-lines.ensures.device.unfailed (λ e. true≢false (ap is_ok e)) ∙ c.loop-index.invariant.unfailed;
    }

pub returns-in_err-lines-clause-begun : goal.returns-in_err-lines-clause-begun
returns-in_err-lines-clause-begun g c = begun_part _ _ _ _ _ _ _ c.loop-index.invariant.begun c.in_err-lines.ensures.begun

pub returns-clause-ok : goal.returns-clause-ok
returns-clause-ok g c =
    begun_last _ _ _ _ _ (content_of c.args.ops.now) c.most_of-most.result (slice_index c.loop-index.ends) (slice_index c.loop-index.deleted) c.args.ops.now c.loop-index.index (omega arith) c.loop-index.invariant.begun

pub returns-clause-number : goal.returns-clause-number
returns-clause-number g c =
    none_left (content_of c.args.ops.now) c.most_of-most.result (slice_index c.loop-index.ends) (slice_index c.loop-index.deleted) c.args.ops.now c.loop-index.index c.loop-index.lines _ (omega arith) c.loop-index.invariant.number
