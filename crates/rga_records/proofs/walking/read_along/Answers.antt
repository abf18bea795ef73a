use Rattle.std.proofs.Common.{◌+◌, sym, subst, arith}
use Rattle.std.specs.Prelude.{string_bytes}
use Rattle.rga_records.proofs.WalkLaws.{IsLeft, codes_length, read_all, read_end, read_more}
use Rattle.rga_records.proofs.walking.read_along.Goals as goal

pub returns-then-node-eq0 : goal.returns-then-node-eq0
returns-then-node-eq0 c = record {
  ok = λ chain kept are h few.
      read_all c.args.next.now kept chain c.loop.node c.loop.index (string_bytes c.loop.string) (c.loop.invariant chain kept are h few) c.if-node-eq0.true;
}

pub loop-preserved : goal.loop-preserved
loop-preserved c = λ chain kept are h few.
    subst (λ n. IsLeft c.args.next.now kept chain n (c.loop.index + 1) (string_bytes c.push_shown.new.string)) (sym c.link_at-node-in-loop.ensures)
    (read_more c.args.next.now kept chain c.loop.node c.loop.index (string_bytes c.loop.string) (string_bytes c.push_shown.new.string) (c.loop.invariant chain kept are h few) c.if-node-eq0.false (c.in_ok-push_shown.ensures.ok kept are))

pub returns : goal.returns
returns c = record {
  ok = λ chain kept are h few.
      read_end c.args.next.now kept chain c.loop.node c.loop.index (string_bytes c.loop.string) (c.loop.invariant chain kept are h few)
      (omega (arith, c.loop-test.false, codes_length c.args.shown.now kept are));
}
