use Rattle.std.proofs.Common.{List, ap, arith, sym, ◌++◌, ◌∙◌}
use Rattle.rga_ops.specs.Splice.{Splice}
use Rattle.mg_plain.specs.Cases.{recased_char}
use Rattle.mg_plain.proofs.CaseLaws.{other_case, recased_on, same_case}
use Rattle.mg_plain.proofs.cases.character_splices.Goals as goal

pub loop-i-preserved : goal.loop-i-preserved
loop-i-preserved c = record {
  all = ap (λ (ys : List Splice). c.loop-i.splices.items ++ ys) (sym (same_case (recased_char c.args.casing c.args.first) c.args.text.now c.args.lo c.loop-i.i c.char_at-c.result c.recased-new.result c.loop-i-test.true c.char_at-c.ensures c.recased-new.ensures c.if-new-c.false)) ∙ c.loop-i.invariant.all;
  from = omega arith;
  within = omega arith;
}

pub loop-i-preserved-in-Continue-branch-2 : goal.loop-i-preserved-in-Continue-branch-2
loop-i-preserved-in-Continue-branch-2 c = record {
  all = recased_on c.loop-i.splices.items c.push.new.self.items c.in_ok-one.one _ _ _ _ c.in_ok-push.ensures.items c.in_ok-one.ensures
      (other_case (recased_char c.args.casing c.args.first) c.args.text.now c.args.lo c.loop-i.i c.char_at-c.result c.recased-new.result c.loop-i-test.true c.char_at-c.ensures c.recased-new.ensures c.if-new-c.true)
      c.loop-i.invariant.all;
  from = omega arith;
  within = omega arith;
}
