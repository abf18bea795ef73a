use Rattle.std.proofs.Common.{◌≡◌, true, rules}
use Rattle.mg_session.specs.Moments.{seen}
use Rattle.mg_live.proofs.ToldLaws.{told_after_block}
use Rattle.mg_live.proofs.taking.take_block.Goals as goal

pub returns-then-any-clause-taken : goal.returns-then-any-clause-taken
returns-then-any-clause-taken g c =
    let is : c.take_bytes-course.result.1 ≡ true = search rules in
    record {
      some = c.take_bytes-course.result.1;
      taken = _;
      takes = c.take_bytes-course.ensures.taken (seen g.W.Write.contents c.args.screen.now);
      ends = rw is c.end_block.ensures;
    }

pub returns-then-any-clause-told : goal.returns-then-any-clause-told
returns-then-any-clause-told g c = λ on. told_after_block _ _ c.end_block.ensures c.take_bytes-course.ensures.told on
