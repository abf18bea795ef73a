use Rattle.std.proofs.Common.{◌≡◌, ◌<◌, ◌≤◌, length, set, ap, ◌∙◌, arith, rules}
use Rattle.std.proofs.lemmas.List.{length-set}
use Rattle.mg_workspace.specs.Buffers.{buffer_at}
use Rattle.mg_editor.proofs.SweepLaws.{after_turn, at_the_end, begun, buffers_then, rest_then}
use Rattle.mg_editor.proofs.live_saving.sweep.Goals as goal

pub loop-index-init : goal.loop-index-init
loop-index-init g c = record {
  underway = begun _ _ _;
  count = search rules;
  rest = search rules;
  links = search rules;
}

pub loop-index-preserved : goal.loop-index-preserved
loop-index-preserved g c =
    let now = c.loop-index.work in
    let new = c.take_turn-last.new.work in
    let i = c.loop-index.index in
    let d = buffer_at i new.buffers in
    let step = c.take_turn-last.ensures.rest in
    let is : new.buffers.all ≡ set now.buffers.all i d = buffers_then i now new d step in
    let lt : i < length now.buffers.all = omega arith in
    record {
      underway = after_turn _ i _ now.buffers.all new.buffers.all d _ _ _ lt is c.take_turn-last.ensures.turn c.loop-index.invariant.underway;
      count = ap length is ∙ length-set now.buffers.all i d ∙ c.loop-index.invariant.count;
      rest = rest_then i c.args.work.now now new d c.loop-index.invariant.rest step;
      links = c.take_turn-last.ensures.links ∙ c.loop-index.invariant.links;
    }

pub returns-clause-swept : goal.returns-clause-swept
returns-clause-swept g c =
    let le : length c.loop-index.work.buffers.all ≤ c.loop-index.index = omega arith in
    at_the_end _ c.loop-index.index _ c.loop-index.work.buffers.all _ _ le c.loop-index.invariant.underway
