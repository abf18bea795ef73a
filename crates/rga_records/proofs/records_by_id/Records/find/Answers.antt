use Rattle.std.proofs.Common.{◌<◌, sym, ap, ◌∙◌, subst}
use Rattle.std.specs.FinMap as finite_map
use Rattle.std.specs.FinSet as finite_set
use Rattle.rga_ops.specs.Content.{known_ids, clock_of}
use Rattle.rga_store.specs.Kept.{Kept}
use Rattle.rga_records.specs.Records.{content_of_records}
use Rattle.rga_records.proofs.NewerLaws.{newer_absent, newer_unmarked}
use Rattle.rga_records.proofs.records_by_id.Records.find.Goals as goal

newer : (c : goal.Then-counter-self) → clock_of (content_of_records c.self.inside.entries) < c.args.id.counter
newer c = subst (λ n. n < c.args.id.counter) c.self.invariant.counted.clocked (subst (λ n. c.self.inside.clock < n) c.counter.ensures.value c.if-counter-self.true)

pub returns-then-counter-self-clause-facts : goal.returns-then-counter-self-clause-facts
returns-then-counter-self-clause-facts c = λ k. record {
  found = (sym (newer_absent (content_of_records c.self.inside.entries) c.args.id (newer c))
      ∙ ap (λ (v : Kept). finite_map.get v.content.inserted c.args.id) c.self.view_is) k;
  deleted = (sym (newer_unmarked (content_of_records c.self.inside.entries) c.args.id (newer c))
      ∙ ap (λ (v : Kept). finite_set.contains v.content.deleted c.args.id) c.self.view_is) k;
  known = (c.self.invariant.counted.known ∙ ap (λ (v : Kept). finite_set.len (known_ids v.content)) c.self.view_is) k;
  limit = ap (λ (v : Kept). v.limit) c.self.view_is k;
}
