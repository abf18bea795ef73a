use Rattle.std.proofs.Common.{◌≡◌, ◌≤◌, ◌+◌, true, length, ap, ◌∙◌, sym, subst, arith}
use Rattle.std.specs.Prelude.{Ok}
use Rattle.rga_ops.specs.Content.{known_count}
use Rattle.rga_store.specs.Kept.{Kept}
use Rattle.rga_store.specs.Counted.{IsCounted}
use Rattle.rga_store.proofs.CountedLaws.{few_inserted}
use Rattle.rga_records.specs.Chains.{grown, latest_of, AreNewer}
use Rattle.rga_records.specs.Records.{content_of_records}
use Rattle.rga_records.proofs.NewerLaws.{counted_chain}
use Rattle.rga_records.proofs.records_by_id.Records.insert_chain.Goals as goal

pub overflow_add-self : goal.overflow_add-self
overflow_add-self c =
    let few : c.self.inside.inserted + length c.args.chain.now ≤ 1000000 =
    few_inserted (grown (content_of_records c.self.inside.entries) c.args.parent c.args.chain.now) (latest_of c.self.inside.clock c.args.chain.now)
    (c.self.inside.inserted + length c.args.chain.now) (c.self.inside.known + length c.args.chain.now) c.self.inside.limit
    (counted_chain (content_of_records c.self.inside.entries) c.self.inside.clock c.self.inside.inserted c.self.inside.known c.self.inside.limit c.args.parent c.args.chain.now c.self.invariant.counted
    (subst (λ (v : Kept). AreNewer v.content c.args.parent c.args.chain.now) (sym c.self.view_is) c.requires.newer)
    (subst (λ n. n + length c.args.chain.now ≤ c.self.inside.limit) (sym c.self.invariant.counted.known)
    (subst (λ (v : Kept). known_count v.content + length c.args.chain.now ≤ v.limit) (sym c.self.view_is) c.requires.room))) in
    omega arith

pub invariant_of-self-2 : goal.invariant_of-self-2
invariant_of-self-2 c =
    let taken : c.append_chain.result ≡ Ok true = c.in_ok-append_chain.was ∙ ap Ok c.if-not-branch.false in
    record {
      ordered = c.append_chain.ensures.ordered;
      counted =
          subst (λ d. IsCounted d c.latest-self-inside.result (c.self.inside.inserted + length c.args.chain.now) (c.self.inside.known + length c.args.chain.now) c.self.inside.limit) (sym (c.append_chain.ensures.content taken))
          (subst (λ n. IsCounted (grown (content_of_records c.self.inside.entries) c.args.parent c.args.chain.now) n (c.self.inside.inserted + length c.args.chain.now) (c.self.inside.known + length c.args.chain.now) c.self.inside.limit) (sym c.latest-self-inside.ensures)
          (counted_chain (content_of_records c.self.inside.entries) c.self.inside.clock c.self.inside.inserted c.self.inside.known c.self.inside.limit c.args.parent c.args.chain.now c.self.invariant.counted
          (subst (λ (v : Kept). AreNewer v.content c.args.parent c.args.chain.now) (sym c.self.view_is) c.requires.newer)
          (subst (λ n. n + length c.args.chain.now ≤ c.self.inside.limit) (sym c.self.invariant.counted.known)
          (subst (λ (v : Kept). known_count v.content + length c.args.chain.now ≤ v.limit) (sym c.self.view_is) c.requires.room))));
    }
