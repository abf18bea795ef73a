use Rattle.std.proofs.Common.{◌≡◌, ℕ, ◌-◌, Result, Ok, [], filter, length, ap, ◌∙◌}
use Rattle.rga_ops.specs.Operations.{insertions}
use Rattle.mgr_show.specs.Tallies.{and_tallies, is_insertion}
use Rattle.mgr_show.proofs.TallyLaws.{insertions_counted, others_are_deletions}
use Rattle.mgr_show.proofs.counts.counts_of.Goals as goal

same : {E : Type 0} {m n : ℕ} → ◌≡◌ {A = Result ℕ E} (Ok m) (Ok n) → m ≡ n
same h = cc

pub returns : goal.returns
returns c = record {
  counts =
      let content = c.args.store.now.content in
      let counted : c.count_insertions-insertions.result ≡ length (insertions content) =
      c.count_insertions-insertions.ensures.count
      ∙ ap (λ ops. length (filter is_insertion ops)) (c.deref.ensures.value ∙ c.in_ok-ops.ensures.ok)
      ∙ insertions_counted content in
      record {
        operations = ap length (c.as_slice-operations.ensures.value ∙ c.in_ok-ops.ensures.ok);
        insertions = counted;
        deletions = ap (λ n. n - c.count_insertions-insertions.result) (ap length (c.as_slice-operations.ensures.value ∙ c.in_ok-ops.ensures.ok)) ∙ others_are_deletions content c.count_insertions-insertions.result counted;
        visible = c.visible_len.ensures;
        waiting = same c.in_ok-waiting.ensures.exact;
        tallies = c.in_ok-tallies.ensures ∙ ap (and_tallies []) (c.deref-2.ensures.value ∙ c.in_ok-ops.ensures.ok);
      };
}
