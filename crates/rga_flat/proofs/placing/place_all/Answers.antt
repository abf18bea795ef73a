use Rattle.std.proofs.Common.{◌≡◌, ◌-◌, take, [], ◌++◌, refl, ap, ◌∙◌}
use Rattle.rga_sequence.specs.Entries.{put_entry, without_entry}
use Rattle.rga_flat.specs.Flat.{entry_for}
use Rattle.rga_flat.specs.Waiting.{is_listed}
use Rattle.rga_flat.specs.Placing.{taken_out}
use Rattle.rga_flat.proofs.EntryLaws.{taken_out-push, put_gone}
use Rattle.rga_flat.proofs.WaitingLaws.{settles_on, inserted_on}
use Rattle.rga_flat.proofs.PlacingLaws.{place_step, place_smaller, place_named, place_absent, place_parent}
use Rattle.rga_flat.proofs.placing.place_all.Goals as goal

pub place_noted-noted-requires-clause-element : goal.place_noted-noted-requires-clause-element
place_noted-noted-requires-clause-element c = place_named _ _ _ _ _ _ _ c.in-Some.ensures.items c.loop-top.invariant.placing

pub place_noted-noted-requires-clause-parent : goal.place_noted-noted-requires-clause-parent
place_noted-noted-requires-clause-parent c = place_parent _ _ _ _ _ _ _ c.in-Some.ensures.items c.loop-top.invariant.placing

pub place_noted-noted-requires-clause-absent : goal.place_noted-noted-requires-clause-absent
place_noted-noted-requires-clause-absent c = place_absent _ _ _ _ _ _ _ c.in-Some.ensures.items c.loop-top.invariant.placing

pub loop-top-smaller : goal.loop-top-smaller
loop-top-smaller c =
    let named = place_named _ _ _ _ _ _ _ c.in-Some.ensures.items c.loop-top.invariant.placing in
    rw c.place_noted-noted.ensures.records
    (place_smaller _ _ _ (is_listed c.args.waiting.now c.place_noted-noted.new.done) _ _ _ _ c.in-Some.ensures.items c.loop-top.invariant.placing
    c.in_default-noted.ensures.gone c.place_noted-noted.ensures.others _ named.0 named.1 (c.in_default-noted.ensures.put named.0 named.1))

pub loop-top-preserved : goal.loop-top-preserved
loop-top-preserved c =
    let named = place_named _ _ _ _ _ _ _ c.in-Some.ensures.items c.loop-top.invariant.placing in
    let put : c.place_noted-noted.new.sequence ≡ put_entry named.0.parent (entry_for c.loop-top.records.content c.in-Some.top named.0) c.loop-top.sequence =
    c.in_default-noted.ensures.put named.0 named.1 in
    record {
      kept = c.place_noted-noted.ensures.records ∙ c.loop-top.invariant.kept;
      placing = rw c.place_noted-noted.ensures.records
          (place_step _ _ _ _ _ _ _ _ c.in-Some.ensures.items c.loop-top.invariant.placing c.in_default-noted.ensures.gone c.place_noted-noted.ensures.others
          _ _ named.0 named.1 c.in_default-noted.ensures.work put);
      back =
          ap (λ ks. taken_out ks c.place_noted-noted.new.sequence) c.in_default-noted.ensures.noted
          ∙ taken_out-push c.loop-top.placed.items c.in-Some.top c.place_noted-noted.new.sequence
          ∙ ap (taken_out c.loop-top.placed.items) (ap (without_entry c.in-Some.top) put ∙ put_gone named.0.parent c.in-Some.top _ refl c.loop-top.sequence (place_absent _ _ _ _ _ _ _ c.in-Some.ensures.items c.loop-top.invariant.placing))
          ∙ c.loop-top.invariant.back;
      settles = settles_on _ _ _ _ c.loop-top.invariant.settles c.place_noted-noted.ensures.settles;
      inserted = inserted_on c.args.records.now.content c.args.done.now c.loop-top.done _ c.loop-top.invariant.inserted (rw (← c.loop-top.invariant.kept) c.place_noted-noted.ensures.inserted);
    }

pub returns-clause-ok : goal.returns-clause-ok
returns-clause-ok c =
    let none : c.loop-top.work.items ≡ [] =
    c.in_default.ensures.items ∙ ap (λ xs. xs ++ []) (c.in_default.ensures.rest ∙ ap (λ n. take (n - 1) c.loop-top.work.items) c.in_default.ensures.cases.0) in
    rw (← none, ← c.loop-top.invariant.kept) c.loop-top.invariant.placing
