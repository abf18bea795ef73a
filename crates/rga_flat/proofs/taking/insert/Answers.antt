use Rattle.std.proofs.Common.{sym, ap, ◌∙◌}
use Rattle.std.specs.FinSet as finite_set
use Rattle.rga_ops.specs.Content.{Content, clock_of}
use Rattle.rga_ops.specs.declared.op.Op.TheVariants.{Insert}
use Rattle.rga_ops.proofs.InsertionLaws.{contains-insertion}
use Rattle.rga_store.specs.Kept.{Kept}
use Rattle.rga_store.specs.Without.{without_insertion}
use Rattle.rga_store.proofs.WithoutLaws.{new_held}
use Rattle.rga_flat.specs.Flat.{is_above}
use Rattle.rga_store.proofs.BackLaws.{without_taken}
use Rattle.rga_flat.proofs.taking.insert.Goals as goal

pub settle-settled-requires-clause-element : goal.settle-settled-requires-clause-element
settle-settled-requires-clause-element c = rw c.in_ok-insert.ensures.ok (new_held _ _ (Insert c.args.entry.now.id c.args.parent c.args.entry.now.ch) c.requires.new)

pub settle-settled-requires-clause-deleted : goal.settle-settled-requires-clause-deleted
settle-settled-requires-clause-deleted c =
    c.requires.deleted
    ∙ sym (ap (λ (d : Content). finite_set.contains d.deleted c.args.entry.now.id) c.in_ok-insert.ensures.ok
    ∙ contains-insertion c.args.records.now.content c.args.entry.now.id c.args.parent c.args.entry.now.ch c.args.entry.now.id)

pub settle-settled-requires-clause-above : goal.settle-settled-requires-clause-above
settle-settled-requires-clause-above c = c.is_some-above.ensures ∙ c.near_above-found.ensures ∙ sym (ap (λ (d : Content). is_above d c.args.parent) (without_taken _ _ _ (Insert c.args.entry.now.id c.args.parent c.args.entry.now.ch) c.requires.new c.in_ok-insert.ensures.ok))

pub settle-settled-requires-clause-flat : goal.settle-settled-requires-clause-flat
settle-settled-requires-clause-flat c = rw (without_taken _ _ _ (Insert c.args.entry.now.id c.args.parent c.args.entry.now.ch) c.requires.new c.in_ok-insert.ensures.ok) c.requires.flat

pub remove-requires-clause-held : goal.remove-requires-clause-held
remove-requires-clause-held c = rw (c.settle-settled.ensures.records, c.in_ok-insert.ensures.ok) (new_held _ _ (Insert c.args.entry.now.id c.args.parent c.args.entry.now.ch) c.requires.new)

pub remove-requires-clause-clock : goal.remove-requires-clause-clock
remove-requires-clause-clock c = c.clock-clock.ensures ∙ sym (ap clock_of (ap (λ (r : Kept). without_insertion c.args.entry.now.id r.content) c.settle-settled.ensures.records ∙ without_taken _ _ _ (Insert c.args.entry.now.id c.args.parent c.args.entry.now.ch) c.requires.new c.in_ok-insert.ensures.ok))

pub returns-in-Err-clause-same : goal.returns-in-Err-clause-same
returns-in-Err-clause-same c = c.remove.ensures.content ∙ ap (λ (r : Kept). without_insertion c.args.entry.now.id r.content) c.settle-settled.ensures.records ∙ without_taken _ _ _ (Insert c.args.entry.now.id c.args.parent c.args.entry.now.ch) c.requires.new c.in_ok-insert.ensures.ok

pub returns-in-Err-clause-back : goal.returns-in-Err-clause-back
returns-in-Err-clause-back c = rw (c.remove.ensures.content, c.settle-settled.ensures.records) c.in-Err.ensures.same

pub returns-in-Err-clause-based : goal.returns-in-Err-clause-based
returns-in-Err-clause-based c = λ base b.
    rw (c.remove.ensures.content, c.settle-settled.ensures.records) (c.in-Err.ensures.left base (rw (without_taken _ _ _ (Insert c.args.entry.now.id c.args.parent c.args.entry.now.ch) c.requires.new c.in_ok-insert.ensures.ok) b))

pub returns-clause-flat : goal.returns-clause-flat
returns-clause-flat c = rw c.settle-settled.ensures.records c.in_default.ensures.ok

pub returns-clause-inserted : goal.returns-clause-inserted
returns-clause-inserted c = rw c.settle-settled.ensures.records c.settle-settled.ensures.inserted

pub returns-clause-based : goal.returns-clause-based
returns-clause-based c = λ base b.
    rw c.settle-settled.ensures.records (c.in_default.ensures.based base (rw (without_taken _ _ _ (Insert c.args.entry.now.id c.args.parent c.args.entry.now.ch) c.requires.new c.in_ok-insert.ensures.ok) b))
