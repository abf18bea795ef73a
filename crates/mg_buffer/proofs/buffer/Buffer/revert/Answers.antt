use Rattle.mg_buffer.proofs.Prelude.{rules, ◌≡◌, ◌≤◌, ◌+◌, arith, newest_restored, ℕ, Some, slice_get, Identifier, true, sym, subst, Ok, identifier, clock_of, join, content_of, order, text, Document, are_restorable, revert_operations, revert_answer, StandsDirectlyBehind, Past}
use Rattle.rga_doc.proofs.PutBackLaws.{revert_behind}
use Rattle.mg_buffer.proofs.GroupLaws.{past_restorable, reverted_revertible, point_stands, mark_stands_still}
use Rattle.mg_buffer.proofs.OldLaws.{clock_goes_on}
use Rattle.mg_buffer.proofs.buffer.Buffer.revert.Given.{Over}
use Rattle.mg_buffer.proofs.buffer.Buffer.revert.Goals.{In_ok-front}
use Rattle.mg_buffer.proofs.buffer.Buffer.revert.Goals as goal

module _ (g : Over) (c : In_ok-front g) where
  abbrev doc : Document
  doc = c.self.inside.doc

  abbrev undone : Past
  undone = c.args.undone.now

  able : are_restorable doc.content undone.deleted ≡ true
  able = let all = past_restorable doc.content c.self.inside.history.pasts c.args.index c.self.invariant.revertible in search rules

  allowed : revert_answer doc.limit doc.content undone.deleted ≡ Ok tt
  allowed = search rules

  whole : c.take_reverted.new.doc.content ≡ join doc.content (content_of (revert_operations doc.replica doc.content undone.inserted undone.deleted))
  whole = search rules

pub take_reverted-requires-clause-able : goal.take_reverted-requires-clause-able
take_reverted-requires-clause-able g c = let all = past_restorable c.self.inside.doc.content c.self.inside.history.pasts c.args.index c.self.invariant.revertible in search rules

pub take_reverted-requires-clause-at : goal.take_reverted-requires-clause-at
take_reverted-requires-clause-at g c = (c.args.index, search rules)

pub invariant_of-self-2 : goal.invariant_of-self-2
invariant_of-self-2 g c =
    let doc : Document = c.self.inside.doc in
    let undone : Past = c.args.undone.now in
    let b : In_ok-front g = (goal.at.invariant_of-self-2 g c).In_ok-front in
    let point = point_stands doc.limit doc.replica doc.content undone.inserted undone.deleted (allowed g b) c.self.inside.point.element c.self.invariant.point_stands in
    let mark = mark_stands_still doc.content (content_of (revert_operations doc.replica doc.content undone.inserted undone.deleted)) c.self.inside.mark c.self.invariant.mark_stands in
    let line = c.kept_in-self-inside.ensures (text doc.content) (text c.take_reverted.new.doc.content) c.in_ok-front.ensures.front in
    let ops = revert_operations doc.replica doc.content undone.inserted undone.deleted in
    let old : newest_restored c.take_reverted.new.history ≤ clock_of (join doc.content (content_of ops)) = omega (arith, c.in_ok-front.ensures.taken.2, clock_goes_on doc.content (content_of ops)) in
    let revertible = reverted_revertible doc.limit doc.replica doc.content undone.inserted undone.deleted (allowed g b) c.self.inside.history.pasts c.self.invariant.revertible in
    search rules

pub returns-clause-reverted : goal.returns-clause-reverted
returns-clause-reverted g c =
    let doc : Document = c.self.inside.doc in
    let undone : Past = c.args.undone.now in
    let b : In_ok-front g = (goal.at.returns-clause-reverted g c).In_ok-front in
    let behind = λ (i : ℕ) (x : Identifier × ℕ) (here : slice_get undone.deleted i ≡ Some x). subst (λ d. StandsDirectlyBehind (order d) x.0 (identifier (clock_of doc.content + (i + 1)) doc.replica)) (sym (whole g b))
    (revert_behind doc.limit doc.replica doc.content undone.inserted undone.deleted i x (allowed g b) here) in
    rw (← c.self.view_is) (search rules)
