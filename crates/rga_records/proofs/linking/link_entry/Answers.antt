use Rattle.std.proofs.Common.{◌≡◌, true, false, cond, ◌++◌, ◌∷◌, [], sym, ap, ◌∙◌, subst, true≢false}
use Rattle.std.specs.Prelude.{Some, None, SomeIff}
use Rattle.std.specs.Char.{IsScalar}
use Rattle.rga_pages.specs.declared.entry.Record.{Record}
use Rattle.rga_records.specs.Links.{shown_of, with_link}
use Rattle.rga_records.specs.declared.linking.TheConstants.{HIDDEN, WAITS}
use Rattle.rga_records.proofs.LinkedRecordLaws.{links_as, links_more, links_same}
use Rattle.rga_records.proofs.linking.link_entry.Goals as goal

no_character : (v : Record) → v.ch ≡ None → SomeIff (shown_of v) (IsScalar HIDDEN) HIDDEN
no_character v none = subst (λ o. SomeIff (cond v.deleted None o) (IsScalar HIDDEN) HIDDEN) (sym none) (elim v.deleted as (λ b. SomeIff (cond b None None) (IsScalar HIDDEN) HIDDEN) [ true ↦ λ h. true≢false (sym h) | false ↦ λ h. true≢false (sym h) ])

pub returns-in_default : goal.returns-in_default
returns-in_default c = record {
  ok = λ es s l node.
      let none : c.args.entry.now.1.ch ≡ None = ap (λ (r : Record). r.ch) (sym c.record.view_is) ∙ c.in_default.is in
      links_as (es ++ c.args.entry.now ∷ []) (c.args.links.now.shown.items ++ HIDDEN ∷ []) c.push_one-in_default.new.list.items
      (c.args.links.now.next.items ++ WAITS ∷ []) c.push_one.new.list.items
      c.in_ok-push_one-2.ensures.ok
      c.in_ok-push_one.ensures.ok
      (links_same es c.args.links.now.shown.items c.args.links.now.next.items l c.args.entry.now HIDDEN (no_character c.args.entry.now.1 none) s none);
}

pub returns : goal.returns
returns c = record {
  ok = λ es s l node.
      let some : c.args.entry.now.1.ch ≡ Some c.in-Some.ch = ap (λ (r : Record). r.ch) (sym c.record.view_is) ∙ c.in-Some.is in
      let code : SomeIff (shown_of c.args.entry.now.1) (IsScalar c.code_of.result) c.code_of.result =
      subst (λ b. SomeIff (cond b None c.args.entry.now.1.ch) (IsScalar c.code_of.result) c.code_of.result) (ap (λ (r : Record). r.deleted) c.record.view_is)
      (subst (λ o. SomeIff (cond c.record.inside.deleted None o) (IsScalar c.code_of.result) c.code_of.result) (sym some) c.code_of.ensures) in
      links_as (es ++ c.args.entry.now ∷ []) (c.args.links.now.shown.items ++ c.code_of.result ∷ []) c.push_one-2.new.list.items
      (with_link c.args.above c.args.links.now.next.items) c.link.new.next.items
      c.in_ok-push_one-3.ensures.ok
      c.in_ok-link.ensures.ok
      (links_more es c.args.links.now.shown.items c.args.links.now.next.items l c.args.entry.now c.code_of.result code s c.args.above c.in-Some.ch some node c.in_ok-link.ensures.room);
}
