use Rattle.std.proofs.Common.{◌≡◌, ℕ, ◌+◌, ◌++◌, ◌∷◌, List, [], take, sym, ap, ◌∙◌, subst}
use Rattle.std.specs.Prelude.{Some}
use Rattle.std.proofs.lemmas.List.{take_more}
use Rattle.rga_ops.specs.Content.{element}
use Rattle.rga_sequence.specs.declared.entry.Entry.{Entry}
use Rattle.rga_pages.specs.declared.entry.Record.{Record}
use Rattle.rga_records.specs.Chains.{last_entry_of, AreRows}
use Rattle.rga_records.specs.Records.{element_of_record}
use Rattle.rga_records.proofs.NewerLaws.{rows-push, last_entry_of-push}
use Rattle.rga_records.proofs.chains.add_rows.Goals as goal

pub loop-entry-preserved : goal.loop-entry-preserved
loop-entry-preserved c =
    let i : ℕ = c.loop-entry.entry-index in
    let item : Entry = c.entry-item.result in
    let before : List Entry = take i c.args.chain.now in
    let more : take (i + 1) c.args.chain.now ≡ before ++ item ∷ [] = take_more c.args.chain.now i item c.loop-entry-test.true ∙ ap (λ x. before ++ x ∷ []) (sym c.entry-item.is) in
    record {
      rows =
          subst (λ xs. AreRows c.args.parent xs c.push_reserved.new.self.items) (sym more)
          (subst (AreRows c.args.parent (before ++ item ∷ [])) (sym c.push_reserved.ensures.items)
          (rows-push c.args.parent before c.loop-entry.rows.items item c.inserted-record.result c.loop-entry.invariant.rows
          (ap element_of_record c.inserted-record.ensures ∙ ap (λ k. Some (element k item.ch)) c.loop-entry.invariant.last) (ap (λ (r : Record). r.deleted) c.inserted-record.ensures)));
      last = sym (ap (last_entry_of c.args.parent) more ∙ last_entry_of-push c.args.parent before item);
      noted = c.push_reserved.ensures.len ∙ ap (λ n. n + 1) c.loop-entry.invariant.noted;
      room = c.push_reserved.ensures.capacity ∙ c.loop-entry.invariant.room;
    }
