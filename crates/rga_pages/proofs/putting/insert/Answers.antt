use Rattle.std.proofs.Common.{◌≡◌, List, [], ◌∷◌, length, sym, ap, ◌∙◌}
use Rattle.std.proofs.lemmas.List.{nil_from_length}
use Rattle.std.specs.Prelude.{insert}
use Rattle.std.specs.BTreeMap.{insert_entry}
use Rattle.rga_ops.specs.Identifier.{Identifier, id_cmp}
use Rattle.rga_pages.specs.declared.entry.Record.{Record}
use Rattle.rga_pages.specs.Pages.{Entries, entries_in}
use Rattle.rga_pages.proofs.SpotLaws.{inserted_pages}
use Rattle.rga_pages.proofs.putting.insert.Goals as goal

first : (ps qs : List Entries) (id : Identifier) (value : Record) → length ps ≡ 0 → qs ≡ insert ps 0 ((id, value) ∷ []) → entries_in qs ≡ insert_entry id_cmp (entries_in ps) id value
first ps qs id value none put =
    ap entries_in put ∙ ap (λ rs. entries_in (insert rs 0 ((id, value) ∷ []))) (nil_from_length ps none) ∙ sym (ap (λ rs. insert_entry id_cmp (entries_in rs) id value) (nil_from_length ps none))

pub returns-then-as_slice-eq0-clause-ok : goal.returns-then-as_slice-eq0-clause-ok
returns-then-as_slice-eq0-clause-ok c =
    first c.args.pages.now.items c.put_own.new.pages.items c.args.id c.args.value (ap length (sym c.as_slice.ensures.value) ∙ c.if-as_slice-eq0.true) c.in_ok-put_own.ensures.ok

pub returns-then-as_slice-eq0-clause-kept : goal.returns-then-as_slice-eq0-clause-kept
returns-then-as_slice-eq0-clause-kept c =
    inserted_pages c.args.pages.now.items c.put_own.new.pages.items c.args.id c.args.value c.requires
    (first c.args.pages.now.items c.put_own.new.pages.items c.args.id c.args.value (ap length (sym c.as_slice.ensures.value) ∙ c.if-as_slice-eq0.true) c.in_ok-put_own.ensures.ok)
    c.put_own.ensures.filled
