-- The line of a run of deletions is read back.
use Rattle.rga_lines.proofs.Prelude.{◌≡◌, ◌<◌, ◌^◌, ◌++◌, codes, decimal, Ok, Err, refl, arith, length-append, lit≤, le-ltb, ne_eqb, IsUtf8-append, length-decimal-le, IsNumber-decimal, IsUtf8-are_ascii, Data, unsigned, object, member, no_members}
use Rattle.rga_lines.proofs.Prelude.{compact_text, Deletions, DeletionRun, IsDeletionRun, pair_text, any_line_at, line_at}
use Rattle.serde_json.specs.Data.{number, string}
use Rattle.serde_json.proofs.Numbers.{number_of-decimal}
use Rattle.serde_json.proofs.OnLiterals.{serde_json_on_literals}
use Rattle.rga_lines.specs.declared.fault.LineFault.TheVariants.{Kind}
use Rattle.rga_lines.specs.Spelling.{deletion_run_line}
use Rattle.rga_lines.specs.Table.{value_line}
use Rattle.rga_lines.proofs.ReadingLemmas.{alone}
use Rattle.rga_lines.proofs.SpellingLemmas.{pair_data}
use Rattle.rga_lines.proofs.ReadBack.{within, pair_text-length, IsUtf8-decimal, IsUtf8-pair_text, pair-numbers, pair-json, back}

abbrev deletions_data : DeletionRun → Data
deletions_data r = object (member (codes "count") (number (unsigned r.count)) (member (codes "id") (pair_data r.id) (member (codes "op") (string (codes "dels")) no_members)))

compact_deletions : (r : DeletionRun) → compact_text (deletions_data r) ≡ deletion_run_line r
unfolding deletion_run_line serde_json_on_literals
compact_deletions r = refl

module _ (r : DeletionRun) (h : IsDeletionRun r) where
  small : r.count < 2 ^ 64
  small = omega (arith, h.few)

  pub deletions_back : any_line_at (deletion_run_line r) ≡ Ok (Deletions r)
  unfolding deletion_run_line value_line
  deletions_back =
      let f = within r.id h.element in
      let after = codes ",\"id\":" ++ (pair_text r.id ++ codes ",\"op\":\"dels\"}") in
      back (deletions_data r) (deletion_run_line r) (Deletions r) (compact_deletions r)
      (omega (arith, length-append (decimal r.count) after, length-append (pair_text r.id) (codes ",\"op\":\"dels\"}"), pair_text-length r.id f, length-decimal-le 20 r.count (omega arith) (omega (arith, small)) small))
      (IsUtf8-append (codes "{\"count\":") _ (IsUtf8-are_ascii _ refl)
      (IsUtf8-append _ _ (IsUtf8-decimal r.count small)
      (IsUtf8-append (codes ",\"id\":") _ (IsUtf8-are_ascii _ refl)
      (IsUtf8-append _ _ (IsUtf8-pair_text r.id f) (IsUtf8-are_ascii (codes ",\"op\":\"dels\"}") refl)))))
      (IsNumber-decimal r.count small, (pair-numbers r.id f, (tt, tt)))
      (lit≤ tt)
      (rw (number_of-decimal r.count small, pair-json r.id f))
      (rw (h.element, le-ltb _ _ h.end, ne_eqb r.count 0 (λ z. omega (arith, h.some)), le-ltb _ _ h.few))

  pub deletions_are_no_operation : line_at (deletion_run_line r) ≡ Err Kind
  deletions_are_no_operation = alone (deletion_run_line r) (Ok (Deletions r)) deletions_back
