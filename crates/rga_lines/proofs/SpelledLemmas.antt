-- Lines that are spelled in one way say what was read of their parts.
use Rattle.rga_lines.proofs.Prelude.{◌≡◌, ℕ, ◌+◌, ◌<◌, ◌≤◌, List, ◌++◌, length, codes, decimal, Ok, ap, sym, ◌∙◌, append_assoc, arith, MAX_COUNTER, Identifier, checked, Op, Insert, Delete, One}
use Rattle.rga_lines.proofs.Prelude.{Deletions, stretch, deletion_run, any_line_at, BeginsWithCharacter, BeginsWithIdentifier, ReadsInsertions, IsElement, IsElementOrRoot}
use Rattle.rga_lines.specs.declared.run.TheConstants.{MAX_RUN}
use Rattle.rga_lines.specs.Log.{SaysRun}
use Rattle.rga_lines.specs.Spelling.{line, line as line_of, run_line, deletion_run_line, escaped, pair_text, BeginsWithLine}
use Rattle.rga_lines.proofs.DeletionBack.{deletions_back}
use Rattle.rga_lines.proofs.PartsLemmas.{nothing_after}
use Rattle.rga_lines.proofs.ReadBack.{line_back, delete_back}
use Rattle.rga_lines.proofs.RunBack.{run_back}
use Rattle.rga_lines.proofs.RunLemmas.{run_operations-length}
use Rattle.rga_lines.proofs.WritableLemmas.{insertion_writable}

-- an identifier with a counter is not the root
above_zero : (id : Identifier) → IsElementOrRoot id → 0 < id.counter → IsElement id
above_zero id kept above = grind arith

-- what stands behind the line of an operation is behind its last part
apart : (shown id parent rest : List ℕ) → codes "{\"char\":\"" ++ (shown ++ (codes "\",\"id\":" ++ (id ++ (codes ",\"op\":\"ins\",\"parent\":" ++ (parent ++ (codes "}" ++ rest))))))
    ≡ (codes "{\"char\":\"" ++ (shown ++ (codes "\",\"id\":" ++ (id ++ (codes ",\"op\":\"ins\",\"parent\":" ++ (parent ++ codes "}")))))) ++ rest
apart shown id parent rest =
    let last = append_assoc parent (codes "}") rest in
    let middle = append_assoc id (codes ",\"op\":\"ins\",\"parent\":" ++ (parent ++ codes "}")) rest ∙ ap (λ l. id ++ (codes ",\"op\":\"ins\",\"parent\":" ++ l)) last in
    let whole = append_assoc shown (codes "\",\"id\":" ++ (id ++ (codes ",\"op\":\"ins\",\"parent\":" ++ (parent ++ codes "}")))) rest ∙ ap (λ l. shown ++ (codes "\",\"id\":" ++ l)) middle in
    sym (ap (λ l. codes "{\"char\":\"" ++ l) whole)

pub begins_with_insertion : (bytes inside named above end rest : List ℕ) (id parent : Identifier) (ch : ℕ) → bytes ≡ codes "{\"char\":\"" ++ inside → BeginsWithCharacter inside ch named → BeginsWithIdentifier named (codes "\",\"id\":") id above
    → BeginsWithIdentifier above (codes ",\"op\":\"ins\",\"parent\":") parent end → end ≡ codes "}" ++ rest → checked (Insert id parent ch) ≡ Ok tt → BeginsWithLine bytes (Insert id parent ch) rest
unfolding line
begins_with_insertion bytes inside named above end rest id parent ch first char name place last ok = record {
  parts = rw (first, char.0, name.0, place.0, last) (apart (escaped ch) (pair_text id) (pair_text parent) rest);
  writable = insertion_writable id parent ch name.1 place.1 char.1 ok;
  ok = ok;
}

pub line_says : (bytes rest : List ℕ) (op : Op) → BeginsWithLine bytes op rest → length rest ≡ 0 → any_line_at bytes ≡ Ok (One op)
line_says bytes rest op line none = ap any_line_at (nothing_after bytes (line_of op) rest line.parts none) ∙ line_back op line.writable line.ok

pub deletion_says : (bytes end : List ℕ) (id : Identifier) → BeginsWithIdentifier bytes (codes "{\"id\":") id end → end ≡ codes ",\"op\":\"del\"}" → 0 < id.counter → any_line_at bytes ≡ Ok (One (Delete id))
unfolding line
deletion_says bytes end id first last above = rw (first.0, last) (delete_back id (above_zero id first.1 above))

pub deletions_say : (bytes counted named end : List ℕ) (id : Identifier) (count : ℕ) → bytes ≡ codes "{\"count\":" ++ counted → counted ≡ decimal count ++ named → BeginsWithIdentifier named (codes ",\"id\":") id end → end ≡ codes ",\"op\":\"dels\"}"
    → 0 < id.counter → 0 < count → count ≤ MAX_RUN → id.counter + count ≤ MAX_COUNTER + 1 → any_line_at bytes ≡ Ok (Deletions (deletion_run id count))
unfolding deletion_run_line
deletions_say bytes counted named end id count first number name last above some few within =
    rw (first, number, name.0, last) (deletions_back (deletion_run id count) (record { element = above_zero id name.1 above; some = some; few = few; end = within }))

pub run_says : (bytes above named inside : List ℕ) (id parent : Identifier) (ops : List Op) → BeginsWithIdentifier bytes (codes "{\"id\":") id above → BeginsWithIdentifier above (codes ",\"op\":\"run\",\"parent\":") parent named
    → named ≡ codes ",\"text\":\"" ++ inside → ReadsInsertions id parent inside ops → 0 < length ops → length ops ≤ MAX_RUN → id.counter + length ops ≤ MAX_COUNTER + 1 → parent.counter < id.counter → SaysRun bytes ops
unfolding run_line
run_says bytes above named inside id parent ops first place text read some few end rising =
    let same : length ops ≡ length read.chars = ap length read.insertions ∙ run_operations-length id parent read.chars in
    let r = stretch id parent read.chars in
    let back = run_back r (record {
      id = above_zero id first.1 (omega (arith, rising));
      parent = place.1;
      scalars = read.scalars;
      run = record { some = omega (arith, same, some); few = omega (arith, same, few); end = omega (arith, same, end); rising = rising };
    }) in
    (r, rw (first.0, place.0, text, read.parts) back, read.insertions)
