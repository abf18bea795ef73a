-- The characters of a run's line, one after another.
use Rattle.rga_lines.proofs.Prelude.{◌≡◌, ℕ, ◌+◌, ◌<◌, Ok, ne_eqb, List, [], ◌∷◌, ◌++◌, length, codes, refl, sym, ap, ◌∙◌, arith, append_assoc, append-nil, length-append, IsScalar, flat_map, AllByRecursion, length-encode, len_utf8_bounds, Identifier}
use Rattle.rga_lines.proofs.Prelude.{identifier, checked, Op, Insert, Stretch, IsRun, next, run_operations, stretch_operations, escaped, ReadsInsertions, lt-leb}
use Rattle.rga_lines.proofs.SpellingLemmas.{escaped_all}

flat-push : (xs : List ℕ) (c : ℕ) (rest : List ℕ) → flat_map escaped (xs ++ c ∷ []) ++ rest ≡ flat_map escaped xs ++ (escaped c ++ rest)
flat-push [] c rest = ap (λ (l : List ℕ). l ++ rest) (append-nil (escaped c))
flat-push (x ∷ xs) c rest = grind (arith, append_assoc, escaped, flat_map, flat-push xs c rest)

scalars-push : (xs : List ℕ) (c : ℕ) → AllByRecursion IsScalar xs → IsScalar c → AllByRecursion IsScalar (xs ++ c ∷ [])
scalars-push [] c h k = (k, tt)
scalars-push (x ∷ xs) c h k = (h.0, scalars-push xs c h.1 k)

escaped-some : (c : ℕ) → 0 < length (escaped c)
escaped-some c = escaped_all (λ (l : List ℕ). 0 < length l) c (omega arith) (omega arith) (omega arith) (omega arith) (omega arith) (omega arith) (omega arith) (omega (arith, length-encode c, len_utf8_bounds c))

pub shorter : (rest behind : List ℕ) (c : ℕ) → rest ≡ escaped c ++ behind → length behind < length rest
shorter rest behind c e = omega (arith, ap length e, length-append (escaped c) behind, escaped-some c)

-- ---- the insertions of a run

pub run_operations-length : (id parent : Identifier) (chars : List ℕ) → length (run_operations id parent chars) ≡ length chars
run_operations-length id parent [] = refl
run_operations-length id parent (c ∷ chars) = omega (arith, run_operations-length (next id) id chars)

operations_checked : (id parent : Identifier) (chars : List ℕ) → parent.counter < id.counter → AllByRecursion (λ (op : Op). checked op ≡ Ok tt) (run_operations id parent chars)
operations_checked id parent [] h = tt
operations_checked id parent (c ∷ chars) h = (rw (ne_eqb id.counter 0 (λ z. omega (arith, h)), lt-leb id.counter parent.counter h), operations_checked (next id) id chars (omega arith))

-- they are well-formed
pub run_checked : (r : Stretch) → IsRun r → AllByRecursion (λ (op : Op). checked op ≡ Ok tt) (stretch_operations r)
run_checked r h = operations_checked r.id r.parent r.chars h.rising

-- ---- the insertions of a run, read one after another

-- So many insertions are those of the characters that were read, and those of any more characters go on behind them.
pub record IsReadTo (id parent : Identifier) (bytes : List ℕ) (ops : List Op) (counter : ℕ) (above : Identifier) (rest : List ℕ) : Type 0 where
  pub chars : List ℕ
  pub parts : bytes ≡ flat_map escaped chars ++ rest
  pub scalars : AllByRecursion IsScalar chars
  pub on : (more : List ℕ) → ops ++ run_operations (identifier counter id.replica) above more ≡ run_operations id parent (chars ++ more)

pub read_to_next : (id parent : Identifier) (bytes : List ℕ) (ops all : List Op) (counter : ℕ) (above new : Identifier) (rest behind : List ℕ) (c : ℕ) → IsReadTo id parent bytes ops counter above rest → rest ≡ escaped c ++ behind → IsScalar c
    → identifier counter id.replica ≡ new → all ≡ ops ++ Insert new above c ∷ [] → IsReadTo id parent bytes all (counter + 1) new behind
read_to_next id parent bytes ops all counter above new rest behind c h e k same pushed = record {
  chars = h.chars ++ c ∷ [];
  parts = h.parts ∙ ap (λ (l : List ℕ). flat_map escaped h.chars ++ l) e ∙ sym (flat-push h.chars c behind);
  scalars = scalars-push h.chars c h.scalars k;
  on = λ more.
      ap (λ (l : List Op). l ++ run_operations (identifier (counter + 1) id.replica) new more) pushed
      ∙ (λ i. (ops ++ Insert (sym same i) above c ∷ []) ++ run_operations (identifier (counter + 1) id.replica) (sym same i) more)
      ∙ append_assoc ops (Insert (identifier counter id.replica) above c ∷ []) (run_operations (identifier (counter + 1) id.replica) (identifier counter id.replica) more)
      ∙ h.on (c ∷ more)
      ∙ ap (run_operations id parent) (sym (append_assoc h.chars (c ∷ []) more));
}

pub read_to_end : (id parent : Identifier) (bytes : List ℕ) (ops : List Op) (counter : ℕ) (above : Identifier) (rest : List ℕ) → IsReadTo id parent bytes ops counter above rest → rest ≡ codes "\"}" → ReadsInsertions id parent bytes ops
read_to_end id parent bytes ops counter above rest h last = record {
  chars = h.chars;
  parts = h.parts ∙ ap (λ l. flat_map escaped h.chars ++ l) last;
  scalars = h.scalars;
  insertions = sym (append-nil ops) ∙ h.on [] ∙ ap (run_operations id parent) (append-nil h.chars);
}
