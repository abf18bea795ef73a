-- The line of a run is read back.
use Rattle.rga_lines.proofs.Prelude.{◌≡◌, ℕ, ◌*◌, ◌≤◌, true, List, [], ◌∷◌, ◌++◌, length, codes, Ok, refl, sym, ap, ap₂, subst, ◌∙◌, arith, append_assoc, length-append, lit≤, le-ltb, ne_eqb, encode_utf8, IsScalar, flat_map, AllByRecursion, IsUtf8}
use Rattle.rga_lines.proofs.Prelude.{chars, lt-leb, chars-encodes, IsUtf8-append, escape, escape_byte, IsUtf8-are_ascii, IsUtf8-quoted, Data, object, member, no_members, compact_text, Identifier, Run, MAX_LINE, Stretch, escaped, pair_text}
use Rattle.rga_lines.proofs.Prelude.{IsWritableRun, any_line_at}
use Rattle.std.proofs.Math.Utf8.{encodes}
use Rattle.serde_json.specs.Data.{string}
use Rattle.serde_json.proofs.OnLiterals.{serde_json_on_literals}
use Rattle.rga_lines.specs.Spelling.{run_line}
use Rattle.rga_lines.specs.Table.{value_line}
use Rattle.rga_lines.proofs.SpellingLemmas.{pair_data, escape-encode}
use Rattle.rga_lines.proofs.ReadBack.{InBounds, within, in_bounds, pair_text-length, IsUtf8-pair_text, pair-numbers, pair-json, escaped-length, back}
use lib.Utf8.{scalars}

abbrev run_data : List ℕ → Identifier → Identifier → Data
run_data text id parent = object (member (codes "id") (pair_data id) (member (codes "op") (string (codes "run")) (member (codes "parent") (pair_data parent) (member (codes "text") (string text) no_members))))

abbrev run_text : List ℕ → Identifier → Identifier → List ℕ
run_text inside id parent = codes "{\"id\":" ++ (pair_text id ++ (codes ",\"op\":\"run\",\"parent\":" ++ (pair_text parent ++ (codes ",\"text\":\"" ++ (inside ++ codes "\"}")))))

compact_run : (text : List ℕ) (id parent : Identifier) → compact_text (run_data text id parent) ≡ run_text (escape text) id parent
unfolding serde_json_on_literals
compact_run text id parent =
    ap (λ (l : List ℕ). codes "{\"id\":" ++ (pair_text id ++ (codes ",\"op\":\"run\",\"parent\":" ++ (pair_text parent ++ (codes ",\"text\":\"" ++ l))))) (append_assoc (escape text) (34 ∷ []) (codes "}"))

escape-append : (xs ys : List ℕ) → escape (xs ++ ys) ≡ escape xs ++ escape ys
escape-append [] ys = refl
escape-append (x ∷ xs) ys = ap (λ (l : List ℕ). escape_byte x ++ l) (escape-append xs ys) ∙ sym (append_assoc (escape_byte x) (escape xs) (escape ys))

pub escape-encodes : (cs : List ℕ) → escape (encodes cs) ≡ flat_map escaped cs
escape-encodes [] = refl
escape-encodes (c ∷ cs) = escape-append (encode_utf8 c) (encodes cs) ∙ ap₂ (λ (x y : List ℕ). x ++ y) (escape-encode c) (escape-encodes cs)

all_scalars : (cs : List ℕ) → AllByRecursion IsScalar cs → scalars cs ≡ true
all_scalars [] h = refl
all_scalars (c ∷ cs) h = rw (h.0, all_scalars cs h.1)

escaped_all-length : (cs : List ℕ) → length (flat_map escaped cs) ≤ 6 * length cs
escaped_all-length [] = omega arith
escaped_all-length (c ∷ cs) = omega (arith, escaped-length c, escaped_all-length cs, length-append (escaped c) (flat_map escaped cs))

run-length : (inside : List ℕ) (id parent : Identifier) → length inside ≤ 24576 → InBounds id → InBounds parent → length (run_text inside id parent) ≤ MAX_LINE
run-length inside id parent small h k = grind (arith, length-append, pair_text, pair_text-length)

run-utf8 : (text : List ℕ) (id parent : Identifier) → IsUtf8 text → InBounds id → InBounds parent → IsUtf8 (compact_text (run_data text id parent))
unfolding serde_json_on_literals
run-utf8 text id parent u h k =
    IsUtf8-append (codes "{\"id\":") _ (IsUtf8-are_ascii _ refl)
    (IsUtf8-append _ _ (IsUtf8-pair_text id h)
    (IsUtf8-append (codes ",\"op\":\"run\",\"parent\":") _ (IsUtf8-are_ascii _ refl)
    (IsUtf8-append _ _ (IsUtf8-pair_text parent k)
    (IsUtf8-append (codes ",\"text\":") _ (IsUtf8-are_ascii _ refl) (IsUtf8-append _ _ (IsUtf8-quoted text u) (IsUtf8-are_ascii (codes "}") refl))))))

module _ (r : Stretch) (h : IsWritableRun r) where
  run-value : (text : List ℕ) → chars text ≡ r.chars → value_line (run_data text r.id r.parent) ≡ Ok (Run r)
  unfolding value_line
  run-value text e = rw (h.id, h.parent, e, le-ltb _ _ h.run.end, ne_eqb (length r.chars) 0 (λ z. omega (arith, h.run.some)), le-ltb _ _ h.run.few, lt-leb _ _ h.run.rising)

  pub run_back : any_line_at (run_line r) ≡ Ok (Run r)
  unfolding run_line
  run_back =
      let f = within r.id h.id in
      let g = in_bounds r.parent h.parent in
      let text = encodes r.chars in
      let good = all_scalars r.chars h.scalars in
      let written : compact_text (run_data text r.id r.parent) ≡ run_line r = compact_run text r.id r.parent ∙ ap (λ (inside : List ℕ). run_text inside r.id r.parent) (escape-encodes r.chars) in
      back (run_data text r.id r.parent) (run_line r) (Run r) written
      (run-length (flat_map escaped r.chars) r.id r.parent (omega (arith, escaped_all-length r.chars, h.run.few)) f g)
      (subst IsUtf8 written (run-utf8 text r.id r.parent (r.chars, (good, refl)) f g))
      (pair-numbers r.id f, (tt, (pair-numbers r.parent g, (tt, tt))))
      (lit≤ tt)
      (rw (pair-json r.id f, pair-json r.parent g))
      (run-value text (chars-encodes r.chars good))
