-- What is left to be read along links.
use Rattle.std.proofs.Common.{◌≡◌, ◌≤◌, ◌+◌, ◌<◌, ◌-◌, ◌++◌, ℕ, zero, suc, List, [], ◌∷◌, length, get_or, refl, sym, ap, ◌∙◌, subst, append_assoc, arith, encode_utf8_all}
use Rattle.std.specs.Prelude.{◌≢◌, Option, None, SomeIff}
use Rattle.std.specs.Char.{IsScalar}
use Rattle.std.proofs.lemmas.List.{append-nil}
use Rattle.rga_records.specs.Links.{AreCodes, IsLinkChain, chars_along}

-- after so many elements of a chain, of which the bytes are read, those from a node on are left
pub record IsLeft (next : List ℕ) (shown : List (Option ℕ)) (chain : List ℕ) (node count : ℕ) (bytes : List ℕ) : Type 0 where
  pub left : List ℕ
  pub linked : IsLinkChain next node left
  pub few : length left + count ≤ length shown
  pub read : bytes ++ encode_utf8_all (chars_along shown left) ≡ encode_utf8_all (chars_along shown chain)

-- ---- numbers in place of characters

-- two that the same number stands for are the same
one_code : (x : ℕ) (o p : Option ℕ) → SomeIff o (IsScalar x) x → SomeIff p (IsScalar x) x → o ≡ p
one_code x o p h k = grind (arith)

pub code_at : (codes : List ℕ) (kept : List (Option ℕ)) (i d : ℕ) (o : Option ℕ) → AreCodes codes kept → i < length codes → SomeIff o (IsScalar (get_or codes i d)) (get_or codes i d) → get_or kept i None ≡ o
code_at [] kept i d o h w is = absurd (omega (arith, w))
code_at (x ∷ codes) [] i d o h w is = absurd h
code_at (x ∷ codes) (p ∷ kept) zero d o h w is = one_code x p o h.0 is
code_at (x ∷ codes) (p ∷ kept) (suc i) d o h w is = code_at codes kept i d o h.1 (omega (arith, w)) is

pub code_past : (codes : List ℕ) (kept : List (Option ℕ)) (i : ℕ) → AreCodes codes kept → length codes ≤ i → get_or kept i None ≡ None
code_past [] [] i h w = refl
code_past [] (p ∷ kept) i h w = absurd h
code_past (x ∷ codes) [] i h w = absurd h
code_past (x ∷ codes) (p ∷ kept) zero h w = absurd (omega (arith, w))
code_past (x ∷ codes) (p ∷ kept) (suc i) h w = code_past codes kept i h.1 (omega (arith, w))

pub codes_length : (codes : List ℕ) (kept : List (Option ℕ)) → AreCodes codes kept → length kept ≡ length codes
codes_length [] [] h = refl
codes_length [] (p ∷ kept) h = absurd h
codes_length (x ∷ codes) [] h = absurd h
codes_length (x ∷ codes) (p ∷ kept) h = ap suc (codes_length codes kept h.1)

-- ---- chains

module _ (next : List ℕ) (shown : List (Option ℕ)) (chain : List ℕ) where
  -- nothing is left at the root
  pub read_all : (node count : ℕ) (bytes : List ℕ) → IsLeft next shown chain node count bytes → node ≡ 0 → bytes ≡ encode_utf8_all (chars_along shown chain)
  read_all node count bytes l root = sym (append-nil bytes) ∙ ap (λ xs. bytes ++ encode_utf8_all (chars_along shown xs)) (none l.left l.linked) ∙ l.read
    where
      none : (left : List ℕ) → IsLinkChain next node left → [] ≡ left
      none [] h = refl
      none (i ∷ js) h = absurd (omega (arith, h.0, root))

  -- nothing is left when as many as are shown are read
  pub read_end : (node count : ℕ) (bytes : List ℕ) → IsLeft next shown chain node count bytes → length shown ≤ count → bytes ≡ encode_utf8_all (chars_along shown chain)
  read_end node count bytes l all = read_all node count bytes l (root l.left l.linked l.few)
    where
      root : (left : List ℕ) → IsLinkChain next node left → length left + count ≤ length shown → node ≡ 0
      root [] h few = h
      root (i ∷ js) h few = absurd (omega (arith, few, all))

  first_apart : (i : ℕ) (left : List ℕ) → encode_utf8_all (chars_along shown (i ∷ left)) ≡ encode_utf8_all (chars_along shown (i ∷ [])) ++ encode_utf8_all (chars_along shown left)
  first_apart i left = grind (arith, append-nil)

  -- one element more
  pub read_more : (node count : ℕ) (bytes more : List ℕ) → IsLeft next shown chain node count bytes → node ≢ 0 → more ≡ bytes ++ encode_utf8_all (chars_along shown ((node - 1) ∷ [])) → IsLeft next shown chain (get_or next node 0) (count + 1) more
  read_more node count bytes more l other grown = of l.left l.linked l.few l.read
    where
      of : (left : List ℕ) → IsLinkChain next node left → length left + count ≤ length shown → bytes ++ encode_utf8_all (chars_along shown left) ≡ encode_utf8_all (chars_along shown chain) → IsLeft next shown chain (get_or next node 0) (count + 1) more
      of [] h few read = absurd (other h)
      of (i ∷ js) h few read =
          let index : node - 1 ≡ i = omega (arith, h.0) in
          record {
            left = js;
            linked = subst (λ n. IsLinkChain next (get_or next n 0) js) (sym h.0) h.2;
            few = omega (arith, few);
            read = ap (λ xs. xs ++ encode_utf8_all (chars_along shown js)) (grown ∙ ap (λ n. bytes ++ encode_utf8_all (chars_along shown (n ∷ []))) index)
                ∙ append_assoc bytes (encode_utf8_all (chars_along shown (i ∷ []))) (encode_utf8_all (chars_along shown js))
                ∙ ap (λ xs. bytes ++ xs) (sym (first_apart i js)) ∙ read;
          }
