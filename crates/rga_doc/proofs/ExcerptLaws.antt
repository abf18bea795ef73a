-- An excerpt of the visible elements gives an edit the operations that all of them do.
use Rattle.rga_doc.proofs.Prelude.{◌≡◌, ℕ, zero, suc, ◌+◌, ◌-◌, ◌<◌, ◌≤◌, true, List, [], ◌∷◌, ◌++◌, map, take, drop, replicate, length, get_or, refl, sym, ap, ◌∙◌, subst, arith, length-append, length-drop, length-take-le, drop_at, take-take}
use Rattle.rga_doc.proofs.Prelude.{drop-drop, Some, Ok, slice_get, AllByRecursion, length-replicate, same_Some, none-some, Identifier, root, Content, clock_of, text, visible, Splice, are_falling, end_of, new_characters, Op, Delete, text_long}
use Rattle.rga_doc.proofs.Prelude.{Excerpted, excerpt, begin_of, left_of, chain, splice_operations_at, draft_operations, splice_operations, splices_operations, splices_answer}
use Rattle.rga_doc.proofs.SplicedCharacters.{part}
use Rattle.rga_doc.proofs.SplicedLists.{same_drop_left, left_of-take}
use Rattle.rga_doc.proofs.EditLaws.{allowed, splices_drafted}
use Rattle.rga_doc.proofs.FallingLaws.{falls_first}
use Rattle.rga_doc.proofs.AnewLaws.{falling_end, falling_to_end}

-- ---- where falling splices begin

-- none begins before the last
pub begins_first : (splices : List Splice) (bound : ℕ) → are_falling bound splices ≡ true → AllByRecursion (λ s. begin_of splices ≤ s.lo) splices
begins_first [] bound h = tt
begins_first (s ∷ []) bound h = (omega arith, tt)
begins_first (s ∷ t ∷ splices) bound h =
    let first = falls_first s (t ∷ splices) bound h in
    let rest = begins_first (t ∷ splices) s.lo first.further in
    let next = falls_first t splices s.lo first.further in
    (omega (arith, rest.0, next.up, next.within), rest)

pub begins_at : (P : Splice → Type 0) (splices : List Splice) (i : ℕ) (s : Splice) → AllByRecursion P splices → i < length splices → s ≡ get_or splices i s → P s
begins_at P [] i s a within is = absurd (omega (arith, within))
begins_at P (x ∷ splices) zero s a within is = subst P (sym is) a.0
begins_at P (x ∷ splices) (suc i) s a within is = begins_at P splices i s a.1 (omega (arith, within)) is

pub begin_at_last : (splices : List Splice) (s : Splice) → slice_get splices (length splices - 1) ≡ Some s → begin_of splices ≡ s.lo
begin_at_last [] s h = absurd (none-some _ h)
begin_at_last (x ∷ []) s h = ap (λ (t : Splice). t.lo) (same_Some x s h)
begin_at_last (x ∷ y ∷ splices) s h =
    let last : length (x ∷ y ∷ splices) - 1 ≡ suc (length (y ∷ splices) - 1) = omega arith in
    begin_at_last (y ∷ splices) s (ap (slice_get (x ∷ y ∷ splices)) (sym last) ∙ h)

-- nor behind the end of the first
pub begins_before_end : (splices : List Splice) (bound : ℕ) → are_falling bound splices ≡ true → begin_of splices ≤ end_of splices
begins_before_end [] bound h = omega arith
begins_before_end (s ∷ splices) bound h = omega (arith, (begins_first (s ∷ splices) bound h).0, (falls_first s splices bound h).up)

-- they fall within their own end
pub falls_to_end : (splices : List Splice) (bound : ℕ) → are_falling bound splices ≡ true → are_falling (end_of splices) splices ≡ true
falls_to_end [] bound h = refl
falls_to_end (s ∷ splices) bound h = let first = falls_first s splices bound h in falling_to_end s splices first.up first.further

-- splices that are allowed fall within the text
falls_in_text : (limit : ℕ) (c : Content) (splices : List Splice) → splices_answer limit c splices ≡ Ok tt → are_falling (length (visible c)) splices ≡ true
falls_in_text limit c splices h =
    ap (λ n. are_falling n splices) (sym (text_long c)) ∙ (allowed limit c (are_falling (length (text c)) splices) (new_characters splices) h).1

-- ---- what an excerpt has

module _ (xs : List Identifier) (begin end : ℕ) (up : begin ≤ end) (within : end ≤ length xs) where
  abbrev start : ℕ
  start = begin - 1

  abbrev items : List Identifier
  items = (excerpt xs begin end).items

  pub excerpt_long : length items ≡ end
  excerpt_long =
      let front : length (replicate start root) ≡ start = length-replicate start root in
      let whole = length-append (replicate start root) (drop start (take end xs)) in
      let rest = length-drop start (take end xs) in
      let long : length (take end xs) ≡ end = length-take-le end xs within in
      omega (arith, front, whole, rest, long, up)

  -- from its start on it is the text up to its end
  same_from : (i : ℕ) → start ≤ i → drop i items ≡ drop i (take end xs)
  same_from i from =
      let on : i ≡ start + (i - start) = omega (arith, from) in
      ap (λ n. drop n items) on ∙ sym (drop-drop (i - start) start items)
      ∙ ap (drop (i - start)) (drop_at (replicate start root) (drop start (take end xs)) start (length-replicate start root))
      ∙ drop-drop (i - start) start (take end xs) ∙ ap (λ n. drop n (take end xs)) (sym on)

  same_part : (lo hi : ℕ) → start ≤ lo → lo ≤ hi → hi ≤ end → drop lo (take hi items) ≡ drop lo (take hi xs)
  same_part lo hi from ordered to =
      sym (part items lo hi ordered) ∙ ap (take (hi - lo)) (same_from lo from) ∙ part (take end xs) lo hi ordered
      ∙ ap (drop lo) (take-take hi end xs to)

  same_left_there : (k : ℕ) → begin ≤ k → k ≤ end → left_of items k ≡ left_of xs k
  same_left_there zero from to = refl
  same_left_there (suc j) from to =
      same_drop_left items (take end xs) j (same_from j (omega (arith, from)))
      ∙ sym (left_of-take (take end xs) (suc j)) ∙ ap (λ ys. left_of ys (suc j)) (take-take (suc j) end xs to) ∙ left_of-take xs (suc j)

  pub same_operations : (replica last lo hi : ℕ) (put : List ℕ) → begin ≤ lo → lo ≤ hi → hi ≤ end → splice_operations_at items replica last lo hi put ≡ splice_operations_at xs replica last lo hi put
  same_operations replica last lo hi put from ordered to =
      λ k. map Delete (same_part lo hi (omega (arith, from)) ordered to k) ++ chain replica last (same_left_there lo from (omega (arith, ordered, to)) k) put

  pub same_draft : (replica last bound : ℕ) (splices : List Splice) → AllByRecursion (λ s. begin ≤ s.lo) splices → are_falling bound splices ≡ true → bound ≤ end → draft_operations replica items last splices ≡ draft_operations replica xs last splices
  same_draft replica last bound [] from falling to = refl
  same_draft replica last bound (s ∷ splices) from falling to =
      let first = falls_first s splices bound falling in
      let here : s.hi ≤ end = omega (arith, first.within, to) in
      λ k. same_operations replica last s.lo s.hi s.put from.0 first.up here k
      ++ same_draft replica (last + length s.put) s.lo splices from.1 first.further (omega (arith, first.up, here)) k

-- ---- the operations of an edit, by an excerpt

-- operations that were added to none are those of the splice
pub splice_by_excerpt : (replica lo hi : ℕ) (c : Content) (put : List ℕ) (ops first : List Op) (e : Excerpted) (own last : ℕ) → lo ≤ hi → hi ≤ length (visible c) → first ≡ [] → own ≡ replica → last ≡ clock_of c → e ≡ excerpt (visible c) lo hi → ops ≡ first ++ splice_operations_at e.items own last lo hi put → ops ≡ splice_operations replica c lo hi put
splice_by_excerpt replica lo hi c put ops first e own last up within none of_own of_clock is made =
    made ∙ (λ k. none k ++ splice_operations_at (ap (λ (x : Excerpted). x.items) is k) (of_own k) (of_clock k) lo hi put)
    ∙ same_operations (visible c) lo hi up within replica (clock_of c) lo hi put (omega arith) up (omega arith)

-- and so for several splices
pub splices_by_excerpt : (limit replica : ℕ) (c : Content) (splices : List Splice) (ops first : List Op) (e : Excerpted) (own last : ℕ) → splices_answer limit c splices ≡ Ok tt → first ≡ [] → own ≡ replica → last ≡ clock_of c → e ≡ excerpt (visible c) (begin_of splices) (end_of splices) → ops ≡ first ++ draft_operations own e.items last splices → ops ≡ splices_operations replica c splices
splices_by_excerpt limit replica c splices ops first e own last allowed none of_own of_clock is made =
    let falling = falls_in_text limit c splices allowed in
    let up : begin_of splices ≤ end_of splices = begins_before_end splices (length (visible c)) falling in
    made ∙ (λ k. none k ++ draft_operations (of_own k) (ap (λ (x : Excerpted). x.items) is k) (of_clock k) splices)
    ∙ same_draft (visible c) (begin_of splices) (end_of splices) up (falling_end splices (length (visible c)) falling) replica (clock_of c) (end_of splices) splices
    (begins_first splices (length (visible c)) falling) (falls_to_end splices (length (visible c)) falling) (omega arith)
    ∙ sym (splices_drafted limit replica c splices allowed)

-- the splices fall within their excerpt
pub falls_in_excerpt : (limit : ℕ) (c : Content) (splices : List Splice) (e : Excerpted) → splices_answer limit c splices ≡ Ok tt → e ≡ excerpt (visible c) (begin_of splices) (end_of splices) → are_falling (length e.items) splices ≡ true
falls_in_excerpt limit c splices e allowed is =
    let falling = falls_in_text limit c splices allowed in
    let long : length e.items ≡ end_of splices =
    ap (λ (x : Excerpted). length x.items) is
    ∙ excerpt_long (visible c) (begin_of splices) (end_of splices) (begins_before_end splices (length (visible c)) falling) (falling_end splices (length (visible c)) falling) in
    ap (λ n. are_falling n splices) long ∙ falls_to_end splices (length (visible c)) falling
