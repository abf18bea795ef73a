-- How the links of records' elements grow record by record, and that what is read along them is the text.
use Rattle.std.proofs.Common.{◌≡◌, ◌≤◌, ◌<◌, ℕ, false, cond, ◌||◌, List, [], ◌∷◌, ◌++◌, map, length, get_or, refl, sym, ap, ◌∙◌, subst, true≢false, arith}
use Rattle.std.specs.Prelude.{Option, Some, None, SomeIff}
use Rattle.std.specs.Char.{IsScalar}
use Rattle.std.specs.Option.{option_map}
use Rattle.std.specs.List.{list_any, filter_map, cons_option, AllByRecursion}
use Rattle.std.specs.List.Sorted.{IsStrictlySortedBy}
use Rattle.std.specs.Map.{keys_of, lookup}
use Rattle.std.proofs.lemmas.Bool.{false_from_ne_true}
use Rattle.std.proofs.lemmas.Option.{none-some}
use Rattle.std.proofs.lemmas.List.{map-append, length-map, get_or-map}
use Rattle.std.proofs.lemmas.Map.Keys.{IsDistinct-from_sorted, IsDistinct-head, IsDistinct-tail}
use Rattle.rga_ops.specs.Identifier.{Identifier, id_cmp, root}
use Rattle.rga_ops.specs.Content.{element, Content}
use Rattle.rga_ops.specs.RootPath.{is_complete}
use Rattle.rga_ops.specs.Order.{order, text, shown}
use Rattle.rga_ops.proofs.IdentifierLaws.{is, is_itself, is_swap}
use Rattle.rga_ops.proofs.MemberLaws.{all_map}
use Rattle.rga_ops.proofs.OrderLaws.{order_distinct, order_list}
use Rattle.rga_ops.proofs.PathLaws.{inserted_if_complete}
use Rattle.rga_pages.specs.declared.entry.Record.{Record}
use Rattle.rga_pages.proofs.EntryLaws.{ordered_front}
use Rattle.rga_records.specs.Records.{Entries, AreOrdered, content_of_records}
use Rattle.rga_records.specs.Links.{shown_of, chars_along, AreCodes, IsNodeOf, AreLinked, AreLinks, AreSoundRecords, with_link}
use Rattle.rga_records.proofs.RecordLaws.{AreApart, apart_of, element_of, mark_of, inserted_at, deleted_at}
use Rattle.rga_records.proofs.LinkOrderLaws.{sound_front, order_linked, order_unlinked}
use Rattle.rga_records.proofs.LinkLaws.{step, step_waiting, named_within}
use Rattle.rga_records.specs.declared.linking.TheConstants.{WAITS}

-- ---- beginnings

pub sound_before : (es rest : Entries) → AreSoundRecords (es ++ rest) → AreSoundRecords es
sound_before es rest s = record { ordered = ordered_front es rest s.ordered; sound = sound_front es rest s.ordered s.sound }

-- ---- a record more

-- a number more
codes_push : (xs : List ℕ) (os : List (Option ℕ)) (x : ℕ) (o : Option ℕ) → AreCodes xs os → SomeIff o (IsScalar x) x → AreCodes (xs ++ x ∷ []) (os ++ o ∷ [])
codes_push [] [] x o h last = (last, tt)
codes_push [] (p ∷ os) x o h last = absurd h
codes_push (y ∷ xs) [] x o h last = absurd h
codes_push (y ∷ xs) (p ∷ os) x o h last = (h.0, codes_push xs os x o h.1 last)

module _ (es : Entries) (codes next : List ℕ) (l : AreLinks es codes next) (e : Identifier × Record) (code : ℕ) (of : SomeIff (shown_of e.1) (IsScalar code) code) (s : AreSoundRecords (es ++ e ∷ [])) where
  abbrev codes_more : AreCodes (codes ++ code ∷ []) (map (λ d. shown_of d.1) (es ++ e ∷ []))
  codes_more = subst (AreCodes (codes ++ code ∷ [])) (sym (map-append (λ d. shown_of d.1) es (e ∷ []))) (codes_push codes (map (λ d. shown_of d.1) es) code (shown_of e.1) l.each_shown of)

  -- its element is linked in
  pub links_more : (above : Option ℕ) (ch : ℕ) → e.1.ch ≡ Some ch → IsNodeOf e.1.parent (keys_of es) above → length next < WAITS
      → AreLinks (es ++ e ∷ []) (codes ++ code ∷ []) (with_link above next)
  links_more above ch some node room =
      let before : AreSoundRecords es = sound_before es (e ∷ []) s in
      let c : Content = content_of_records es in
      record {
        each_shown = codes_more;
        linked = subst (λ ks. AreLinked (order (content_of_records (es ++ e ∷ []))) ks (with_link above next)) (sym (map-append (λ d. d.0) es (e ∷ [])))
            (subst (λ xs. AreLinked xs (keys_of es ++ e.0 ∷ []) (with_link above next)) (sym (order_linked es e (element e.1.parent ch) s.ordered s.sound (ap (option_map (element e.1.parent)) some)))
            (step (order c) (keys_of es) next l.linked e.1.parent e.0 (IsDistinct-from_sorted id_cmp (keys_of es) before.ordered) (order_distinct c (order c) (order_list c).in_order) room above node));
      }

  -- it waits, where it has none
  pub links_same : e.1.ch ≡ None → AreLinks (es ++ e ∷ []) (codes ++ code ∷ []) (next ++ WAITS ∷ [])
  links_same none = record {
    each_shown = codes_more;
    linked = subst (λ ks. AreLinked (order (content_of_records (es ++ e ∷ []))) ks (next ++ WAITS ∷ [])) (sym (map-append (λ d. d.0) es (e ∷ [])))
        (step_waiting (order (content_of_records es)) (keys_of es) next l.linked e.0 (order (content_of_records (es ++ e ∷ []))) (order_unlinked es e s.ordered (ap (option_map (element e.1.parent)) none)));
  }

-- the same under other names
pub links_as : (es : Entries) (codes codes_now next next_now : List ℕ) → codes_now ≡ codes → next_now ≡ next → AreLinks es codes next → AreLinks es codes_now next_now
links_as es codes codes_now next next_now same_codes same_next l = grind (arith)

-- ---- nothing

pub links_nothing : AreLinks [] [] (0 ∷ [])
unfolding IsStrictlySortedBy
links_nothing = record {
  each_shown = tt;
  linked = record {
    chain = [];
    counted = refl;
    linked = refl;
    few = omega arith;
    ordered = sym (empty (order (content_of_records [])) (λ k. (order_list (content_of_records [])).elements k ∙ none k));
    waiting = λ i w. absurd (omega (arith, w));
  };
}
  where
    none : (k : Identifier) → is_complete (content_of_records []) k ≡ false
    none k = false_from_ne_true (is_complete (content_of_records []) k)
        (λ t. let y = inserted_if_complete (content_of_records []) k t in none-some _ (sym (inserted_at [] tt k) ∙ y.1))

    empty : (xs : List Identifier) → ((k : Identifier) → list_any (is k) xs ≡ false) → xs ≡ []
    empty [] h = refl
    empty (x ∷ xs) h = absurd (true≢false (sym (ap (λ b. b || list_any (is x) xs) (is_itself x)) ∙ h x))

-- ---- the text

-- a record is found at its identifier
own_records : (es : Entries) → AreApart es → AllByRecursion (λ e. lookup (is e.0) es ≡ Some e.1) es
own_records [] apart = tt
own_records (e ∷ es) apart = (
  ap (λ b. cond b (Some e.1) (lookup (is e.0) es)) (is_itself e.0),
  later es (IsDistinct-head is e.0 (keys_of es) apart) (own_records es (IsDistinct-tail is e.0 (keys_of es) apart)),
)
  where
    later : (fs : Entries) → AllByRecursion (λ k. is e.0 k ≡ false) (keys_of fs) → AllByRecursion (λ f. lookup (is f.0) es ≡ Some f.1) fs → AllByRecursion (λ f. cond (is f.0 e.0) (Some e.1) (lookup (is f.0) es) ≡ Some f.1) fs
    later [] others found = tt
    later (f ∷ fs) others found = (
      ap (λ b. cond b (Some e.1) (lookup (is f.0) es)) (is_swap f.0 e.0 ∙ others.0) ∙ found.0,
      later fs others.1 found.1,
    )

-- what the content shows of its element is what the record says
shown_own : (es : Entries) → AreOrdered es → AllByRecursion (λ e. shown (content_of_records es) e.0 ≡ shown_of e.1) es
shown_own es ordered = grind (arith, all_map, is, deleted_at, mark_of, inserted_at, element_of, own_records, apart_of)

-- what is shown of the records
abbrev pub kept_of : Entries → List (Option ℕ)
kept_of es = map (λ e. shown_of e.1) es

module _ (es : Entries) (codes next : List ℕ) (ordered : AreOrdered es) (l : AreLinks es codes next) where
  abbrev c : Content
  c = content_of_records es

  each_kept : (fs : Entries) → AllByRecursion (λ e. shown c e.0 ≡ shown_of e.1) fs → map (shown c) (keys_of fs) ≡ kept_of fs
  each_kept [] h = refl
  each_kept (f ∷ fs) h = λ k. h.0 k ∷ each_kept fs h.1 k

  kept_at : (i : ℕ) → i < length (keys_of es) → get_or (kept_of es) i None ≡ shown c (get_or (keys_of es) i root)
  kept_at i w = ap (λ xs. get_or xs i None) (sym (each_kept es (shown_own es ordered))) ∙ get_or-map (shown c) (keys_of es) i root None w

  read_along : (chain : List ℕ) → AllByRecursion (λ i. i < length (keys_of es)) chain → chars_along (kept_of es) chain ≡ filter_map (shown c) (map (λ i. get_or (keys_of es) i root) chain)
  read_along [] h = refl
  read_along (i ∷ js) h = λ k. cons_option (kept_at i h.0 k) (read_along js h.1 k)

  -- what is shown along the links
  pub links_text : chars_along (kept_of es) l.linked.chain ≡ text c
  links_text = read_along l.linked.chain (named_within (order c) (keys_of es) next l.linked) ∙ ap (filter_map (shown c)) l.linked.ordered

  -- there are no more of them than are kept
  pub links_few : length l.linked.chain ≤ length (kept_of es)
  links_few = omega (arith, l.linked.few, length-map es (λ e. e.0), length-map es (λ e. shown_of e.1))
