-- Where the node of an identifier is, by what a search in pages finds.
use Rattle.std.proofs.Common.{◌≡◌, ◌≤◌, ◌<◌, ◌+◌, ℕ, zero, suc, Bool, true, false, cond, List, [], ◌∷◌, ◌++◌, length, take, drop, get_or, slice_index_or, refl, sym, ap, ◌∙◌, subst, arith, append_assoc}
use Rattle.std.specs.Prelude.{Some, None}
use Rattle.std.specs.List.{list_any}
use Rattle.std.specs.Map.{keys_of}
use Rattle.std.specs.Ordering.{is_eq, is_gt}
use Rattle.std.proofs.lemmas.Bool.{or_from}
use Rattle.std.proofs.lemmas.List.{append-nil, length-append, length-map, length-take-le, take_all, take_more}
use Rattle.std.proofs.lemmas.Option.{none-some}
use Rattle.rga_ops.specs.Identifier.{Identifier, id_cmp, is_id, is_root, root}
use Rattle.rga_ops.proofs.IdentifierLaws.{is, is_id-same}
use Rattle.rga_pages.specs.declared.entry.Record.{Record}
use Rattle.rga_pages.specs.Pages.{Entries, entries_in, entries_before, entries_behind, record_of, AreOrdered, AreBelow, IsPlaceInPages, IsSpot}
use Rattle.rga_pages.proofs.EntryLaws.{greater}
use Rattle.rga_pages.proofs.PartLaws.{before_is, flat_push, index_within, parted}
use Rattle.rga_pages.proofs.PlaceLaws.{Stood}
use Rattle.rga_pages.proofs.SpotLaws.{stands, record_none}
use Rattle.rga_records.specs.Links.{IsNodeOf}

-- ---- beginnings of the same list

module _ (id : Identifier) where
  none_below : (es : Entries) → AreBelow id es → list_any (λ x. is_id x id) (keys_of es) ≡ false
  none_below [] h = refl
  none_below (e ∷ es) h = or_from (is_id e.0 id) (list_any (λ x. is_id x id) (keys_of es)) (is_id-same e.0 id ∙ ap is_eq (greater (id_cmp id e.0) h.0)) (none_below es h.1)

  none_recorded : (us vs : Entries) → record_of id (us ++ vs) ≡ None → list_any (λ x. is_id x id) (keys_of us) ≡ false
  none_recorded [] vs h = refl
  none_recorded (u ∷ us) vs h = elim (is id u.0) as (λ b. is id u.0 ≡ b → cond b (Some u.1) (record_of id (us ++ vs)) ≡ None → list_any (λ x. is_id x id) (keys_of (u ∷ us)) ≡ false) [
    | true ↦ λ t some. absurd (none-some u.1 (sym some))
    | false ↦ λ f none. or_from (is_id u.0 id) (list_any (λ x. is_id x id) (keys_of us)) (is_id-same u.0 id ∙ f) (none_recorded us vs none)
  ] refl h

  front_below : (us vs xs ys : Entries) → us ++ vs ≡ xs ++ ys → length us ≤ length xs → AreBelow id xs → AreBelow id us
  front_below [] vs xs ys same few h = tt
  front_below (u ∷ us) vs [] ys same few h = absurd (omega (arith, few))
  front_below (u ∷ us) vs (x ∷ xs) ys same few h = (subst (λ e. is_gt (id_cmp id e.0) ≡ true) (sym (ap (λ es. get_or es 0 u) same)) h.0, front_below us vs xs ys (ap (drop 1) same) (omega (arith, few)) h.1)

front_there : (us vs xs ys : Entries) (e : Identifier × Record) → us ++ vs ≡ xs ++ e ∷ ys → length xs < length us → get_or (keys_of us) (length xs) root ≡ e.0
front_there [] vs xs ys e same w = absurd (omega (arith, w))
front_there (u ∷ us) vs [] ys e same w = ap (λ es. (get_or es 0 u).0) same
front_there (u ∷ us) vs (x ∷ xs) ys e same w = front_there us vs xs ys e (ap (drop 1) same) (omega (arith, w))

-- ---- places in pages

-- no more stands before a page than before a later one
pub fewer_before : (ps : List Entries) (p i q k : ℕ) → p < q → q < length ps → i ≤ length (slice_index_or ps p []) → length (entries_before ps p i) ≤ length (entries_before ps q k)
fewer_before [] p i q k less w h = absurd (omega (arith, w))
fewer_before (x ∷ ps) p i zero k less w h = absurd (omega (arith, less))
fewer_before (x ∷ ps) zero i (suc q) k less w h = omega (arith, length-append x (entries_before ps q k), length-take-le i x h, h)
fewer_before (x ∷ ps) (suc p) i (suc q) k less w h =
    omega (arith, length-append x (entries_before ps p i), length-append x (entries_before ps q k), fewer_before ps p i q k (omega (arith, less)) (omega (arith, w)) h)

-- the node of a page's first entry leads to those of the others
pub node_in_page : (ps : List Entries) (p k head : ℕ) → p < length ps → IsPlaceInPages ps p k → head ≡ suc (length (entries_in (take p ps))) → head + k ≡ suc (length (entries_before ps p k))
node_in_page ps p k head w place first =
    let page : Entries = slice_index_or ps p [] in
    omega (arith, first, ap length (before_is ps p k [] w), length-append (entries_in (take p ps)) (take k page), length-take-le k page (index_within ps p k [] place))

pub length_before : (ps : List Entries) (p i : ℕ) → p < length ps → i ≤ length (slice_index_or ps p []) → length (entries_before ps p i) ≡ length (entries_in (take p ps)) + i
length_before ps p i w h =
    let page : Entries = slice_index_or ps p [] in
    omega (arith, ap length (before_is ps p i [] w), length-append (entries_in (take p ps)) (take i page), length-take-le i page h)

-- an entry more
pub one_more_before : (ps : List Entries) (p i : ℕ) (d : Entries) (e : Identifier × Record) → p < length ps → i < length (slice_index_or ps p d) → entries_before ps p i ++ slice_index_or (slice_index_or ps p d) i e ∷ [] ≡ entries_before ps p (i + 1)
one_more_before ps p i d e w h =
    let page : Entries = slice_index_or ps p d in
    ap (λ es. es ++ slice_index_or page i e ∷ []) (before_is ps p i d w) ∙ append_assoc (entries_in (take p ps)) (take i page) (slice_index_or page i e ∷ [])
    ∙ ap (λ ys. entries_in (take p ps) ++ ys) (sym (take_more page i e h)) ∙ sym (before_is ps p (i + 1) d w)

pub none_before : (ps : List Entries) (p : ℕ) → p < length ps → entries_before ps p 0 ≡ entries_in (take p ps)
none_before ps p w = before_is ps p 0 [] w ∙ append-nil (entries_in (take p ps))

pub page_before : (ps : List Entries) (p i : ℕ) (d : Entries) → p < length ps → length (slice_index_or ps p d) ≤ i → entries_before ps p i ≡ entries_in (take (p + 1) ps)
page_before ps p i d w h =
    let page : Entries = slice_index_or ps p d in
    before_is ps p i d w ∙ ap (λ ys. entries_in (take p ps) ++ ys) (take_all i page h) ∙ sym (ap entries_in (take_more ps p d w) ∙ flat_push (take p ps) page)

-- ---- what is found, before a place

module _ (ps : List Entries) (q i : ℕ) (id : Identifier) (p k : ℕ) (w : p < length ps) where
  abbrev before : Entries
  before = entries_before ps q i

  abbrev at : Entries
  at = entries_before ps p k

  same : before ++ entries_behind ps q i ≡ at ++ entries_behind ps p k
  same = sym (parted ps q i) ∙ parted ps p k

  -- what is found no earlier is not among them
  pub node_later : (found : Bool) → IsSpot ps p k found id → length before ≤ length at → list_any (λ x. is_id x id) (keys_of before) ≡ false
  node_later found s few = none_below id before (front_below id before (entries_behind ps q i) at (entries_behind ps p k) same few s.below)

  -- nor is what is not found
  pub node_absent : IsSpot ps p k false id → AreOrdered (entries_in ps) → list_any (λ x. is_id x id) (keys_of before) ≡ false
  node_absent s ordered = none_recorded id before (entries_behind ps q i) (ap (record_of id) (sym (parted ps q i)) ∙ record_none s refl ordered)

  -- what is found earlier has its node
  pub node_found : (s : IsSpot ps p k true id) (node : ℕ) → node ≡ suc (length at) → node < suc (length before) → is_root id ≡ false → IsNodeOf id (keys_of before) (Some node)
  node_found s node is less other =
      let stood : Stood ps p k id = stands ps p k id [] w s in
      let within : length at < length before = omega (arith, is, less) in
      subst (λ n. IsNodeOf id (keys_of before) (Some n)) (sym is) (
        other,
        omega (arith, within, length-map before (λ e. e.0)),
        front_there before (entries_behind ps q i) at (entries_behind ps p (suc k)) stood.entry (same ∙ ap (λ r. at ++ r) stood.behind_it) within ∙ stood.named,
      )
