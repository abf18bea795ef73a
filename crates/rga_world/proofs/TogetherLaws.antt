-- The join of contents that all agree, and texts within its order.
use Rattle.std.proofs.Common.{zero, suc, ◌⊎◌, ◌≡◌, ℕ, Bool, true, List, [], ◌∷◌, filter, Option, Some, slice_get, refl, sym, ap, ◌∙◌, subst, inl, inr, arith, is_some, true≢false, None}
use Rattle.std.specs.Prelude.{Contains}
use Rattle.std.specs.FinMap as finite_map
use Rattle.std.proofs.lemmas.List.Elements.{Contains-append_cases, Contains-append_left}
use Rattle.rga_ops.specs.Identifier.{Identifier}
use Rattle.rga_ops.specs.Content.{Element, Content, nothing, join, Agree, IsWithin}
use Rattle.rga_ops.specs.RootPath.{is_complete}
use Rattle.rga_ops.specs.Order.{order, Precedes}
use Rattle.rga_ops.specs.Places.{is_visible, visible}
use Rattle.rga_ops.proofs.ContentLaws.{same_content, within_itself, within_chain, within_join, within_join_second, join_least, nothing_join}
use Rattle.rga_ops.proofs.AgreeLaws.{agree_swap, agree_nothing, agree_joined, agree_within}
use Rattle.rga_ops.proofs.GrowLaws.{order_within, root_path_stays}
use Rattle.rga_world.specs.Sites.{Site, World}
use Rattle.rga_world.specs.Together.{held_contents, saved_contents, contents, AllAgree, join_of, HaveSameIdentifiers}
use Rattle.rga_world.proofs.ListPlaces.{contains_at, contains_place, mapped_place, place_mapped}
use Rattle.rga_world.proofs.Consistent.{IsConsistent, sites_agree}

-- ---- lists of contents

first_of_list : (c : Content) (cs : List Content) → Contains (c ∷ cs) c
first_of_list c cs = (0, omega arith, refl)

later_in_list : (d c : Content) (cs : List Content) → Contains cs c → Contains (d ∷ cs) c
later_in_list d c cs (k, within, e) = (suc k, omega (arith, within), e)

list_cases : (d c : Content) (cs : List Content) → Contains (d ∷ cs) c → (d ≡ c) ⊎ Contains cs c
list_cases d c cs (zero, within, e) = inl e
list_cases d c cs (suc k, within, e) = inr (k, omega (arith, within), e)

agree_join_of : (cs : List Content) (d : Content) → ((c : Content) → Contains cs c → Agree c d) → Agree (join_of cs) d
agree_join_of [] d h = agree_swap d nothing (agree_nothing d)
agree_join_of (c ∷ cs) d h = agree_joined c (join_of cs) d (h c (first_of_list c cs)) (agree_join_of cs d (λ e m. h e (later_in_list c e cs m)))

all_agree_later : (d : Content) (cs : List Content) → AllAgree (d ∷ cs) → AllAgree cs
all_agree_later d cs h c e m n = h c e (later_in_list d c cs m) (later_in_list d e cs n)

-- each of them is within their join
pub within_join_of : (cs : List Content) (c : Content) → AllAgree cs → Contains cs c → IsWithin c (join_of cs)
within_join_of [] c h (k, within, e) = absurd (omega (arith, within))
within_join_of (d ∷ cs) c h m = elim (list_cases d c cs m) [
  | inl here ↦ subst (λ e. IsWithin e (join d (join_of cs))) here (within_join d (join_of cs))
  | inr later ↦
      within_chain c (join_of cs) (join d (join_of cs)) (within_join_of cs c (all_agree_later d cs h) later)
      (within_join_second d (join_of cs) (agree_swap (join_of cs) d (agree_join_of cs d (λ e n. h e d (later_in_list d e cs n) (first_of_list d cs)))))
]

nothing_within : (c : Content) → IsWithin nothing c
nothing_within c = subst (IsWithin nothing) (nothing_join c) (within_join nothing c)

-- what each of them is within, their join is within
pub join_of_least : (cs : List Content) (d : Content) → ((c : Content) → Contains cs c → IsWithin c d) → IsWithin (join_of cs) d
join_of_least [] d h = nothing_within d
join_of_least (c ∷ cs) d h = join_least c (join_of cs) d (h c (first_of_list c cs)) (join_of_least cs d (λ e m. h e (later_in_list c e cs m)))

-- ---- the contents of a world

-- each is within what some site holds
pub record IsAtSite (w : World) (c : Content) : Type 0 where
  pub number : ℕ
  pub site : Site
  pub there : slice_get w.sites number ≡ Some site
  pub within : IsWithin c site.content

held_at : (w : World) (c : Content) → Contains (held_contents w) c → IsAtSite w c
held_at w c m =
    let place = contains_place (held_contents w) c m in
    let (s, there, is) = mapped_place (λ (s : Site). s.content) w.sites place.0 c place.1 in
    record { number = place.0; site = s; there = there; within = subst (λ d. IsWithin c d) is (within_itself c) }

saved_at : (w : World) → IsConsistent w.sites → (c : Content) → Contains (saved_contents w) c → IsAtSite w c
saved_at w consistent c m =
    let place = contains_place (saved_contents w) c m in
    let (s, there, is) = mapped_place (λ (s : Site). s.saved) w.sites place.0 c place.1 in
    record { number = place.0; site = s; there = there; within = subst (λ d. IsWithin d s.content) (sym is) (consistent.held place.0 s there) }

at_site : (w : World) → IsConsistent w.sites → (c : Content) → Contains (contents w) c → IsAtSite w c
at_site w consistent c m = elim (Contains-append_cases (held_contents w) (saved_contents w) c m) [
  | inl held ↦ held_at w c held
  | inr saved ↦ saved_at w consistent c saved
]

both_agree : (w : World) → IsConsistent w.sites → (c d : Content) → IsAtSite w c → IsAtSite w d → Agree c d
both_agree w consistent c d a b = agree_within c d a.site.content b.site.content a.within b.within (sites_agree w.sites consistent a.number b.number a.site b.site a.there b.there)

pub contents_agree : (w : World) → IsConsistent w.sites → AllAgree (contents w)
contents_agree w consistent c d m n = both_agree w consistent c d (at_site w consistent c m) (at_site w consistent d n)

pub saved_agree : (w : World) → IsConsistent w.sites → AllAgree (saved_contents w)
saved_agree w consistent c d m n = both_agree w consistent c d (saved_at w consistent c m) (saved_at w consistent d n)

-- what a site holds agrees with what a site has saved
pub saved_agrees : (w : World) → IsConsistent w.sites → (taker giver : ℕ) (s g : Site) → slice_get w.sites taker ≡ Some s → slice_get w.sites giver ≡ Some g → Agree s.content g.saved
saved_agrees w consistent taker giver s g at there =
    both_agree w consistent s.content g.saved (record { number = taker; site = s; there = at; within = within_itself s.content })
    (record { number = giver; site = g; there = there; within = consistent.held giver g there })

-- ---- texts within an order

filter_within : (p q : Identifier → Bool) (xs : List Identifier) → ((x : Identifier) → p x ≡ true → q x ≡ true) → filter p (filter q xs) ≡ filter p xs
filter_within p q [] h = refl
filter_within p q (x ∷ xs) h = grind (arith, filter_within p q xs h)

complete_if_visible : (c : Content) (id : Identifier) → is_visible c id ≡ true → is_complete c id ≡ true
complete_if_visible c id h = grind arith

-- the visible elements stand in the order of what a content is within
pub visible_within : (c d : Content) → IsWithin c d → visible c ≡ filter (is_visible c) (order d)
visible_within c d w =
    ap (filter (is_visible c)) (order_within c d w) ∙ filter_within (is_visible c) (is_complete c) (order d) (complete_if_visible c)

pub precedes_within : (c d : Content) (a b : Identifier) → IsWithin c d → is_complete c a ≡ true → is_complete c b ≡ true → Precedes c a b → Precedes d a b
precedes_within c d a b w h k s = grind (arith, root_path_stays)

-- ---- contents of the same identifiers

same_if_agreed : (a b : Option Element) → ((x y : Element) → a ≡ Some x → b ≡ Some y → x ≡ y) → is_some a ≡ is_some b → a ≡ b
same_if_agreed None None h e = refl
same_if_agreed None (Some y) h e = absurd (true≢false (sym e))
same_if_agreed (Some x) None h e = absurd (true≢false e)
same_if_agreed (Some x) (Some y) h e = ap Some (h x y refl refl)

pub same_if_same_identifiers : (c d : Content) → Agree c d → HaveSameIdentifiers c d → c ≡ d
same_if_same_identifiers c d agree same =
    same_content c d (λ id. same_if_agreed (finite_map.get c.inserted id) (finite_map.get d.inserted id) (agree id) (same.inserted id)) same.deleted

-- ---- what a site holds

pub within_all : (w : World) → IsConsistent w.sites → (s : Site) → Contains w.sites s → IsWithin s.content (join_of (contents w))
within_all w consistent s m =
    let place = contains_place w.sites s m in
    within_join_of (contents w) s.content (contents_agree w consistent) (Contains-append_left (held_contents w) (saved_contents w) s.content (contains_at (held_contents w) place.0 s.content (place_mapped (λ (t : Site). t.content) w.sites place.0 s place.1)))

pub two_sites_agree : (w : World) → IsConsistent w.sites → (s t : Site) → Contains w.sites s → Contains w.sites t → Agree s.content t.content
two_sites_agree w consistent s t m n =
    let a = contains_place w.sites s m in
    let b = contains_place w.sites t n in
    sites_agree w.sites consistent a.0 b.0 s t a.1 b.1
