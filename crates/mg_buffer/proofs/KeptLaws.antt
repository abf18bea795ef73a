-- A buffer whose document holds more, and whose history is about the same.
use Rattle.mg_buffer.proofs.Prelude.{◌≡◌, ◌≤◌, refl, false, true≢false, arith, Bool, true, Option, sym, ap, ◌∙◌, subst, option_map_or, Content, clock_of, join, nothing, text, Document, KnownLine, Marker, are_revertible, PastList, newest_restored, IsAtHand, IsKeptBuffer, IsLineOfPlace, stands}
use Rattle.rga_ops.proofs.ContentLaws.{join_nothing}
use Rattle.rga_doc.proofs.PlaceLaws.{stands_still}
use Rattle.mg_buffer.proofs.GroupLaws.{still_revertible, mark_stands_still}
use Rattle.mg_buffer.proofs.LineLaws.{first_line}
use Rattle.mg_buffer.proofs.OldLaws.{clock_goes_on}

module _ (d e : Document) (point : Marker) (line : KnownLine) (mark : Option Marker) (h i : PastList) (listed : Bool) (kept : IsKeptBuffer d point line mark h listed) (pasts : i.pasts ≡ h.pasts) (newest : newest_restored i ≤ newest_restored h) where
  kept_joined : (x : Content) (known : KnownLine) (now : Bool) → e.content ≡ join d.content x → IsLineOfPlace (text e.content) known → (now ≡ true → IsAtHand e point known mark) → IsKeptBuffer e point known mark i now
  kept_joined x known now whole line_known at_hand = record {
    point_stands = ap (λ c. stands c point) whole ∙ stands_still d.content x point.element kept.point_stands;
    mark_stands = ap (λ c. option_map_or (stands c) mark true) whole ∙ mark_stands_still d.content x mark kept.mark_stands;
    line_known = line_known;
    old = omega (arith, kept.old, clock_goes_on d.content x, newest, ap clock_of whole);
    revertible = (λ k. are_revertible (whole k) (pasts k)) ∙ still_revertible d.content x h.pasts kept.revertible;
    at_hand = at_hand;
  }

  same_joined : (now : Bool) → e.content ≡ d.content → (now ≡ true → IsAtHand e point line mark) → IsKeptBuffer e point line mark i now
  same_joined now same = kept_joined nothing line now (same ∙ sym (join_nothing d.content)) (subst (λ c. IsLineOfPlace (text c) line) (sym same) kept.line_known)

  -- so it is where nothing was taken
  pub kept_still : e ≡ d → IsKeptBuffer e point line mark i listed
  kept_still same = same_joined listed (ap (λ (f : Document). f.content) same) (λ now. subst (λ f. IsAtHand f point line mark) (sym same) (kept.at_hand now))

  pub kept_unlisted : e.content ≡ d.content → IsKeptBuffer e point line mark i false
  kept_unlisted same = same_joined false same (λ never. absurd (true≢false (sym never)))

-- so it is where operations were taken, and the line of the front is known
pub kept_taken : (d e : Document) (point : Marker) (line front : KnownLine) (mark : Option Marker) (h : PastList) (listed : Bool) (x : Content) → IsKeptBuffer d point line mark h listed
    → e.content ≡ join d.content x → front.place ≡ 0 → front.number ≡ 0 → IsKeptBuffer e point front mark h false
kept_taken d e point line front mark h listed x kept whole at none =
    kept_joined d e point line mark h h listed kept refl (omega arith) x front false whole (first_line (text e.content) front at none) (λ never. absurd (true≢false (sym never)))
