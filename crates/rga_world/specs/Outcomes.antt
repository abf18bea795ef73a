-- What calls leave.
use Rattle.std.specs.Prelude.{◌≡◌, ◌<◌, ◌≤◌, ◌⊎◌, ℕ, nat_le, ◌&&◌, Bool, Some, Result, Ok, Err, MatchResult, length, slice_get}
use Rattle.rga_ops.specs.Content.{Content}
use Rattle.rga_ops.specs.Prelude.{Memory}
use Rattle.rga_doc.specs.LocalEdit.{room_answer}
use Rattle.rga_world.specs.Sites.{Site, World}
use Rattle.rga_world.specs.Steps.{Outcome}
use Rattle.rga_world.specs.declared.event.Event.{Event}
use Rattle.rga_world.specs.declared.event.Event.TheVariants.{Edit, Revert, Save, SaveOne, Deliver, DeliverList, Restart}
use Rattle.rga_world.specs.declared.refusal.WorldRefusal.{WorldRefusal}
use Rattle.rga_world.specs.declared.refusal.WorldRefusal.TheVariants.{Store}

-- The outcome is what the old value becomes, or why it stays, want of memory aside. Where memory is wanted it stays too.
abbrev pub Happens : {A : Type 0} → Result (Unit {0}) WorldRefusal → A → A → Outcome A → Type 0
Happens r old new outcome = MatchResult r (λ _. outcome ≡ Ok new) (λ e. (new ≡ old) × ((e ≡ Store Memory) ⊎ (outcome ≡ Err e)))

-- a site is there, and has room for so many identifiers more
abbrev pub HasRoomAt : World → ℕ → ℕ → Type 0
HasRoomAt w number count = (s : Site) × (slice_get w.sites number ≡ Some s) × (room_answer w.limit s.content count ≡ Ok tt)

-- of an edit and of a revert: there is room for what is put; and the places of an edit are in order
abbrev pub HasRoomAlone : ℕ → Content → Event → Type 0
HasRoomAlone limit c (Edit number lo hi put) = (room_answer limit c (length put.items) ≡ Ok tt) × (lo ≤ hi)
HasRoomAlone limit c (Revert number gone back) = room_answer limit c (length back.items) ≡ Ok tt
HasRoomAlone limit c event = Unit {0}

-- The sites of the event are there; of an edit and of a revert there is room for what is put, and the places of an edit
-- and of a list are in order.
abbrev pub MayWantMemory : World → Event → Type 0
MayWantMemory w (Edit number lo hi put) = HasRoomAt w number (length put.items) × (lo ≤ hi)
MayWantMemory w (Revert number gone back) = HasRoomAt w number (length back.items)
MayWantMemory w (Save number) = number < length w.sites
MayWantMemory w (SaveOne number place) = number < length w.sites
MayWantMemory w (Deliver taker giver place) = (taker < length w.sites) × (giver < length w.sites)
MayWantMemory w (DeliverList taker giver lo hi) = (taker < length w.sites) × (giver < length w.sites) × (lo ≤ hi)
MayWantMemory w (Restart number) = number < length w.sites

-- a world that is made may have so many sites
abbrev pub is_count : ℕ → Bool
is_count n = nat_le 1 n && nat_le n 64

-- there are so many replica numbers, so a world may have so many sites
abbrev pub is_site_count : ℕ → Bool
is_site_count n = nat_le 1 n && nat_le n 65535
