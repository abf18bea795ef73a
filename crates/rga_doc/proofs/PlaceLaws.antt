-- What is complete stays so, and what has a place keeps one.
use Rattle.std.proofs.Common.{arith}
use Rattle.rga_doc.proofs.Prelude.{◌≡◌, Bool, true, ◌||◌, is_some, or_cases, or_left, or_right, Identifier, is_root, Content, join, is_complete, place, within_join}
use Rattle.rga_ops.proofs.GrowLaws.{complete_stays}

abbrev pub stands : Content → Identifier → Bool
stands c id = is_some (place c id)

pub stands_is : (c : Content) (id : Identifier) → stands c id ≡ (is_root id || is_complete c id)
stands_is c id = grind arith

pub complete_still : (c x : Content) (id : Identifier) → is_complete c id ≡ true → is_complete (join c x) id ≡ true
complete_still c x id h = complete_stays c (join c x) (within_join c x) id h

pub stands_still : (c x : Content) (id : Identifier) → stands c id ≡ true → stands (join c x) id ≡ true
stands_still c x id h = grind (arith, stands_is, join, or_cases, is_root, is_complete, or_left, or_right, complete_still)
