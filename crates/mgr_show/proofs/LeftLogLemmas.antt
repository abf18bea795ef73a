-- Logs that are taken in turn.
use Rattle.std.proofs.Common.{◌≡◌, ℕ, suc, ◌+◌, ◌<◌, Bool, ◌||◌, List, ◌∷◌, map, drop, length, get_or, ◌++◌, Option, Some, None, Ok, refl, sym, ap, subst, ◌∙◌, drop-cons, add-one}
use Rattle.std.specs.Prelude.{IfSome}
use Rattle.std.specs.List.{list_any}
use Rattle.std.proofs.Math.Bool.{or_assoc}
use Rattle.rga_ops.specs.Answer.{taken_one_by_one}
use Rattle.rga_ops.specs.Content.{Content}
use Rattle.rga_ops.specs.declared.op.Op.{Op}
use Rattle.rga_ops.proofs.TakenLaws.{one_by_one-append}
use Rattle.rga_exchange.specs.DeletionRuns.{has_deletion_runs}
use Rattle.mgr_show.specs.Log.{HasFollowed, shown_from}
use Rattle.mgr_show.specs.Joined.{in_front, all_told, then_joined, joined_from}

-- ---- what is left behind the first n logs

-- Of the logs those that are left are told too. They lead from here, behind n others, to what all lead to from the start;
-- and so it is with whether there are runs of deletions.
pub record TellsLeft (limit : ℕ) (start now : Content) (n : ℕ) (had has : Bool) (left : Option (List (List ℕ))) (logs : List (List ℕ)) : Type 0 where
  pub rest : List (List ℕ)
  pub told : left ≡ Some rest
  pub outcome : joined_from limit 0 start logs ≡ joined_from limit n now rest
  pub runs : (had || list_any has_deletion_runs logs) ≡ (has || list_any has_deletion_runs rest)

-- the first log that is left is told, and so are those behind it
pub record IsSplit (first : Option (List ℕ)) (later : Option (List (List ℕ))) (rest : List (List ℕ)) : Type 0 where
  pub bytes : List ℕ
  pub others : List (List ℕ)
  pub first_told : first ≡ Some bytes
  pub later_told : later ≡ Some others
  pub whole : rest ≡ bytes ∷ others

abbrev told_logs : List (List ℕ) → Option (List (List ℕ))
told_logs logs = Some logs

pub is_split : (first : Option (List ℕ)) (later : Option (List (List ℕ))) (rest : List (List ℕ)) → in_front first later ≡ Some rest → IsSplit first later rest
is_split None later rest h = absurd cc
is_split (Some bytes) None rest h = absurd cc
is_split (Some bytes) (Some others) rest h =
    let same : told_logs (bytes ∷ others) ≡ told_logs rest = h in
    record { bytes = bytes; others = others; first_told = refl; later_told = refl; whole = cc }

pub if_told : {A : Type 0} (P : A → Type 0) (o : Option A) (x : A) → o ≡ Some x → IfSome o P → P x
if_told P o x is h = subst (λ o. IfSome o P) is h

-- what is told of names from one on: of that one, and of those behind it
pub told_at : {X : Type 0} (contents : List ℕ → Option (List ℕ)) (bytes_of : X → List ℕ) (names : List X) (i : ℕ) (name : X) → i < length names → name ≡ get_or names i name
    → all_told contents (map bytes_of (drop i names)) ≡ in_front (contents (bytes_of name)) (all_told contents (map bytes_of (drop (i + 1) names)))
told_at {X} contents bytes_of names i name within is =
    ap (λ (l : List X). all_told contents (map bytes_of l)) (drop-cons names i name within)
    ∙ ap (λ (x : X). in_front (contents (bytes_of x)) (all_told contents (map bytes_of (drop (suc i) names)))) (sym is)
    ∙ ap (λ j. in_front (contents (bytes_of name)) (all_told contents (map bytes_of (drop j names)))) (sym (add-one i))

-- Of one log that is named next its bytes are known as at the start; so it is with the limit.
module _ (limit own : ℕ) (start now : Content) (n : ℕ) (had has : Bool) (first known : Option (List ℕ)) (left later : Option (List (List ℕ))) (same_limit : own ≡ limit) (same : known ≡ first) (split : left ≡ in_front first later) where
  -- it was taken
  pub tells_next : (next : Content) (more : Bool) (all : Option (List (List ℕ))) → IfSome all (TellsLeft limit start now n had has left) → IfSome known (λ bytes. shown_from own now bytes ≡ Ok next)
      → IfSome known (λ bytes. more ≡ (has || has_deletion_runs bytes)) → IfSome all (TellsLeft limit start next (n + 1) had more later)
  tells_next next more None h taken runs = tt
  tells_next next more (Some logs) h taken runs =
      let w = is_split first later h.rest (sym split ∙ h.told) in
      let here : shown_from limit now w.bytes ≡ Ok next = subst (λ l. shown_from l now w.bytes ≡ Ok next) same_limit (if_told (λ bytes. shown_from own now bytes ≡ Ok next) known w.bytes (same ∙ w.first_told) taken) in
      record {
        rest = w.others;
        told = w.later_told;
        outcome = h.outcome ∙ ap (joined_from limit n now) w.whole ∙ ap (λ r. then_joined n r (λ d. joined_from limit (n + 1) d w.others)) here;
        runs =
            h.runs ∙ ap (λ (rest : List (List ℕ)). has || list_any has_deletion_runs rest) w.whole
            ∙ sym (or_assoc has (has_deletion_runs w.bytes) (list_any has_deletion_runs w.others))
            ∙ ap (λ b. b || list_any has_deletion_runs w.others) (sym (if_told (λ bytes. more ≡ (has || has_deletion_runs bytes)) known w.bytes (same ∙ w.first_told) runs));
      }

-- ---- what was taken one after another

pub follows_more : {limit own : ℕ} {c d e : Content} {P Q R : List Op → Type 0} → own ≡ limit → ((xs ys : List Op) → P xs → Q ys → R (xs ++ ys))
    → HasFollowed (record { limit = limit; old = c; new = d; follows = P }) → HasFollowed (record { limit = own; old = d; new = e; follows = Q }) → HasFollowed (record { limit = limit; old = c; new = e; follows = R })
follows_more {limit} {own} {c} {d} {e} same on f g = record {
  ops = f.ops ++ g.ops;
  taken = one_by_one-append limit c d f.ops g.ops f.taken ∙ subst (λ l. taken_one_by_one l d g.ops ≡ Ok e) same g.taken;
  follows = on f.ops g.ops f.follows g.follows;
}
