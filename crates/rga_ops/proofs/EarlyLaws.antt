-- The first conflict in front of all that a list inserts anew.
use Rattle.std.proofs.Common.{◌≡◌, ℕ, Bool, false, cond, not, List, [], ◌∷◌, ◌++◌, drop, is_some, sym, ap, ◌∙◌, arith}
use Rattle.std.specs.Prelude.{Option, Some, None, Ok}
use Rattle.std.specs.Option.{option_or}
use Rattle.std.specs.List.{prefix_len, take_while}
use Rattle.std.specs.FinMap as finite_map
use Rattle.std.proofs.lemmas.List.{take-append-drop}
use Rattle.std.proofs.lemmas.List.Sums.{take_while-cons}
use Rattle.rga_ops.specs.Identifier.{Identifier}
use Rattle.rga_ops.specs.Content.{Content, join, content_of}
use Rattle.rga_ops.specs.ListAnswer.{first_conflict, inserts_anew, early_conflict, list_answer, IsFirstConflict}
use Rattle.rga_ops.proofs.ContentLaws.{get-join}
use Rattle.rga_ops.proofs.ListAnswerLaws.{first_conflict-append, first_conflict-iff, no_conflict-iff, list_taken-iff}
use Rattle.rga_ops.specs.declared.op.Op.{Op}
use Rattle.rga_ops.specs.declared.op.Op.TheVariants.{Insert}

-- where neither of two is there, the first is not
pub first_none : {A : Type 0} (a b : Option A) → option_or a b ≡ None → a ≡ None
first_none a b h = grind arith

-- a list has no conflict in front of where it has none
free_before : (c : Content) (xs ys : List Op) → first_conflict c (xs ++ ys) ≡ None → first_conflict c xs ≡ None
free_before c xs ys free = first_none (first_conflict c xs) (first_conflict (join c (content_of xs)) ys) (sym (first_conflict-append c xs ys) ∙ free)

-- what is taken while it passes ends in front of what does not pass
before_stop : {A : Type 0} (p : A → Bool) (xs ys : List A) (x : A) → p x ≡ false → take_while p (xs ++ x ∷ ys) ≡ take_while p xs
before_stop p [] ys x stops = take_while-cons p x ys ∙ ap (λ b. cond b (x ∷ take_while p ys) []) stops
before_stop p (w ∷ xs) ys x stops =
    take_while-cons p w (xs ++ x ∷ ys) ∙ ap (λ zs. cond (p w) (w ∷ zs) []) (before_stop p xs ys x stops) ∙ sym (take_while-cons p w xs)

module _ (c : Content) where
  abbrev passes : Op → Bool
  passes op = not (inserts_anew c op)

  abbrev before : List Op → List Op
  before ops = take_while passes ops

  abbrev rest : List Op → List Op
  rest ops = drop (prefix_len passes ops) ops

  in_parts : (ops : List Op) → before ops ++ rest ops ≡ ops
  in_parts ops = take-append-drop (prefix_len passes ops) ops

  -- a list without a conflict has no early one
  pub no_early_if_none : (ops : List Op) → first_conflict c ops ≡ None → early_conflict c ops ≡ None
  no_early_if_none ops free = free_before c (before ops) (rest ops) (ap (first_conflict c) (in_parts ops) ∙ free)

  pub no_early_if_taken : (limit : ℕ) (ops : List Op) → list_answer limit c ops ≡ Ok tt → early_conflict c ops ≡ None
  no_early_if_taken limit ops taken = no_early_if_none ops ((no_conflict-iff c ops).1 ((list_taken-iff limit c ops).0 taken).1)

  -- nor has one that inserts something anew in front of its first conflict
  pub no_early_behind_new : (xs ys : List Op) (id parent : Identifier) (ch : ℕ) → first_conflict c xs ≡ None → finite_map.get (join c (content_of xs)).inserted id ≡ None → early_conflict c (xs ++ Insert id parent ch ∷ ys) ≡ None
  no_early_behind_new xs ys id parent ch free absent =
      let new : finite_map.get c.inserted id ≡ None = first_none (finite_map.get c.inserted id) (finite_map.get (content_of xs).inserted id) (sym (get-join c (content_of xs) id) ∙ absent) in
      ap (first_conflict c) (before_stop passes xs ys (Insert id parent ch) (ap (λ o. not (not (is_some o))) new)) ∙ no_early_if_none xs free

  -- an early conflict is the list's first
  pub early_is_first : (ops : List Op) (id : Identifier) → early_conflict c ops ≡ Some id → IsFirstConflict c ops id
  early_is_first ops id early = (first_conflict-iff c ops id).0 (
      sym (ap (first_conflict c) (in_parts ops)) ∙ first_conflict-append c (before ops) (rest ops)
      ∙ ap (λ o. option_or o (first_conflict (join c (content_of (before ops))) (rest ops))) early
      )
