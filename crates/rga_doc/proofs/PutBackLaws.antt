-- Each restored element stands directly behind the one that it restores.
use Rattle.rga_doc.proofs.Prelude.{◌≡◌, ℕ, zero, suc, ◌+◌, true, false, cond, ◌||◌, List, [], ◌∷◌, ◌++◌, length, refl, sym, ap, ◌∙◌, subst, arith, true≢false, Some, Ok, list_any, slice_get, AllByRecursion, or_right, none-some, Identifier, identifier}
use Rattle.rga_doc.proofs.Prelude.{is_id, is_root, Content, clock_of, join, content_of, is_complete, order, change_after, put_behind, is, is_id-same, is_id-is, all_map, order_list, is_complete-iff, not_complete_root, revert_operations, revert_answer}
use Rattle.rga_doc.proofs.Prelude.{are_restorable, put_back, StandsDirectlyBehind}
use Rattle.rga_doc.proofs.EditLaws.{allowed}
use Rattle.rga_doc.proofs.RevertSets.{elements_of, AreApart, apart_if_restorable}
use Rattle.rga_doc.proofs.RevertLaws.{back_complete, revert_order}

-- with one more in front
further : (w : Identifier) {xs : List Identifier} {x y : Identifier} → StandsDirectlyBehind xs x y → StandsDirectlyBehind (w ∷ xs) x y
further w s = record { before = w ∷ s.before; after = s.after; parts = ap (λ ys. w ∷ ys) s.parts }

-- ---- one that is put behind another

put_inside : (xs : List Identifier) (x y : Identifier) → list_any (is x) xs ≡ true → StandsDirectlyBehind (change_after x (λ ys. y ∷ ys) xs) x y
put_inside [] x y m = absurd (true≢false (sym m))
put_inside (w ∷ xs) x y m = elim (is_id w x) as (λ b. is_id w x ≡ b → StandsDirectlyBehind (cond b (w ∷ y ∷ xs) (w ∷ change_after x (λ ys. y ∷ ys) xs)) x y) [
  | true ↦ λ t. record { before = []; after = xs; parts = ap (λ v. v ∷ y ∷ xs) (is_id-is w x t) }
  | false ↦ λ f.
      let there : list_any (is x) xs ≡ true = sym (ap (λ b. b || list_any (is x) xs) (sym (is_id-same w x) ∙ f)) ∙ m in
      further w (put_inside xs x y there)
] refl

put_there : (xs : List Identifier) (x y : Identifier) → list_any (is x) xs ≡ true → is_root x ≡ false → StandsDirectlyBehind (put_behind x y xs) x y
put_there xs x y m element = subst (λ b. StandsDirectlyBehind (cond b (y ∷ xs) (change_after x (λ ys. y ∷ ys) xs)) x y) (sym element) (put_inside xs x y m)

-- ---- it stays there when others are put behind others

put_between : (before after : List Identifier) (x y parent z : Identifier) → is_id x parent ≡ false → StandsDirectlyBehind (change_after parent (λ ys. z ∷ ys) (before ++ x ∷ y ∷ after)) x y
put_between [] after x y parent z other =
    let rest : List Identifier = change_after parent (λ ys. z ∷ ys) after in
    subst (λ b. StandsDirectlyBehind (cond b (x ∷ z ∷ y ∷ after) (x ∷ cond (is_id y parent) (y ∷ z ∷ after) (y ∷ rest))) x y) (sym other)
    (elim (is_id y parent) as (λ b. StandsDirectlyBehind (x ∷ cond b (y ∷ z ∷ after) (y ∷ rest)) x y) [
      | true ↦ record { before = []; after = z ∷ after; parts = refl }
      | false ↦ record { before = []; after = rest; parts = refl }
    ])
put_between (w ∷ before) after x y parent z other = grind (arith, is_id, change_after, true, false, further, put_between before after x y parent z other)

stays_behind : (xs : List Identifier) (x y parent z : Identifier) → is_id x parent ≡ false → StandsDirectlyBehind xs x y → StandsDirectlyBehind (put_behind parent z xs) x y
stays_behind xs x y parent z other s = grind (arith, is_root, change_after, true, further, false, put_between)

stays_put_back : (back : List (Identifier × ℕ)) (replica last : ℕ) (xs : List Identifier) (x y : Identifier) → AllByRecursion (λ q. is q x ≡ false) (elements_of back) → StandsDirectlyBehind xs x y → StandsDirectlyBehind (put_back replica last back xs) x y
stays_put_back [] replica last xs x y apart s = s
stays_put_back (b ∷ back) replica last xs x y apart s =
    let id : Identifier = identifier (last + 1) replica in
    stays_put_back back replica (last + 1) (put_behind b.0 id xs) x y apart.1 (stays_behind xs x y b.0 id (is_id-same x b.0 ∙ apart.0) s)

-- ---- so each of them does

-- an element of the list
record IsIn (xs : List Identifier) (q : Identifier) : Type 0 where
  element : is_root q ≡ false
  member : list_any (is q) xs ≡ true

member_after : (q parent y : Identifier) (xs : List Identifier) → list_any (is q) xs ≡ true → list_any (is q) (change_after parent (λ ys. y ∷ ys) xs) ≡ true
member_after q parent y [] m = m
member_after q parent y (x ∷ xs) m = elim (is_id x parent) as (λ b. list_any (is q) (cond b (x ∷ y ∷ xs) (x ∷ change_after parent (λ ys. y ∷ ys) xs)) ≡ true) [
  | true ↦ elim (is q x) as (λ b. (b || list_any (is q) xs) ≡ true → (b || (is q y || list_any (is q) xs)) ≡ true) [
    | true ↦ λ m. refl
    | false ↦ λ m. or_right (is q y) (list_any (is q) xs) m
  ] m
  | false ↦ elim (is q x) as (λ b. (b || list_any (is q) xs) ≡ true → (b || list_any (is q) (change_after parent (λ ys. y ∷ ys) xs)) ≡ true) [
    | true ↦ λ m. refl
    | false ↦ λ m. member_after q parent y xs m
  ] m
]

in_still : (parent y : Identifier) (xs : List Identifier) (q : Identifier) → IsIn xs q → IsIn (put_behind parent y xs) q
in_still parent y xs q s = record {
  element = s.element;
  member = elim (is_root parent) as (λ b. list_any (is q) (cond b (y ∷ xs) (change_after parent (λ ys. y ∷ ys) xs)) ≡ true) [
    | true ↦ or_right (is q y) (list_any (is q) xs) s.member
    | false ↦ member_after q parent y xs s.member
  ];
}

-- each restored element stands directly behind its own
abbrev pub AreBehind : List Identifier → ℕ → ℕ → List (Identifier × ℕ) → Type 0
AreBehind ys replica last [] = Unit {0}
AreBehind ys replica last (b ∷ back) = StandsDirectlyBehind ys b.0 (identifier (last + 1) replica) × AreBehind ys replica (last + 1) back

all_behind : (back : List (Identifier × ℕ)) (replica last : ℕ) (xs : List Identifier) → AllByRecursion (IsIn xs) (elements_of back) → AreApart back → AreBehind (put_back replica last back xs) replica last back
all_behind [] replica last xs all apart = tt
all_behind (b ∷ back) replica last xs all apart =
    let id : Identifier = identifier (last + 1) replica in
    let still : AllByRecursion (IsIn (put_behind b.0 id xs)) (elements_of back) = all_map (IsIn xs) (IsIn (put_behind b.0 id xs)) (in_still b.0 id xs) (elements_of back) all.1 in (
      stays_put_back back replica (last + 1) (put_behind b.0 id xs) b.0 id apart.0 (put_there xs b.0 id (all.0).member (all.0).element),
      all_behind back replica (last + 1) (put_behind b.0 id xs) still apart.1,
    )

each_behind : (back : List (Identifier × ℕ)) (replica last : ℕ) (ys : List Identifier) (i : ℕ) (b : Identifier × ℕ) → AreBehind ys replica last back → slice_get back i ≡ Some b → StandsDirectlyBehind ys b.0 (identifier (last + (i + 1)) replica)
each_behind (e ∷ back) replica last ys zero b all at = grind (arith, identifier)
each_behind (e ∷ back) replica last ys (suc i) b all at = grind (arith, suc, identifier, each_behind back replica (last + 1) ys i b all.1 at)
each_behind back replica last ys i b all at = absurd (none-some b at)

complete_in : (c : Content) (q : Identifier) → is_complete c q ≡ true → IsIn (order c) q
complete_in c q h = record { element = not_complete_root ((is_complete-iff c q).0 h); member = (order_list c).elements q ∙ h }

pub revert_all_behind : (limit replica : ℕ) (c : Content) (gone : List Identifier) (back : List (Identifier × ℕ)) → revert_answer limit c back ≡ Ok tt → AreBehind (order (join c (content_of (revert_operations replica c gone back)))) replica (clock_of c) back
revert_all_behind limit replica c gone back h =
    let able = (allowed limit c (are_restorable c back) (length back) h).1 in
    let all : AllByRecursion (IsIn (order c)) (elements_of back) = all_map (λ q. is_complete c q ≡ true) (IsIn (order c)) (complete_in c) (elements_of back) (back_complete c back able) in
    subst (λ xs. AreBehind xs replica (clock_of c) back) (sym (revert_order limit replica c gone back h))
    (all_behind back replica (clock_of c) (order c) all (apart_if_restorable c back able))

pub revert_behind : (limit replica : ℕ) (c : Content) (gone : List Identifier) (back : List (Identifier × ℕ)) (i : ℕ) (b : Identifier × ℕ) → revert_answer limit c back ≡ Ok tt → slice_get back i ≡ Some b → StandsDirectlyBehind (order (join c (content_of (revert_operations replica c gone back)))) b.0 (identifier (clock_of c + (i + 1)) replica)
revert_behind limit replica c gone back i b h at = each_behind back replica (clock_of c) (order (join c (content_of (revert_operations replica c gone back)))) i b (revert_all_behind limit replica c gone back h) at
