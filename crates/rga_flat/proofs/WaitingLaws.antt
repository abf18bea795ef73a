-- Lists under identifiers, one of which changes.
use Rattle.std.proofs.Common.{◌≡◌, List, Bool, true, false, cond, not, ◌&&◌, ◌||◌, [], ◌∷◌, ◌++◌, is_some, ap, ◌∙◌, arith}
use Rattle.std.specs.Prelude.{Option, Some, Vec}
use Rattle.std.specs.declared.alloc.Global.{Global}
use Rattle.std.specs.Option.{option_map_or, unwrap_or}
use Rattle.std.specs.BTreeMap.{get}
use Rattle.std.specs.BTreeSet.{BTreeSet, contains}
use Rattle.std.specs.List.{list_any}
use Rattle.std.specs.Map.{lookup}
use Rattle.std.proofs.Math.Bool.{and-false}
use Rattle.std.proofs.lemmas.Bool.{or_right}
use Rattle.std.specs.FinMap as finite_map
use Rattle.rga_ops.specs.Identifier.{Identifier, id_cmp}
use Rattle.rga_ops.specs.Content.{Content}
use Rattle.rga_ops.proofs.IdentifierLaws.{is, same_id}
use Rattle.rga_flat.specs.Waiting.{Waiting, under, has_list, is_listed, KeepsUnder, KeepsLists, SettlesLists, AreInserted}

abbrev pub Children : Type 0
Children = Vec Identifier Global

-- the list that is there, or else a new one, has the same
pub found_or_new : (o : Option Children) (found new : Children) → found ≡ unwrap_or o new → new.items ≡ [] → found.items ≡ option_map_or (λ v. v.items) o []
found_or_new o found new same empty = grind arith

-- no list is empty
pub under_none : (w : Waiting) (p : Identifier) → has_list w p ≡ false → under w p ≡ []
under_none w p h = grind arith

module _ (old new : Waiting) (id : Identifier) (v : Children) (changed : (q : Identifier) → get id_cmp new q ≡ cond (is id q) (Some v) (get id_cmp old q)) where
  under_now : (p : Identifier) → under new p ≡ cond (is id p) v.items (under old p)
  under_now p = grind arith

  list_now : (p : Identifier) → has_list new p ≡ (is id p || has_list old p)
  list_now p = grind arith

  pub lists_now : KeepsLists old new id
  lists_now = (λ p h. list_now p ∙ or_right (is id p) (has_list old p) h, λ p f. list_now p ∙ ap (λ b. b || has_list old p) f)

  pub same_under : v.items ≡ under old id → KeepsUnder old new
  same_under e p = grind (arith, under_now p, same_id id p)

  pub pushed_under : (k : Identifier) → v.items ≡ under old id ++ k ∷ [] → (p : Identifier) → under new p ≡ cond (is id p) (under old p ++ k ∷ []) (under old p)
  pushed_under k e p = grind (arith, under_now p, same_id id p)

-- ---- lists that are done with

module _ (w : Waiting) (old new : BTreeSet Identifier) (id : Identifier) (changed : (q : Identifier) → contains id_cmp new q ≡ cond (is id q) true (contains id_cmp old q)) where
  pub settled_now : has_list w id ≡ true → SettlesLists w old new
  settled_now h = record {
    grows = λ p t. changed p ∙ ap (cond (is id p) true) t ∙ same_true (is id p);
    within = λ p t. grind (arith, same_id id p);
  }
    where
      same_true : (b : Bool) → cond b true true ≡ true
      same_true b = grind arith

  pub inserted_now : (c : Content) → finite_map.contains_key c.inserted id ≡ true → AreInserted c old new
  inserted_now c h p t = grind (arith, same_id id p)

pub settles_on : (w : Waiting) (a b c : BTreeSet Identifier) → SettlesLists w a b → SettlesLists w b c → SettlesLists w a c
settles_on w a b c s t = record {
  grows = λ p h. t.grows p (s.grows p h);
  within = λ p h. grind (arith, t.within p h, s.within p);
}

-- no lists
pub none_under : (w : Waiting) → w.entries ≡ [] → (p : Identifier) → under w p ≡ []
none_under w e p = ap (λ es. option_map_or (λ (v : Children). v.items) (lookup (is p) es) []) e

pub none_listed : (w : Waiting) → w.entries ≡ [] → (p : Identifier) → has_list w p ≡ false
none_listed w e p = ap (λ es. is_some (lookup (is p) es)) e

pub inserted_on : (d : Content) (a b c : BTreeSet Identifier) → AreInserted d a b → AreInserted d b c → AreInserted d a c
inserted_on d a b c s t p h = grind arith

-- which lists are not done with, where one or two come
pub listed_stays : (old new : Waiting) (done : BTreeSet Identifier) (id parent : Identifier)
    → ((p : Identifier) → has_list old p ≡ true → has_list new p ≡ true) → ((p : Identifier) → is id p ≡ false → is parent p ≡ false → has_list new p ≡ has_list old p)
    → ((p : Identifier) → is_listed old done p ≡ true → is_listed new done p ≡ true) × ((p : Identifier) → is id p ≡ false → is parent p ≡ false → is_listed new done p ≡ is_listed old done p)
listed_stays old new done id parent stays others = grind arith

-- where none is done with
pub none_done : (done : BTreeSet Identifier) → done.keys ≡ [] → (p : Identifier) → contains id_cmp done p ≡ false
none_done done e p = ap (λ ks. list_any (is p) ks) e

pub listed_none : (w : Waiting) (done : BTreeSet Identifier) → done.keys ≡ [] → (p : Identifier) → has_list w p ≡ is_listed w done p
listed_none w done e p = grind (arith, none_done done e p)

pub unlisted_done : (w : Waiting) (done : BTreeSet Identifier) (p : Identifier) → contains id_cmp done p ≡ true → is_listed w done p ≡ false
unlisted_done w done p t = ap (λ b. has_list w p && not b) t ∙ and-false (has_list w p)

-- a list that changes
module _ (old new : Waiting) (id : Identifier) (v : Children) (changed : (q : Identifier) → get id_cmp new q ≡ cond (is id q) (Some v) (get id_cmp old q)) where
  pub changed_under : (f : List Identifier → List Identifier) → v.items ≡ f (under old id) → (p : Identifier) → under new p ≡ cond (is id p) (f (under old p)) (under old p)
  changed_under f e p = grind (arith, under_now old new id v changed p, same_id id p)

  pub kept_list : has_list old id ≡ true → (p : Identifier) → has_list new p ≡ has_list old p
  kept_list h p = grind (arith, list_now old new id v changed p, same_id id p)

abbrev pub list_items : Option Children → List Identifier
list_items o = option_map_or (λ v. v.items) o []
