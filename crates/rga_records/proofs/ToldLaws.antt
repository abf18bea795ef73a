-- Operations told one by one: how a list grows by what an entry, or a page, tells.
use Rattle.std.proofs.Common.{arith, ◌≡◌, ℕ, ◌+◌, ◌<◌, List, [], ◌∷◌, ◌++◌, length, map, take, slice_index_or, sym, ap, ◌∙◌, subst}
use Rattle.std.specs.List.{filter_map}
use Rattle.std.proofs.lemmas.List.{append-nil, map-append, take_more}
use Rattle.std.proofs.lemmas.List.Elements.{filter_map-append, filter-append}
use Rattle.rga_ops.specs.Operations.{insertion_of}
use Rattle.rga_ops.specs.declared.op.Op.{Op}
use Rattle.rga_ops.specs.declared.op.Op.TheVariants.{Delete}
use Rattle.rga_pages.specs.Pages.{entries_in}
use Rattle.rga_pages.proofs.PartLaws.{flat_both}
use Rattle.rga_records.specs.Records.{Entries, insertion_of_record, marked_record_ids}

-- what entries and pages tell
abbrev pub told_insertions : Entries → List Op
told_insertions es = map insertion_of (filter_map insertion_of_record es)

abbrev pub told_deletions : Entries → List Op
told_deletions es = map Delete (marked_record_ids es)

-- ---- a step of a loop, for what is listed item by item

module _ {T A : Type 0} (hears : T → List Op → T → Type 0) (hears_on : (s t u : T) (xs ys : List Op) → hears s xs t → hears t ys u → hears s (xs ++ ys) u) (list : List A → List Op) (splits : (xs ys : List A) → list (xs ++ ys) ≡ list xs ++ list ys) (all : List A) (i : ℕ) (x : A) (within : i < length all) (is : x ≡ slice_index_or all i x) (s : T) where
  pub told_more : (t u : T) → hears s (list (take i all)) t → hears t (list (x ∷ [])) u → hears s (list (take (i + 1) all)) u
  told_more t u before now =
      subst (λ os. hears s os u)
      (sym (ap list (take_more all i x within ∙ ap (λ y. take i all ++ y ∷ []) (sym is)) ∙ splits (take i all) (x ∷ [])))
      (hears_on s t u (list (take i all)) (list (x ∷ [])) before now)

-- what was heard, under other names
pub heard_as : {T : Type 0} (hears : T → List Op → T → Type 0) (s t u : T) (xs ys : List Op) → ys ≡ xs → u ≡ t → hears s xs t → hears s ys u
heard_as hears s t u xs ys same is heard = subst (λ os. hears s os u) (sym same) (subst (λ v. hears s xs v) (sym is) heard)

-- ---- what splits

pub insertions_split : (xs ys : Entries) → told_insertions (xs ++ ys) ≡ told_insertions xs ++ told_insertions ys
insertions_split xs ys = ap (map insertion_of) (filter_map-append insertion_of_record xs ys) ∙ map-append insertion_of (filter_map insertion_of_record xs) (filter_map insertion_of_record ys)

pub deletions_split : (xs ys : Entries) → told_deletions (xs ++ ys) ≡ told_deletions xs ++ told_deletions ys
deletions_split xs ys = grind (arith, filter-append, map-append)

pub page_insertions_split : (ps qs : List Entries) → told_insertions (entries_in (ps ++ qs)) ≡ told_insertions (entries_in ps) ++ told_insertions (entries_in qs)
page_insertions_split ps qs = ap told_insertions (flat_both ps qs) ∙ insertions_split (entries_in ps) (entries_in qs)

pub page_deletions_split : (ps qs : List Entries) → told_deletions (entries_in (ps ++ qs)) ≡ told_deletions (entries_in ps) ++ told_deletions (entries_in qs)
page_deletions_split ps qs = ap told_deletions (flat_both ps qs) ∙ deletions_split (entries_in ps) (entries_in qs)

pub one_page : (p : Entries) → entries_in (p ∷ []) ≡ p
one_page p = append-nil p
