-- Entries that are put and taken out.
use Rattle.std.proofs.Common.{◌≡◌, Bool, true, false, cond, not, ◌||◌, List, [], ◌∷◌, ◌++◌, refl, sym, ap, ◌∙◌, true≢false, arith}
use Rattle.std.specs.Prelude.{Result, OnOk}
use Rattle.std.specs.List.{list_any, AllByRecursion}
use Rattle.rga_ops.specs.Identifier.{Identifier, is_id}
use Rattle.rga_ops.proofs.IdentifierLaws.{is, is_itself, is_id-same}
use Rattle.rga_sequence.specs.declared.entry.Entry.{Entry}
use Rattle.rga_sequence.specs.Entries.{ids, has, change_after_entry, put_entry_past_larger, put_entry, without_entry}
use Rattle.rga_flat.specs.Placing.{taken_out}

pub either : (b : Bool) {P : Type 0} → (b ≡ true → P) → (b ≡ false → P) → P
either b f g = grind arith

-- either test finds the same
pub has_ids : (k : Identifier) (es : List Entry) → has k es ≡ list_any (is k) (ids es)
has_ids k [] = refl
has_ids k (e ∷ es) = ap (λ b. b || has k es) (is_id-same e.id k) ∙ ap (λ b. is k e.id || b) (has_ids k es)

-- ---- what holds of all

module _ (P : Entry → Type 0) where
  all_past : (e : Entry) (es : List Entry) → P e → AllByRecursion P es → AllByRecursion P (put_entry_past_larger e es)
  all_past e [] p h = (p, tt)
  all_past e (x ∷ es) p h = grind (arith, all_past e es p h.1)

  all_after : (parent : Identifier) (e : Entry) (es : List Entry) → P e → AllByRecursion P es → AllByRecursion P (change_after_entry parent (put_entry_past_larger e) es)
  all_after parent e [] p h = tt
  all_after parent e (x ∷ es) p h = grind (arith, all_past e es p h.1, all_after parent e es p h.1)

  pub all_put : (parent : Identifier) (e : Entry) (es : List Entry) → P e → AllByRecursion P es → AllByRecursion P (put_entry parent e es)
  all_put parent e es p h = grind (arith, all_past e es p h, all_after parent e es p h)

-- ---- what was put in goes, and the entries are as before

module _ (parent id : Identifier) (e : Entry) (it : e.id ≡ id) where
  skip_it : (es : List Entry) → without_entry id (e ∷ es) ≡ without_entry id es
  skip_it es = ap (λ b. cond (not b) (e ∷ without_entry id es) (without_entry id es)) (ap (λ k. is_id k id) it ∙ is_id-same id id ∙ is_itself id)

  keep : (y : Entry) (es : List Entry) → is_id y.id id ≡ false → without_entry id (y ∷ es) ≡ y ∷ without_entry id es
  keep y es f = ap (λ b. cond (not b) (y ∷ without_entry id es) (without_entry id es)) f

  first : (y : Entry) (es : List Entry) → has id (y ∷ es) ≡ false → is_id y.id id ≡ false
  first y es h = either (is_id y.id id) (λ t. absurd (true≢false (sym (ap (λ b. b || has id es) t) ∙ h))) (λ f. f)

  rest : (y : Entry) (es : List Entry) → has id (y ∷ es) ≡ false → has id es ≡ false
  rest y es h = sym (ap (λ b. b || has id es) (first y es h)) ∙ h

  same : (es : List Entry) → has id es ≡ false → without_entry id es ≡ es
  same [] h = refl
  same (y ∷ es) h = keep y es (first y es h) ∙ ap (λ r. y ∷ r) (same es (rest y es h))

  past : (es : List Entry) → has id es ≡ false → without_entry id (put_entry_past_larger e es) ≡ es
  past [] h = skip_it []
  past (y ∷ es) h = grind (arith, keep y (put_entry_past_larger e es) (first y es h), first y es h, past es (rest y es h), rest y es h, skip_it (y ∷ es), same (y ∷ es) h)

  behind : (es : List Entry) → has id es ≡ false → without_entry id (change_after_entry parent (put_entry_past_larger e) es) ≡ es
  behind [] h = refl
  behind (y ∷ es) h = grind (arith, keep y (put_entry_past_larger e es) (first y es h), first y es h, past es (rest y es h), rest y es h, keep y (change_after_entry parent (put_entry_past_larger e) es) (first y es h), behind es (rest y es h))

  pub put_gone : (es : List Entry) → has id es ≡ false → without_entry id (put_entry parent e es) ≡ es
  put_gone es h = grind (arith, past es h, behind es h)

pub taken_out-push : (ks : List Identifier) (k : Identifier) (es : List Entry) → taken_out (ks ++ k ∷ []) es ≡ taken_out ks (without_entry k es)
taken_out-push [] k es = refl
taken_out-push (x ∷ ks) k es = ap (without_entry x) (taken_out-push ks k es)

-- ---- results

pub on_ok_both : {A E P Q R : Type 0} (r : Result A E) → (P → Q → R) → OnOk r P → OnOk r Q → OnOk r R
on_ok_both r f p q = grind arith

pub on_ok : {A E P : Type 0} (r : Result A E) → P → OnOk r P
on_ok r p = grind arith
