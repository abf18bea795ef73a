-- Operations in front of the first insertion that is new, one after another.
use Rattle.rga_store.proofs.Prelude.{◌≡◌, ℕ, ◌+◌, ◌<◌, Bool, true, false, cond, not, List, [], ◌∷◌, ◌++◌, take, drop, length, get_or, sym, ap, ◌∙◌, Some, take_while, take_more, id_of, Content, join, single, content_of, has_another, first_conflict, inserts_anew, from, join_more, Op}
use Rattle.std.proofs.lemmas.List.Sums.{take_while-cons}

module _ (c : Content) where
  abbrev passes : Op → Bool
  passes op = not (inserts_anew c op)

  -- the next operation, and those behind it
  module _ (ops : List Op) (i : ℕ) (op : Op) (within : i < length ops) (at : op ≡ get_or ops i op) where
    pub joined : join c (content_of (take (i + 1) ops)) ≡ join (join c (content_of (take i ops))) (single op)
    joined = ap (λ xs. join c (content_of xs)) (take_more ops i op within ∙ ap (λ x. take i ops ++ x ∷ []) (sym at)) ∙ join_more c (take i ops) op

    -- what is left begins with the operation, unless that inserts something anew
    left_is : (b : Bool) → inserts_anew c op ≡ b → take_while passes (drop i ops) ≡ cond (not b) (op ∷ take_while passes (drop (i + 1) ops)) []
    left_is b h = ap (take_while passes) (from ops i op within at) ∙ take_while-cons passes op (drop (i + 1) ops) ∙ ap (λ t. cond (not t) (op ∷ take_while passes (drop (i + 1) ops)) []) h

    pub conflicting : (d : Content) → inserts_anew c op ≡ false → has_another d op ≡ true → first_conflict d (take_while passes (drop i ops)) ≡ Some (id_of op)
    conflicting d h other =
        ap (first_conflict d) (left_is false h)
        ∙ ap (λ b. cond b (Some (id_of op)) (first_conflict (join d (single op)) (take_while passes (drop (i + 1) ops)))) other

    pub passed : inserts_anew c op ≡ false → has_another (join c (content_of (take i ops))) op ≡ false →
        first_conflict (join c (content_of (take i ops))) (take_while passes (drop i ops)) ≡ first_conflict (join c (content_of (take (i + 1) ops))) (take_while passes (drop (i + 1) ops))
    passed h other =
        ap (first_conflict (join c (content_of (take i ops)))) (left_is false h)
        ∙ ap (λ b. cond b (Some (id_of op)) (first_conflict (join (join c (content_of (take i ops))) (single op)) (take_while passes (drop (i + 1) ops)))) other
        ∙ ap (λ d. first_conflict d (take_while passes (drop (i + 1) ops))) (sym joined)
