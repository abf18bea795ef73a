-- Entries that are put one behind the other stand in one piece.
use Rattle.std.proofs.Common.{◌≡◌, ◌<◌, true, false, cond, ◌||◌, List, [], ◌∷◌, ◌++◌, length, slice_index_or, refl, sym, ap, ◌∙◌, subst, arith, true≢false, append_assoc}
use Rattle.std.specs.Ordering.{is_gt}
use Rattle.std.proofs.lemmas.List.{append-nil}
use Rattle.std.specs.List.{IsDistinct}
use Rattle.rga_ops.specs.Identifier.{Identifier, id_cmp, is_root}
use Rattle.rga_ops.proofs.IdentifierLaws.{is_id-itself}
use Rattle.rga_sequence.specs.declared.entry.Entry.{Entry}
use Rattle.rga_sequence.specs.Entries.{has, put_entry_past_larger, put_entry, put_chain, CanFollow, IsChain, AreApart}
use Rattle.rga_sequence.proofs.BlockLaws.{itself, not_larger, never_less}
use Rattle.rga_sequence.proofs.StandLaws.{change_between, apart_front}
use Rattle.rga_sequence.proofs.PutLaws.{apart_put}

-- what stands directly behind an entry by the rule is not larger, and so not larger than what is larger than the entry
pub stops_too : (e f : Entry) (ws : List Entry) → is_gt (id_cmp f.id e.id) ≡ true → put_entry_past_larger e ws ≡ e ∷ ws → put_entry_past_larger f ws ≡ f ∷ ws
stops_too e f [] up stops = refl
stops_too e f (x ∷ ws) up stops =
    elim (is_gt (id_cmp x.id e.id)) as (λ b. is_gt (id_cmp x.id e.id) ≡ b → cond b (x ∷ put_entry_past_larger e ws) (e ∷ x ∷ ws) ≡ e ∷ x ∷ ws → put_entry_past_larger f (x ∷ ws) ≡ f ∷ x ∷ ws) [
      | true ↦ λ t s. absurd (true≢false (sym t ∙ ap (λ k. is_gt (id_cmp k e.id)) (same x e _ _ s) ∙ itself e.id))
      | false ↦ λ t s. ap (λ b. cond b (x ∷ put_entry_past_larger f ws) (f ∷ x ∷ ws)) (not_larger x.id e.id f.id t (never_less f.id e.id up))
    ] refl stops
  where
    same : (a b : Entry) (xs ys : List Entry) → a ∷ xs ≡ b ∷ ys → a.id ≡ b.id
    same a b xs ys s = let first : a ≡ b = cc in ap (λ y. y.id) first

-- the next one comes directly behind an entry
next_there : (xs ws : List Entry) (e f : Entry) → is_root e.id ≡ false → is_gt (id_cmp f.id e.id) ≡ true → AreApart (xs ++ e ∷ ws) → put_entry_past_larger e ws ≡ e ∷ ws → put_entry e.id f (xs ++ e ∷ ws) ≡ (xs ++ e ∷ []) ++ f ∷ ws
next_there xs ws e f root up apart stops = grind (arith, change_between, is_id-itself, apart_front, stops_too, append_assoc)

module _ (ws : List Entry) where
  next_apart : (xs : List Entry) (e f : Entry) → has f.id (xs ++ e ∷ ws) ≡ false → AreApart (xs ++ e ∷ ws) → AreApart ((xs ++ e ∷ []) ++ f ∷ ws)
  next_apart xs e f none apart = grind (arith, append_assoc, apart_put)

  following : (es xs : List Entry) (e : Entry) → CanFollow e.id es (xs ++ e ∷ ws) → AreApart (xs ++ e ∷ ws) → put_entry_past_larger e ws ≡ e ∷ ws → put_chain e.id es (xs ++ e ∷ ws) ≡ xs ++ e ∷ (es ++ ws)
  following [] xs e can apart stops = refl
  following (f ∷ es) xs e can apart stops =
      let next : put_entry e.id f (xs ++ e ∷ ws) ≡ (xs ++ e ∷ []) ++ f ∷ ws = next_there xs ws e f can.0 can.1 apart stops in
      ap (put_chain f.id es) next
      ∙ following es (xs ++ e ∷ []) f (subst (CanFollow f.id es) next can.3) (next_apart xs e f can.2 apart) (stops_too e f ws can.1 stops)
      ∙ append_assoc xs (e ∷ []) (f ∷ (es ++ ws))

  following_apart : (es xs : List Entry) (e : Entry) → CanFollow e.id es (xs ++ e ∷ ws) → AreApart (xs ++ e ∷ ws) → put_entry_past_larger e ws ≡ e ∷ ws → AreApart (xs ++ e ∷ (es ++ ws))
  following_apart [] xs e can apart stops = apart
  following_apart (f ∷ es) xs e can apart stops =
      let next : put_entry e.id f (xs ++ e ∷ ws) ≡ (xs ++ e ∷ []) ++ f ∷ ws = next_there xs ws e f can.0 can.1 apart stops in
      subst AreApart (append_assoc xs (e ∷ []) (f ∷ (es ++ ws)))
      (following_apart es (xs ++ e ∷ []) f (subst (CanFollow f.id es) next can.3) (next_apart xs e f can.2 apart) (stops_too e f ws can.1 stops))

-- ---- where the first stands, there stand all

module _ (parent : Identifier) (d : Entry) (s xs ws : List Entry) (apart : has d.id s ≡ false → AreApart (xs ++ d ∷ ws)) (stops : put_entry_past_larger d ws ≡ d ∷ ws) (first : put_entry parent d s ≡ xs ++ d ∷ ws) where
  pub chain_there : (es : List Entry) → 0 < length es → d ≡ slice_index_or es 0 d → IsChain parent es s → put_chain parent es s ≡ xs ++ (es ++ ws)
  chain_there [] some is chain = absurd (omega arith)
  chain_there (e ∷ es) some is chain =
      subst (λ x. put_chain parent (x ∷ es) s ≡ xs ++ x ∷ (es ++ ws)) is
      (ap (put_chain d.id es) first ∙ following ws es xs d (subst (CanFollow d.id es) first (own e es is chain).2) (apart (own e es is chain).1) stops)
    where
      own : (e : Entry) (es : List Entry) → d ≡ e → IsChain parent (e ∷ es) s → IsChain parent (d ∷ es) s
      own e es is chain = subst (λ x. IsChain parent (x ∷ es) s) (sym is) chain

  pub chain_apart : (es : List Entry) → 0 < length es → d ≡ slice_index_or es 0 d → IsChain parent es s → AreApart (xs ++ (es ++ ws))
  chain_apart [] some is chain = absurd (omega arith)
  chain_apart (e ∷ es) some is chain =
      subst (λ x. AreApart (xs ++ x ∷ (es ++ ws))) is
      (following_apart ws es xs d (subst (CanFollow d.id es) first (own e es is chain).2) (apart (own e es is chain).1) stops)
    where
      own : (e : Entry) (es : List Entry) → d ≡ e → IsChain parent (e ∷ es) s → IsChain parent (d ∷ es) s
      own e es is chain = subst (λ x. IsChain parent (x ∷ es) s) (sym is) chain

-- ---- the first entries of all

first_of_all : (parent : Identifier) (e : Entry) → (is_root parent || has parent []) ≡ true → put_entry parent e [] ≡ e ∷ []
first_of_all parent e root = grind (arith)

one_apart : (e : Entry) → AreApart ([] ++ e ∷ [])
unfolding IsDistinct
one_apart e = (tt, tt)

pub chain_alone : (parent : Identifier) (es : List Entry) → IsChain parent es [] → put_chain parent es [] ≡ es
chain_alone parent [] chain = refl
chain_alone parent (e ∷ es) chain =
    chain_there parent e [] [] [] (λ none. one_apart e) refl (first_of_all parent e chain.0) (e ∷ es) (omega arith) refl chain ∙ append-nil (e ∷ es)

pub alone_apart : (parent : Identifier) (es : List Entry) → 0 < length es → IsChain parent es [] → AreApart es
alone_apart parent [] some chain = absurd (omega arith)
alone_apart parent (e ∷ es) some chain =
    subst AreApart (append-nil (e ∷ es)) (chain_apart parent e [] [] [] (λ none. one_apart e) refl (first_of_all parent e chain.0) (e ∷ es) some refl chain)
