-- Which contents and lists of operations agree.
use Rattle.std.proofs.Common.{◌≡◌, ℕ, true, false, List, [], ◌∷◌, sym, ◌∙◌, subst, inl, inr, arith}
use Rattle.std.specs.Prelude.{Contains, ◌↔◌}
use Rattle.std.specs.FinMap as finite_map
use Rattle.std.proofs.lemmas.Bool.{false_from_ne_true}
use Rattle.std.proofs.lemmas.Option.{none-some}
use Rattle.rga_ops.specs.Identifier.{Identifier, id_cmp}
use Rattle.rga_ops.specs.Content.{element, Content, nothing, join, single, content_of, Holds, HasAnother, Agree, IsAgreed, IsWithin}
use Rattle.rga_ops.specs.ListAnswer.{has_another, IsJoinable}
use Rattle.rga_ops.proofs.ContentLaws.{get-join, either_option, within_itself, within_join, within_join_second}
use Rattle.rga_ops.proofs.OperationLaws.{Contains-first, Contains-later, Contains-cases, Contains-nil, single_holds, single_inserted, content_inserted, inserted-iff}
use Rattle.rga_ops.proofs.AnswerLaws.{is_element-is, another}
use Rattle.rga_ops.proofs.TakenLaws.{held_stays}
use Rattle.rga_ops.specs.declared.op.Op.{Op}
use Rattle.rga_ops.specs.declared.op.Op.TheVariants.{Insert, Delete}

-- ---- contents

pub agree_swap : (c d : Content) → Agree c d → Agree d c
agree_swap c d h id x y f g = sym (h id y x g f)

pub agree_nothing : (c : Content) → Agree c nothing
agree_nothing c id x y f g = absurd (none-some _ (sym (finite_map.get-empty id_cmp id) ∙ g))

-- what is within contents that agree agrees too
pub agree_within : (c d e f : Content) → IsWithin c e → IsWithin d f → Agree e f → Agree c d
agree_within c d e f v w h id x y p q = h id x y (v.inserted id x p) (w.inserted id y q)

-- what agrees with both agrees with their join
pub agree_joined : (c d e : Content) → Agree c e → Agree d e → Agree (join c d) e
agree_joined c d e h k id x y f g =
    either_option (finite_map.get c.inserted id) (finite_map.get d.inserted id) x (λ p. h id x y p g) (λ p. k id x y p g) (sym (get-join c d id) ∙ f)

-- ---- an operation and a content

pub has_another-iff : (c : Content) (op : Op) → (has_another c op ≡ true) ↔ HasAnother c op
has_another-iff c op = (another c op, λ h. grind (arith, is_element-is))

-- a content has no other insertion of the operation's identifier exactly where it agrees with the operation
pub no_other-iff : (c : Content) (op : Op) → (has_another c op ≡ false) ↔ Agree c (single op)
no_other-iff c op = (
  λ h id x y f g. grind (arith, single_inserted, is_element-is),
  λ h. false_from_ne_true (has_another c op) (λ t. clash op h (another c op t)),
)
  where
    clash : (op : Op) → Agree c (single op) → HasAnother c op → ⊥
    clash (Insert id parent ch) h (x, g, other) = other (h id x (element parent ch) g (single_holds (Insert id parent ch)))
    clash (Delete id) h other = other

-- ---- lists of operations

-- operations that one content has agree
pub held_agree : (c : Content) (ops : List Op) → ((id parent : Identifier) (ch : ℕ) → Contains ops (Insert id parent ch) → Holds c (Insert id parent ch)) → IsAgreed ops
held_agree c ops held id parent other ch char a b = grind (arith, held id parent ch a, held id other char b)

pub agreed_later : (op : Op) (ops : List Op) → IsAgreed (op ∷ ops) → IsAgreed ops
agreed_later op ops agreed id parent other ch char a b =
    agreed id parent other ch char (Contains-later op (Insert id parent ch) ops a) (Contains-later op (Insert id other char) ops b)

-- the first operation of a list that agrees agrees with the others
pub agreed_first : (op : Op) (ops : List Op) → IsAgreed (op ∷ ops) → Agree (single op) (content_of ops)
agreed_first op ops agreed id x y f g =
    let first : Contains (op ∷ ops) (Insert id x.parent x.ch) = subst (λ o. Contains (op ∷ ops) o) (single_inserted op id x f) (Contains-first op ops) in
    let later : Contains (op ∷ ops) (Insert id y.parent y.ch) = Contains-later op (Insert id y.parent y.ch) ops (content_inserted ops id y g) in
    let same : (x.parent ≡ y.parent) × (x.ch ≡ y.ch) = agreed id x.parent y.parent x.ch y.ch first later in
    λ k. element (same.0 k) (same.1 k)

pub agreed_both : (op : Op) (ops : List Op) → Agree (single op) (content_of ops) → IsAgreed ops → IsAgreed (op ∷ ops)
agreed_both op ops agree agreed = held_agree (content_of (op ∷ ops)) (op ∷ ops) held
  where
    held : (id parent : Identifier) (ch : ℕ) → Contains (op ∷ ops) (Insert id parent ch) → Holds (content_of (op ∷ ops)) (Insert id parent ch)
    held id parent ch m = elim (Contains-cases op (Insert id parent ch) ops m) [
      | inl here ↦ held_stays (single op) (content_of (op ∷ ops)) (Insert id parent ch) (within_join (single op) (content_of ops)) (subst (λ o. Holds (single op) o) here (single_holds op))
      | inr later ↦ held_stays (content_of ops) (content_of (op ∷ ops)) (Insert id parent ch) (within_join_second (single op) (content_of ops) agree) ((inserted-iff ops agreed id (element parent ch)).1 later)
    ]

-- ---- a list of operations and a content

pub joinable_nothing : (c : Content) → IsJoinable c []
joinable_nothing c = record { agreed = λ id parent other ch char a b. absurd (Contains-nil (Insert id parent ch) a); agree = agree_nothing c }

-- a list is joined operation by operation
pub joinable-iff : (c : Content) (op : Op) (ops : List Op) → IsJoinable c (op ∷ ops) ↔ (Agree c (single op) × IsJoinable (join c (single op)) ops)
joinable-iff c op ops = (
  λ w. (
    agree_within c (single op) c (content_of (op ∷ ops)) (within_itself c) (within_join (single op) (content_of ops)) w.agree,
    record { agreed = agreed_later op ops w.agreed; agree = rest w },
  ),
  λ (first, w). whole first w,
)
  where
    rest : IsJoinable c (op ∷ ops) → Agree (join c (single op)) (content_of ops)
    rest w =
        let among : Agree (single op) (content_of ops) = agreed_first op ops w.agreed in
        agree_joined c (single op) (content_of ops)
        (agree_within c (content_of ops) c (content_of (op ∷ ops)) (within_itself c) (within_join_second (single op) (content_of ops) among) w.agree)
        among

    whole : Agree c (single op) → IsJoinable (join c (single op)) ops → IsJoinable c (op ∷ ops)
    whole first w =
        let later : Agree c (content_of ops) = agree_within c (content_of ops) (join c (single op)) (content_of ops) (within_join c (single op)) (within_itself (content_of ops)) w.agree in
        let among : Agree (single op) (content_of ops) = agree_within (single op) (content_of ops) (join c (single op)) (content_of ops) (within_join_second c (single op) first) (within_itself (content_of ops)) w.agree in
        record {
          agreed = agreed_both op ops among w.agreed;
          agree = agree_swap (content_of (op ∷ ops)) c (agree_joined (single op) (content_of ops) c (agree_swap c (single op) first) (agree_swap c (content_of ops) later));
        }
