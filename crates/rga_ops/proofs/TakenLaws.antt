-- Operations taken one by one: what is held then, and which lists are taken whole.
use Rattle.std.proofs.Common.{◌≡◌, ℕ, false, List, [], ◌∷◌, ◌++◌, refl, sym, ap, ◌∙◌, subst, inl, inr, arith}
use Rattle.std.specs.Prelude.{Result, Ok, Err, Contains}
use Rattle.std.specs.FinMap as finite_map
use Rattle.std.specs.FinSet as finite_set
use Rattle.rga_ops.specs.Identifier.{id_cmp}
use Rattle.rga_ops.specs.Operation.{checked, id_of}
use Rattle.rga_ops.specs.Content.{Element, Content, nothing, join, single, content_of, IsWithin, IsAgreed, Holds}
use Rattle.rga_ops.specs.Answer.{taken, and_take, taken_one_by_one}
use Rattle.rga_ops.proofs.IdentifierLaws.{same_id}
use Rattle.rga_ops.proofs.ContentLaws.{same_content, get-join, contains-join, join_assoc, join_nothing, nothing_join, within_itself, within_chain, within_join}
use Rattle.rga_ops.proofs.OperationLaws.{Contains-cases, get-single, contains-single, single_holds}
use Rattle.rga_ops.proofs.AnswerLaws.{known-iff, is_element-is}
use Rattle.rga_ops.specs.declared.op.Op.{Op}
use Rattle.rga_ops.specs.declared.op.Op.TheVariants.{Insert, Delete}
use Rattle.rga_ops.specs.declared.refusal.Refusal.{Refusal}
use Rattle.rga_ops.specs.ListAnswer.{has_another}

-- ---- one operation

-- what is held already adds nothing
pub held_adds_nothing : (c : Content) (op : Op) → Holds c op → join c (single op) ≡ c
held_adds_nothing c (Insert id parent ch) h = same_content _ _
    (λ q. grind (arith, get-join c (single (Insert id parent ch)) q, get-single id parent ch q, same_id q id))
    (λ q. grind (arith, contains-join c (single (Insert id parent ch)) q, finite_set.contains-empty id_cmp q))
held_adds_nothing c (Delete id) h = same_content _ _
    (λ q. grind (arith, get-join c (single (Delete id)) q, finite_map.get-empty {X = Element} id_cmp q))
    (λ q. grind (arith, contains-join c (single (Delete id)) q, contains-single id q, same_id q id))

-- a new operation is held once it is joined
joined_holds : (c : Content) (op : Op) → has_another c op ≡ false → Holds (join c (single op)) op
joined_holds c op free = grind (arith, get-join c (single op) (id_of op), contains-join c (single op) (id_of op), single_holds op, is_element-is)

-- an operation was taken
pub record IsTaken (c : Content) (op : Op) (d : Content) : Type 0 where
  pub well_formed : checked op ≡ Ok tt
  pub joined : d ≡ join c (single op)
  pub held : Holds d op

abbrev pub took : Content → Result Content Refusal
took c = Ok c

abbrev pub refused : Refusal → Result Content Refusal
refused e = Err e

pub taken_is : (limit : ℕ) (c : Content) (op : Op) (d : Content) → taken limit c op ≡ Ok d → IsTaken c op d
taken_is limit c op d h =
    let joined : d ≡ join c (single op) = grind (arith, held_adds_nothing c op, known-iff limit c op) in
    let free : has_another c op ≡ false = grind arith in
    record { well_formed = grind arith; joined = joined; held = subst (λ e. Holds e op) (sym joined) (joined_holds c op free) }

-- ---- a list of operations

pub held_stays : (c d : Content) (op : Op) → IsWithin c d → Holds c op → Holds d op
held_stays c d op w h = grind arith

-- the operations of a list were taken
pub record AreTaken (c : Content) (ops : List Op) (d : Content) : Type 0 where
  pub joined : d ≡ join c (content_of ops)
  pub grown : IsWithin c d
  pub well_formed : (op : Op) → Contains ops op → checked op ≡ Ok tt
  pub held : (op : Op) → Contains ops op → Holds d op

pub taken_list_is : (limit : ℕ) (c : Content) (ops : List Op) (d : Content) → taken_one_by_one limit c ops ≡ Ok d → AreTaken c ops d
taken_list_is limit c [] d h = grind (arith, join_nothing, within_itself)
taken_list_is limit c (op ∷ ops) d h =
    elim (taken limit c op) as (λ r. taken limit c op ≡ r → and_take r (λ e. taken_one_by_one limit e ops) ≡ Ok d → AreTaken c (op ∷ ops) d) [
      | Err e ↦ λ r h. absurd (cc)
      | Ok e ↦ λ r h.
          let first : IsTaken c op e = taken_is limit c op e r in
          let rest : AreTaken e ops d = taken_list_is limit e ops d h in
          record {
            joined = rest.joined ∙ ap (λ x. join x (content_of ops)) first.joined ∙ join_assoc c (single op) (content_of ops);
            grown = within_chain c e d (subst (λ x. IsWithin c x) (sym first.joined) (within_join c (single op))) rest.grown;
            well_formed = λ o m. elim (Contains-cases op o ops m) [ inl same ↦ subst (λ x. checked x ≡ Ok tt) same first.well_formed | inr later ↦ rest.well_formed o later ];
            held = λ o m. elim (Contains-cases op o ops m) [ inl same ↦ subst (λ x. Holds d x) same (held_stays e d op rest.grown first.held) | inr later ↦ rest.held o later ];
          }
    ] refl h

-- a list that was taken agrees
pub taken_list_agrees : (limit : ℕ) (c : Content) (ops : List Op) (d : Content) → taken_one_by_one limit c ops ≡ Ok d → IsAgreed ops
taken_list_agrees limit c ops d h id parent other ch char a b =
    let w : AreTaken c ops d = taken_list_is limit c ops d h in
    grind (arith, w.held (Insert id parent ch) a, w.held (Insert id other char) b)

-- from an empty store on, what is held is the content of the list
pub taken_from_nothing : (limit : ℕ) (ops : List Op) (d : Content) → taken_one_by_one limit nothing ops ≡ Ok d → d ≡ content_of ops
taken_from_nothing limit ops d h = (taken_list_is limit nothing ops d h).joined ∙ nothing_join (content_of ops)

-- operations that were taken, and then others
pub one_by_one-append : (limit : ℕ) (c d : Content) (xs ys : List Op) → taken_one_by_one limit c xs ≡ Ok d → taken_one_by_one limit c (xs ++ ys) ≡ taken_one_by_one limit d ys
one_by_one-append limit c d [] ys h = let same : c ≡ d = cc in ap (λ e. taken_one_by_one limit e ys) same
one_by_one-append limit c d (x ∷ xs) ys h =
    elim (taken limit c x) as (λ r. and_take r (λ e. taken_one_by_one limit e xs) ≡ Ok d → and_take r (λ e. taken_one_by_one limit e (xs ++ ys)) ≡ taken_one_by_one limit d ys) [
      | Ok e ↦ λ k. one_by_one-append limit e d xs ys k
      | Err e ↦ λ k. absurd (cc)
    ] h
