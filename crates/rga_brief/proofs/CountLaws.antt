-- A content's summary has no more claims than the content knows identifiers.
use Rattle.rga_brief.proofs.Prelude.{◌≡◌, ℕ, ◌≤◌, Bool, true, false, cond, not, ◌&&◌, arith, AllByRecursion, List, [], ◌∷◌, filter, length, refl, sym, ap, ◌∙◌, subst, true≢false, Contains, or_left, or_right, Op, Block, block_cmp, block_of, is_block, inserts_in, deletes_in, digest, digests_of, inserted_in, deleted_in, own_digests, Content, Holds, known_count, operations, id_of, Summary, IsSummary, digests_at, claims_of, entry_claim, Contains-first}
use Rattle.std.specs.List.{IsDistinct}
use Rattle.std.proofs.Common.{◌-◌, zero, suc}
use Rattle.std.specs.Map.{keys_of}
use Rattle.std.specs.Set.{is_member}
use Rattle.std.specs.Option.{is_some}
use Rattle.std.specs.Ordering.{eq_by_cmp}
use Rattle.std.specs.FinMap as finite_map
use Rattle.std.specs.FinSet as finite_set
use Rattle.std.proofs.lemmas.Cmp.{eq_by_cmp_equiv}
use Rattle.std.proofs.lemmas.List.{length-map}
use Rattle.std.proofs.lemmas.List.Elements.{All-contains, filter_passes}
use Rattle.std.proofs.lemmas.Map.Entries.{length-keys_of}
use Rattle.std.proofs.lemmas.Map.Keys.{IsDistinct-from_sorted, IsDistinct-head, IsDistinct-tail}
use Rattle.std.proofs.lemmas.Map.Made.{is_some-lookup}
use Rattle.rga_ops.specs.Content.{known_ids}
use Rattle.rga_ops.specs.Identifier.{Identifier, id_cmp}
use Rattle.rga_ops.specs.declared.op.Op.TheVariants.{Insert, Delete}
use Rattle.rga_ops.proofs.AnswerLaws.{contains-known}
use Rattle.rga_ops.proofs.IdentifierLaws.{ids_total, is, same_id}
use Rattle.rga_ops.proofs.OperationsLaws.{operations_hold}
use Rattle.rga_brief.proofs.MissingLaws.{same_block, from_chosen}
use Rattle.rga_brief.proofs.OneSummary.{blocks_total}

abbrev is_same : Block → Block → Bool
is_same = eq_by_cmp block_cmp

-- ---- what is known

-- what is held is known
held_known : (c : Content) (op : Op) → Holds c op → finite_set.contains (known_ids c) (id_of op) ≡ true
held_known c (Insert id parent ch) h = contains-known c id ∙ or_left (is_some (finite_map.get c.inserted id)) (finite_set.contains c.deleted id) (ap is_some h)
held_known c (Delete id) h = contains-known c id ∙ or_right (is_some (finite_map.get c.inserted id)) (finite_set.contains c.deleted id) h

-- an identifier of a set, in that block
record HasId (ids : finite_set.FinSet id_cmp) (block : Block) : Type 0 where
  id : Identifier
  known : finite_set.contains ids id ≡ true
  there : is_block (block_of id) block ≡ true

same_itself : (block : Block) → is_same block block ≡ true
same_itself block = (eq_by_cmp_equiv blocks_total).refl block

-- one of another block stays in the set without this one
stays : (ids : finite_set.FinSet id_cmp) (block other : Block) (here : HasId ids block) → is_same block other ≡ false → HasId ids other → HasId (finite_set.remove ids here.id) other
stays ids block other here apart there = record {
  id = there.id;
  known = finite_set.contains-remove ids_total ids here.id there.id ∙ (λ k. not (differ (is there.id here.id) refl k) && there.known k);
  there = there.there;
}
  where
    differ : (b : Bool) → is there.id here.id ≡ b → is there.id here.id ≡ false
    differ false h = h
    differ true h =
        let one : block ≡ other = sym (same_block (block_of here.id) block here.there) ∙ ap block_of (sym (same_id there.id here.id h)) ∙ same_block (block_of there.id) other there.there in
        absurd (true≢false (sym (subst (λ b. is_same block b ≡ true) one (same_itself block)) ∙ apart))

all_stay : (ids : finite_set.FinSet id_cmp) (block : Block) (here : HasId ids block) (blocks : List Block) → AllByRecursion (λ y. is_same block y ≡ false) blocks → AllByRecursion (HasId ids) blocks → AllByRecursion (HasId (finite_set.remove ids here.id)) blocks
all_stay ids block here [] apart all = tt
all_stay ids block here (other ∷ blocks) apart all = (stays ids block other here apart.0 all.0, all_stay ids block here blocks apart.1 all.1)

-- a set that has something is not empty
some_in : (ids : finite_set.FinSet id_cmp) (id : Identifier) → finite_set.contains ids id ≡ true → 1 ≤ finite_set.len ids
some_in ids id known = by (finite_set.len ids) refl
  where
    by : (n : ℕ) → finite_set.len ids ≡ n → 1 ≤ n
    by zero h = absurd (true≢false (sym known ∙ ap (λ s. finite_set.contains s id) (finite_set.empty_of_len ids h) ∙ finite_set.contains-empty id_cmp id))
    by (suc n) h = omega arith

blocks_counted : (blocks : List Block) (ids : finite_set.FinSet id_cmp) → IsDistinct is_same blocks → AllByRecursion (HasId ids) blocks → length blocks ≤ finite_set.len ids
blocks_counted [] ids apart all = omega arith
blocks_counted (block ∷ blocks) ids apart all =
    let id : Identifier = all.0.id in
    let fewer : finite_set.len (finite_set.remove ids id) ≡ finite_set.len ids - 1 =
    finite_set.len-remove ids_total ids id ∙ ap (λ b. cond b (finite_set.len ids - 1) (finite_set.len ids)) all.0.known in
    let rest : length blocks ≤ finite_set.len (finite_set.remove ids id) =
    blocks_counted blocks (finite_set.remove ids id) (IsDistinct-tail is_same block blocks apart) (all_stay ids block all.0 blocks (IsDistinct-head is_same block blocks apart) all.1) in
    omega (arith, fewer, rest, some_in ids id all.0.known)

-- ---- a block with digests has something known

inserts_there : (block : Block) (op : Op) → inserts_in block op ≡ true → is_block (block_of (id_of op)) block ≡ true
inserts_there block (Insert id parent ch) h = h
inserts_there block (Delete id) h = absurd (true≢false (sym h))

deletes_there : (block : Block) (op : Op) → deletes_in block op ≡ true → is_block (block_of (id_of op)) block ≡ true
deletes_there block (Insert id parent ch) h = absurd (true≢false (sym h))
deletes_there block (Delete id) h = h

has_one : (c : Content) (block : Block) (p : Op → Bool) → ((op : Op) → p op ≡ true → is_block (block_of (id_of op)) block ≡ true) → (op : Op) (ops : List Op) → filter p (operations c) ≡ op ∷ ops → HasId (known_ids c) block
has_one c block p there op ops is =
    let chosen : Contains (filter p (operations c)) op = subst (λ xs. Contains xs op) (sym is) (Contains-first op ops) in
    record {
      id = id_of op;
      known = held_known c op (operations_hold c op (from_chosen p (operations c) op chosen));
      there = there op (All-contains (λ x. p x ≡ true) (filter p (operations c)) op (filter_passes p (operations c)) chosen);
    }

has_some : (c : Content) (block : Block) → is_some (own_digests c block) ≡ true → HasId (known_ids c) block
has_some c block h = by (inserted_in c block) (deleted_in c block) refl refl h
  where
    by : (xs ys : List Op) → inserted_in c block ≡ xs → deleted_in c block ≡ ys → is_some (digests_of (digest xs) (digest ys)) ≡ true → HasId (known_ids c) block
    by (x ∷ xs) ys first second g = has_one c block (inserts_in block) (inserts_there block) x xs first
    by [] (y ∷ ys) first second g = has_one c block (deletes_in block) (deletes_there block) y ys second
    by [] [] first second g = absurd (true≢false (sym g))

-- ---- each claim has a block of its own

all_claimed : (c : Content) (s : Summary) → IsSummary c s → (blocks : List Block) → ((block : Block) → is_member is_same blocks block ≡ true → is_some (digests_at s block) ≡ true) → AllByRecursion (HasId (known_ids c)) blocks
all_claimed c s is [] found = tt
all_claimed c s is (block ∷ blocks) found = (
  has_some c block (ap is_some (sym (is.digests block)) ∙ found block (or_left (is_same block block) (is_member is_same blocks block) (same_itself block))),
  all_claimed c s is blocks (λ other m. found other (or_right (is_same other block) (is_member is_same blocks other) m)),
)

pub few_claims : (c : Content) (s : Summary) → IsSummary c s → length (claims_of s) ≤ known_count c
few_claims c s is =
    let many : length (keys_of s) ≤ known_count c =
    blocks_counted (keys_of s) (known_ids c) (IsDistinct-from_sorted block_cmp (keys_of s) is.in_order) (all_claimed c s is (keys_of s) (λ block m. is_some-lookup (is_same block) s ∙ m)) in
    subst (λ n. n ≤ known_count c) (length-keys_of s ∙ sym (length-map s entry_claim)) many
