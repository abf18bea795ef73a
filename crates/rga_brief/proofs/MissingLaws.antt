-- Digests, operation by operation; what is sent by them, and what comes of it.
use Rattle.rga_brief.proofs.Prelude.{◌≡◌, ℕ, ◌==◌, ◌&&◌, Bool, true, false, cond, eqb-true, eq-eqb, List, [], ◌∷◌, ◌++◌, filter, refl, sym, ap, ◌∙◌, ◌≤◌, not, subst, inl, inr, true≢false, Option, Some, None, Result, Ok, Err, IfOk, Contains, unwrap_or, option_or, option_eq, and_parts, or_cases, or_left, or_right, append-nil, filter-append, fold-append, id_of, checked, Op, Block, Digests, block_of, is_block, inserts_in, deletes_in, mixed_operation, digest, digests_of, inserted, deleted, with_operation, inserted_in, deleted_in, own_digests, Element, Content, join, single, content_of, Holds, Agree, IsAgreed, IsSound, IsWithin, known_count, AreWellFormed, IsJoinable, operations, after_answer, taken, get-join, contains-join, within_itself, within_join, join_swap, join_assoc, Contains-first, Contains-later, Contains-cases, content_inserted, content_deleted, inserted-iff, Refusal, exchange_outcome, exchange_text, Summary, IsSummary, digests_at, lacks_by, lacks, missing, DigestsTellApart, Lacking, Lacks, lacks_between, go_on, taken_in_turn}
use Rattle.rga_ops.specs.declared.op.Op.TheVariants.{Insert, Delete}
use Rattle.rga_brief.specs.declared.digests.TheConstants.{START}
use Rattle.std.proofs.lemmas.Option.{same_Some}
use Rattle.rga_ops.proofs.AnswerLaws.{known-iff}
use Rattle.rga_ops.proofs.OperationsLaws.{content_of-operations, operations_hold}
use Rattle.rga_ops.proofs.AgreeLaws.{held_agree, agree_within}
use Rattle.rga_ops.proofs.TakenLaws.{held_adds_nothing, held_stays, taken_is}
use Rattle.rga_exchange.specs.declared.fault.SendFault.{SendFault}
use Rattle.std.specs.FinMap as finite_map
use Rattle.std.specs.FinSet as finite_set

-- ---- digests, operation by operation

-- a block is known by its replica and its number
pub same_block : (a b : Block) → is_block a b ≡ true → a ≡ b
same_block a b h =
    let parts : ((a.replica == b.replica) ≡ true) × ((a.number == b.number) ≡ true) = and_parts (a.replica == b.replica) (a.number == b.number) h in
    λ k. record { replica = eqb-true a.replica b.replica parts.0 k; number = eqb-true a.number b.number parts.1 k }

pub block_itself : (b : Block) → is_block b b ≡ true
block_itself b k = eq-eqb b.replica b.replica refl k && eq-eqb b.number b.number refl k

-- ---- the digests of a block have both

pub inserted_back : (i e : Option ℕ) → inserted (digests_of i e) ≡ i
inserted_back None None = refl
inserted_back None (Some e) = refl
inserted_back (Some i) e = refl

pub deleted_back : (i e : Option ℕ) → deleted (digests_of i e) ≡ e
deleted_back None None = refl
deleted_back None (Some e) = refl
deleted_back (Some i) e = refl

-- ---- one operation more

digest_more : (ops : List Op) (op : Op) → digest (ops ++ op ∷ []) ≡ Some (mixed_operation (unwrap_or (digest ops) START) op)
digest_more [] op = refl
digest_more (o ∷ os) op = ap Some (fold-append mixed_operation (mixed_operation START o) os (op ∷ []))

abbrev both : Option ℕ → Option ℕ → Digests
both i e = record { inserted = i; deleted = e }

with_deleted : (i : Option ℕ) (e : ℕ) → digests_of i (Some e) ≡ Some (both i (Some e))
with_deleted None e = refl
with_deleted (Some i) e = refl

insertion_mixed : (b : Bool) (xs ys : List Op) (op : Op)
    → digests_of (digest (xs ++ cond b (op ∷ []) [])) (digest (ys ++ [])) ≡ cond b (Some (both (Some (mixed_operation (unwrap_or (digest xs) START) op)) (digest ys))) (digests_of (digest xs) (digest ys))
insertion_mixed true xs ys op = λ k. digests_of (digest_more xs op k) (digest (append-nil ys k))
insertion_mixed false xs ys op = λ k. digests_of (digest (append-nil xs k)) (digest (append-nil ys k))

deletion_mixed : (b : Bool) (xs ys : List Op) (op : Op)
    → digests_of (digest (xs ++ [])) (digest (ys ++ cond b (op ∷ []) [])) ≡ cond b (Some (both (digest xs) (Some (mixed_operation (unwrap_or (digest ys) START) op)))) (digests_of (digest xs) (digest ys))
deletion_mixed true xs ys op = (λ k. digests_of (digest (append-nil xs k)) (digest_more ys op k)) ∙ with_deleted (digest xs) (mixed_operation (unwrap_or (digest ys) START) op)
deletion_mixed false xs ys op = λ k. digests_of (digest (append-nil xs k)) (digest (append-nil ys k))

-- the digests of the block among the operations
abbrev pub digests_by : Block → List Op → Option Digests
digests_by block ops = digests_of (digest (filter (inserts_in block) ops)) (digest (filter (deletes_in block) ops))

-- an operation more is mixed into the digests of its block
pub operation_mixed : (block : Block) (ops : List Op) (op : Op) → digests_by block (ops ++ op ∷ []) ≡ cond (is_block (block_of (id_of op)) block) (Some (with_operation (digests_by block ops) op)) (digests_by block ops)
operation_mixed block ops (Insert id parent ch) =
    let op : Op = Insert id parent ch in
    let xs : List Op = filter (inserts_in block) ops in
    let ys : List Op = filter (deletes_in block) ops in
    (λ k. digests_of (digest (filter-append (inserts_in block) ops (op ∷ []) k)) (digest (filter-append (deletes_in block) ops (op ∷ []) k)))
    ∙ insertion_mixed (is_block (block_of id) block) xs ys op
    ∙ sym (λ k. cond (is_block (block_of id) block) (Some (both (Some (mixed_operation (unwrap_or (inserted_back (digest xs) (digest ys) k) START) op)) (deleted_back (digest xs) (digest ys) k))) (digests_by block ops))
operation_mixed block ops (Delete id) =
    let op : Op = Delete id in
    let xs : List Op = filter (inserts_in block) ops in
    let ys : List Op = filter (deletes_in block) ops in
    (λ k. digests_of (digest (filter-append (inserts_in block) ops (op ∷ []) k)) (digest (filter-append (deletes_in block) ops (op ∷ []) k)))
    ∙ deletion_mixed (is_block (block_of id) block) xs ys op
    ∙ sym (λ k. cond (is_block (block_of id) block) (Some (both (inserted_back (digest xs) (digest ys) k) (Some (mixed_operation (unwrap_or (deleted_back (digest xs) (digest ys) k) START) op)))) (digests_by block ops))

-- ---- what is sent, and what comes of it

-- ---- what is chosen of a list

pub from_chosen : (p : Op → Bool) (ops : List Op) (op : Op) → Contains (filter p ops) op → Contains ops op
from_chosen p [] op m = m
from_chosen p (x ∷ xs) op m =
    elim (p x) as (λ b. Contains (cond b (x ∷ filter p xs) (filter p xs)) op → Contains (x ∷ xs) op) [
      | true ↦ λ m. elim (Contains-cases x op (filter p xs) m) [
        | inl here ↦ subst (λ o. Contains (x ∷ xs) o) here (Contains-first x xs)
        | inr later ↦ Contains-later x op xs (from_chosen p xs op later)
      ]
      | false ↦ λ m. Contains-later x op xs (from_chosen p xs op m)
    ] m

is_chosen : (p : Op → Bool) (ops : List Op) (op : Op) → Contains ops op → p op ≡ true → Contains (filter p ops) op
is_chosen p [] op m h = m
is_chosen p (x ∷ xs) op m h = elim (Contains-cases x op xs m) [
  | inl here ↦
      let first : p x ≡ true = ap p here ∙ h in
      subst (λ b. Contains (cond b (x ∷ filter p xs) (filter p xs)) op) (sym first) (subst (λ o. Contains (x ∷ filter p xs) o) here (Contains-first x (filter p xs)))
  | inr later ↦ behind (p x) (is_chosen p xs op later h)
]
  where
    behind : (b : Bool) → Contains (filter p xs) op → Contains (cond b (x ∷ filter p xs) (filter p xs)) op
    behind true k = Contains-later x op (filter p xs) k
    behind false k = k

-- ---- what is kept of what is told is what is missing

pub missing_kept : (c : Content) (own peer : Summary) (first last : Lacking) → IsSummary c own → first ≡ record { own = own; peer = peer; ops = [] } → Lacks first (operations c) last → last.ops ≡ missing c peer
missing_kept c own peer first last is start told =
    told.chosen
    ∙ (λ k. (start k).ops ++ filter (lacks_between (start k).own (start k).peer) (operations c))
    ∙ (λ k. filter (λ op. lacks_by (is.digests (block_of (id_of op)) k) (digests_at peer (block_of (id_of op))) op) (operations c))

-- ---- what is sent is held

pub sent_holds : (c : Content) (s : Summary) (op : Op) → Contains (missing c s) op → Holds c op
sent_holds c s op m = operations_hold c op (from_chosen (lacks c s) (operations c) op m)

pub sent_within : (c : Content) (s : Summary) → IsWithin (content_of (missing c s)) c
sent_within c s = record {
  inserted = λ id x h. sent_holds c s (Insert id x.parent x.ch) (content_inserted (missing c s) id x h);
  deleted = λ id h. sent_holds c s (Delete id) (content_deleted (missing c s) id h);
}

pub sent_agreed : (c : Content) (s : Summary) → IsAgreed (missing c s)
sent_agreed c s = held_agree c (missing c s) (λ id parent ch m. sent_holds c s (Insert id parent ch) m)

or_grows : (a b e : Option Element) (x : Element) → (a ≡ None → b ≡ Some x → e ≡ Some x) → option_or a b ≡ Some x → option_or a e ≡ Some x
or_grows None b e x f h = f refl h
or_grows (Some y) b e x f h = h

-- a join has what its second part comes to have
pub joined_within : (d c : Content) (s : Summary) → IsWithin (join d (content_of (missing c s))) (join d c)
joined_within d c s = record {
  inserted = λ id x h.
      get-join d c id
      ∙ or_grows (finite_map.get d.inserted id) (finite_map.get (content_of (missing c s)).inserted id) (finite_map.get c.inserted id) x (λ none e. (sent_within c s).inserted id x e) (sym (get-join d (content_of (missing c s)) id) ∙ h);
  deleted = λ id h.
      contains-join d c id
      ∙ elim (or_cases (finite_set.contains d.deleted id) (finite_set.contains (content_of (missing c s)).deleted id) (sym (contains-join d (content_of (missing c s)) id) ∙ h)) [
        | inl own ↦ or_left (finite_set.contains d.deleted id) (finite_set.contains c.deleted id) own
        | inr sent ↦ or_right (finite_set.contains d.deleted id) (finite_set.contains c.deleted id) ((sent_within c s).deleted id sent)
      ];
}

-- ---- what is left out is held

not_false : (b : Bool) → not b ≡ false → b ≡ true
not_false true h = refl
not_false false h = absurd (true≢false h)

same_digest : (a b : Option ℕ) → not (option_eq (λ m n. m == n) a b) ≡ false → a ≡ b
same_digest None None h = refl
same_digest None (Some n) h = absurd (true≢false h)
same_digest (Some m) None h = absurd (true≢false h)
same_digest (Some m) (Some n) h = ap Some (eqb-true m n (not_false (m == n) h))

left_out_held : (c d : Content) (s : Summary) → IsSummary d s → DigestsTellApart c d → (op : Op) → Contains (operations c) op → lacks c s op ≡ false → Holds d op
left_out_held c d s is tell (Insert id parent ch) m h =
    let op : Op = Insert id parent ch in
    let b : Block = block_of id in
    let same : inserted (digests_at s b) ≡ inserted (own_digests c b) = same_digest (inserted (digests_at s b)) (inserted (own_digests c b)) h in
    let alike : digest (inserted_in c b) ≡ digest (inserted_in d b) =
    sym (inserted_back (digest (inserted_in c b)) (digest (deleted_in c b))) ∙ sym same ∙ ap inserted (is.digests b) ∙ inserted_back (digest (inserted_in d b)) (digest (deleted_in d b)) in
    let own : Contains (inserted_in c b) op = is_chosen (inserts_in b) (operations c) op m (block_itself b) in
    operations_hold d op (from_chosen (inserts_in b) (operations d) op (subst (λ ops. Contains ops op) (tell.insertions b alike) own))
left_out_held c d s is tell (Delete id) m h =
    let op : Op = Delete id in
    let b : Block = block_of id in
    let same : deleted (digests_at s b) ≡ deleted (own_digests c b) = same_digest (deleted (digests_at s b)) (deleted (own_digests c b)) h in
    let alike : digest (deleted_in c b) ≡ digest (deleted_in d b) =
    sym (deleted_back (digest (inserted_in c b)) (digest (deleted_in c b))) ∙ sym same ∙ ap deleted (is.digests b) ∙ deleted_back (digest (inserted_in d b)) (digest (deleted_in d b)) in
    let own : Contains (deleted_in c b) op = is_chosen (deletes_in b) (operations c) op m (block_itself b) in
    operations_hold d op (from_chosen (deletes_in b) (operations d) op (subst (λ ops. Contains ops op) (tell.deletions b alike) own))

-- ---- what may be left out of a list

-- what is held is known, and changes nothing
known_taken : (limit : ℕ) (c : Content) (op : Op) → checked op ≡ Ok tt → Holds c op → taken limit c op ≡ Ok c
known_taken limit c op well held = ap (after_answer c op) ((known-iff limit c op).1 (well, held))

-- so the others are taken, or refused, as all would be
left_out_taken : (limit : ℕ) (p : Op → Bool) (ops : List Op) (c : Content) → ((op : Op) → Contains ops op → checked op ≡ Ok tt) → ((op : Op) → Contains ops op → p op ≡ false → Holds c op)
    → taken_in_turn limit c (filter p ops) ≡ taken_in_turn limit c ops
left_out_taken limit p [] c well held = refl
left_out_taken limit p (op ∷ ops) c well held =
    by (p op) refl (λ d within. left_out_taken limit p ops d (λ o m. well o (Contains-later op o ops m)) (λ o m h. held_stays c d o within (held o (Contains-later op o ops m) h)))
  where
    after : (r : Result Content Refusal) → taken limit c op ≡ r → ((d : Content) → IsWithin c d → taken_in_turn limit d (filter p ops) ≡ taken_in_turn limit d ops)
        → go_on c r (λ d. taken_in_turn limit d (filter p ops)) ≡ go_on c r (λ d. taken_in_turn limit d ops)
    after (Ok d) h rest = rest d (subst (IsWithin c) (sym (taken_is limit c op d h).joined) (within_join c (single op)))
    after (Err e) h rest = refl

    by : (b : Bool) → p op ≡ b → ((d : Content) → IsWithin c d → taken_in_turn limit d (filter p ops) ≡ taken_in_turn limit d ops)
        → taken_in_turn limit c (cond b (op ∷ filter p ops) (filter p ops)) ≡ taken_in_turn limit c (op ∷ ops)
    by true h rest = after (taken limit c op) refl rest
    by false h rest =
        rest c (within_itself c)
        ∙ sym (ap (λ r. go_on c r (λ d. taken_in_turn limit d ops)) (known_taken limit c op (well op (Contains-first op ops)) (held op (Contains-first op ops) h)))

left_out_joined : (p : Op → Bool) (ops : List Op) (c : Content) → ((op : Op) → Contains ops op → p op ≡ false → Holds c op) → join c (content_of (filter p ops)) ≡ join c (content_of ops)
left_out_joined p [] c held = refl
left_out_joined p (op ∷ ops) c held =
    by (p op) refl (λ d within. left_out_joined p ops d (λ o m h. held_stays c d o within (held o (Contains-later op o ops m) h)))
  where
    by : (b : Bool) → p op ≡ b → ((d : Content) → IsWithin c d → join d (content_of (filter p ops)) ≡ join d (content_of ops))
        → join c (content_of (cond b (op ∷ filter p ops) (filter p ops))) ≡ join c (content_of (op ∷ ops))
    by true h rest =
        sym (join_assoc c (single op) (content_of (filter p ops))) ∙ rest (join c (single op)) (within_join c (single op)) ∙ join_assoc c (single op) (content_of ops)
    by false h rest =
        rest c (within_itself c)
        ∙ ap (λ d. join d (content_of ops)) (sym (held_adds_nothing c op (held op (Contains-first op ops) h)))
        ∙ join_assoc c (single op) (content_of ops)

-- ---- what is missing is enough

-- also for a content that has grown since it gave the summary
pub missing_taken : (limit : ℕ) (c d e : Content) (s : Summary) → IsSound c → IsSummary d s → IsWithin d e → DigestsTellApart c d → taken_in_turn limit e (missing c s) ≡ taken_in_turn limit e (operations c)
missing_taken limit c d e s sound is grown tell =
    left_out_taken limit (lacks c s) (operations c) e (λ op m. sound op (operations_hold c op m)) (λ op m h. held_stays d e op grown (left_out_held c d s is tell op m h))

pub missing_suffices : (c d e : Content) (s : Summary) → IsSummary d s → IsWithin d e → DigestsTellApart c d → join e (content_of (missing c s)) ≡ join e c
missing_suffices c d e s is grown tell =
    left_out_joined (lacks c s) (operations c) e (λ op m h. held_stays d e op grown (left_out_held c d s is tell op m h)) ∙ ap (join e) (content_of-operations c)

-- what agrees with what is missing there agrees with all
pub missing_agrees : (c d : Content) (s : Summary) → IsSummary d s → DigestsTellApart c d → Agree d (content_of (missing c s)) → Agree d c
missing_agrees c d s is tell agree id x y f g = by (lacks c s op) refl
  where
    op : Op
    op = Insert id y.parent y.ch

    listed : Contains (operations c) op
    listed = content_inserted (operations c) id y (ap (λ (e : Content). finite_map.get e.inserted id) (content_of-operations c) ∙ g)

    by : (b : Bool) → lacks c s op ≡ b → x ≡ y
    by true h = agree id x y f ((inserted-iff (missing c s) (sent_agreed c s) id y).1 (is_chosen (lacks c s) (operations c) op listed h))
    by false h = same_Some x y (sym f ∙ left_out_held c d s is tell op listed h)

pub apart_swap : (c d : Content) → DigestsTellApart c d → DigestsTellApart d c
apart_swap c d tell = record { insertions = λ block e. sym (tell.insertions block (sym e)); deletions = λ block e. sym (tell.deletions block (sym e)) }

pub both_end_alike : (c d : Content) (s t : Summary) → Agree c d → DigestsTellApart c d → IsSummary c s → IsSummary d t → join d (content_of (missing c t)) ≡ join c (content_of (missing d s))
both_end_alike c d s t agree tell here there =
    missing_suffices c d d t there (within_itself d) tell ∙ sym (join_swap c d agree) ∙ sym (missing_suffices d c c s here (within_itself c) (apart_swap c d tell))

-- ---- what is missing is received by what agrees with it

pub missing_well_formed : (c : Content) (s : Summary) → IsSound c → AreWellFormed (missing c s)
missing_well_formed c s sound op m = sound op (sent_holds c s op m)

missing_joinable : (d c : Content) (s : Summary) → Agree d c → IsJoinable d (missing c s)
missing_joinable d c s agree = record { agreed = sent_agreed c s; agree = agree_within d (content_of (missing c s)) d c (within_itself d) (sent_within c s) agree }

-- what is said of a list that was sent, where it is what a peer lacks
pub missing_received : (r : Result ℕ SendFault) (c : Content) (s : Summary) (ops : List Op) → ops ≡ missing c s
    → IfOk r (λ number. (limit : ℕ) (d : Content) → AreWellFormed ops → IsJoinable d ops → known_count (join d (content_of ops)) ≤ limit → exchange_outcome limit d (exchange_text ops) ≡ (join d (content_of ops), Ok number))
    → IfOk r (λ number. (limit : ℕ) (d : Content) → IsSound c → Agree d c → known_count (join d (content_of (missing c s))) ≤ limit → exchange_outcome limit d (exchange_text (missing c s)) ≡ (join d (content_of (missing c s)), Ok number))
missing_received (Err e) c s ops are h = h
missing_received (Ok number) c s ops are h = λ limit d sound agree fits.
    subst (λ (os : List Op). (limit : ℕ) (e : Content) → AreWellFormed os → IsJoinable e os → known_count (join e (content_of os)) ≤ limit → exchange_outcome limit e (exchange_text os) ≡ (join e (content_of os), Ok number)) are h
    limit d (missing_well_formed c s sound) (missing_joinable d c s agree) fits
