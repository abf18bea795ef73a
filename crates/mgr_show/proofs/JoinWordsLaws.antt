-- Which logs are joined, to what, and which one is refused, in words.
use Rattle.std.proofs.Common.{◌≡◌, ℕ, suc, zero, ◌+◌, ◌≤◌, Bool, true, false, List, [], ◌∷◌, ◌++◌, length, Ok, Err, refl, sym, ap, subst, ◌∙◌, inl, inr, arith}
use Rattle.std.specs.Prelude.{◌⊎◌, ◌↔◌, Contains}
use Rattle.std.specs.List.{list_any}
use Rattle.std.specs.Cmp.{both_ways}
use Rattle.std.proofs.lemmas.List.Elements.{Contains-append_left, Contains-append_right, Contains-append_cases}
use Rattle.std.proofs.lemmas.List.Folds.{Any-from_list_any, list_any-from_Any}
use Rattle.rga_ops.specs.Content.{Content, content_of, join, known_count, nothing, HasSameOperations}
use Rattle.rga_ops.specs.ListAnswer.{IsJoinable}
use Rattle.rga_ops.specs.declared.op.Op.{Op}
use Rattle.rga_ops.proofs.ContentLaws.{join_assoc, join_nothing, nothing_join}
use Rattle.rga_ops.proofs.AgreeLaws.{agree_nothing, agree_swap}
use Rattle.rga_ops.proofs.TakenLaws.{taken_from_nothing, taken_list_agrees}
use Rattle.rga_ops.proofs.OperationLaws.{same_operations_same_content, content_of-append}
use Rattle.rga_ops.proofs.KnownLaws.{known_nothing, taken_list_within}
use Rattle.rga_ops.proofs.ListAnswerLaws.{joinable_append}
use Rattle.rga_store.specs.declared.text_store.TheConstants.{MAX_LIMIT}
use Rattle.rga_lines.specs.Log.{log_operations, HasOnlyOperations}
use Rattle.rga_lines.specs.Stream.{rest_of}
use Rattle.rga_exchange.specs.DeletionRuns.{has_deletion_runs}
use Rattle.rga_exchange.specs.Sending.{StandsFor}
use Rattle.rga_exchange.proofs.LogLaws.{log_only_operations, log_without_fault}
use Rattle.rga_exchange.proofs.MeetingLaws.{first_fits}
use Rattle.rga_exchange.specs.Compacting.{compact_text}
use Rattle.mgr_show.specs.declared.fault.JoinFault.{JoinFault}
use Rattle.mgr_show.specs.declared.fault.JoinFault.TheVariants as join
use Rattle.mgr_show.specs.Log.{ShowOutcome, shown_from}
use Rattle.mgr_show.specs.Joined.{JoinOutcome, has_far_counter, then_joined, joined_from, unless_far, join_of, all_operations, join_text, MayBeTaken, MayBeJoined, HasSameLogs, IsFirstRefused, AreFar}
use Rattle.mgr_show.proofs.ShownLaws.{read_to_end, read_is_accepted}
use Rattle.mgr_show.proofs.JoinedLaws.{joins_to, stops_at, near_joined, joined_near, refused_or_far, first_joined, joined_taken}

-- ---- members

here : {X : Type 0} (x : X) (xs : List X) → Contains (x ∷ xs) x
here x xs = (0, omega arith, refl)

later : {X : Type 0} (x y : X) (xs : List X) → Contains xs y → Contains (x ∷ xs) y
later x y xs (k, within, e) = (suc k, omega (arith, within), e)

none_in : {X : Type 0} (y : X) → Contains [] y → ⊥
none_in y (k, within, e) = omega (arith, within)

first_or_later : {X : Type 0} (x y : X) (xs : List X) → Contains (x ∷ xs) y → (x ≡ y) ⊎ Contains xs y
first_or_later x y xs h = grind (arith, h)

-- an operation of one log is one of all
in_all : (logs : List (List ℕ)) (log : List ℕ) (op : Op) → Contains logs log → Contains (log_operations log) op → Contains (all_operations logs) op
in_all [] log op m h = absurd (none_in log m)
in_all (first ∷ logs) log op m h = elim (first_or_later first log logs m) [
  | inl same ↦ Contains-append_left (log_operations first) (all_operations logs) op (subst (λ (l : List ℕ). Contains (log_operations l) op) (sym same) h)
  | inr behind ↦ Contains-append_right (log_operations first) (all_operations logs) op (in_all logs log op behind h)
]

of_one : (logs : List (List ℕ)) (op : Op) → Contains (all_operations logs) op → (log : List ℕ) × Contains logs log × Contains (log_operations log) op
of_one [] op m = absurd (none_in op m)
of_one (first ∷ logs) op m = elim (Contains-append_cases (log_operations first) (all_operations logs) op m) [
  | inl own ↦ (first, here first logs, own)
  | inr behind ↦ let w = of_one logs op behind in (w.0, later first w.0 logs w.1, w.2)
]

all_within : (xs ys : List (List ℕ)) → ((log : List ℕ) → Contains xs log → Contains ys log) → (op : Op) → Contains (all_operations xs) op → Contains (all_operations ys) op
all_within xs ys within op m = let w = of_one xs op m in in_all ys w.0 op (within w.0 w.1) w.2

any_within : (p : List ℕ → Bool) (xs ys : List (List ℕ)) → ((log : List ℕ) → Contains xs log → Contains ys log) → list_any p xs ≡ true → list_any p ys ≡ true
any_within p xs ys within is =
    let found = Any-from_list_any p xs is in
    let w = within found.1 (found.0, found.2, found.3) in
    list_any-from_Any p ys (w.0, found.1, w.1, w.2, found.4)

-- ---- which logs are joined

only_operations : (limit n : ℕ) (c d : Content) (logs : List (List ℕ)) → joined_from limit n c logs ≡ Ok d → (log : List ℕ) → Contains logs log → HasOnlyOperations log
only_operations limit n c d [] h log m = absurd (none_in log m)
only_operations limit n c d (first ∷ logs) h log m =
    let w = first_joined limit n c d first logs h in
    elim (first_or_later first log logs m) [
      | inl same ↦ let r = read_to_end limit c w.0 first w.1 in subst HasOnlyOperations same (log_only_operations limit c w.0 r.0 first r.1 r.2)
      | inr behind ↦ only_operations limit (n + 1) w.0 d logs w.2 log behind
    ]

are_joined : (limit n : ℕ) (c : Content) (logs : List (List ℕ)) → ((log : List ℕ) → Contains logs log → HasOnlyOperations log) → IsJoinable c (all_operations logs) → known_count (join c (content_of (all_operations logs))) ≤ limit
    → joined_from limit n c logs ≡ Ok (join c (content_of (all_operations logs)))
are_joined limit n c [] only joinable fits = ap Ok (sym (join_nothing c))
are_joined limit n c (first ∷ logs) only joinable fits =
    let ops : List Op = log_operations first in
    let more : List Op = all_operations logs in
    let whole : join c (content_of (ops ++ more)) ≡ join (join c (content_of ops)) (content_of more) = ap (join c) (content_of-append ops more) ∙ sym (join_assoc c (content_of ops) (content_of more)) in
    let all_fit = subst (λ d. known_count d ≤ limit) whole fits in
    let parts = (joinable_append c ops more).0 joinable in
    let read = log_without_fault limit c first (only first (here first logs)) parts.0 (first_fits limit (join c (content_of ops)) (content_of more) all_fit) in
    ap (λ r. then_joined n r (λ d. joined_from limit (n + 1) d logs)) (read_is_accepted limit c (join c (content_of ops)) first read.0 read.1 read.2)
    ∙ are_joined limit (n + 1) (join c (content_of ops)) logs (λ log m. only log (later first log logs m)) parts.1 all_fit
    ∙ ap Ok (sym whole)

taken_may_be : (logs : List (List ℕ)) (c : Content) → joined_from MAX_LIMIT 0 nothing logs ≡ Ok c → MayBeTaken logs × (c ≡ content_of (all_operations logs))
taken_may_be logs c h =
    let taken = joined_taken MAX_LIMIT 0 nothing c logs h in
    let is : c ≡ content_of (all_operations logs) = taken_from_nothing MAX_LIMIT (all_operations logs) c taken in
    let start : known_count nothing ≤ MAX_LIMIT = subst (λ n. n ≤ MAX_LIMIT) (sym known_nothing) (omega arith) in (
      record {
        only = only_operations MAX_LIMIT 0 nothing c logs h;
        agreed = taken_list_agrees MAX_LIMIT nothing (all_operations logs) c taken;
        few = subst (λ d. known_count d ≤ MAX_LIMIT) is (taken_list_within MAX_LIMIT nothing (all_operations logs) c start taken);
      },
      is,
    )

may_be_taken : (logs : List (List ℕ)) → MayBeTaken logs → joined_from MAX_LIMIT 0 nothing logs ≡ Ok (content_of (all_operations logs))
may_be_taken logs may =
    let all : Content = content_of (all_operations logs) in
    are_joined MAX_LIMIT 0 nothing logs may.only (record { agreed = may.agreed; agree = agree_swap all nothing (agree_nothing all) }) (subst (λ d. known_count d ≤ MAX_LIMIT) (sym (nothing_join all)) may.few)
    ∙ ap Ok (nothing_join all)

joined_may_be : (logs : List (List ℕ)) (c : Content) → join_of MAX_LIMIT logs ≡ Ok c → MayBeJoined logs × (c ≡ content_of (all_operations logs))
joined_may_be logs c h =
    let near = joined_near (joined_from MAX_LIMIT 0 nothing logs) c h in
    let w = taken_may_be logs c near.0 in
    (record { taken = w.0; near = subst (λ d. has_far_counter d ≡ false) w.1 near.1 }, w.1)

may_be_joined : (logs : List (List ℕ)) → MayBeJoined logs → join_of MAX_LIMIT logs ≡ Ok (content_of (all_operations logs))
may_be_joined logs may = ap unless_far (may_be_taken logs may.taken) ∙ near_joined (content_of (all_operations logs)) false may.near

pub joined-iff : (logs : List (List ℕ)) (c : Content) → (join_of MAX_LIMIT logs ≡ Ok c) ↔ (MayBeJoined logs × (c ≡ content_of (all_operations logs)))
joined-iff logs c = (joined_may_be logs c, λ (may, is). may_be_joined logs may ∙ ap Ok (sym is))

-- ---- the same logs

same_operations : (xs ys : List (List ℕ)) → HasSameLogs xs ys → HasSameOperations (all_operations xs) (all_operations ys)
same_operations xs ys same op = (all_within xs ys (λ log. (same log).0) op, all_within ys xs (λ log. (same log).1) op)

same_content : (xs ys : List (List ℕ)) → HasSameLogs xs ys → MayBeTaken xs → content_of (all_operations xs) ≡ content_of (all_operations ys)
same_content xs ys same may = same_operations_same_content (all_operations xs) (all_operations ys) may.agreed (same_operations xs ys same)

same_may_be : (xs ys : List (List ℕ)) → HasSameLogs xs ys → MayBeJoined xs → MayBeJoined ys
same_may_be xs ys same may =
    let ops = same_operations xs ys same in
    let content = same_content xs ys same may.taken in
    record {
      taken = record {
        only = λ log m. may.taken.only log ((same log).1 m);
        agreed = λ id parent other ch char a b. may.taken.agreed id parent other ch char ((ops _).1 a) ((ops _).1 b);
        few = subst (λ c. known_count c ≤ MAX_LIMIT) content may.taken.few;
      };
      near = subst (λ c. has_far_counter c ≡ false) content may.near;
    }

pub same_joined : (xs ys : List (List ℕ)) (c : Content) → HasSameLogs xs ys → join_of MAX_LIMIT xs ≡ Ok c → join_of MAX_LIMIT ys ≡ Ok c
same_joined xs ys c same h =
    let w = joined_may_be xs c h in
    may_be_joined ys (same_may_be xs ys same w.0) ∙ ap Ok (sym (w.1 ∙ same_content xs ys same w.0.taken))

pub same_text : (xs ys : List (List ℕ)) → HasSameLogs xs ys → MayBeTaken xs → join_text xs ≡ join_text ys
same_text xs ys same may =
    let content = same_content xs ys same may in
    let runs = both_ways (list_any has_deletion_runs xs) (list_any has_deletion_runs ys) (any_within has_deletion_runs xs ys (λ log. (same log).0)) (any_within has_deletion_runs ys xs (λ log. (same log).1)) in
    (λ k. compact_text (runs k) (content k))

-- ---- the first that is refused

is_first_refused : (limit n : ℕ) (c : Content) (logs : List (List ℕ)) (e : JoinFault) → joined_from limit n c logs ≡ Err e → IsFirstRefused limit n c logs e
is_first_refused limit n c [] e h = let clash : joins_to c ≡ stops_at e = h in absurd cc
is_first_refused limit n c (first ∷ logs) e h = by_first (shown_from limit c first) refl h (λ d. is_first_refused limit (n + 1) d logs e)
  where
    by_first : (r : ShowOutcome) → shown_from limit c first ≡ r → then_joined n r (λ d. joined_from limit (n + 1) d logs) ≡ Err e → ((d : Content) → joined_from limit (n + 1) d logs ≡ Err e → IsFirstRefused limit (n + 1) d logs e) → IsFirstRefused limit n c (first ∷ logs) e
    by_first (Ok d) is g behind =
        let w = behind d g in
        record {
          before = first ∷ w.before;
          log = w.log;
          later = w.later;
          split = ap (λ (l : List (List ℕ)). first ∷ l) w.split;
          content = w.content;
          joined = ap (λ r. then_joined n r (λ d. joined_from limit (n + 1) d w.before)) is ∙ w.joined;
          why = w.why;
          refused = w.refused;
          named = w.named ∙ ap (λ k. join.Log k w.why) (omega arith);
        }
    by_first (Err x) is g behind =
        let same : stops_at (join.Log n x) ≡ stops_at e = g in
        let named : e ≡ join.Log n x = cc in
        record { before = []; log = first; later = logs; split = refl; content = c; joined = refl; why = x; refused = is; named = named ∙ ap (λ k. join.Log k x) (omega arith) }

joined_append : (limit n : ℕ) (c d : Content) (xs ys : List (List ℕ)) → joined_from limit n c xs ≡ Ok d → joined_from limit n c (xs ++ ys) ≡ joined_from limit (n + length xs) d ys
joined_append limit n c d [] ys h = grind (arith, h)
joined_append limit n c d (first ∷ xs) ys h =
    let w = first_joined limit n c d first xs h in
    grind (arith, w.1, joined_append limit (n + 1) w.0 d xs ys w.2)

first_refused-iff : (limit n : ℕ) (c : Content) (logs : List (List ℕ)) (e : JoinFault) → (joined_from limit n c logs ≡ Err e) ↔ IsFirstRefused limit n c logs e
first_refused-iff limit n c logs e = (
  is_first_refused limit n c logs e,
  λ w. ap (joined_from limit n c) w.split
      ∙ joined_append limit n c w.content w.before (w.log ∷ w.later) w.joined
      ∙ ap (λ r. then_joined (n + length w.before) r (λ d. joined_from limit (n + length w.before + 1) d w.later)) w.refused
      ∙ ap Err (sym w.named),
)

-- logs that may be taken are refused if a counter is far
are_far : (logs : List (List ℕ)) (e : JoinFault) → AreFar logs e → join_of MAX_LIMIT logs ≡ Err e
are_far logs e w = ap unless_far (may_be_taken logs w.taken) ∙ near_joined (content_of (all_operations logs)) true w.far ∙ ap Err (sym w.named)

pub refused-iff : (logs : List (List ℕ)) (e : JoinFault) → (join_of MAX_LIMIT logs ≡ Err e) ↔ (IsFirstRefused MAX_LIMIT 0 nothing logs e ⊎ AreFar logs e)
refused-iff logs e = (
  λ h. elim (refused_or_far (joined_from MAX_LIMIT 0 nothing logs) e h) [
    | inl refused ↦ inl ((first_refused-iff MAX_LIMIT 0 nothing logs e).0 refused)
    | inr far ↦ let w = taken_may_be logs far.content far.taken in inr (record { taken = w.0; far = subst (λ c. has_far_counter c ≡ true) w.1 far.far; named = far.named })
  ],
  λ h. elim h [
    | inl first ↦ ap unless_far ((first_refused-iff MAX_LIMIT 0 nothing logs e).1 first)
    | inr far ↦ are_far logs e far
  ],
)

-- ---- a join in place of its logs

-- where logs are joined the index of the first makes no difference
other_index : (limit n m : ℕ) (c d : Content) (logs : List (List ℕ)) → joined_from limit n c logs ≡ Ok d → joined_from limit m c logs ≡ Ok d
other_index limit n m c d [] h = h
other_index limit n m c d (first ∷ logs) h =
    let w = first_joined limit n c d first logs h in
    ap (λ r. then_joined m r (λ e. joined_from limit (m + 1) e logs)) w.1 ∙ other_index limit (n + 1) (m + 1) w.0 d logs w.2

-- a log that stands for a content, and ends in a newline, is accepted
standing_is_accepted : (bytes : List ℕ) (d : Content) → StandsFor bytes d → rest_of bytes ≡ [] → known_count d ≤ MAX_LIMIT → shown_from MAX_LIMIT nothing bytes ≡ Ok d
standing_is_accepted bytes d stands ended few =
    let own : Content = content_of (log_operations bytes) in
    let is : d ≡ join nothing own = stands.content ∙ sym (nothing_join own) in
    let read = log_without_fault MAX_LIMIT nothing bytes (record { lines = stands.lines; rest = inl ended }) (record { agreed = stands.agreed; agree = agree_swap own nothing (agree_nothing own) }) (subst (λ e. known_count e ≤ MAX_LIMIT) is few) in
    read_is_accepted MAX_LIMIT nothing (join nothing own) bytes read.0 read.1 read.2 ∙ ap Ok (sym is)

-- outcomes that lead to the same contents do so if these are near
same_unless_far : (r s : JoinOutcome) (c : Content) → (r ≡ Ok c → s ≡ Ok c) → unless_far r ≡ Ok c → unless_far s ≡ Ok c
same_unless_far r s c same h = let w = joined_near r c h in ap unless_far (same w.0) ∙ near_joined c false w.1

pub join_in_place : (logs others : List (List ℕ)) (bytes : List ℕ) (c : Content) → MayBeTaken logs → StandsFor bytes (content_of (all_operations logs)) → rest_of bytes ≡ [] → (join_of MAX_LIMIT (bytes ∷ others) ≡ Ok c) ↔ (join_of MAX_LIMIT (logs ++ others) ≡ Ok c)
join_in_place logs others bytes c may stands ended =
    let all : Content = content_of (all_operations logs) in
    let one : JoinOutcome = joined_from MAX_LIMIT 0 nothing (bytes ∷ others) in
    let each : JoinOutcome = joined_from MAX_LIMIT 0 nothing (logs ++ others) in
    let whole : one ≡ joined_from MAX_LIMIT 1 all others = ap (λ r. then_joined 0 r (λ d. joined_from MAX_LIMIT 1 d others)) (standing_is_accepted bytes all stands ended may.few) in
    let parts : each ≡ joined_from MAX_LIMIT (0 + length logs) all others = joined_append MAX_LIMIT 0 nothing all logs others (may_be_taken logs may) in (
      same_unless_far one each c (λ h. parts ∙ other_index MAX_LIMIT 1 (0 + length logs) all c others (sym whole ∙ h)),
      same_unless_far each one c (λ h. whole ∙ other_index MAX_LIMIT (0 + length logs) 1 all c others (sym parts ∙ h)),
    )
