-- What is loaded, by what was taken of a log and of a text.
use Rattle.std.proofs.Common.{◌≡◌, ℕ, ◌+◌, ◌≤◌, List, [], length, Bool, true, false, Some, Result, Ok, Err, refl, sym, ap, subst, ◌∙◌, arith, Bor, nat_lt, nat_le, cond, chars, map, filter_map, append-nil}
use Rattle.std.specs.declared.cmp.Ordering.{Ordering}
use Rattle.std.proofs.lemmas.List.{nil_from_length}
use Rattle.std.specs.FinMap as finite_map
use Rattle.std.specs.Str.{is_utf8}
use Rattle.std.proofs.lemmas.Bool.{and_right}
use Rattle.std.proofs.lemmas.Bool.Decides.{nat_tests}
use Rattle.rga_ops.specs.Identifier.{Identifier, id_cmp}
use Rattle.rga_ops.specs.RootPath.{Path, path_cmp}
use Rattle.rga_ops.specs.Content.{Element, nothing, content_of, known_count, clock_of}
use Rattle.rga_ops.specs.Order.{placed, shown, text}
use Rattle.rga_ops.specs.Splice.{spliced}
use Rattle.rga_ops.specs.ListAnswer.{Verdict, and_check}
use Rattle.rga_ops.specs.declared.id.TheConstants.Id.{MAX_COUNTER}
use Rattle.rga_ops.specs.declared.refusal.Refusal.TheVariants.{Full, Clock}
use Rattle.rga_store.specs.Limit.{is_limit}
use Rattle.rga_store.specs.Counted.{IsCounted}
use Rattle.rga_store.proofs.CountedLaws.{within_limits, counted_nothing}
use Rattle.rga_doc.specs.LocalEdit.{splice_answer, counter_answer, place_answer}
use Rattle.rga_ops.proofs.ContentLaws.{nothing_join}
use Rattle.rga_doc.specs.Document.{Document, document}
use Rattle.rga_doc.specs.Following.{Follows}
use Rattle.rga_exchange.specs.Counting.{Calls}
use Rattle.rga_lines.specs.Log.{log_operations}
use Rattle.rga_exchange.specs.declared.counted.TheConstants.{MAX_CALLS}
use Rattle.rga_exchange.specs.declared.log.LogEnd.{LogEnd}
use Rattle.rga_exchange.specs.declared.log.LogEnd.TheVariants.{Whole}
use Rattle.rga_exchange.specs.Taking.{intake}
use Rattle.rga_exchange.specs.Log.{log_end, TakesLog}
use Rattle.mg_files.specs.declared.fault.LoadFault.{LoadFault}
use Rattle.mg_files.specs.Faults.{store_fault}
use Rattle.mg_files.specs.Loading.{Loaded, loaded, of_log, log_loaded, text_insertions, text_loaded, opening_answer}

-- no answer is both a value and a fault
pub not_both : {A E : Type 0} {a : A} {e : E} {r : Result A E} → r ≡ Ok a → r ≡ Err e → ⊥
not_both ok err = cc

-- ---- a log

-- a device of bytes in memory, of which nothing is read
abbrev unread : Bor (List ℕ) → Calls (Bor (List ℕ))
unread bytes = record { inner = bytes; failures = 0; left = MAX_CALLS; at_end = false; flushed = true }

abbrev Takes : LogEnd → Calls (Bor (List ℕ)) → Calls (Bor (List ℕ)) → Document → Document → Type 0
Takes end r s doc d = TakesLog (λ (x : Bor (List ℕ)). Some x.now) r s (intake (λ (x : Document). x.limit) (λ (x : Document). x.content) (λ x ops y. Follows x ops y) doc d) log_end (Ok end)

-- a log that an empty document took is loaded so, and leaves that document
pub record IsLoaded (limit replica : ℕ) (bytes : List ℕ) (end : LogEnd) (d : Document) : Type 0 where
  pub outcome : log_loaded limit bytes ≡ Ok (loaded (content_of (log_operations bytes)) [] end)
  pub document : d ≡ document (content_of (log_operations bytes)) limit replica d.listed

pub log_is_loaded : (limit replica : ℕ) (bytes : Bor (List ℕ)) (end : LogEnd) (r s : Calls (Bor (List ℕ))) (doc d : Document) → doc ≡ document nothing limit replica false → r ≡ unread bytes → Takes end r s doc d → d.limit ≡ doc.limit → IsLoaded limit replica bytes.now end d
log_is_loaded limit replica bytes end r s doc d made new t same =
    let u : Takes end (unread bytes) s (document nothing limit replica false) d = subst (λ (x : Document). Takes end (unread bytes) s x d) made (subst (λ (x : Calls (Bor (List ℕ))). Takes end x s doc d) new t) in
    let content : d.content ≡ content_of (log_operations bytes.now) = u.joined ∙ nothing_join (content_of (log_operations bytes.now)) in
    let room : d.limit ≡ limit = same ∙ ap (λ (x : Document). x.limit) made in
    let own : d.replica ≡ replica = u.log.beside.replica in
    record {
      outcome = ap (of_log bytes.now) (u.outcome (not_both refl) (not_both refl)).1;
      document = λ k. document (content k) (room k) (own k) d.listed;
    }

-- ---- a text

no_entries : {K : Type 0} (R : K → K → Ordering) (X : Type 0) → finite_map.entries (finite_map.empty {X = X} {R = R}) ≡ []
no_entries R X = nil_from_length _ (sym (finite_map.len-entries finite_map.empty) ∙ finite_map.len-empty R X)

-- nothing shows no text
text_of_nothing : text nothing ≡ []
text_of_nothing =
    ap (λ (es : List (Identifier × Element)). filter_map (shown nothing) (finite_map.values (finite_map.from_entries {R = path_cmp} (filter_map (placed nothing) (map (λ e. e.0) es))))) (no_entries id_cmp Element)
    ∙ ap (λ (es : List (Path × Identifier)). filter_map (shown nothing) (map (λ e. e.1) es)) (no_entries path_cmp Identifier)

-- characters that are inserted into nothing are all that it shows
pub text_inserted : (doc : Document) (limit replica : ℕ) (put shows : List ℕ) → doc ≡ document nothing limit replica false → shows ≡ spliced (text doc.content) 0 0 put → shows ≡ put
text_inserted doc limit replica put shows made h =
    h ∙ (λ k. spliced (text (made k).content) 0 0 put) ∙ (λ k. spliced (text_of_nothing k) 0 0 put) ∙ append-nil put

-- an empty document refuses characters for their number alone
pub splice_of_nothing : (limit : ℕ) (put : List ℕ) → is_limit limit ≡ true → splice_answer limit nothing 0 0 put ≡ cond (nat_lt limit (length put)) (Err Full) (Ok tt)
splice_of_nothing limit put limited =
    let known : known_count nothing + length put ≡ length put = omega (arith, w.known) in
    let reaches : nat_le 0 (length (text nothing)) ≡ true = grind (arith, nat_tests) in
    (λ k. and_check (cond (nat_lt limit (known k)) (Err Full) (Ok tt)) (and_check (place_answer (reaches k)) (counter_answer nothing (length put)))) ∙ by (nat_lt limit (length put)) refl
  where
    w : IsCounted nothing 0 0 0 limit
    w = counted_nothing limit limited

    counters : nat_lt limit (length put) ≡ false → nat_lt MAX_COUNTER (clock_of nothing + length put) ≡ false
    counters h =
        let within : length put ≤ limit = grind (arith, nat_tests) in
        let low : clock_of nothing + length put ≤ MAX_COUNTER = omega (arith, within, within_limits limit limited, w.clocked) in
        grind (arith, nat_tests)

    by : (b : Bool) → nat_lt limit (length put) ≡ b → and_check (cond b (Err Full) (Ok tt)) (and_check (place_answer true) (counter_answer nothing (length put))) ≡ cond b (Err Full) (Ok tt)
    by true h = refl
    by false h = ap (λ b. cond b (Err Clock) (Ok tt)) (and_right (nat_lt 0 (length put)) (nat_lt MAX_COUNTER (clock_of nothing + length put)) (counters h))

-- where there are such buffers, the limit is one
pub limit_of : (replica limit : ℕ) → opening_answer replica limit ≡ Ok tt → is_limit limit ≡ true
limit_of replica limit h = grind arith

-- what is loaded of these characters, by what an empty document answers to them
abbrev pub of_verdict : ℕ → List ℕ → Verdict → Result Loaded LoadFault
of_verdict replica put (Ok u) = Ok (loaded (content_of (text_insertions replica put)) (text_insertions replica put) Whole)
of_verdict replica put (Err e) = Err (store_fault e)

pub text_is_loaded : (replica limit : ℕ) (bytes put : List ℕ) (doc : Document) → is_limit limit ≡ true → is_utf8 bytes ≡ true → doc ≡ document nothing limit replica false → put ≡ chars bytes
    → text_loaded replica limit bytes ≡ of_verdict replica (chars bytes) (splice_answer doc.limit doc.content 0 0 put)
text_is_loaded replica limit bytes put doc limited utf8 made same = grind (arith, splice_of_nothing limit (chars bytes) limited)
