-- A buffer as it is opened.
use Rattle.std.proofs.Common.{◌≡◌, ℕ, ◌+◌, ◌≤◌, Bool, true, false, cond, nat_lt, chars, List, [], ◌∷◌, length, Option, Some, None, Result, Ok, Err, refl, sym, ap, subst, ◌∙◌, true≢false, arith}
use Rattle.std.specs.Str.{is_utf8}
use Rattle.std.specs.FinSet as finite_set
use Rattle.std.proofs.lemmas.Option.{none-some}
use Rattle.rga_ops.specs.Content.{Content, nothing, content_of, known_ids, IsSound}
use Rattle.rga_ops.specs.Answer.{taken}
use Rattle.rga_ops.specs.ListAnswer.{Verdict, IsJoinable}
use Rattle.rga_ops.specs.declared.op.Op.{Op}
use Rattle.rga_ops.specs.declared.refusal.Refusal.{Refusal}
use Rattle.rga_ops.specs.declared.refusal.Refusal.TheVariants.{Full}
use Rattle.rga_ops.proofs.KnownLaws.{known_nothing}
use Rattle.rga_ops.proofs.ListAnswerLaws.{list_taken-iff}
use Rattle.rga_store.specs.Limit.{is_limit}
use Rattle.rga_doc.specs.LocalEdit.{splice_answer}
use Rattle.rga_doc.proofs.EditLaws.{splice_taken}
use Rattle.rga_ops.proofs.ContentLaws.{nothing_join, join_nothing}
use Rattle.rga_ops.proofs.AgreeLaws.{joinable_nothing}
use Rattle.rga_lines.specs.Runs.{stretch_operations, run_deletions}
use Rattle.rga_lines.specs.Table.{AnyReading, any_line_at}
use Rattle.rga_lines.specs.declared.line.Line.TheVariants.{One, Run, Deletions}
use Rattle.rga_lines.specs.Stream.{rest_of}
use Rattle.rga_lines.specs.Log.{log_operations}
use Rattle.rga_exchange.specs.declared.log.LogEnd.{LogEnd}
use Rattle.rga_exchange.specs.declared.log.LogEnd.TheVariants.{Whole, Bare, Torn}
use Rattle.rga_exchange.specs.declared.log.LogRead.{LogRead}
use Rattle.rga_exchange.specs.declared.fault.LogFault.TheVariants as fault
use Rattle.rga_exchange.specs.Log.{LogOutcome, log_end, end_outcome, after_bare_operation, after_bare_line, after_rest, log_outcome}
use Rattle.rga_exchange.specs.Taking.{taken_whole}
use Rattle.rga_exchange.specs.Receiving.{receive_fault}
use Rattle.rga_exchange.specs.Sending.{StandsFor}
use Rattle.rga_exchange.proofs.OperationLaws.{IsRead, is_read, no_fault, log_joined}
use Rattle.rga_exchange.proofs.LogLaws.{log_stands}
use Rattle.mg_files.specs.Files.{Files}
use Rattle.mg_files.specs.Loading.{Loaded, loaded, of_log, log_loaded, text_insertions, text_loaded, either_loaded, files_loaded, opened, opened_and_end, opening_answer, load_outcome, ends_open}
use Rattle.std.specs.Result.{result_and}
use Rattle.mg_buffer.specs.OpenState.{OpenState, with_brief, with_runs}
use Rattle.mg_files.specs.declared.fault.LoadFault.{LoadFault}
use Rattle.mg_files.specs.declared.fault.LoadFault.TheVariants.{Log, NotText, Store}
use Rattle.mg_files.proofs.LoadedLaws.{splice_of_nothing, limit_of}
use Rattle.mg_files.specs.Kept.{IsWritableWhole, IsBuffer, IsLogged, IsLoggedBy}
use Rattle.mg_files.proofs.LogSteps.{empty_stands}

no_open : (n : ℕ) (x d : Content) (end : LogEnd) (read : LogRead) → ends_open end ≡ true → ends_open read.end ≡ false → end_outcome n x end ≡ (d, Ok read) → ⊥
no_open n x d end read is e g = grind arith

ends_whole : (limit n : ℕ) (c d : Content) (read : LogRead) (rest : List ℕ) → after_rest limit n c rest ≡ (d, Ok read) → ends_open read.end ≡ false → rest ≡ []
ends_whole limit n c d read [] h e = refl
ends_whole limit n c d read (b ∷ bytes) h e = by_reading (any_line_at (b ∷ bytes)) h
  where
    by_taken : (r : Result Content Refusal) → after_bare_operation n c r ≡ (d, Ok read) → (b ∷ bytes) ≡ []
    by_taken (Ok x) g = absurd (no_open n x d Bare read refl e g)
    by_taken (Err x) g = absurd (no_fault (fault.Refused (n + 1) x) read g)

    by_reading : (r : AnyReading) → after_bare_line limit n c (length (b ∷ bytes)) r ≡ (d, Ok read) → (b ∷ bytes) ≡ []
    by_reading (Ok (One op)) g = by_taken (taken limit c op) g
    by_reading (Ok (Run r)) g = by_taken (taken_whole limit c (stretch_operations r)) g
    by_reading (Ok (Deletions r)) g = by_taken (taken_whole limit c (run_deletions r)) g
    by_reading other g = absurd (no_open n c d (Torn (length (b ∷ bytes))) read refl e g)

-- what is opened by a log is kept beside it
pub log_opened : (name : List ℕ) (replica limit : ℕ) (d : Content) (read : LogRead) (bytes : List ℕ) → log_outcome limit nothing bytes ≡ (d, Ok read)
    → finite_set.len (known_ids nothing) ≤ limit → IsSound d → IsWritableWhole d → finite_set.len (known_ids d) ≤ limit
    → IsLogged d (opened name replica limit (loaded d [] read.end)) (Some bytes)
log_opened name replica limit d read bytes h none sound writable fits =
    let w : IsRead limit nothing d read bytes = is_read limit nothing d read bytes h in
    let is : content_of (log_operations bytes) ≡ d = sym (log_joined limit nothing d read bytes h ∙ nothing_join (content_of (log_operations bytes))) in
    record {
      stands = subst (StandsFor bytes) is (log_stands limit nothing d read bytes none h);
      absent = λ e. absurd (none-some _ (sym e));
      ended = λ e. ends_whole limit w.lines w.content d read (rest_of bytes) w.rest e;
      content = sym (join_nothing d);
      joinable = joinable_nothing d;
      sound = sound;
      writable = writable;
      fits = fits;
      waits = λ e. absurd (true≢false (sym e));
    }

-- and so is what is opened where no log is there, by operations that all are unsaved
pub text_opened : (name : List ℕ) (replica limit : ℕ) (ops : List Op) → IsJoinable nothing ops
    → IsSound (content_of ops) → IsWritableWhole (content_of ops) → finite_set.len (known_ids (content_of ops)) ≤ limit
    → IsLogged nothing (opened name replica limit (loaded (content_of ops) ops Whole)) None
text_opened name replica limit ops joinable sound writable fits = record {
  stands = empty_stands;
  absent = λ _. refl;
  ended = λ _. refl;
  content = sym (nothing_join (content_of ops));
  joinable = joinable;
  sound = sound;
  writable = writable;
  fits = fits;
  waits = λ e. absurd (true≢false (sym e));
}

-- ---- by what a load answered

abbrev Outcome : Type 0
Outcome = Result (OpenState × LogEnd) LoadFault

abbrev done : OpenState → LogEnd → Outcome
done b end = Ok (b, end)

abbrev failed : LoadFault → Outcome
failed e = Err e

abbrev Opening : Type 0
Opening = Result (Unit {0}) LoadFault

pub record IsOpenedBy (name : List ℕ) (replica limit : ℕ) (found : Files) (b : OpenState) : Type 0 where
  pub loaded : Loaded
  pub opening : opening_answer replica limit ≡ Ok tt
  pub files : files_loaded replica limit found ≡ Ok loaded
  pub is : b ≡ opened name replica limit loaded

pub opened_by : (name : List ℕ) (replica limit : ℕ) (found : Files) (b : OpenState) (end : LogEnd) → load_outcome name replica limit found ≡ Ok (b, end) → IsOpenedBy name replica limit found b
opened_by name replica limit found b end h = by (opening_answer replica limit) (files_loaded replica limit found) refl refl h
  where
    first : Outcome → OpenState
    first (Ok p) = p.0
    first (Err e) = b

    by : (o : Opening) (l : Result Loaded LoadFault) → opening_answer replica limit ≡ o → files_loaded replica limit found ≡ l → result_and o (opened_and_end name replica limit l) ≡ done b end → IsOpenedBy name replica limit found b
    by (Ok u) (Ok l) p q g = record { loaded = l; opening = p; files = q; is = sym (ap first g) }
    by (Ok u) (Err e) p q g = absurd (let clash : failed e ≡ done b end = g in cc)
    by (Err e) l p q g = absurd (let clash : failed e ≡ done b end = g in cc)

-- under that name
pub opened_name : (name : List ℕ) (replica limit : ℕ) (found : Files) (b : OpenState) (end : LogEnd) → load_outcome name replica limit found ≡ Ok (b, end) → b.buffer.name ≡ name
opened_name name replica limit found b end h = ap (λ (x : OpenState). x.buffer.name) (opened_by name replica limit found b end h).is

abbrev pub Answer : Type 0
Answer = Result Loaded LoadFault

abbrev pub good : Loaded → Answer
good l = Ok l

abbrev pub bad : LoadFault → Answer
bad e = Err e

pub same_loaded : (x y : Loaded) → good x ≡ good y → x ≡ y
same_loaded x y h = cc

abbrev Buffered : (name : List ℕ) (replica limit : ℕ) → Loaded → Type 0
Buffered name replica limit l = IsBuffer (opened name replica limit l)

-- a log that was read
log_read : (name : List ℕ) (replica limit : ℕ) (bytes : List ℕ) (l : Loaded) → log_loaded limit bytes ≡ good l → Buffered name replica limit l → IsLoggedBy (opened name replica limit l) (Some bytes)
log_read name replica limit bytes l h is = by (log_outcome limit nothing bytes) refl h
  where
    none_known : finite_set.len (known_ids nothing) ≤ limit
    none_known = omega (arith, known_nothing)

    by : (o : LogOutcome) → log_outcome limit nothing bytes ≡ o → of_log bytes (log_end o.1) ≡ good l → IsLoggedBy (opened name replica limit l) (Some bytes)
    by (d, Ok read) p g =
        let content : content_of (log_operations bytes) ≡ d = sym (log_joined limit nothing d read bytes p ∙ nothing_join (content_of (log_operations bytes))) in
        let whole : loaded d [] read.end ≡ l = (λ k. loaded (sym content k) [] read.end) ∙ same_loaded (loaded (content_of (log_operations bytes)) [] read.end) l g in
        let here : Buffered name replica limit (loaded d [] read.end) = subst (Buffered name replica limit) (sym whole) is in
        subst (λ x. IsLoggedBy (opened name replica limit x) (Some bytes)) whole
        (record { held = d; logged = log_opened name replica limit d read bytes p none_known here.sound here.writable here.fits })
    by (d, Err e) p g = absurd (let clash : bad (Log (receive_fault e)) ≡ good l = g in cc)

abbrev full : Verdict
full = Err Full

abbrev fine : Verdict
fine = Ok tt

-- what a text says: its characters, inserted into nothing
pub record IsInserted (replica limit : ℕ) (l : Loaded) : Type 0 where
  pub put : List ℕ
  pub is : l ≡ loaded (content_of (text_insertions replica put)) (text_insertions replica put) Whole
  pub allowed : splice_answer limit nothing 0 0 put ≡ Ok tt

pub text_content : (replica limit : ℕ) (bytes : List ℕ) (l : Loaded) → is_limit limit ≡ true → text_loaded replica limit bytes ≡ good l → IsInserted replica limit l
text_content replica limit bytes l limited h = by (is_utf8 bytes) (nat_lt limit (length (chars bytes))) refl h
  where
    by : (u w : Bool) → nat_lt limit (length (chars bytes)) ≡ w → cond u (cond w (bad (Store Full)) (good (loaded (content_of (text_insertions replica (chars bytes))) (text_insertions replica (chars bytes)) Whole))) (bad NotText) ≡ good l → IsInserted replica limit l
    by true true p g = absurd (let clash : bad (Store Full) ≡ good l = g in cc)
    by true false p g = record {
      put = chars bytes;
      is = sym (same_loaded (loaded (content_of (text_insertions replica (chars bytes))) (text_insertions replica (chars bytes)) Whole) l g);
      allowed = splice_of_nothing limit (chars bytes) limited ∙ ap (λ w. cond w full fine) p;
    }
    by false w p g = absurd (let clash : bad NotText ≡ good l = g in cc)

-- a text that was read
text_read : (name : List ℕ) (replica limit : ℕ) (l : Loaded) → IsInserted replica limit l → Buffered name replica limit l → IsLoggedBy (opened name replica limit l) None
text_read name replica limit l i is =
    let ops : List Op = text_insertions replica i.put in
    let taken = (list_taken-iff limit nothing ops).0 (splice_taken limit replica 0 0 nothing i.put i.allowed) in
    let here : Buffered name replica limit (loaded (content_of ops) ops Whole) = subst (Buffered name replica limit) i.is is in
    subst (λ x. IsLoggedBy (opened name replica limit x) None) (sym i.is)
    (record { held = nothing; logged = text_opened name replica limit ops taken.1 here.sound here.writable here.fits })

-- neither was there
none_read : (name : List ℕ) (replica limit : ℕ) (l : Loaded) → good (loaded nothing [] Whole) ≡ good l → Buffered name replica limit l → IsLoggedBy (opened name replica limit l) None
none_read name replica limit l h is =
    let whole : loaded nothing [] Whole ≡ l = same_loaded (loaded nothing [] Whole) l h in
    let here : Buffered name replica limit (loaded nothing [] Whole) = subst (Buffered name replica limit) (sym whole) is in
    subst (λ x. IsLoggedBy (opened name replica limit x) None) whole
    (record { held = nothing; logged = text_opened name replica limit [] (joinable_nothing nothing) here.sound here.writable here.fits })

files_read : (name : List ℕ) (replica limit : ℕ) (log text : Option (List ℕ)) (l : Loaded) → is_limit limit ≡ true → either_loaded replica limit log text ≡ good l → Buffered name replica limit l → IsLoggedBy (opened name replica limit l) log
files_read name replica limit (Some bytes) text l limited h is = log_read name replica limit bytes l h is
files_read name replica limit None (Some bytes) l limited h is = text_read name replica limit l (text_content replica limit bytes l limited h) is
files_read name replica limit None None l limited h is = none_read name replica limit l h is

opened_logged : (name : List ℕ) (replica limit : ℕ) (found : Files) (b : OpenState) (end : LogEnd) → load_outcome name replica limit found ≡ Ok (b, end) → IsBuffer b → IsLoggedBy b found.log
opened_logged name replica limit found b end h is =
    let o = opened_by name replica limit found b end h in
    subst (λ x. IsLoggedBy x found.log) (sym o.is)
    (files_read name replica limit found.log found.text o.loaded (limit_of replica limit o.opening) o.files (subst IsBuffer o.is is))

-- whether saves are to append runs and exchanges to be brief changes nothing of what is kept
pub opened_kept : (name : List ℕ) (replica limit : ℕ) (found : Files) (b : OpenState) (end : LogEnd) (runs brief : Bool) → load_outcome name replica limit found ≡ Ok (b, end) → IsBuffer b → IsLoggedBy (with_brief brief (with_runs runs b)) found.log
opened_kept name replica limit found b end runs brief h is =
    let l = opened_logged name replica limit found b end h is in
    record {
      held = l.held;
      logged = record {
        stands = l.logged.stands;
        absent = l.logged.absent;
        ended = l.logged.ended;
        content = l.logged.content;
        joinable = l.logged.joinable;
        sound = l.logged.sound;
        writable = l.logged.writable;
        fits = l.logged.fits;
        waits = l.logged.waits;
      };
    }
