-- What a log stands for, through saves and loads.
use Rattle.std.proofs.Common.{◌≡◌, ℕ, ◌≤◌, List, take, drop, sym, ap, subst, ◌∙◌, ◌&&◌, Bool, true, false, cond, nat_lt, lit≤, [], ◌++◌, length, Option, Some, None, Ok, refl, le_trans, inl, inr, true≢false, ◌||◌, ◌∷◌, arith}
use Rattle.std.specs.Prelude.{Contains, ◌⊎◌}
use Rattle.std.proofs.lemmas.List.{take-append-drop}
use Rattle.std.proofs.lemmas.Option.{same_Some, none-some}
use Rattle.rga_ops.specs.Content.{Content, element, join, content_of, known_ids, Holds, IsSound, IsWithin, Agree, IsAgreed, nothing}
use Rattle.rga_ops.specs.ListAnswer.{IsJoinable, AreWellFormed}
use Rattle.rga_ops.specs.declared.op.Op.{Op}
use Rattle.rga_ops.specs.declared.op.Op.TheVariants.{Insert, Delete}
use Rattle.rga_ops.proofs.ContentLaws.{within_itself, within_both, within_join, within_join_second, join_least, join_assoc, join_same, join_nothing, nothing_join}
use Rattle.rga_ops.proofs.OperationLaws.{inserted-iff, deleted-iff, content_of-append, Contains-nil}
use Rattle.rga_ops.proofs.TakenLaws.{held_stays}
use Rattle.rga_ops.proofs.KnownLaws.{known_join, len-le_union}
use Rattle.rga_ops.proofs.AgreeLaws.{agree_within, agree_joined, agree_swap, agree_nothing, joinable_nothing}
use Rattle.rga_exchange.specs.Sending.{AreWritable, log_text, StandsFor, GainsFirst}
use Rattle.mg_files.specs.Kept.{IsWritableWhole, IsLogged, IsThere, OpensSaved, Grows}
use Rattle.rga_ops.specs.Operations.{operations}
use Rattle.rga_ops.proofs.OperationsLaws.{content_of-operations, operations_hold, operations_agree}
use Rattle.rga_ops.proofs.ListAnswerLaws.{joinable_append}
use Rattle.rga_lines.specs.Stream.{rest_of}
use Rattle.rga_lines.specs.Log.{then_operations, log_operations}
use Rattle.rga_lines.proofs.StandLemmas.{nothing_stands}
use Rattle.rga_exchange.specs.RunLines.{runs_text}
use Rattle.rga_exchange.specs.Log.{log_end}
use Rattle.rga_exchange.specs.declared.log.LogEnd.{LogEnd}
use Rattle.rga_exchange.proofs.AppendedLaws.{rest_appended, stands_appended}
use Rattle.rga_exchange.proofs.BegunLogLaws.{stands_begun}
use Rattle.rga_exchange.proofs.LogLaws.{log_that_stands}
use Rattle.rga_exchange.proofs.RunLineLaws.{runs_appended, runs_ended, runs_begun}
use Rattle.mg_buffer.specs.OpenState.{OpenState, has_unsaved, is_changed}
use Rattle.mg_files.specs.Saving.{appended_text, most_single, unlogged, written, log_call, log_calls, text_call, save_calls, logged, saved}
use Rattle.mg_files.specs.Loading.{loaded, of_log, log_loaded, either_loaded, files_loaded, opening_answer, opened_and_end}
use Rattle.mg_files.specs.Held.{log_bytes, BegunLog, EitherLog, Held, MayLeave, MayLead, AnswersLoad}
use Rattle.mg_files.specs.declared.port.CallKind.TheVariants.{Append, Replace}
use Rattle.mg_files.specs.declared.port.PortFault.{PortFault}
use Rattle.mg_files.specs.declared.port.PortFault.TheVariants.{File, Memory}
use Rattle.mg_files.specs.Calls.{call, refused, refusals, found_call}
use Rattle.mg_files.specs.Files.{Files, text_bytes}
use Rattle.std.specs.Result.{result_and}
use Rattle.std.specs.FinSet as finite_set

-- ---- lists of operations within contents

-- a list that agrees holds each of its operations
pub listed_holds : (ops : List Op) → IsAgreed ops → (op : Op) → Contains ops op → Holds (content_of ops) op
listed_holds ops agreed (Insert id parent ch) m = (inserted-iff ops agreed id (element parent ch)).1 m
listed_holds ops agreed (Delete id) m = (deleted-iff ops id).1 m

pub agree_itself : (c : Content) → Agree c c
agree_itself c id x y f g = same_Some x y (sym f ∙ g)

-- what is within a content adds nothing to it
pub join_within : (c d : Content) → IsWithin c d → join c d ≡ d
join_within c d w =
    within_both (join c d) d (join_least c d d w (within_itself d)) (within_join_second c d (agree_within c d d d w (within_itself d) (agree_itself d)))

-- and knows no more
pub fewer_known : (c d : Content) → IsWithin c d → finite_set.len (known_ids c) ≤ finite_set.len (known_ids d)
fewer_known c d w =
    subst (λ e. finite_set.len (known_ids c) ≤ finite_set.len (known_ids e)) (join_within c d w)
    (subst (λ s. finite_set.len (known_ids c) ≤ finite_set.len s) (sym (known_join c d)) (len-le_union (known_ids c) (known_ids d)))

-- the first operations of a list are within all
pub first_within : (n : ℕ) (ops : List Op) → IsWithin (content_of (take n ops)) (content_of ops)
first_within n ops =
    grind (arith, content_of-append (take n ops) (drop n ops), take-append-drop n ops, within_join (content_of (take n ops)) (content_of (drop n ops)))

-- ---- operations that a content is joined with

pub joined_hold : (c : Content) (ops : List Op) → IsJoinable c ops → (op : Op) → Contains ops op → Holds (join c (content_of ops)) op
joined_hold c ops joinable op m =
    held_stays (content_of ops) (join c (content_of ops)) op (within_join_second c (content_of ops) joinable.agree) (listed_holds ops joinable.agreed op m)

pub well_formed_all : (c d : Content) (ops : List Op) → d ≡ join c (content_of ops) → IsJoinable c ops → IsSound d → AreWellFormed ops
well_formed_all c d ops e joinable sound op m = sound op (subst (λ x. Holds x op) (sym e) (joined_hold c ops joinable op m))

pub writable_all : (c d : Content) (ops : List Op) → d ≡ join c (content_of ops) → IsJoinable c ops → IsWritableWhole d → AreWritable ops
writable_all c d ops e joinable writable op m = writable op (subst (λ x. Holds x op) (sym e) (joined_hold c ops joinable op m))

-- where the first of the operations are joined, all are still to be joined
pub joinable_again : (c : Content) (n : ℕ) (ops : List Op) → IsJoinable c ops → IsJoinable (join c (content_of (take n ops))) ops
joinable_again c n ops joinable = record {
  agreed = joinable.agreed;
  agree = agree_joined c (content_of (take n ops)) (content_of ops) joinable.agree
      (agree_within (content_of (take n ops)) (content_of ops) (content_of ops) (content_of ops) (first_within n ops) (within_itself (content_of ops)) (agree_itself (content_of ops)));
}

pub joined_again : (c : Content) (n : ℕ) (ops : List Op) → join c (content_of ops) ≡ join (join c (content_of (take n ops))) (content_of ops)
joined_again c n ops =
    ap (join c) (sym (join_within (content_of (take n ops)) (content_of ops) (first_within n ops)))
    ∙ sym (join_assoc c (content_of (take n ops)) (content_of ops))

-- the same where the whole content is what it is joined to
pub joinable_whole : (c d : Content) (ops : List Op) → d ≡ join c (content_of ops) → IsJoinable c ops → IsJoinable d ops
joinable_whole c d ops e joinable = record {
  agreed = joinable.agreed;
  agree = subst (λ x. Agree x (content_of ops)) (sym e) (agree_joined c (content_of ops) (content_of ops) joinable.agree (agree_itself (content_of ops)));
}

pub joined_whole : (c d : Content) (ops : List Op) → d ≡ join c (content_of ops) → d ≡ join d (content_of ops)
joined_whole c d ops e =
    e ∙ ap (join c) (sym (join_same (content_of ops))) ∙ sym (join_assoc c (content_of ops) (content_of ops))
    ∙ ap (λ x. join x (content_of ops)) (sym e)

-- ---- logs that are written, beside the buffer that they are of

-- no bytes stand for nothing
says_none : log_operations [] ≡ []
says_none = ap (λ r. then_operations r []) nothing_stands

pub empty_stands : StandsFor [] nothing
empty_stands = record {
  lines = tt;
  short = lit≤ tt;
  agreed = subst IsAgreed (sym says_none) (λ id parent other ch char a b. absurd (Contains-nil (Insert id parent ch) a));
  content = ap content_of (sym says_none);
}

-- the log that is written whole stands for the buffer's content
pub whole_stands : (c : Content) → IsSound c → IsWritableWhole c → StandsFor (log_text (operations c)) c
whole_stands c sound writable =
    subst (StandsFor (log_text (operations c))) (nothing_join (content_of (operations c)) ∙ content_of-operations c)
    (stands_appended [] nothing (operations c) empty_stands refl
    (λ op m. writable op (operations_hold c op m))
    (λ op m. sound op (operations_hold c op m))
    (record { agreed = operations_agree c; agree = agree_swap (content_of (operations c)) nothing (agree_nothing (content_of (operations c))) }))

pub whole_ended : (c : Content) → IsWritableWhole c → rest_of (log_text (operations c)) ≡ []
whole_ended c writable = rest_appended [] (operations c) refl (λ op m. writable op (operations_hold c op m))

-- ---- what is appended, in runs or a line an operation

appended_stands : (runs : Bool) (bytes : List ℕ) (c : Content) (ops : List Op) → StandsFor bytes c → rest_of bytes ≡ [] → AreWritable ops → AreWellFormed ops → IsJoinable c ops → StandsFor (bytes ++ appended_text runs ops) (join c (content_of ops))
appended_stands runs bytes c ops stands ended writable well joinable = by (runs && nat_lt most_single (length ops))
  where
    by : (many : Bool) → StandsFor (bytes ++ cond many (runs_text ops) (log_text ops)) (join c (content_of ops))
    by true = runs_appended bytes c ops stands ended writable well joinable
    by false = stands_appended bytes c ops stands ended writable well joinable

appended_ended : (runs : Bool) (bytes : List ℕ) (ops : List Op) → rest_of bytes ≡ [] → AreWritable ops → AreWellFormed ops → rest_of (bytes ++ appended_text runs ops) ≡ []
appended_ended runs bytes ops ended writable well = by (runs && nat_lt most_single (length ops))
  where
    by : (many : Bool) → rest_of (bytes ++ cond many (runs_text ops) (log_text ops)) ≡ []
    by true = runs_ended bytes ops ended writable well
    by false = rest_appended bytes ops ended writable

appended_begun : (runs : Bool) (bytes : List ℕ) (c : Content) (ops : List Op) (front rest : List ℕ) → StandsFor bytes c → rest_of bytes ≡ [] → AreWritable ops → AreWellFormed ops → IsJoinable c ops → front ++ rest ≡ appended_text runs ops → GainsFirst bytes front c ops
appended_begun runs bytes c ops front rest stands ended writable well joinable e = by (runs && nat_lt most_single (length ops)) e
  where
    by : (many : Bool) → front ++ rest ≡ cond many (runs_text ops) (log_text ops) → GainsFirst bytes front c ops
    by true cut = runs_begun bytes c ops front rest stands ended writable well joinable cut
    by false cut = stands_begun bytes c ops front rest stands ended writable well joinable cut

-- ---- a log that was written

-- it has all, and nothing is unsaved
now_all : (held : Content) (b : OpenState) (log : Option (List ℕ)) (bytes : List ℕ) → IsLogged held b log → StandsFor bytes b.buffer.content → rest_of bytes ≡ [] → IsLogged b.buffer.content (written b) (Some bytes)
now_all held b log bytes h stands ended = record {
  stands = stands;
  absent = λ e. absurd (none-some _ (sym e));
  ended = λ _. ended;
  content = sym (join_nothing b.buffer.content);
  joinable = joinable_nothing b.buffer.content;
  sound = h.sound;
  writable = h.writable;
  fits = h.fits;
  waits = λ _. (bytes, refl);
}

pub after_append : (held : Content) (b : OpenState) (log : Option (List ℕ)) → IsLogged held b log → b.whole ≡ false → IsLogged b.buffer.content (written b) (Some (log_bytes log ++ appended_text b.runs b.buffer.unsaved))
after_append held b log h whole =
    let ops : List Op = b.buffer.unsaved in
    let writable : AreWritable ops = writable_all held b.buffer.content ops h.content h.joinable h.writable in
    let well : AreWellFormed ops = well_formed_all held b.buffer.content ops h.content h.joinable h.sound in
    now_all held b log (log_bytes log ++ appended_text b.runs ops) h
    (subst (StandsFor (log_bytes log ++ appended_text b.runs ops)) (sym h.content) (appended_stands b.runs (log_bytes log) held ops h.stands (h.ended whole) writable well h.joinable))
    (appended_ended b.runs (log_bytes log) ops (h.ended whole) writable well)

pub after_replace : (held : Content) (b : OpenState) (log : Option (List ℕ)) → IsLogged held b log → IsLogged b.buffer.content (written b) (Some (log_text (operations b.buffer.content)))
after_replace held b log h =
    now_all held b log (log_text (operations b.buffer.content)) h (whole_stands b.buffer.content h.sound h.writable) (whole_ended b.buffer.content h.writable)

-- ---- a log that may not have been written

-- it stands for this content, which has all that was held, and nothing that the buffer has not
pub record IsFurther (held : Content) (b : OpenState) (log : Option (List ℕ)) : Type 0 where
  pub now : Content
  pub logged : IsLogged now (unlogged b) log
  pub grown : IsWithin held now

pub stays : (held : Content) (b : OpenState) (log : Option (List ℕ)) → IsLogged held b log → IsFurther held b log
stays held b log h = record {
  now = held;
  logged = record {
    stands = h.stands;
    absent = h.absent;
    ended = λ e. absurd (true≢false e);
    content = h.content;
    joinable = h.joinable;
    sound = h.sound;
    writable = h.writable;
    fits = h.fits;
    waits = h.waits;
  };
  grown = within_itself held;
}

further : (held now : Content) (b : OpenState) (log : Option (List ℕ)) (bytes : List ℕ) → IsLogged held b log → StandsFor bytes now → b.buffer.content ≡ join now (content_of b.buffer.unsaved) → IsJoinable now b.buffer.unsaved → IsWithin held now → IsFurther held b (Some bytes)
further held now b log bytes h stands content joinable grown = record {
  now = now;
  logged = record {
    stands = stands;
    absent = λ e. absurd (none-some _ (sym e));
    ended = λ e. absurd (true≢false e);
    content = content;
    joinable = joinable;
    sound = h.sound;
    writable = h.writable;
    fits = h.fits;
    waits = λ _. (bytes, refl);
  };
  grown = grown;
}

-- where the whole of it was written after all
wholly : (held : Content) (b : OpenState) (log : Option (List ℕ)) (bytes : List ℕ) → IsLogged held b log → StandsFor bytes b.buffer.content → IsFurther held b (Some bytes)
wholly held b log bytes h stands =
    further held b.buffer.content b log bytes h stands
    (joined_whole held b.buffer.content b.buffer.unsaved h.content)
    (joinable_whole held b.buffer.content b.buffer.unsaved h.content h.joinable)
    (subst (IsWithin held) (sym h.content) (within_join held (content_of b.buffer.unsaved)))

pub after_refused_replace : (held : Content) (b : OpenState) (log new : Option (List ℕ)) → IsLogged held b log → EitherLog log (log_text (operations b.buffer.content)) new → IsFurther held b new
after_refused_replace held b log new h (inl old) = subst (IsFurther held b) (sym old) (stays held b log h)
after_refused_replace held b log new h (inr e) =
    subst (IsFurther held b) (sym e) (wholly held b log (log_text (operations b.buffer.content)) h (whole_stands b.buffer.content h.sound h.writable))

pub after_refused_append : (held : Content) (b : OpenState) (log new : Option (List ℕ)) → IsLogged held b log → b.whole ≡ false → BegunLog log (appended_text b.runs b.buffer.unsaved) new → IsFurther held b new
after_refused_append held b None new h whole (inl none) = subst (IsFurther held b) (sym none) (stays held b None h)
after_refused_append held b None new h whole (inr e) =
    let log = after_append held b None h whole in
    subst (IsFurther held b) (sym e) (wholly held b None (appended_text b.runs b.buffer.unsaved) h log.stands)
after_refused_append held b (Some old) new h whole begun =
    let ops : List Op = b.buffer.unsaved in
    let gains : GainsFirst old begun.front held ops = appended_begun b.runs old held ops begun.front begun.rest h.stands (h.ended whole) (writable_all held b.buffer.content ops h.content h.joinable h.writable) (well_formed_all held b.buffer.content ops h.content h.joinable h.sound) h.joinable begun.cut in
    subst (IsFurther held b) (sym begun.behind)
    (further held (join held (content_of (take gains.count ops))) b (Some old) (old ++ begun.front) h gains.stands
    (h.content ∙ joined_again held gains.count ops)
    (joinable_again held gains.count ops h.joinable)
    (within_join held (content_of (take gains.count ops))))

-- ---- more operations

-- what is done to a buffer between saves: operations are joined, all unsaved, and nothing is written
pub after_operations : (held : Content) (b d : OpenState) (log : Option (List ℕ)) (ops : List Op) → IsLogged held b log
    → d.buffer.content ≡ join b.buffer.content (content_of ops) → d.buffer.unsaved ≡ b.buffer.unsaved ++ ops → d.buffer.limit ≡ b.buffer.limit
    → d.whole ≡ b.whole → d.text_waits ≡ b.text_waits → IsJoinable b.buffer.content ops
    → IsSound d.buffer.content → IsWritableWhole d.buffer.content → finite_set.len (known_ids d.buffer.content) ≤ d.buffer.limit
    → IsLogged held d log
after_operations held b d log ops h content unsaved limit whole waits joinable sound writable fits = record {
  stands = h.stands;
  absent = h.absent;
  ended = λ e. h.ended (sym whole ∙ e);
  content = content ∙ ap (λ c. join c (content_of ops)) h.content ∙ join_assoc held (content_of b.buffer.unsaved) (content_of ops)
      ∙ ap (join held) (sym (content_of-append b.buffer.unsaved ops)) ∙ ap (λ os. join held (content_of os)) (sym unsaved);
  joinable = subst (IsJoinable held) (sym unsaved) ((joinable_append held b.buffer.unsaved ops).1 (h.joinable, subst (λ c. IsJoinable c ops) h.content joinable));
  sound = sound;
  writable = writable;
  fits = fits;
  waits = λ e. h.waits (sym waits ∙ e);
}

-- ---- a load

-- a log that is there is loaded as the content that it stands for, nothing of it unsaved
pub log_given : (held : Content) (b : OpenState) (bytes : List ℕ) → IsLogged held b (Some bytes) → (end : LogEnd) × (log_loaded b.buffer.limit bytes ≡ Ok (loaded held [] end))
log_given held b bytes h =
    let within : IsWithin held b.buffer.content = subst (IsWithin held) (sym h.content) (within_join held (content_of b.buffer.unsaved)) in
    let fits : finite_set.len (known_ids (join nothing held)) ≤ b.buffer.limit = subst (λ c. finite_set.len (known_ids c) ≤ b.buffer.limit) (sym (nothing_join held)) (le_trans (fewer_known held b.buffer.content within) h.fits) in
    let read = log_that_stands b.buffer.limit nothing held bytes h.stands (agree_swap held nothing (agree_nothing held)) fits in
    (read.0.end, ap (λ p. of_log bytes (log_end p.1)) read.1 ∙ ap (λ c. Ok (loaded c [] read.0.end)) (sym h.stands.content))

-- ---- what a save leaves of what is held

-- the log under the buffer's name
abbrev pub own_log : OpenState → Held → Option (List ℕ)
own_log b s = (s b.buffer.name).log

-- ---- one call

pub log_answered : (held : Content) (b : OpenState) (s t : Held) → IsLogged held b (own_log b s) → MayLeave (log_call b) s t → IsLogged b.buffer.content (written b) (own_log b t)
log_answered held b s t h m = by b.whole refl m
  where
    by : (w : Bool) → b.whole ≡ w → MayLeave (cond w (call Replace b.buffer.name (log_text (operations b.buffer.content))) (call Append b.buffer.name (appended_text b.runs b.buffer.unsaved))) s t → IsLogged b.buffer.content (written b) (own_log b t)
    by true e m = subst (IsLogged b.buffer.content (written b)) (sym (ap (λ (f : Files). f.log) m.here)) (after_replace held b (own_log b s) h)
    by false e m = subst (IsLogged b.buffer.content (written b)) (sym (ap (λ (f : Files). f.log) m.here)) (after_append held b (own_log b s) h e)

pub log_refused : (held : Content) (b : OpenState) (s t : Held) → IsLogged held b (own_log b s) → MayLeave (refused (log_call b)) s t → IsFurther held b (own_log b t)
log_refused held b s t h m = by b.whole refl m
  where
    by : (w : Bool) → b.whole ≡ w → MayLeave (refused (cond w (call Replace b.buffer.name (log_text (operations b.buffer.content))) (call Append b.buffer.name (appended_text b.runs b.buffer.unsaved)))) s t → IsFurther held b (own_log b t)
    by true e m = after_refused_replace held b (own_log b s) (own_log b t) h m.here.0
    by false e m = after_refused_append held b (own_log b s) (own_log b t) h e m.here.0

pub text_answered : (b : OpenState) (s t : Held) → MayLeave (text_call b) s t → own_log b t ≡ own_log b s
text_answered b s t m = ap (λ (f : Files). f.log) m.here

pub text_refused : (b : OpenState) (s t : Held) → MayLeave (refused (text_call b)) s t → own_log b t ≡ own_log b s
text_refused b s t m = m.here

pub nothing_called : (b : OpenState) (s t : Held) → MayLead [] s t → own_log b t ≡ own_log b s
nothing_called b s t m = ap (λ (f : Files). f.log) (m b.buffer.name)

-- ---- a buffer of which nothing is unsaved

none_unsaved : (b : OpenState) → has_unsaved b ≡ false → b.buffer.unsaved ≡ []
none_unsaved b e = grind arith

pub held_is : (held : Content) (b : OpenState) (log : Option (List ℕ)) → IsLogged held b log → has_unsaved b ≡ false → held ≡ b.buffer.content
held_is held b log h e = sym (h.content ∙ ap (λ ops. join held (content_of ops)) (none_unsaved b e) ∙ join_nothing held)

all_held : (held : Content) (b : OpenState) (log : Option (List ℕ)) → IsLogged held b log → has_unsaved b ≡ false → IsLogged b.buffer.content b log
all_held held b log h e = subst (λ c. IsLogged c b log) (held_is held b log h e) h

-- the text waits no more
put : (c : Content) (b : OpenState) (log : Option (List ℕ)) → IsLogged c b log → IsLogged c (record b { text_waits = false }) log
put c b log h = record {
  stands = h.stands;
  absent = h.absent;
  ended = h.ended;
  content = h.content;
  joinable = h.joinable;
  sound = h.sound;
  writable = h.writable;
  fits = h.fits;
  waits = λ e. absurd (true≢false (sym e));
}

-- ---- a whole save

pub save_answered : (held : Content) (b : OpenState) (s t : Held) → IsLogged held b (own_log b s) → MayLead (save_calls b) s t → IsLogged b.buffer.content (saved b) (own_log b t)
save_answered held b s t h m = by (has_unsaved b) b.text_waits refl m
  where
    by : (u w : Bool) → has_unsaved b ≡ u → MayLead (cond (u || w) (cond u (log_call b ∷ []) [] ++ text_call b ∷ []) []) s t → IsLogged b.buffer.content (record (cond u (written b) b) { text_waits = false }) (own_log b t)
    by true w e (r, first, (v, second, last)) =
        subst (IsLogged b.buffer.content (record (written b) { text_waits = false })) (sym (nothing_called b v t last ∙ text_answered b r v second))
        (put b.buffer.content (written b) (own_log b r) (log_answered held b s r h first))
    by false true e (v, second, last) =
        subst (IsLogged b.buffer.content (record b { text_waits = false })) (sym (nothing_called b v t last ∙ text_answered b s v second))
        (put b.buffer.content b (own_log b s) (all_held held b (own_log b s) h e))
    by false false e last =
        subst (IsLogged b.buffer.content (record b { text_waits = false })) (sym (nothing_called b s t last))
        (put b.buffer.content b (own_log b s) (all_held held b (own_log b s) h e))

pub save_failed_at_log : (fault : PortFault) (held : Content) (b : OpenState) (s t : Held) → IsLogged held b (own_log b s) → MayLead (refusals fault (log_call b)) s t → IsFurther held b (own_log b t)
save_failed_at_log File held b s t h (v, first, last) = subst (IsFurther held b) (sym (nothing_called b v t last)) (log_refused held b s v h first)
save_failed_at_log (Memory _) held b s t h last = subst (IsFurther held b) (sym (nothing_called b s t last)) (stays held b (own_log b s) h)

pub save_failed_at_text : (fault : PortFault) (held : Content) (b : OpenState) (s t : Held) → IsLogged held b (own_log b s) → MayLead (log_calls b ++ refusals fault (text_call b)) s t → IsLogged b.buffer.content (logged b) (own_log b t)
save_failed_at_text fault held b s t h m = by (has_unsaved b) fault refl m
  where
    by : (u : Bool) (fault : PortFault) → has_unsaved b ≡ u → MayLead (cond u (log_call b ∷ []) [] ++ refusals fault (text_call b)) s t → IsLogged b.buffer.content (cond u (written b) b) (own_log b t)
    by true File e (r, first, (v, second, last)) =
        subst (IsLogged b.buffer.content (written b)) (sym (nothing_called b v t last ∙ text_refused b r v second)) (log_answered held b s r h first)
    by true (Memory _) e (r, first, last) =
        subst (IsLogged b.buffer.content (written b)) (sym (nothing_called b r t last)) (log_answered held b s r h first)
    by false File e (v, second, last) =
        subst (IsLogged b.buffer.content b) (sym (nothing_called b v t last ∙ text_refused b s v second)) (all_held held b (own_log b s) h e)
    by false (Memory _) e last =
        subst (IsLogged b.buffer.content b) (sym (nothing_called b s t last)) (all_held held b (own_log b s) h e)

-- the text of the buffer is put where anything was changed
pub text_is_put : (b : OpenState) (s t : Held) → is_changed b ≡ true → MayLead (save_calls b) s t → (t b.buffer.name).text ≡ Some (text_bytes b.buffer.content)
text_is_put b s t changed m = grind arith

-- ---- what is loaded of what is held

-- files with a log open a buffer with the content that it stands for, nothing of it unsaved
pub opened_again : (held : Content) (b : OpenState) (f found : Files) → IsLogged held b f.log → IsThere f.log → AnswersLoad f found → opening_answer b.buffer.replica b.buffer.limit ≡ Ok tt
    → OpensSaved b.buffer.name b.buffer.replica b.buffer.limit found held
opened_again held b f found h (bytes, there) answers opening =
    let log : found.log ≡ Some bytes = answers.log ∙ there in
    let read = log_given held b bytes (subst (IsLogged held b) there h) in
    let files : files_loaded b.buffer.replica b.buffer.limit found ≡ Ok (loaded held [] read.0) =
    ap (λ log. either_loaded b.buffer.replica b.buffer.limit log found.text) log ∙ read.1 in
    record {
      end = read.0;
      outcome = (λ k. result_and (opening k) (opened_and_end b.buffer.name b.buffer.replica b.buffer.limit (files k)));
    }

-- so do those behind a save that answered `Ok`
pub saved_again : (held : Content) (b : OpenState) (s t u : Held) (found : Files) → IsLogged held b (s b.buffer.name).log → MayLead (save_calls b) s t → IsThere (t b.buffer.name).log
    → MayLeave (found_call b.buffer.name found) t u → opening_answer b.buffer.replica b.buffer.limit ≡ Ok tt → OpensSaved b.buffer.name b.buffer.replica b.buffer.limit found b.buffer.content
saved_again held b s t u found h leads there load opening = by (has_unsaved b) refl (save_answered held b s t h leads)
  where
    by : (w : Bool) → has_unsaved b ≡ w → IsLogged b.buffer.content (record (cond w (written b) b) { text_waits = false }) (t b.buffer.name).log → OpensSaved b.buffer.name b.buffer.replica b.buffer.limit found b.buffer.content
    by true e logged = opened_again b.buffer.content (record (written b) { text_waits = false }) (t b.buffer.name) found logged there load.found opening
    by false e logged = opened_again b.buffer.content (record b { text_waits = false }) (t b.buffer.name) found logged there load.found opening

pub held_within : (held : Content) (b : OpenState) (log : Option (List ℕ)) → IsLogged held b log → IsWithin held b.buffer.content
held_within held b log h = subst (IsWithin held) (sym h.content) (within_join held (content_of b.buffer.unsaved))

pub grows_at_log : (fault : PortFault) (held : Content) (b : OpenState) (s t : Held) → IsLogged held b (s b.buffer.name).log → MayLead (refusals fault (log_call b)) s t → Grows held b (unlogged b) (t b.buffer.name).log
grows_at_log fault held b s t h m =
    let w : IsFurther held b (t b.buffer.name).log = save_failed_at_log fault held b s t h m in
    record { now = w.now; logged = w.logged; grown = w.grown; within = held_within w.now (unlogged b) (t b.buffer.name).log w.logged }

pub grows_at_text : (fault : PortFault) (held : Content) (b : OpenState) (s t : Held) → IsLogged held b (s b.buffer.name).log → MayLead (log_calls b ++ refusals fault (text_call b)) s t → Grows held b (logged b) (t b.buffer.name).log
grows_at_text fault held b s t h m = record {
  now = b.buffer.content;
  logged = save_failed_at_text fault held b s t h m;
  grown = held_within held b (s b.buffer.name).log h;
  within = within_itself b.buffer.content;
}

-- ---- a text of which no log was made yet

abbrev Outcome : OpenState → Files → Files → Type 0
Outcome b f g = (g ≡ f) ⊎ IsLogged b.buffer.content (written b) g.log

same_files : (f g : Files) → g.log ≡ f.log → g.text ≡ f.text → g ≡ f
same_files f g l t = λ k. record { log = l k; text = t k }

either : (held : Content) (b : OpenState) (f g : Files) → IsLogged held b f.log → EitherLog f.log (log_text (operations b.buffer.content)) g.log → g.text ≡ f.text → Outcome b f g
either held b f g h (inl old) same = inl (same_files f g old same)
either held b f g h (inr new) same = inr (subst (IsLogged b.buffer.content (written b)) (sym new) (after_replace held b f.log h))

begun : (held : Content) (b : OpenState) (f g : Files) → IsLogged held b f.log → f.log ≡ None → b.whole ≡ false → BegunLog f.log (appended_text b.runs b.buffer.unsaved) g.log → g.text ≡ f.text → Outcome b f g
begun held b f g h none whole m same = by (subst (λ log. BegunLog log (appended_text b.runs b.buffer.unsaved) g.log) none m)
  where
    by : BegunLog None (appended_text b.runs b.buffer.unsaved) g.log → Outcome b f g
    by (inl old) = inl (same_files f g (old ∙ sym none) same)
    by (inr new) = inr (subst (IsLogged b.buffer.content (written b)) (ap (λ log. Some (log_bytes log ++ appended_text b.runs b.buffer.unsaved)) none ∙ sym new) (after_append held b f.log h whole))

refused_log : (held : Content) (b : OpenState) (s t : Held) → IsLogged held b (s b.buffer.name).log → (s b.buffer.name).log ≡ None → MayLeave (refused (log_call b)) s t → Outcome b (s b.buffer.name) (t b.buffer.name)
refused_log held b s t h none m = by b.whole refl m
  where
    by : (w : Bool) → b.whole ≡ w → MayLeave (refused (cond w (call Replace b.buffer.name (log_text (operations b.buffer.content))) (call Append b.buffer.name (appended_text b.runs b.buffer.unsaved)))) s t → Outcome b (s b.buffer.name) (t b.buffer.name)
    by true e m = either held b (s b.buffer.name) (t b.buffer.name) h m.here.0 m.here.1
    by false e m = begun held b (s b.buffer.name) (t b.buffer.name) h none e m.here.0 m.here.1

-- where the log was not made, the files are as they were; else it has all
pub text_stays : (fault : PortFault) (held : Content) (b : OpenState) (s t : Held) → IsLogged held b (s b.buffer.name).log → (s b.buffer.name).log ≡ None → MayLead (refusals fault (log_call b)) s t → Outcome b (s b.buffer.name) (t b.buffer.name)
text_stays File held b s t h none (v, first, last) = subst (Outcome b (s b.buffer.name)) (sym (last b.buffer.name)) (refused_log held b s v h none first)
text_stays (Memory _) held b s t h none last = inl (last b.buffer.name)
