-- What an exchange leaves, and what two that meet hold.
use Rattle.std.proofs.Common.{◌≡◌, ℕ, Bool, true, false, List, [], ◌∷◌, ◌++◌, Option, Some, None, Result, Ok, Err, MatchResult, if◌then◌else◌, refl, sym, ap, ◌∙◌, subst, append_assoc, length, IfSome, arith}
use Rattle.rga_ops.specs.Content.{Content, IsWithin, content_of, IsSound, Agree, nothing, join, known_count}
use Rattle.rga_ops.proofs.ContentLaws.{within_itself, within_chain, within_join, join_assoc, join_same, join_swap, nothing_join}
use Rattle.rga_exchange.specs.Counting.{Calls, Writes}
use Rattle.rga_lines.specs.Log.{operations_of, behind_head, stream_operations}
use Rattle.rga_exchange.specs.declared.fault.ReceiveFault.{ReceiveFault}
use Rattle.rga_exchange.specs.declared.fault.SendFault.{SendFault}
use Rattle.rga_brief.specs.Summary.{Summary, IsSummary, DigestsTellApart}
use Rattle.mg_buffer.specs.State.{State}
use Rattle.mg_files.proofs.ChangeSteps.{saved_part}
use Rattle.mg_files.proofs.LoadedLaws.{not_both}
use Rattle.mg_files.specs.declared.port.CallKind.TheVariants.{Connect, Accept, Finish}
use Rattle.mg_files.specs.declared.port.PortFault.{PortFault}
use Rattle.mg_files.specs.Calls.{Call, Adds, link_call}
use Rattle.mg_files.specs.Links.{KeepsBytes}
use Rattle.mg_buffer.specs.OpenState.{OpenState, has_unsaved}
use Rattle.mg_files.specs.Saving.{saved, written, IsSaved, SavesTo}
use Rattle.mg_files.specs.declared.fault.ExchangeFault.{ExchangeFault}
use Rattle.mg_files.specs.declared.fault.ExchangeFault.TheVariants.{Save, Link}
use Rattle.mg_files.specs.declared.talking.Exchanged.{Exchanged}
use Rattle.mg_files.specs.Asking.{Role, Connects, Waits, Asks, Wire, LearnsOver}
use Rattle.mg_files.specs.Talking.{SendsOver, HearsOver, told_to, told_content}
use Rattle.mg_files.specs.Meeting.{Ending, Unasked, Met, answer_of, whole_answer, peer_answer, opening, is_talk, EndsBehind, Meets, Came}
use Rattle.mg_files.specs.Linking.{counted, Account, BeginsOver, SendsFirst, ThenHears, HearsFirst, ThenSends, PassesOver, ExchangesOver, Whole, Tells, Meet, HaveMetBriefly}
use Rattle.std.specs.Io.KnownBytes.{Keeps, Appends}
use Rattle.std.proofs.lemmas.Bool.{cond_both}
use Rattle.std.proofs.lemmas.List.{append_cancel_left}
use Rattle.std.proofs.lemmas.Option.{same_Some}
use Rattle.rga_ops.specs.declared.op.Op.{Op}
use Rattle.rga_ops.specs.declared.op.Op.TheVariants.{Insert}
use Rattle.rga_ops.proofs.AgreeLaws.{agree_swap, agree_nothing}
use Rattle.rga_ops.proofs.OperationLaws.{content_inserted}
use Rattle.rga_ops.proofs.SoundLaws.{join_holds}
use Rattle.rga_ops.proofs.TakenLaws.{AreTaken, held_stays, taken_list_is}
use Rattle.rga_exchange.specs.Receiving.{number_received, exchange_outcome}
use Rattle.rga_exchange.specs.Sending.{exchange_text}
use Rattle.rga_exchange.specs.Taking.{Stop, AllTaken, AtEnd, AtFault, progress, stream_taken}
use Rattle.rga_exchange.specs.declared.taking.Form.TheVariants.{Exchange}
use Rattle.rga_exchange.proofs.OperationLaws.{stream_is_taken}
use Rattle.rga_brief.proofs.MissingLaws.{sent_within, missing_agrees, missing_suffices}
use Rattle.rga_brief.specs.Told.{TellsSummary, summary_heard, summary_text}

-- ---- what is known of the steps of an exchange, put together

-- ---- calls, and links

-- what is added behind others
pub adds_then : {A : Type 0} (old mid new : Option (List A)) (xs ys : List A) → Adds old mid xs → Adds mid new ys → Adds old new (xs ++ ys)
adds_then None mid new xs ys h k = tt
adds_then (Some told) mid new xs ys h k = subst (λ m. Adds m new ys) h k ∙ ap Some (append_assoc told xs ys)

-- ---- what a save leaves

pub saved_content : (b : OpenState) → (saved b).buffer.content ≡ b.buffer.content
saved_content b = saved_part (λ (x : State). x.content) (λ x. refl) b

pub saved_brief : (b : OpenState) → (saved b).brief ≡ b.brief
saved_brief b = cond_both (has_unsaved b) (written b) b (λ (x : OpenState). x.brief ≡ b.brief) (λ _. refl) (λ _. refl)

-- ---- what is gained

-- the buffer has all that it had, and may have more, and all else of it stays
pub record Gains (b d : State) : Type 0 where
  pub within : IsWithin b.content d.content
  pub rest : d ≡ record b { content = d.content; unsaved = d.unsaved }

if_gains : (x : Bool) (b : OpenState) → Gains b.buffer (if x then written b else b).buffer
if_gains true b = record { within = within_itself b.buffer.content; rest = refl }
if_gains false b = record { within = within_itself b.buffer.content; rest = refl }

pub saves_gain : (r : Result Bool PortFault) (old new : Option (List Call)) (b d : OpenState) → SavesTo r old new b d → Gains b.buffer d.buffer
saves_gain r old new b d s = grind (arith, if_gains)

gains_on : (b d e : State) → Gains b d → Gains d e → Gains b e
gains_on b d e f g = record {
  within = within_chain b.content d.content e.content f.within g.within;
  rest = g.rest ∙ ap (λ (s : State). record s { content = e.content; unsaved = e.unsaved }) f.rest;
}

gains_met : {old new : Option (List Call)} {b d : OpenState} {made : List Call} (kept : Result Bool PortFault) → Meets old new b d made kept → Gains b.buffer d.buffer
gains_met {new = new} {b} {d} kept m =
    let within = subst (λ c. IsWithin (saved b).buffer.content c) (sym m.took.content) (within_join (saved b).buffer.content (content_of m.ops)) in
    let took : Gains (saved b).buffer m.met.buffer = record { within = within; rest = m.took.rest } in
    gains_on b.buffer (saved b).buffer d.buffer (if_gains (has_unsaved b) b) (gains_on (saved b).buffer m.met.buffer d.buffer took (saves_gain kept m.mid new m.met d m.saves))

-- ---- how an exchange ended says all of it

pub over : {L : Type 0} {a : Account L} {b d : OpenState} {answer : Result Exchanged ExchangeFault} (role : Role) (ending : Ending)
    → answer ≡ answer_of ending → (came : Came a.calls a.made b d role ending) → Gains b.buffer d.buffer → PassesOver a b d role ending came → ExchangesOver a b d role answer
over role ending is came gains passes = record { course = record { ending = ending; answered = is; came = came; within = gains.within; rest = gains.rest }; passes = passes }

-- a link was opened, and others were not, and none of its calls is counted yet
abbrev pub begins : {L : Type 0} {a : Account L} {s : OpenState} {role : Role} {answer : Result (Option Summary) ExchangeFault} {links more : Option (List L)} {link : L} {fresh : Calls L} (asked : Calls L)
    → links ≡ a.links → Adds links more (link ∷ []) → a.opened ≡ more → fresh ≡ counted link → Asks a.wire answer role s fresh asked → BeginsOver a s role answer
begins {a = a} {s} {role} {answer} {links} {more} {link} {fresh} asked same opens behind is asks = record {
  link = link;
  opens = subst (λ x. Adds x a.opened (link ∷ [])) same (subst (λ x. Adds links x (link ∷ [])) (sym behind) opens);
  asked = asked;
  asks = subst (λ x. Asks a.wire answer role s x asked) is asks;
}

-- and behind that what is told to the peer was sent
abbrev pub sends_first : {L : Type 0} {a : Account L} {s : OpenState} {answer : Result ℕ SendFault} {links more : Option (List L)} {link : L} {fresh : Calls L} (peer : Option Summary) (asked sent : Calls L)
    → links ≡ a.links → Adds links more (link ∷ []) → a.opened ≡ more → fresh ≡ counted link → Asks a.wire (Ok peer) Connects s fresh asked → SendsOver peer a.wire.contents asked sent answer s.buffer.content → SendsFirst a s answer
sends_first peer asked sent same opens behind is asks sends = record { peer = peer; begins = begins asked same opens behind is asks; sent = sent; sends = sends }

-- all was sent, and once the sending was ended the peer was heard
pub then_hears : {L : Type 0} {a : Account L} {s met : OpenState} {n : ℕ} {answer : Result ℕ ReceiveFault} {link ended : L} {reader heard : Calls L} (first : SendsFirst a s (Ok n))
    → link ≡ first.sent.inner → KeepsBytes a.wire.remaining a.wire.contents link ended → reader ≡ counted ended → HearsOver a.wire.remaining reader heard answer s met → ThenHears a s n answer met
then_hears {a = a} {s} {met} {n} {answer} {link} {ended} {reader} {heard} first is keeps fresh hears = record {
  first = first;
  ended = ended;
  keeps = subst (λ x. KeepsBytes a.wire.remaining a.wire.contents x ended) is keeps;
  heard = heard;
  hears = subst (λ x. HearsOver a.wire.remaining x heard answer s met) fresh hears;
}

-- the peer was heard at once behind the opening
abbrev pub hears_first : {L : Type 0} {a : Account L} {s met : OpenState} {answer : Result ℕ ReceiveFault} {links more : Option (List L)} {link : L} {fresh : Calls L} (peer : Option Summary) (asked heard : Calls L)
    → links ≡ a.links → Adds links more (link ∷ []) → a.opened ≡ more → fresh ≡ counted link → Asks a.wire (Ok peer) Waits s fresh asked → HearsOver a.wire.remaining asked heard answer s met → HearsFirst a s answer met
hears_first peer asked heard same opens behind is asks hears = record { peer = peer; begins = begins asked same opens behind is asks; heard = heard; hears = hears }

-- then what is told to it was sent
pub then_sends : {L : Type 0} {a : Account L} {s met : OpenState} {heard : Result ℕ ReceiveFault} {answer : Result ℕ SendFault} {link : L} {writer : Calls L} (c : Content) (first : HearsFirst a s heard met) (sent : Calls L)
    → link ≡ first.heard.inner → writer ≡ counted link → SendsOver first.peer a.wire.contents writer sent answer c → ThenSends a s first answer c
then_sends {a = a} {answer = answer} c first sent is fresh sends =
    record { sent = sent; sends = subst (λ x. SendsOver first.peer a.wire.contents x sent answer c) (fresh ∙ ap counted is) sends }

-- The buffer was saved before anything else.
module _ {L : Type 0} (a : Account L) {b s : OpenState} {changed : Bool} {calls : Option (List Call)} (first : IsSaved changed a.calls calls b s) where
  -- and what else was done told these calls
  pub ends : (role : Role) (ending : Ending) {answer : Result Exchanged ExchangeFault} (made : List Call)
      → answer ≡ answer_of ending → Adds calls a.made made → (EndsBehind a.calls a.made b s made → (came : Came a.calls a.made b s role ending) × PassesOver a b s role ending came) → ExchangesOver a b s role answer
  ends role ending made is adds h =
      let c = h (record { calls = adds_then _ _ _ _ _ first.calls adds; left = first.left }) in
      over role ending is c.0 (saves_gain (Ok changed) a.calls calls b s first) c.1

  first_brief : s.brief ≡ true → b.brief ≡ true
  first_brief is = sym (saved_brief b) ∙ sym (ap (λ (x : OpenState). x.brief) first.left) ∙ is

  -- only what is brief is asked, and only talk fails there
  talk : (role : Role) (fault : ExchangeFault) (old new : Calls L) → Asks a.wire (Err fault) role s old new → (b.brief ≡ true) × (is_talk fault ≡ true)
  talk role (Save fault) old new asks = elim asks [ ]
  talk role (Link fault) old new asks = elim asks [ ]
  talk Connects fault old new asks = (first_brief asks.0, refl)
  talk Waits fault old new asks = (first_brief asks.0, refl)

  pub unasked : (role : Role) (fault : ExchangeFault) {answer : Result Exchanged ExchangeFault} → answer ≡ Err fault → Adds calls a.made (opening role ∷ []) → BeginsOver a s role (Err fault) → ExchangesOver a b s role answer
  unasked role fault is adds begun =
      let t = talk role fault (counted begun.link) begun.asked begun.asks in
      ends role (Unasked fault) (opening role ∷ []) is adds (λ left. ((t.0, (t.1, left)), begun))

  module _ (mid : Option (List Call)) {heard : Result ℕ ReceiveFault} {met d : OpenState} (kept : Result Bool PortFault) (keeps : SavesTo kept mid a.made met d) where
    abbrev meets : (made : List Call) {r t : Calls L} → Adds calls mid made → HearsOver a.wire.remaining r t heard (saved b) met → Meets a.calls a.made b d made kept
    meets made adds hears = record {
      mid = mid;
      calls = adds_then _ _ _ _ _ first.calls adds;
      met = met;
      ops = operations_of (behind_head hears.lines.lines);
      took = hears.lines.beside;
      rest = hears.rest;
      saves = keeps;
    }

    pub turned : {answer : Result Exchanged ExchangeFault} {r : Result ℕ ExchangeFault} {n : ℕ} → answer ≡ whole_answer (Ok n) r → r ≡ peer_answer heard kept → Adds calls mid (link_call Connect ∷ link_call Finish ∷ [])
        → ThenHears a s n heard met → ExchangesOver a b d Connects answer
    turned {n = n} is answered adds h =
        let own = subst (λ x. ThenHears a x n heard met) first.left h in
        let m = meets (link_call Connect ∷ link_call Finish ∷ []) adds own.hears in
        over {a = a} {b = b} {d = d} Connects (Met (Ok n) heard kept) (is ∙ ap (whole_answer (Ok n)) answered) m (gains_met kept m) own

    pub waited : {answer : Result Exchanged ExchangeFault} {r : Result ℕ ExchangeFault} (sent : Result ℕ SendFault) → answer ≡ whole_answer sent r → r ≡ peer_answer heard kept → Adds calls mid (link_call Accept ∷ []) → (h : HearsFirst a s heard met)
        → MatchResult r (λ _. ThenSends a s h sent d.buffer.content) (λ _. sent ≡ Ok 0) → ExchangesOver a b d Waits answer
    waited sent is answered adds h sends =
        let own = subst (λ x. (first : HearsFirst a x heard met) × MatchResult (peer_answer heard kept) (λ _. ThenSends a x first sent d.buffer.content) (λ _. sent ≡ Ok 0)) first.left
        (h, subst (λ x. MatchResult x (λ _. ThenSends a s h sent d.buffer.content) (λ _. sent ≡ Ok 0)) answered sends) in
        let m = meets (link_call Accept ∷ []) adds own.0.hears in
        over {a = a} {b = b} {d = d} Waits (Met sent heard kept) (is ∙ ap (whole_answer sent) answered) m (gains_met kept m) own

-- ---- what links that tell their bytes leave of contents

one_value : {A E : Type 0} (a b : A) (r : Result A E) → r ≡ Ok a → r ≡ Ok b → a ≡ b
one_value a b r first second = cc

-- ---- a link was opened

module _ {L : Type 0} (a : Account L) (b d : OpenState) (role : Role) (e : Exchanged) where
  pub has_link : ExchangesOver a b d role (Ok e) → Whole a b d role e
  has_link x = by x.course.ending x.course.answered x.course.came x.passes
    where
      by : (ending : Ending) → Ok e ≡ answer_of ending → (came : Came a.calls a.made b d role ending) → PassesOver a b d role ending came → Whole a b d role e
      by (Met (Ok n) (Ok m) (Ok changed)) is came passes =
          subst (λ (x : Exchanged). Whole a b d role x) (one_value (record { sent = n; received = m }) e _ refl (sym is)) (record { changed = changed; came = came; passes = passes })
      by (Met (Err fault) (Ok m) (Ok changed)) is came passes = absurd (not_both {a = e} refl is)
      by (Met sent (Ok m) (Err fault)) is came passes = absurd (not_both {a = e} refl is)
      by (Met sent (Err fault) kept) is came passes = absurd (not_both {a = e} refl is)
      by other is came passes = absurd (not_both {a = e} refl is)

-- ---- what it tells is joined

known_kept : (bytes : List ℕ) (kept : Option (List ℕ)) → Keeps (Some bytes) kept → kept ≡ Some bytes
known_kept bytes kept keeps = grind arith

module _ {L : Type 0} (a : Account L) (b d : OpenState) (e : Exchanged) (bytes : List ℕ) where
  -- what was heard to its end, and saved
  heard_joins : {made : List Call} {changed : Bool} {n : ℕ} {old new : Calls L} (m : Meets a.calls a.made b d made (Ok changed)) → HearsOver a.wire.remaining old new (Ok n) (saved b) m.met
      → a.wire.remaining old.inner ≡ Some bytes → d.buffer.content ≡ join b.buffer.content (content_of (stream_operations bytes))
  heard_joins m h is =
      ap (λ (o : OpenState). o.buffer.content) m.saves.left ∙ saved_content m.met
      ∙ subst (λ k. IfSome k (λ bytes. m.met.buffer.content ≡ join (saved b).buffer.content (content_of (stream_operations bytes)))) is h.joined
      ∙ ap (λ c. join c (content_of (stream_operations bytes))) (saved_content b)

  pub exchange_joins : (w : Whole a b d Connects e) → a.wire.remaining w.passes.first.sent.inner ≡ Some bytes → d.buffer.content ≡ join b.buffer.content (content_of (stream_operations bytes))
  exchange_joins w is = let h = w.passes in heard_joins w.came h.hears (known_kept bytes _ (subst (λ k. Keeps k (a.wire.remaining h.ended)) is h.keeps.to_give))

  pub serve_joins : (w : Whole a b d Waits e) → a.wire.remaining w.passes.0.begins.asked.inner ≡ Some bytes → d.buffer.content ≡ join b.buffer.content (content_of (stream_operations bytes))
  serve_joins w is = heard_joins w.came w.passes.0.hears is

-- ---- two that meet

-- what is received to its end was taken, operation by operation
outcome_taken : (limit n : ℕ) (c d : Content) (bytes : List ℕ) → exchange_outcome limit c bytes ≡ (d, Ok n) → AreTaken c (stream_operations bytes) d
outcome_taken limit n c d bytes h = by (stream_taken Exchange limit c bytes).stop refl (ap (λ (o : Content × Result ℕ ReceiveFault). o.1) h)
  where
    by : (stop : Stop) → (stream_taken Exchange limit c bytes).stop ≡ stop → number_received (length (stream_operations bytes)) stop ≡ Ok n → AreTaken c (stream_operations bytes) d
    by AllTaken is told = absurd (not_both told refl)
    by (AtEnd number) is told =
        let lines : ℕ = (stream_taken Exchange limit c bytes).lines in
        taken_list_is limit c (stream_operations bytes) d (stream_is_taken limit lines c d number bytes (λ k. progress lines (h k).0 (is k)))
    by (AtFault e) is told = absurd (not_both told refl)

-- and so it agrees with what was held
taken_agrees : (c d : Content) (ops : List Op) → AreTaken c ops d → Agree c (content_of ops)
taken_agrees c d ops w id x y f g = same_Some x y (sym (w.grown.inserted id x f) ∙ w.held (Insert id y.parent y.ch) (content_inserted ops id y g))

-- a link that tells what was written on another tells all of it
tells_all : {L M : Type 0} (remaining : L → Option (List ℕ)) (contents : M → Option (List ℕ)) (link : L) (old new : Calls M) (text : List ℕ)
    → (t : Tells remaining contents link old.inner new.inner) → Writes contents old new text → t.bytes ≡ text
tells_all remaining contents link old new text t written =
    append_cancel_left t.front t.bytes text (subst (λ k. Appends (Some t.front) k text) t.behind (subst (λ k. Appends k (contents new.inner) text) t.before written))

-- so it stands for what was told to the peer
told_is : {L M : Type 0} (remaining : L → Option (List ℕ)) (contents : M → Option (List ℕ)) (link : L) (peer : Option Summary) (old new : Calls M) (n : ℕ) (c : Content)
    → (t : Tells remaining contents link old.inner new.inner) → SendsOver peer contents old new (Ok n) c → IsSound c
    → content_of (stream_operations t.bytes) ≡ told_content peer c
told_is remaining contents link peer old new n c t s sound =
    let part : Content = told_content peer c in
    let text : List ℕ = exchange_text (told_to peer c) in
    let all : Content = join nothing part in
    ap (λ bytes. content_of (stream_operations bytes)) (tells_all remaining contents link old new text t s.written)
    ∙ sym (nothing_join (content_of (stream_operations text)))
    ∙ sym (outcome_taken (known_count all) n nothing all text (s.received (known_count all) nothing sound (agree_swap c nothing (agree_nothing c)) (omega (arith)))).joined
    ∙ nothing_join part

told_within : (peer : Option Summary) (c : Content) → IsWithin (told_content peer c) c
told_within None c = within_itself c
told_within (Some peer) c = sent_within c peer

-- with a part of what is sound
sound_joined : (c x d : Content) → IsSound c → IsSound d → IsWithin x d → IsSound (join c x)
sound_joined c x d first second within op h = grind (arith, join_holds, held_stays)

module _ {L M : Type 0} (a : Account L) (b d : OpenState) (their : Account M) (their_b their_d : OpenState) (m : Meet a b d their their_b their_d) (sound : IsSound b.buffer.content)
    (their_sound : IsSound their_b.buffer.content) where
  -- what was told to the one that waited
  there_is : content_of (stream_operations m.there.bytes) ≡ told_content m.connects.passes.first.peer b.buffer.content
  there_is =
      let first = m.connects.passes.first in
      told_is their.wire.remaining a.wire.contents m.waits.passes.0.begins.asked.inner first.peer first.begins.asked first.sent m.answer.sent b.buffer.content m.there
      (subst (λ x. SendsOver first.peer a.wire.contents first.begins.asked first.sent (Ok m.answer.sent) x) (saved_content b) first.sends) sound

  -- it agreed with it, since it took all of it
  their_agree : Agree their_b.buffer.content (told_content m.connects.passes.first.peer b.buffer.content)
  their_agree =
      let hears = m.waits.passes.0.hears in
      let c : Content = (saved their_b).buffer.content in
      let took = subst (λ k. IfSome k (λ bytes. exchange_outcome (saved their_b).buffer.limit c bytes ≡ (m.waits.came.met.buffer.content, Ok m.their_answer.received))) m.there.told
      (hears.outcome (not_both refl) (not_both refl)) in
      let agree : Agree c (content_of (stream_operations m.there.bytes)) =
      taken_agrees c m.waits.came.met.buffer.content (stream_operations m.there.bytes) (outcome_taken (saved their_b).buffer.limit m.their_answer.received c m.waits.came.met.buffer.content m.there.bytes took) in
      subst (λ x. Agree x (told_content m.connects.passes.first.peer b.buffer.content)) (saved_content their_b) (subst (Agree c) there_is agree)

  -- what the one that waited holds then, and the one that connected
  their_join : their_d.buffer.content ≡ join their_b.buffer.content (told_content m.connects.passes.first.peer b.buffer.content)
  their_join = serve_joins their their_b their_d m.their_answer m.there.bytes m.waits m.there.told ∙ ap (join their_b.buffer.content) there_is

  our_join : d.buffer.content ≡ join b.buffer.content (told_content m.waits.passes.0.peer their_d.buffer.content)
  our_join =
      let c : Content = b.buffer.content in
      let e : Content = their_b.buffer.content in
      let x : Content = told_content m.connects.passes.first.peer c in
      let within : IsWithin x c = told_within m.connects.passes.first.peer c in
      let all : IsSound their_d.buffer.content = subst IsSound (sym their_join) (sound_joined e x c their_sound sound within) in
      let heard = m.waits.passes.0 in
      exchange_joins a b d m.answer m.back.bytes m.connects m.back.told
      ∙ ap (join c) (told_is a.wire.remaining their.wire.contents m.connects.passes.first.sent.inner heard.peer (counted heard.heard.inner) m.waits.passes.1.sent m.their_answer.sent their_d.buffer.content m.back m.waits.passes.1.sends all)

  pub parts : ((part : Content) × (IsWithin part b.buffer.content × (their_d.buffer.content ≡ join their_b.buffer.content part))) × ((part : Content) × (IsWithin part their_d.buffer.content × (d.buffer.content ≡ join b.buffer.content part)))
  parts = ((_, (told_within m.connects.passes.first.peer b.buffer.content, their_join)), (_, (told_within m.waits.passes.0.peer their_d.buffer.content, our_join)))

  -- where what each told is as good as all
  meet_by : Agree their_b.buffer.content b.buffer.content → join their_b.buffer.content (told_content m.connects.passes.first.peer b.buffer.content) ≡ join their_b.buffer.content b.buffer.content
      → (their_d.buffer.content ≡ join their_b.buffer.content b.buffer.content → join b.buffer.content (told_content m.waits.passes.0.peer their_d.buffer.content) ≡ join b.buffer.content their_d.buffer.content)
      → (d.buffer.content ≡ join b.buffer.content their_b.buffer.content) × (their_d.buffer.content ≡ d.buffer.content)
  meet_by agree enough enough_back =
      let c : Content = b.buffer.content in
      let e : Content = their_b.buffer.content in
      let theirs : their_d.buffer.content ≡ join c e = their_join ∙ enough ∙ join_swap e c agree in
      let ours : d.buffer.content ≡ join c e = our_join ∙ enough_back (their_join ∙ enough) ∙ ap (join c) theirs ∙ sym (join_assoc c c e) ∙ ap (λ x. join x e) (join_same c) in
      (ours, theirs ∙ sym ours)

-- ---- none asked

no_peer : {L : Type 0} (wire : Wire L) (role : Role) (b : OpenState) (old new : Calls L) (peer : Option Summary) → b.brief ≡ false → Asks wire (Ok peer) role (saved b) old new → peer ≡ None
no_peer wire role b old new peer is asks = grind (arith, saved_brief)

-- ---- a summary that is heard as it was told

heard_as_told : {L M : Type 0} (remaining : L → Option (List ℕ)) (contents : M → Option (List ℕ)) (link new : Calls L) (old next : Calls M) (c : Content) (peer : Summary)
    → Tells remaining contents link.inner old.inner next.inner → TellsSummary contents old next c → LearnsOver remaining link new (Ok peer) → IsSummary c peer
heard_as_told remaining contents link new old next c peer t told learns =
    let heard : summary_heard t.bytes ≡ Ok peer = subst (λ k. IfSome k (λ bytes. summary_heard bytes ≡ Ok peer)) t.told (learns.outcome (not_both refl) (not_both refl)) in
    let same : summary_heard t.bytes ≡ Ok told.own = ap summary_heard (tells_all remaining contents link.inner old next (summary_text told.own) t told.written) ∙ told.heard in
    subst (IsSummary c) (one_value told.own peer _ same heard) told.is

module _ {L M : Type 0} (a : Account L) (b d : OpenState) (their : Account M) (their_b their_d : OpenState) where
  pub meet : Meet a b d their their_b their_d → b.brief ≡ false → their_b.brief ≡ false → IsSound b.buffer.content → IsSound their_b.buffer.content
      → (d.buffer.content ≡ join b.buffer.content their_b.buffer.content) × (their_d.buffer.content ≡ d.buffer.content)
  meet m whole their_whole sound their_sound =
      let ours = m.connects.passes.first.begins in
      let theirs = m.waits.passes.0.begins in
      let none : m.connects.passes.first.peer ≡ None = no_peer a.wire Connects b (counted ours.link) ours.asked _ whole ours.asks in
      meet_by a b d their their_b their_d m sound their_sound
      (subst (λ p. Agree their_b.buffer.content (told_content p b.buffer.content)) none (their_agree a b d their their_b their_d m sound their_sound))
      (ap (λ p. join their_b.buffer.content (told_content p b.buffer.content)) none)
      (λ _. ap (λ p. join b.buffer.content (told_content p their_d.buffer.content)) (no_peer their.wire Waits their_b (counted theirs.link) theirs.asked _ their_whole theirs.asks))

  pub meet_briefly : HaveMetBriefly a b d their their_b their_d → IsSound b.buffer.content → IsSound their_b.buffer.content
      → DigestsTellApart b.buffer.content their_b.buffer.content → DigestsTellApart (join their_b.buffer.content b.buffer.content) b.buffer.content
      → (d.buffer.content ≡ join b.buffer.content their_b.buffer.content) × (their_d.buffer.content ≡ d.buffer.content)
  meet_briefly h sound their_sound apart apart_then =
      let c : Content = b.buffer.content in
      let e : Content = their_b.buffer.content in
      let ours = h.meet.connects.passes.first.begins in
      let theirs = h.meet.waits.passes.0.begins in
      let known : IsSummary c h.their_peer = heard_as_told their.wire.remaining a.wire.contents (counted theirs.link) h.answers.mid (counted ours.link) h.asks.mid c h.their_peer h.asked h.asks.says.told h.answers.learns in
      let their_known : IsSummary e h.peer = heard_as_told a.wire.remaining their.wire.contents h.asks.mid ours.asked h.answers.mid theirs.asked e h.peer h.answered h.answers.says.told h.asks.learns in
      meet_by a b d their their_b their_d h.meet sound their_sound
      (missing_agrees c e h.peer their_known apart
      (subst (λ p. Agree e (told_content p c)) h.knows (their_agree a b d their their_b their_d h.meet sound their_sound)))
      (ap (λ p. join e (told_content p c)) h.knows ∙ missing_suffices c e e h.peer their_known (within_itself e) apart)
      (λ theirs. ap (λ p. join c (told_content p their_d.buffer.content)) h.they_know
      ∙ missing_suffices their_d.buffer.content c c h.their_peer known (within_itself c) (subst (λ x. DigestsTellApart x c) (sym theirs) apart_then))
