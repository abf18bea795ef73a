-- What is missing is taken as a log exactly if the whole log is.
use Rattle.std.proofs.Common.{◌≡◌, ℕ, ◌≤◌, List, Option, Some, None, Ok, refl, sym, ap, subst, ◌∙◌, lit≤}
use Rattle.std.specs.FinMap as finite_map
use Rattle.std.specs.FinSet as finite_set
use Rattle.std.specs.Option.{option_or}
use Rattle.std.proofs.lemmas.Option.{same_Some}
use Rattle.rga_ops.specs.Content.{Content, Element, Agree, IsWithin, join, content_of, known_ids, nothing}
use Rattle.rga_ops.proofs.AgreeLaws.{agree_within}
use Rattle.rga_ops.proofs.ContentLaws.{get-join, within_itself}
use Rattle.rga_ops.proofs.KnownLaws.{known_nothing}
use Rattle.rga_exchange.specs.declared.log.LogRead.{LogRead}
use Rattle.rga_exchange.specs.Log.{LogOutcome, log_outcome}
use Rattle.rga_exchange.specs.Sending.{StandsFor}
use Rattle.rga_exchange.proofs.OperationLaws.{log_joined}
use Rattle.rga_exchange.proofs.LogLaws.{log_joinable, log_stands, log_that_stands}
use Rattle.rga_store.specs.declared.text_store.TheConstants.{MAX_LIMIT}
use Rattle.rga_brief.specs.Summary.{Summary, IsSummary, DigestsTellApart, missing}
use Rattle.rga_brief.proofs.MissingLaws.{sent_within, missing_suffices, missing_agrees}
use Rattle.mgr_show.specs.Shown.{log_content}
use Rattle.mgr_show.specs.Note.{IsReadable}
use Rattle.mgr_show.proofs.NoteLaws.{note_read}
use Rattle.mgr_show.specs.Missing.{lacked, lacked_text}

abbrev leads_to : LogRead → Content → LogOutcome
leads_to read c = (c, Ok read)

-- If one log is taken, so is another whose content agrees and leads to the same join.
taken_alike : (limit : ℕ) (now after c : Content) (read : LogRead) (log other : List ℕ) → finite_set.len (known_ids now) ≤ limit → log_outcome limit now log ≡ (after, Ok read)
    → StandsFor other c → Agree now c → join now c ≡ join now (log_content log) → (own : LogRead) × (log_outcome limit now other ≡ (after, Ok own))
taken_alike limit now after c read log other within h stands agree same =
    let is : join now c ≡ after = same ∙ sym (log_joined limit now after read log h) in
    let fits : finite_set.len (known_ids (join now c)) ≤ limit = subst (λ e. finite_set.len (known_ids e) ≤ limit) (sym is) (log_joinable limit now after read log within h).1 in
    let w = log_that_stands limit now c other stands agree fits in
    (w.0, w.1 ∙ ap (leads_to w.0) is)

pub missing_as_whole : (limit : ℕ) (d now after : Content) (peer : Summary) (log : List ℕ) (read : LogRead) → IsSummary d peer → IsWithin d now → DigestsTellApart (log_content log) d → finite_set.len (known_ids now) ≤ limit
    → StandsFor (lacked_text log peer) (content_of (lacked log peer)) → log_outcome limit now log ≡ (after, Ok read)
    → (part : LogRead) × (log_outcome limit now (lacked_text log peer) ≡ (after, Ok part))
missing_as_whole limit d now after peer log read is grown tell within stands h =
    let c : Content = log_content log in
    taken_alike limit now after (content_of (lacked log peer)) read log (lacked_text log peer) within h stands
    (agree_within now (content_of (lacked log peer)) now c (within_itself now) (sent_within c peer) (log_joinable limit now after read log within h).0.agree)
    (missing_suffices c d now peer is grown tell)

-- ---- what agrees with what is missing agrees with all, also if it has grown

grown_agrees : (c d now : Content) (peer : Summary) → IsSummary d peer → IsWithin d now → DigestsTellApart c d → Agree now (content_of (missing c peer)) → Agree now c
grown_agrees c d now peer is grown tell agree id x y f g = by (finite_map.get d.inserted id) refl
  where
    sent : Content
    sent = content_of (missing c peer)

    -- what was not held there is sent
    by : (o : Option Element) → finite_map.get d.inserted id ≡ o → x ≡ y
    by (Some z) held =
        same_Some x z (sym f ∙ grown.inserted id z held)
        ∙ missing_agrees c d peer is tell (agree_within d sent now sent grown (within_itself sent) agree) id z y held g
    by None held =
        let missed : finite_map.get sent.inserted id ≡ Some y =
        sym (ap (λ o. option_or o (finite_map.get sent.inserted id)) held)
        ∙ sym (get-join d sent id)
        ∙ ap (λ (e : Content). finite_map.get e.inserted id) (missing_suffices c d d peer is (within_itself d) tell)
        ∙ get-join d c id
        ∙ ap (λ o. option_or o (finite_map.get c.inserted id)) held
        ∙ g in
        agree id x y f missed

nothing_fits : finite_set.len (known_ids nothing) ≤ MAX_LIMIT
nothing_fits = subst (λ n. n ≤ MAX_LIMIT) (sym known_nothing) (lit≤ tt)

pub whole_as_missing : (limit : ℕ) (d now after : Content) (peer : Summary) (log : List ℕ) (part : LogRead) → IsSummary d peer → IsWithin d now → DigestsTellApart (log_content log) d → finite_set.len (known_ids now) ≤ limit
    → IsReadable log → StandsFor (lacked_text log peer) (content_of (lacked log peer)) → log_outcome limit now (lacked_text log peer) ≡ (after, Ok part)
    → (read : LogRead) × (log_outcome limit now log ≡ (after, Ok read))
whole_as_missing limit d now after peer log part is grown tell within readable stands h =
    let c : Content = log_content log in
    let text : List ℕ = lacked_text log peer in
    let said : content_of (lacked log peer) ≡ log_content text = stands.content in
    let own = note_read MAX_LIMIT nothing c log readable.content in
    taken_alike limit now after c part text log within h (log_stands MAX_LIMIT nothing c own.0 log nothing_fits own.1)
    (grown_agrees c d now peer is grown tell (subst (Agree now) (sym said) (log_joinable limit now after part text within h).0.agree))
    (sym (missing_suffices c d now peer is grown tell) ∙ ap (join now) said)
