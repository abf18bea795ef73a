-- Claims begin with their head, and what is told of a content is heard after it.
use Rattle.std.proofs.Common.{◌≡◌, ◌↔◌, ℕ, Bool, true, false, cond, List, ◌++◌, length, take, drop, Option, Some, None, Result, Ok, Err, refl, sym, ap, subst, ◌∙◌}
use Rattle.std.specs.Str.{bytes_eq}
use Rattle.std.specs.Cmp.Lexicographic.{same_text}
use Rattle.std.proofs.lemmas.List.{take-append-drop}
use Rattle.std.proofs.lemmas.Option.{none-some, same_Some}
use Rattle.rga_ops.specs.Content.{Content}
use Rattle.rga_exchange.specs.declared.fault.ReceiveFault.{ReceiveFault}
use Rattle.rga_brief.specs.Summary.{Summary, IsSummary}
use Rattle.rga_brief.proofs.OneSummary.{one_summary}
use Rattle.rga_brief.specs.Told.{IsHeardAs, summary_heard}
use Rattle.rga_brief.proofs.HeardLaws.{heard-iff}
use Rattle.mgr_show.specs.declared.fault.MissingFault.{MissingFault}
use Rattle.mgr_show.specs.declared.fault.MissingFault.TheVariants as fault
use Rattle.mgr_show.specs.Claims.{head_line, head_text, after_head, AreClaimsOf}
use Rattle.mgr_show.specs.Missing.{Heard, with_fault, heard_after, claims_heard}

-- ---- the head

pub after_its_head : (rest : List ℕ) → after_head (head_text ++ rest) ≡ Some rest
unfolding head_line
after_its_head rest = refl

begins_with_it : (bytes rest : List ℕ) → after_head bytes ≡ Some rest → bytes ≡ head_text ++ rest
begins_with_it bytes rest h = by (bytes_eq (take (length head_text) bytes) head_text) refl h
  where
    by : (b : Bool) → bytes_eq (take (length head_text) bytes) head_text ≡ b → cond b (Some (drop (length head_text) bytes)) None ≡ Some rest → bytes ≡ head_text ++ rest
    by true same g =
        sym (take-append-drop (length head_text) bytes)
        ∙ ap (λ l. l ++ drop (length head_text) bytes) (same_text (take (length head_text) bytes) head_text (sym same))
        ∙ ap (λ l. head_text ++ l) (same_Some (drop (length head_text) bytes) rest g)
    by false same g = absurd (none-some rest g)

pub head_exactly : (bytes rest : List ℕ) → (after_head bytes ≡ Some rest) ↔ (bytes ≡ head_text ++ rest)
head_exactly bytes rest = (begins_with_it bytes rest, λ is. ap after_head is ∙ after_its_head rest)

-- ---- what is heard

abbrev hears : Summary → Heard
hears s = Ok s

abbrev refuses : MissingFault → Heard
refuses e = Err e

told_summary : (text : List ℕ) (c : Content) (claims : AreClaimsOf text c) → claims_heard text ≡ Ok claims.told.own
told_summary text c claims =
    ap claims_heard claims.is
    ∙ ap heard_after (after_its_head claims.lines)
    ∙ ap (λ l. with_fault (summary_heard l)) claims.told.text
    ∙ ap with_fault claims.told.heard

pub heard_as_told : (text : List ℕ) (c : Content) (peer : Summary) → AreClaimsOf text c → (claims_heard text ≡ Ok peer) ↔ IsSummary c peer
heard_as_told text c peer claims = (
  λ heard.
      let same : hears claims.told.own ≡ hears peer = sym (told_summary text c claims) ∙ heard in
      let own : claims.told.own ≡ peer = cc in
      subst (IsSummary c) own claims.told.is,
  λ is. told_summary text c claims ∙ ap hears (one_summary c claims.told.own peer claims.told.is is),
)

pub heard_whole : (bytes : List ℕ) (peer : Summary) → claims_heard bytes ≡ Ok peer → (rest : List ℕ) × (bytes ≡ head_text ++ rest) × IsHeardAs rest (Ok peer)
heard_whole bytes peer h = by_head (after_head bytes) refl h
  where
    by_answer : (rest : List ℕ) (r : Result Summary ReceiveFault) → summary_heard rest ≡ r → with_fault r ≡ Ok peer → IsHeardAs rest (Ok peer)
    by_answer rest (Ok s) is g =
        let same : hears s ≡ hears peer = g in
        let said : s ≡ peer = cc in
        (heard-iff rest (Ok peer)).0 (is ∙ ap Ok said)
    by_answer rest (Err e) is g = let clash : refuses (fault.Claims e) ≡ hears peer = g in absurd cc

    by_head : (r : Option (List ℕ)) → after_head bytes ≡ r → heard_after r ≡ Ok peer → (rest : List ℕ) × (bytes ≡ head_text ++ rest) × IsHeardAs rest (Ok peer)
    by_head (Some rest) is g = (rest, begins_with_it bytes rest is, by_answer rest (summary_heard rest) refl g)
    by_head None is g = let clash : refuses fault.Head ≡ hears peer = g in absurd cc
