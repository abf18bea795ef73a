-- What is written of what claims lack.
use Rattle.std.proofs.Common.{◌≡◌, ℕ, List, [], ◌++◌, length, Option, Ok, refl, sym, ap, subst, ◌∙◌, lit≤, inr}
use Rattle.std.specs.Prelude.{IfSome, ◌⊎◌}
use Rattle.std.proofs.lemmas.Option.{IfSome_then}
use Rattle.rga_ops.specs.Content.{Content, nothing, join, content_of, IsAgreed, IsSound}
use Rattle.rga_ops.specs.ListAnswer.{AreWellFormed, IsJoinable}
use Rattle.rga_ops.specs.declared.op.Op.{Op}
use Rattle.rga_ops.specs.declared.op.Op.TheVariants.{Insert}
use Rattle.rga_ops.proofs.AgreeLaws.{agree_nothing, agree_swap}
use Rattle.rga_ops.proofs.ContentLaws.{nothing_join}
use Rattle.rga_ops.proofs.OperationLaws.{Contains-nil}
use Rattle.rga_exchange.specs.Counting.{Calls, Writes, WritesFront, WritesNothing}
use Rattle.rga_lines.specs.Log.{log_operations, then_operations}
use Rattle.rga_lines.specs.Stream.{rest_of}
use Rattle.rga_lines.proofs.StandLemmas.{nothing_stands}
use Rattle.rga_exchange.specs.Sending.{StandsFor, log_text}
use Rattle.rga_exchange.specs.declared.log.LogRead.{LogRead}
use Rattle.rga_brief.specs.Summary.{Summary, missing}
use Rattle.rga_brief.proofs.MissingLaws.{sent_agreed, missing_well_formed}
use Rattle.mgr_show.specs.Stored.{IsRead}
use Rattle.mgr_show.specs.Missing.{claims_heard, lacked, OnBoth, WritesMissing, BeginsMissing}

-- ---- the lines as a log

-- no bytes stand for nothing
says_none : log_operations [] ≡ []
says_none = ap (λ r. then_operations r []) nothing_stands

empty_stands : StandsFor [] nothing
empty_stands = record {
  lines = tt;
  short = lit≤ tt;
  agreed = subst IsAgreed (sym says_none) (λ id parent other ch char a b. absurd (Contains-nil (Insert id parent ch) a));
  content = ap content_of (sym says_none);
}

-- what is said of logs after which operations were written, if these are what a peer lacks
abbrev JoinedAfter : List Op → Type 0
JoinedAfter ops = (bytes : List ℕ) (c : Content) → StandsFor bytes c → rest_of bytes ≡ [] → AreWellFormed ops → IsJoinable c ops → StandsFor (bytes ++ log_text ops) (join c (content_of ops))

stands_alone : (c : Content) (s : Summary) → IsSound c → JoinedAfter (missing c s) → StandsFor (log_text (missing c s)) (content_of (missing c s))
stands_alone c s sound joined =
    subst (StandsFor (log_text (missing c s))) (nothing_join (content_of (missing c s)))
    (joined [] nothing empty_stands refl (missing_well_formed c s sound) (record { agreed = sent_agreed c s; agree = agree_swap (content_of (missing c s)) nothing (agree_nothing (content_of (missing c s))) }))

-- ---- what is written

module _ {W : Type 0} (contents : W → Option (List ℕ)) where
  pub writes_missing : (claims log read : Option (List ℕ)) (old new : Calls W) (c : Content) (ended : LogRead) (peer : Summary) (ops : List Op) (number : ℕ)
      → IfSome claims (λ bytes. claims_heard bytes ≡ Ok peer) → read ≡ log → IfSome read (λ bytes. IsRead bytes c ended) → IsSound c
      → ops ≡ missing c peer → number ≡ length ops → Writes contents old new (log_text ops) → JoinedAfter ops
      → OnBoth claims log (λ heard bytes. WritesMissing contents old new heard bytes number)
  writes_missing claims log read old new c ended peer ops number heard same held sound are count w joined =
      IfSome_then claims heard (λ told hears. IfSome_then log (subst (λ known. IfSome known (λ bytes. IsRead bytes c ended)) same held) (λ bytes of_log.
      let is : ops ≡ lacked bytes peer = are ∙ ap (λ d. missing d peer) of_log.content in
      record {
        peer = peer;
        heard = hears;
        readable = of_log.readable;
        count = count ∙ ap length is;
        written = subst (λ l. Writes contents old new (log_text l)) is w;
        stands = subst (λ d. StandsFor (log_text (missing d peer)) (content_of (missing d peer))) of_log.content (stands_alone c peer sound (subst JoinedAfter are joined));
      }))

  pub begins_missing : (claims log read : Option (List ℕ)) (old new : Calls W) (c : Content) (ended : LogRead) (peer : Summary) (ops : List Op)
      → IfSome claims (λ bytes. claims_heard bytes ≡ Ok peer) → read ≡ log → IfSome read (λ bytes. IsRead bytes c ended)
      → ops ≡ missing c peer → WritesFront contents old new (log_text ops)
      → OnBoth claims log (λ heard bytes. WritesNothing contents old new ⊎ BeginsMissing contents old new heard bytes)
  begins_missing claims log read old new c ended peer ops heard same held are w =
      IfSome_then claims heard (λ told hears. IfSome_then log (subst (λ known. IfSome known (λ bytes. IsRead bytes c ended)) same held) (λ bytes of_log. inr (record {
        peer = peer;
        heard = hears;
        readable = of_log.readable;
        begun = subst (λ l. WritesFront contents old new (log_text l)) (are ∙ ap (λ d. missing d peer) of_log.content) w;
      })))
