use Rattle.std.proofs.Common.{◌≡◌, ◌∙◌, [], sym, ap, subst}
use Rattle.rga_ops.specs.Content.{IsSound}
use Rattle.rga_ops.specs.Operations.{operations}
use Rattle.rga_exchange.specs.Counting.{Writes, WritesFront}
use Rattle.rga_lines.specs.Stream.{rest_of}
use Rattle.rga_exchange.specs.Sending.{StandsFor}
use Rattle.rga_exchange.specs.Compacting.{compact_text}
use Rattle.rga_exchange.proofs.FindingLaws.{content_of_listed}
use Rattle.mgr_show.proofs.compact.compact_records.Goals as goal

pub compact_ops-requires-clause-all : goal.compact_ops-requires-clause-all
compact_ops-requires-clause-all g c =
    let are = c.deref.ensures.value ∙ c.in_ok-ops.ensures.ok in
    are ∙ ap operations (sym (content_of_listed c.args.records.now.content c.deref.result.now are))

pub compact_ops-requires-clause-sound : goal.compact_ops-requires-clause-sound
compact_ops-requires-clause-sound g c =
    let are = c.deref.ensures.value ∙ c.in_ok-ops.ensures.ok in
    subst IsSound (sym (content_of_listed c.args.records.now.content c.deref.result.now are)) c.known-known.ensures.sound

pub returns-in_err-compact_ops-clause-begun : goal.returns-in_err-compact_ops-clause-begun
returns-in_err-compact_ops-clause-begun g c =
    let own = content_of_listed c.args.records.now.content c.deref.result.now (c.deref.ensures.value ∙ c.in_ok-ops.ensures.ok) in
    subst (λ d. WritesFront g.W.Write.contents c.args.writer.now c.compact_ops.new.writer (compact_text c.args.dels d)) own c.compact_ops.ensures.begun

pub returns-clause-written : goal.returns-clause-written
returns-clause-written g c =
    let own = content_of_listed c.args.records.now.content c.deref.result.now (c.deref.ensures.value ∙ c.in_ok-ops.ensures.ok) in
    subst (λ d. Writes g.W.Write.contents c.args.writer.now c.compact_ops.new.writer (compact_text c.args.dels d)) own c.in_ok-compact_ops.ensures.written

pub returns-clause-stands : goal.returns-clause-stands
returns-clause-stands g c =
    let own = content_of_listed c.args.records.now.content c.deref.result.now (c.deref.ensures.value ∙ c.in_ok-ops.ensures.ok) in
    subst (λ d. StandsFor (compact_text c.args.dels d) d) own c.in_ok-compact_ops.ensures.stands

pub returns-clause-ended : goal.returns-clause-ended
returns-clause-ended g c =
    let own = content_of_listed c.args.records.now.content c.deref.result.now (c.deref.ensures.value ∙ c.in_ok-ops.ensures.ok) in
    subst (λ d. rest_of (compact_text c.args.dels d) ≡ []) own c.in_ok-compact_ops.ensures.ended

pub returns-clause-begun : goal.returns-clause-begun
returns-clause-begun g c =
    let own = content_of_listed c.args.records.now.content c.deref.result.now (c.deref.ensures.value ∙ c.in_ok-ops.ensures.ok) in
    subst (λ d. WritesFront g.W.Write.contents c.args.writer.now c.compact_ops.new.writer (compact_text c.args.dels d)) own c.compact_ops.ensures.begun
