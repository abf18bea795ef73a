use Rattle.std.proofs.Common.{◌≡◌, ◌∙◌, subst, inr}
use Rattle.std.proofs.lemmas.Result.{on_ok_weaker}
use Rattle.rga_exchange.specs.Counting.{Writes, WritesFront}
use Rattle.rga_ops.proofs.CaseSteps.{on_err_always}
use Rattle.mgr_show.specs.Told.{numbers_bytes}
use Rattle.mgr_show.proofs.BesideLaws.{write_failed}
use Rattle.mgr_show.proofs.log.write_numbers.Goals as goal

pub returns-clause-written : goal.returns-clause-written
returns-clause-written g c =
    let text : c.deref.result.now ≡ numbers_bytes c.args.json c.args.name.now c.in_ok-numbers.numbers = c.deref.ensures ∙ c.in_ok-text.ensures in
    on_ok_weaker c.write_text.result (λ written. record {
      numbers = c.in_ok-numbers.numbers;
      are = record { numbers = c.in_ok-numbers.ensures.numbers; text = c.in_ok-numbers.ensures.text };
      written = subst (λ l. Writes g.W.Write.contents c.args.writer.now c.write_text.new.writer l) text written;
    }) c.write_text.ensures.written

pub returns-clause-begun : goal.returns-clause-begun
returns-clause-begun g c =
    let text : c.deref.result.now ≡ numbers_bytes c.args.json c.args.name.now c.in_ok-numbers.numbers = c.deref.ensures ∙ c.in_ok-text.ensures in
    on_err_always c.write_text.result (inr (record {
      numbers = c.in_ok-numbers.numbers;
      are = record { numbers = c.in_ok-numbers.ensures.numbers; text = c.in_ok-numbers.ensures.text };
      begun = subst (λ l. WritesFront g.W.Write.contents c.args.writer.now c.write_text.new.writer l) text c.write_text.ensures.begun;
    }))

pub returns-clause-looked : goal.returns-clause-looked
returns-clause-looked g c =
    let text : c.deref.result.now ≡ numbers_bytes c.args.json c.args.name.now c.in_ok-numbers.numbers = c.deref.ensures ∙ c.in_ok-text.ensures in
    on_ok_weaker c.write_text.result (λ written. record {
      numbers = c.in_ok-numbers.numbers;
      looked = c.in_ok-numbers.ensures.looked;
      written = subst (λ l. Writes g.W.Write.contents c.args.writer.now c.write_text.new.writer l) text written;
    }) c.write_text.ensures.written

pub returns-clause-reads : goal.returns-clause-reads
returns-clause-reads g c =
    write_failed c.write_text.result c.in_ok-numbers.numbers.text _ _ c.in_ok-numbers.ensures.looked c.write_text.ensures.fault
