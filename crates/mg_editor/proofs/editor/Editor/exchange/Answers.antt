use Rattle.std.proofs.Common.{rules}
use Rattle.mg_editor.proofs.editor.Editor.exchange.Goals as goal

pub returns-clause-over : goal.returns-clause-over
returns-clause-over g c = record {
  came = c.exchange-answer.result;
  became = (c.exchange-answer.new.opened, search rules, search rules);
  is = search rules;
  done = search rules;
}

-- nothing need be said of links
pub returns-clause-told : goal.returns-clause-told
returns-clause-told g c =
    let over = returns-clause-over g c in
    record { came = over.came; became = (over.became.0, over.became.1, over.became.2.course); is = over.is; done = over.done }
