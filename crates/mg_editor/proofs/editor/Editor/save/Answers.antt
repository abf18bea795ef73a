use Rattle.std.proofs.Common.{rules}
use Rattle.mg_editor.proofs.editor.Editor.save.Goals as goal

pub returns-clause-saved : goal.returns-clause-saved
returns-clause-saved g c = record {
  came = c.save-answer.result;
  became = (c.save-answer.new.opened, search rules, search rules);
  is = search rules;
  done = search rules;
}
