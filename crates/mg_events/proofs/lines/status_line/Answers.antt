use Rattle.std.proofs.Common.{◌∙◌, ◌++◌, ap}
use Rattle.json.specs.Tree.{json_tokens}
use Rattle.mg_events.specs.StatusText.{status_json}
use Rattle.mg_events.proofs.DepthLemmas.{read_back, status_depth}
use Rattle.mg_events.proofs.lines.status_line.Goals as goal

pub returns-clause-reads_back : goal.returns-clause-reads_back
returns-clause-reads_back c =
    read_back (status_json c.args.status.now) c.add_status.new.writer.tokens
    (c.in_ok-add_status.ensures.tokens ∙ ap (λ ts. ts ++ json_tokens (status_json c.args.status.now)) c.new-writer.ensures.tokens)
    c.into_inner.ensures.reads_back
    (status_depth c.args.status.now)
