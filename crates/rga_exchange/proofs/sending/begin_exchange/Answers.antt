use Rattle.std.proofs.Common.{[], ◌∷◌, ◌++◌, ◌∙◌}
use Rattle.rga_lines.specs.Stream.{newline}
use Rattle.rga_exchange.proofs.sending.begin_exchange.Goals as goal

pub returns : goal.returns
returns c = record {
  ok = c.in_ok-push.ensures.pushed ∙ (λ k. c.in_ok-block.ensures k ++ ((c.as_bytes.ensures.value ∙ c.in_ok-head.ensures.ok) k ++ newline ∷ []));
}
