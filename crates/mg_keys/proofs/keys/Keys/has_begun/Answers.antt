use Rattle.std.proofs.Common.{rules, ◌≡◌}
use Rattle.mg_keys.specs.Begun.{waits}
use Rattle.mg_keys.proofs.BegunLaws.{waits_tells}
use Rattle.mg_keys.proofs.keys.Keys.has_begun.Goals as goal

pub returns : goal.returns
returns c =
    let keys = c.args.self.now in
    let is : c.wait.result ≡ waits keys.mode keys.argument keys.sequence = search rules in
    waits_tells keys c.wait.result is
