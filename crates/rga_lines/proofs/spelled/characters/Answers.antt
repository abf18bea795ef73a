use Rattle.rga_lines.proofs.Prelude.{rules, ◌≡◌, identifier}
use Rattle.rga_lines.proofs.RunLemmas.{shorter, read_to_next, read_to_end}
use Rattle.rga_lines.proofs.spelled.characters.Goals as goal

pub chars-preserved : goal.chars-preserved
chars-preserved c =
    let same : identifier c.chars.counter c.args.id.replica ≡ c.in-Ok.id = search rules in
    read_to_next c.args.id c.args.parent c.args.bytes.now c.chars.ops.items c.push.new.self.items c.chars.counter c.chars.above c.in-Ok.id c.chars.rest.now c.in-Some.behind.now c.in-Some.ch c.chars.invariant c.in-Some.ensures.0 c.in-Some.ensures.1 same c.in_ok-push.ensures.items

pub chars-smaller : goal.chars-smaller
chars-smaller c = shorter c.chars.rest.now c.in-Some.behind.now c.in-Some.ch c.in-Some.ensures.0

pub returns : goal.returns
returns c = record { read = λ e. let last = rw e at c.is_literal.ensures in read_to_end c.args.id c.args.parent c.args.bytes.now c.chars.ops.items c.chars.counter c.chars.above c.chars.rest.now c.chars.invariant last }
