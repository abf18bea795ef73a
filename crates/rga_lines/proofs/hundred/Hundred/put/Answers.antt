use Rattle.rga_lines.proofs.Prelude.{◌≡◌, ◌+◌, ◌-◌, ◌/◌, ◌++◌, take, length, decimal, ap, ◌∙◌, arith, length-append, length-take, pair, PAIRS_at}
use Rattle.rga_lines.specs.declared.hundred.TheConstants.{ROOM}
use Rattle.rga_lines.proofs.DigitsLemmas.{at_most_eighteen}
use Rattle.rga_lines.proofs.FrontLemmas.{part_put, hundred_put}
use Rattle.rga_lines.proofs.hundred.Hundred.put.Goals as goal

pub returns-clause-put : goal.returns-clause-put
returns-clause-put c =
    let h = c.self.inside in
    let at = c.args.at in
    let held = c.self.invariant.0 ∙ ap (λ l. l ++ decimal (h.first / 100)) c.self.view_is in
    let room : c.put_array-digits.result ≡ at + ROOM = omega arith in
    let copied : take c.put_array-digits.result c.put_array-digits.new.bytes ≡ take at c.args.bytes.now ++ h.bytes = c.put_array-digits.ensures.put in
    let front : take (at + h.end) c.put_array-digits.new.bytes ≡ take at c.args.bytes.now ++ take h.end h.bytes = part_put at h.end ROOM c.put_array-digits.new.bytes c.args.bytes.now h.bytes (rw room at copied) (omega arith) (omega arith) in
    let digits = PAIRS_at (c.args.number - h.first) (omega arith) in
    let two : take c.put_array.result c.put_array.new.bytes ≡ take (at + h.end) c.put_array-digits.new.bytes ++ pair (c.args.number - h.first) = rw (← digits.0, ← digits.1) c.put_array.ensures.put in
    hundred_put (take at c.args.bytes.now) (take (at + h.end) c.put_array-digits.new.bytes) (take c.put_array.result c.put_array.new.bytes) (take h.end h.bytes) c.args.self.now c.args.number h.first front held two (omega arith) c.self.invariant.1 (omega arith) (omega arith) (omega arith)

pub returns-clause-within : goal.returns-clause-within
returns-clause-within c =
    let h = c.self.inside in
    let digits = decimal (h.first / 100) in
    let held : take h.end h.bytes ≡ c.args.self.now ++ digits = c.self.invariant.0 ∙ ap (λ l. l ++ digits) c.self.view_is in
    let long : length (take h.end h.bytes) ≡ length (c.args.self.now ++ digits) = ap length held in
    omega (arith, long, length-append c.args.self.now digits, length-take h.end h.bytes, at_most_eighteen h.first (omega arith), c.self.told)
