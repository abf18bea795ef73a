use Rattle.rga_brief.proofs.Prelude.{◌≡◌, ◌∙◌, ◌++◌, ap, take, arith, refl, length-take, Splitting, splitting_with, fed_holds}
use Rattle.rga_brief.proofs.HearingLaws.{heard_nothing, heard_lines, heard_piece, heard_to_end}
use Rattle.rga_brief.proofs.hearing.hear_summary.Goals as goal

pub reads-init : goal.reads-init
reads-init g c =
    let start = c.new-splitter.ensures in
    let waits = ap (λ (s : Splitting). s.waiting) start in
    record {
      whole = ap (λ (s : Splitting). s.broken) start;
      same_failures = refl;
      heard = rw (waits, c.new-claims.ensures.items) (heard_nothing g.R.Read.remaining c.args.reader.now);
    }

pub returns-then-count-eq0-clause-outcome : goal.returns-then-count-eq0-clause-outcome
returns-then-count-eq0-clause-outcome g c =
    let tracks = heard_lines g.R.Read.remaining c.args.reader.now c.reads.reader c.reads.claims.items c.take_claims.new.claims.items c.reads.splitter.waiting c.take_claims.new.splitter.waiting c.reads.invariant.heard (c.in_ok-number.ensures.all cc) in
    let read = rw c.if-count-eq0.true at c.in-Ok.ensures.bytes in
    let none = c.in_ok-number.ensures.none_left cc in
    λ _ _. heard_to_end g.R.Read.remaining c.args.reader.now c.reads.reader c.read.new.self c.take_claims.new.claims.items c.take_claims.new.splitter.waiting tracks none.0 none.1 read.0 (read.1 refl (omega arith))

pub reads-preserved : goal.reads-preserved
reads-preserved g c =
    let tracks = heard_lines g.R.Read.remaining c.args.reader.now c.reads.reader c.reads.claims.items c.take_claims.new.claims.items c.reads.splitter.waiting c.take_claims.new.splitter.waiting c.reads.invariant.heard (c.in_ok-number.ensures.all cc) in
    let none = c.in_ok-number.ensures.none_left cc in
    let piece = take c.in-Ok.count c.read.new.buf in
    let now : c.feed.new.self ≡ splitting_with (c.take_claims.new.splitter.waiting ++ piece) = fed_holds c.take_claims.new.splitter c.feed.new.self piece (c.in_ok-number.ensures.whole cc) c.in_ok-feed.ensures.ok in
    let waits = ap (λ (s : Splitting). s.waiting) now in
    let m = length-take c.in-Ok.count c.read.new.buf in
    record {
      whole = ap (λ (s : Splitting). s.broken) now;
      same_failures = c.in-Ok.ensures.device ∙ c.reads.invariant.same_failures;
      heard = rw waits (heard_piece g.R.Read.remaining c.args.reader.now c.reads.reader c.read.new.self c.take_claims.new.claims.items c.take_claims.new.splitter.waiting piece tracks none.0 none.1 c.in-Ok.ensures.bytes.0 (omega (arith, m, c.in-Ok.ensures.bound)));
    }
