use Rattle.std.proofs.Common.{◌-◌, length, sym, ◌∙◌, arith}
use Rattle.rga_records.proofs.NewerLaws.{latest_at}
use Rattle.rga_records.proofs.chains.latest.Goals as goal

pub returns : goal.returns
returns c =
    c.counter.ensures.value
    ∙ sym (latest_at c.args.clock c.args.chain.now (length c.args.chain.now - 1) c.index-chain-count.result (omega (arith, c.if-count-eq0.false)))
