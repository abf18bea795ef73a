use Rattle.std.proofs.Common.{◌≡◌, ap, ◌∙◌}
use Rattle.rga_sequence.specs.Entries.{put_chain}
use Rattle.rga_flat.proofs.chains.take_chain.Goals as goal

pub returns-clause-flat : goal.returns-clause-flat
returns-clause-flat c =
    let put : c.put_chain.new.sequence ≡ put_chain c.in-Some.parent c.gather-gathered.new.entries.items c.args.sequence.now =
    c.in_default-put_chain.ensures.put
    ∙ ap (λ es. put_chain c.in-Some.parent es c.args.sequence.now) c.as_slice.ensures.value in
    rw (c.put_chain.ensures.records, put) (c.gather-gathered.ensures.shows c.args.sequence.now c.args.done.now c.requires.flat).1
