use Rattle.std.proofs.lemmas.Iterator.{YieldsList-from_chars, YieldsList-from_slice}
use Rattle.std.proofs.lemmas.Iterator.Consumers.{YieldsList-from_copied}
use Rattle.mg_workspace.proofs.NameLaws.{eq_from_yields_List}
use Rattle.mg_workspace.proofs.buffers.is_spelled.Goals as goal

pub returns : goal.returns
returns c =
    let name = YieldsList-from_copied {s = c.copied.result} (YieldsList-from_slice c.args.characters.now cc) in
    eq_from_yields_List c.copied.result c.eq.result c.eq.ensures.ran (YieldsList-from_chars c.args.text.now c.utf8.text cc) name
