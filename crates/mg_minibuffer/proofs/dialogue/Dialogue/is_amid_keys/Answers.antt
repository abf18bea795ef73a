use Rattle.std.proofs.Common.{◌≡◌, [], subst}
use Rattle.mg_keys.specs.Begun.{HasBegun}
use Rattle.mg_minibuffer.specs.Dialogues.{Dialogue, mode_of}
use Rattle.mg_minibuffer.proofs.FreshLaws.{nothing_to_forget}
use Rattle.mg_minibuffer.proofs.dialogue.Dialogue.is_amid_keys.Goals as goal

pub returns-clause-fresh : goal.returns-clause-fresh
returns-clause-fresh c = λ whole none.
    let reads : c.args.self.now.keys.mode ≡ mode_of c.args.self.now.prompt = subst (λ (d : Dialogue). d.keys.mode ≡ mode_of d.prompt) c.self.view_is c.self.invariant in
    let begun : HasBegun c.args.self.now.keys [] = subst (λ (d : Dialogue). HasBegun d.keys []) c.self.view_is (c.has_begun.ensures.0 whole) in
    nothing_to_forget c.args.self.now reads none begun
