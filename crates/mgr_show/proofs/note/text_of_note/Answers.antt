use Rattle.std.proofs.Common.{◌≡◌, refl, ap, subst, ◌∙◌}
use Rattle.std.specs.Prelude.{IfSome}
use Rattle.mgr_show.specs.Note.{front_of}
use Rattle.mgr_show.proofs.ShownLaws.{made_of_nothing}
use Rattle.mgr_show.proofs.NoteLaws.{text_of_front}
use Rattle.mgr_show.proofs.note.text_of_note.Goals as goal

pub returns-clause-text : goal.returns-clause-text
returns-clause-text g c =
    let made = made_of_nothing c.in-Ok.records (c.in-Ok.ensures.made refl) in
    let named = ap (g.S.Sources.contents c.args.sources.now) (c.as_str.ensures.value ∙ c.in_ok-log.ensures.name) in
    let same = subst (λ known. IfSome known (λ bytes. c.in_ok-bytes.bytes.items ≡ bytes)) named c.in_ok-bytes.ensures.bytes in
    let cut = c.front.ensures ∙ ap (front_of c.args.lines) c.as_slice.ensures.value in
    text_of_front _ c.args.lines _ _ _ _ _ _ same cut made.1 made.0 c.in_ok-take_but_torn.ensures.ok c.in_ok-text.ensures.ok
