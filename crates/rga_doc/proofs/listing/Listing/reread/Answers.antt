use Rattle.rga_doc.proofs.Prelude.{◌≡◌, ◌≤◌, ◌-◌, ◌+◌, ℕ, List, length, leb-true, sym, ap, ◌∙◌, arith, Content, text, spliced, text_long}
use Rattle.rga_doc.proofs.RereadingLaws.{read_anew}
use Rattle.rga_doc.proofs.listing.Listing.reread.Goals as goal

pub returns : goal.returns
returns g c = λ done.
    let content : Content = g.S.Taker.content c.args.store.now in
    let old : List ℕ = c.args.self.now.characters.items in
    let front : ℕ = c.args.margins.front in
    let back : ℕ = c.args.margins.back in
    let before : c.len-old.result - back ≡ length old - back = omega (arith, c.len-old.ensures) in
    let now : c.visible_len-new.result - back ≡ length (text content) - back = omega (arith, c.visible_len-new.ensures, text_long content) in
    let up : front ≤ c.visible_len-new.result - back = omega (arith, leb-true (front + back) c.visible_len-new.result (sym c.are_in-else-not-are_in.ensures ∙ c.if-not-are_in-2.false)) in
    c.replace.ensures done
    ∙ ap (spliced old front (c.len-old.result - back)) (c.deref.ensures.value ∙ c.in-Some.ensures)
    ∙ read_anew front back (c.len-old.result - back) (c.visible_len-new.result - back) old (text content) c.requires before now up
