use Rattle.rga_doc.proofs.Prelude.{subst, IfSome, Content, WillAgreeOutside}
use Rattle.rga_doc.proofs.listing.Listing.follow.Goals as goal

-- the narrower margins hold, as those did that were narrowed
pub reread-self-requires : goal.reread-self-requires
reread-self-requires g c =
    let content : Content = g.S.Taker.content c.args.store.now in
    subst (λ o. IfSome o (λ m. WillAgreeOutside content m.front m.back c.args.insertions.now c.args.self.now.characters.items)) c.in-Some.is c.requires
    c.in-Some-round.after.front c.in-Some-round.after.back c.in-Some-round.ensures.front c.in-Some-round.ensures.back c.in-Some-round.ensures.between

pub returns-clause-front : goal.returns-clause-front
returns-clause-front g c =
    let content : Content = g.S.Taker.content c.args.store.now in
    let agree = subst (λ o. IfSome o (λ m. WillAgreeOutside content m.front m.back c.args.insertions.now c.args.self.now.characters.items)) c.in-Some.is c.requires
    c.in-Some-round.after.front c.in-Some-round.after.back c.in-Some-round.ensures.front c.in-Some-round.ensures.back c.in-Some-round.ensures.between in
    agree.same_front
