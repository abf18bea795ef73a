use Rattle.rga_doc.proofs.Prelude.{rules, ◌≡◌, ◌+◌, length, arith, Content, visible}
use Rattle.rga_doc.proofs.FollowingLaws.{insertion_is_hidden, index_within, put_is_listed}
use Rattle.rga_doc.proofs.listing.Listing.follow_insertion.Goals as goal

pub returns-then-count-len : goal.returns-then-count-len
returns-then-count-len g c = λ _.
    let content : Content = g.S.Taker.content c.args.store.now in
    let as_many : length (visible content) ≡ length c.args.self.now.characters.items = search rules in
    insertion_is_hidden content c.args.id c.requires.0 c.args.ch c.requires.1 c.args.self.now.characters.items c.requires.2 as_many

pub replace-requires-clause-in_list : goal.replace-requires-clause-in_list
replace-requires-clause-in_list g c =
    let content : Content = g.S.Taker.content c.args.store.now in
    let one_more : length (visible content) ≡ length c.args.self.now.characters.items + 1 = omega arith in
    omega (arith, index_within content c.args.id c.in-Some.index (length c.args.self.now.characters.items) c.in-Some.ensures.there one_more)

pub returns-in-Some : goal.returns-in-Some
returns-in-Some g c = λ done.
    let content : Content = g.S.Taker.content c.args.store.now in
    let one_more : length (visible content) ≡ length c.args.self.now.characters.items + 1 = omega arith in
    put_is_listed content c.args.id c.requires.0 c.args.ch c.in-Some.index c.requires.1 c.args.self.now.characters.items c.replace.new.self.characters.items c.requires.2 c.in-Some.ensures.there one_more (c.replace.ensures done)
