use Rattle.rga_doc.proofs.Prelude.{rules, ◌≡◌, length, arith, Content, visible}
use Rattle.rga_doc.proofs.FollowingLaws.{deleted_within, cut_is_listed, deletion_is_hidden}
use Rattle.rga_doc.proofs.listing.Listing.follow_deletion.Goals as goal

pub overflow_add-index : goal.overflow_add-index
overflow_add-index g c =
    let within = deleted_within (g.S.Taker.content c.args.store.now) c.requires.0 c.args.index c.in-Some.index c.args.self.now.characters.items c.requires.1 c.in-Some.is in
    omega (arith, within, c.len-count.ensures)

pub replace-requires-clause-in_list : goal.replace-requires-clause-in_list
replace-requires-clause-in_list g c =
    let within = deleted_within (g.S.Taker.content c.args.store.now) c.requires.0 c.args.index c.in-Some.index c.args.self.now.characters.items c.requires.1 c.in-Some.is in
    omega (arith, within)

pub returns-in-Some : goal.returns-in-Some
returns-in-Some g c = λ _.
    cut_is_listed (g.S.Taker.content c.args.store.now) c.requires.0 c.args.index c.in-Some.index c.args.self.now.characters.items c.replace.new.self.items c.requires.1 c.in-Some.is c.replace.ensures.items

-- where nothing less is visible, it was not
pub returns : goal.returns
returns g c = λ equal.
    let content : Content = g.S.Taker.content c.args.store.now in
    let counted : c.visible_len.result ≡ c.len-count.result = search rules in
    let as_many : length (visible content) ≡ length c.args.self.now.characters.items = search rules in
    deletion_is_hidden content c.requires.0 c.args.index c.args.self.now.characters.items c.requires.1 as_many
