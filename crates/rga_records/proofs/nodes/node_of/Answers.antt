use Rattle.std.proofs.Common.{◌≡◌, ◌≤◌, ◌<◌, ◌+◌, ◌-◌, ℕ, suc, true, false, slice_index_or, [], List, length, take, get_or, sym, ap, ◌∙◌, subst, arith, rules}
use Rattle.std.proofs.lemmas.Bool.{not-true, not-false}
use Rattle.std.specs.Prelude.{None}
use Rattle.rga_ops.specs.Identifier.{Identifier, root}
use Rattle.rga_pages.specs.declared.entry.Record.{Record}
use Rattle.std.proofs.lemmas.List.{get_or_default}
use Rattle.rga_pages.proofs.SpotLaws.{spot_there}
use Rattle.rga_pages.specs.Pages.{Entries, IsSpot, entries_in, entries_before}
use Rattle.rga_records.proofs.NodeLaws.{fewer_before, length_before, node_absent, node_found, node_in_page, node_later}
use Rattle.rga_records.proofs.nodes.node_of.Goals as goal

pub overflow_sub-result : goal.overflow_sub-result
overflow_sub-result c =
    let ps : List Entries = c.args.pages.now.items in
    let q : ℕ = length c.args.heads.now - 1 in
    let w : q < length ps = omega (arith, c.requires.some, c.requires.few, c.args.pages.now.ok.0) in
    omega (arith, c.requires.count, length_before ps q c.args.index w c.requires.index)

pub returns-in-Some : goal.returns-in-Some
returns-in-Some c =
    let ps : List Entries = c.args.pages.now.items in
    let q : ℕ = length c.args.heads.now - 1 in
    let k : ℕ = c.in-Some.near in
    let w : q < length ps = omega (arith, c.requires.some, c.requires.few, c.args.pages.now.ok.0) in
    let is : c.entries.result.now ≡ slice_index_or ps q c.index.result.now = c.entries.ensures ∙ c.index.ensures in
    let same : slice_index_or ps q [] ≡ slice_index_or ps q c.index.result.now = get_or_default ps q [] c.index.result.now w in
    let earlier : k < c.args.index = c.in-Some.ensures.within in
    let within : k < length (slice_index_or ps q []) = omega (arith, earlier, c.requires.index) in
    let e : Identifier × Record = (root, record { parent = root; ch = None; block = 0; index = 0; deleted = false }) in
    let s : IsSpot ps q k true c.args.id =
    spot_there ps q k c.args.id c.index.result.now w e (subst (λ y. k < length y) same within)
    (ap (λ y. (slice_index_or y k e).0) (sym is) ∙ c.in-Some.ensures.there e) c.requires.ordered in
    let here : length (entries_before ps q c.args.index) ≡ length (entries_in (take q ps)) + c.args.index = length_before ps q c.args.index w c.requires.index in
    let there : length (entries_before ps q k) ≡ length (entries_in (take q ps)) + k = length_before ps q k w (omega (arith, within)) in
    node_found ps q c.args.index c.args.id q k w s (c.args.count - c.args.index + k)
    (omega (arith, c.requires.count, here, there))
    (omega (arith, c.requires.count, here, earlier))
    (search rules)

pub returns-then-not-spot : goal.returns-then-not-spot
returns-then-not-spot c =
    let ps : List Entries = c.args.pages.now.items in
    let p : ℕ = c.spot_of-spot.result.page in
    let k : ℕ = c.spot_of-spot.result.index in
    let w : p < length ps = subst (λ n. p < n) c.args.pages.now.ok.0 c.spot_of-spot.ensures.page in
    let s : IsSpot ps p k false c.args.id = subst (λ b. IsSpot ps p k b c.args.id) (not-true c.spot_of-spot.result.found c.if-not-spot.true) c.spot_of-spot.ensures.spot in
    (search rules, node_absent ps (length c.args.heads.now - 1) c.args.index c.args.id p k w s c.requires.ordered)

pub returns-then-spot-heads : goal.returns-then-spot-heads
returns-then-spot-heads c =
    let ps : List Entries = c.args.pages.now.items in
    let p : ℕ = c.spot_of-spot.result.page in
    let k : ℕ = c.spot_of-spot.result.index in
    let w : p < length ps = subst (λ n. p < n) c.args.pages.now.ok.0 c.spot_of-spot.ensures.page in
    let q : ℕ = length c.args.heads.now - 1 in
    let few : length (entries_before ps q c.args.index) ≤ length (entries_before ps p k) = fewer_before ps q c.args.index p k (omega (arith, c.if-spot-heads.true, c.requires.some)) w c.requires.index in
    (search rules, node_later ps q c.args.index c.args.id p k w c.spot_of-spot.result.found c.spot_of-spot.ensures.spot few)

pub returns-then-node-count : goal.returns-then-node-count
returns-then-node-count c =
    let ps : List Entries = c.args.pages.now.items in
    let heads : List ℕ = c.args.heads.now in
    let p : ℕ = c.spot_of-spot.result.page in
    let k : ℕ = c.spot_of-spot.result.index in
    let w : p < length ps = subst (λ n. p < n) c.args.pages.now.ok.0 c.spot_of-spot.ensures.page in
    let q : ℕ = length heads - 1 in
    let s : IsSpot ps p k true c.args.id = subst (λ b. IsSpot ps p k b c.args.id) (not-false c.spot_of-spot.result.found c.if-not-spot.false) c.spot_of-spot.ensures.spot in
    let head : get_or heads p 0 ≡ suc (length (entries_in (take p ps))) = c.requires.heads p (omega (arith, c.if-spot-heads.false)) in
    let sum : get_or heads p 0 + k ≡ suc (length (entries_before ps p k)) = node_in_page ps p k (get_or heads p 0) w s.place head in
    node_found ps q c.args.index c.args.id p k w s c.saturating_add-node.result
    (omega (arith, sum, c.saturating_add-node.ensures, c.if-node-count.true, c.ranges.count.fits))
    (omega (arith, c.if-node-count.true, c.requires.count))
    (search rules)

pub returns : goal.returns
returns c =
    let ps : List Entries = c.args.pages.now.items in
    let heads : List ℕ = c.args.heads.now in
    let p : ℕ = c.spot_of-spot.result.page in
    let k : ℕ = c.spot_of-spot.result.index in
    let w : p < length ps = subst (λ n. p < n) c.args.pages.now.ok.0 c.spot_of-spot.ensures.page in
    let q : ℕ = length heads - 1 in
    let s : IsSpot ps p k true c.args.id = subst (λ b. IsSpot ps p k b c.args.id) (not-false c.spot_of-spot.result.found c.if-not-spot.false) c.spot_of-spot.ensures.spot in
    let head : get_or heads p 0 ≡ suc (length (entries_in (take p ps))) = c.requires.heads p (omega (arith, c.if-spot-heads.false)) in
    let sum : get_or heads p 0 + k ≡ suc (length (entries_before ps p k)) = node_in_page ps p k (get_or heads p 0) w s.place head in
    let few : length (entries_before ps q c.args.index) ≤ length (entries_before ps p k) = omega (arith, sum, c.saturating_add-node.ensures, c.if-node-count.false, c.requires.count) in
    (search rules, node_later ps q c.args.index c.args.id p k w true s few)
