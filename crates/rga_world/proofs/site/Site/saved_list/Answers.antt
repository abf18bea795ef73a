use Rattle.std.proofs.Common.{◌≡◌, ℕ, ◌+◌, ◌-◌, ◌≤◌, List, take, drop, length, Ok, sym, ap, ◌∙◌, arith}
use Rattle.std.proofs.lemmas.List.{drop-take}
use Rattle.rga_ops.specs.Operations.{operations}
use Rattle.rga_ops.specs.declared.op.Op.{Op}
use Rattle.rga_world.proofs.WordLaws.{list_found}
use Rattle.rga_world.proofs.site.Site.saved_list.Goals as goal

dropped : (xs : List Op) (lo hi : ℕ) → lo ≤ hi → drop lo (take hi xs) ≡ take (hi - lo) (drop lo xs)
dropped xs lo hi up =
    let all : hi ≡ lo + (hi - lo) = omega (arith, up) in
    ap (λ n. drop lo (take n xs)) all ∙ drop-take lo (hi - lo) xs

pub returns-in-Ok-clause-exact : goal.returns-in-Ok-clause-exact
returns-in-Ok-clause-exact g c =
    let saved : List Op = operations c.args.self.now.site.saved in
    let up : c.args.lo ≤ c.args.hi = omega (arith, c.if-lo-hi.false) in
    let within : c.args.hi ≤ length saved = omega (arith, c.if-hi-as_slice.false, ap length c.as_slice.ensures.value, ap length c.in_ok-all.ensures.ok) in
    let all : c.deref.result.now ≡ saved = c.deref.ensures.value ∙ c.in_ok-all.ensures.ok in
    let part : c.in-Ok.list.items ≡ take (c.args.hi - c.args.lo) (drop c.args.lo c.deref.result.now) = c.in-Ok.ensures.items in
    list_found c.args.self.now.site c.args.lo c.args.hi up within
    ∙ ap (λ ops. Ok ops) (dropped saved c.args.lo c.args.hi up ∙ sym (part ∙ ap (λ xs. take (c.args.hi - c.args.lo) (drop c.args.lo xs)) all))
