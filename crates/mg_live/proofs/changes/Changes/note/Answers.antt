use Rattle.std.proofs.Common.{arith, ◌≡◌, ◌++◌, ◌∷◌, [], ap, sym, ◌∙◌, Some}
use Rattle.rga_ops.specs.Splice.{Splice, spliced}
use Rattle.rga_exchange.specs.Counting.{one_more}
use Rattle.mg_live.proofs.ChangeLaws.{change_within, change_makes, noted_change}
use Rattle.mg_live.specs.Changes.{Changes, change_between}
use Rattle.mg_live.proofs.changes.Changes.note.Goals as goal

pub replace-requires-clause-ordered : goal.replace-requires-clause-ordered
replace-requires-clause-ordered c =
    let text = c.args.text.now in
    let at : c.as_slice.result.now ≡ c.args.self.now.text = c.as_slice.ensures ∙ ap (λ (v : Changes). v.text) c.self.view_is in
    let is : change_between c.args.self.now.text text ≡ Some c.in-Some.change =
    ap (λ t. change_between t text) (sym at) ∙ (sym c.in_ok-change.ensures ∙ c.in-Some.is) in
    let within = change_within c.args.self.now.text c.args.text.now c.in-Some.change is in
    omega (arith, within.0, ap (λ (s : Splice). s.lo) c.change.view_is, ap (λ (s : Splice). s.hi) c.change.view_is)

pub returns-clause-noted : goal.returns-clause-noted
returns-clause-noted c =
    let old = c.args.self.now in
    let text = c.args.text.now in
    let change = c.in-Some.change in
    let at : c.as_slice.result.now ≡ old.text = c.as_slice.ensures ∙ ap (λ (v : Changes). v.text) c.self.view_is in
    let is : change_between old.text text ≡ Some change = ap (λ t. change_between t text) (sym at) ∙ (sym c.in_ok-change.ensures ∙ c.in-Some.is) in
    let room : c.make_room.new.self.items ≡ old.text = search in
    let put : c.deref.result.now ≡ change.put = c.deref.ensures.value ∙ ap (λ (s : Splice). s.put) c.change.view_is in
    let replaced : c.replace.new.self.items ≡ spliced old.text change.lo change.hi change.put =
    c.replace.ensures.items ∙ (λ k. spliced (room k) (ap (λ (s : Splice). s.lo) c.change.view_is k) (ap (λ (s : Splice). s.hi) c.change.view_is k) (put k)) in
    let whole : c.replace.new.self.items ≡ text = replaced ∙ change_makes old.text text change is in
    let same_list : c.reserve.new.self.items ≡ old.list = c.reserve.ensures.items ∙ ap (λ (v : Changes). v.list) c.self.view_is in
    let listed : c.push_change.new.changes.items ≡ old.list ++ change ∷ [] =
    c.push_change.ensures ∙ (λ k. same_list k ++ change ∷ []) in
    let counted : c.saturating_add-self-inside.result ≡ one_more old.count = c.saturating_add-self-inside.ensures ∙ ap (λ (v : Changes). one_more v.count) c.self.view_is in
    (λ k. record { text = whole k; count = counted k; list = listed k }) ∙ sym (noted_change text old change is)
