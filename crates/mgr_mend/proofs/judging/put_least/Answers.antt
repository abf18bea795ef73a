use Rattle.std.proofs.Common.{◌≡◌, true, false, sym, subst, ◌∙◌, ◌++◌, ◌∷◌, []}
use Rattle.rga_ops.specs.declared.op.Op.TheVariants.{Insert}
use Rattle.rga_ops.proofs.CaseSteps.{on_ok_map}
use Rattle.rga_ops.proofs.IdentifierLaws.{is_id-itself}
use Rattle.mgr_mend.specs.Mending.{beats}
use Rattle.mgr_mend.specs.Parts.{inserts, IsLeast}
use Rattle.mgr_mend.proofs.LeastLemmas.{least-first, least-less, least-stays, least-insert, least-same}
use Rattle.mgr_mend.proofs.judging.put_least.Goals as goal

pub returns-in_default-least_of : goal.returns-in_default-least_of
returns-in_default-least_of c =
    let id = c.in-Insert.id in
    let own : inserts id c.args.op.now ≡ true = rw c.in-Insert.is (is_id-itself id) in
    on_ok_map c.enter.result (λ updated ops least.
    least-insert ops c.args.least.now c.enter.new.least c.args.op.now id own
    (least-first ops c.args.op.now id own (subst (IsLeast ops id) (sym c.least_of.ensures ∙ c.in_default-least_of.is) (least id))) updated least) c.enter.ensures

pub returns-then-branch : goal.returns-then-branch
returns-then-branch c =
    let id = c.in-Insert.id in
    let own : inserts id c.args.op.now ≡ true = rw c.in-Insert.is (is_id-itself id) in
    let less : beats c.args.op.now c.in-Some.known ≡ true = sym c.in_ok-beats.ensures ∙ c.if-branch.true in
    on_ok_map c.enter-then-branch.result (λ updated ops least.
    least-insert ops c.args.least.now c.enter-then-branch.new.least c.args.op.now id own
    (least-less ops c.args.op.now c.in-Some.known id own less (subst (IsLeast ops id) (sym c.least_of.ensures ∙ c.in-Some.is) (least id))) updated least) c.enter-then-branch.ensures

pub returns-else-branch : goal.returns-else-branch
returns-else-branch c = λ ops least.
    let id = c.in-Insert.id in
    let not : beats c.args.op.now c.in-Some.known ≡ false = sym c.in_ok-beats.ensures ∙ c.if-branch.false in
    least-same ops c.args.least.now c.args.op.now
    (rw c.in-Insert.is (subst (IsLeast (ops ++ Insert id c.in-Insert.parent c.in-Insert.ch ∷ []) id) (sym c.in-Some.is ∙ c.least_of.ensures)
    (least-stays ops (Insert id c.in-Insert.parent c.in-Insert.ch) c.in-Some.known id (rw (sym c.in-Insert.is) not) (subst (IsLeast ops id) (sym c.least_of.ensures ∙ c.in-Some.is) (least id))))) least
