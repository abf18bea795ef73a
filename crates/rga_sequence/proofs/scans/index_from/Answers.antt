use Rattle.std.proofs.Common.{◌≡◌, ℕ, ◌+◌, ◌≤◌, suc, zero, List, [], ◌∷◌, length, take, drop, sym, ap, ◌∙◌, subst, arith, zero-add}
use Rattle.std.specs.Prelude.{Option, Some, None, IfSome}
use Rattle.std.specs.List.{slice_get}
use Rattle.rga_ops.specs.Identifier.{Identifier}
use Rattle.rga_sequence.specs.declared.entry.Entry.{Entry}
use Rattle.rga_sequence.specs.Entries.{ids}
use Rattle.rga_sequence.proofs.scans.index_from.Goals as goal

get_behind : (m i : ℕ) (es : List Entry) → m ≤ length es → slice_get (ids es) (m + i) ≡ slice_get (ids (drop m es)) i
get_behind zero i es h = ap (slice_get (ids es)) (zero-add i)
get_behind (suc m) i [] h = absurd (omega arith)
get_behind (suc m) i (x ∷ es) h =
    let e : suc m + i ≡ suc (m + i) = omega arith in
    ap (slice_get (ids (x ∷ es))) e ∙ get_behind m i es (omega arith)

get_before : (m i : ℕ) (es : List Entry) (id : Identifier) → slice_get (ids (take m es)) i ≡ Some id → slice_get (ids es) i ≡ Some id
get_before zero zero es id h = cc
get_before zero (suc i) es id h = cc
get_before (suc m) i [] id h = h
get_before (suc m) zero (x ∷ es) id h = h
get_before (suc m) (suc i) (x ∷ es) id h = get_before m i es id h

pub returns-in-Some-clause-some : goal.returns-in-Some-clause-some
returns-in-Some-clause-some c =
    let m : ℕ = c.min.result in
    let long : length c.split_at.result.0.now ≡ m = c.split_at.ensures.front_len in
    let within : m ≤ length c.args.entries.now = omega (arith, c.split_at.ensures.back_len) in
    ap (λ n. slice_get (ids c.args.entries.now) (n + c.in-Some.index)) long
    ∙ get_behind m c.in-Some.index c.args.entries.now within
    ∙ ap (λ es. slice_get (ids es) c.in-Some.index) (sym c.split_at.ensures.back)
    ∙ c.in-Some.ensures.some

if_before : (o : Option ℕ) (m : ℕ) (es : List Entry) (id : Identifier) → IfSome o (λ i. slice_get (ids (take m es)) i ≡ Some id) → IfSome o (λ i. slice_get (ids es) i ≡ Some id)
if_before None m es id h = tt
if_before (Some i) m es id h = get_before m i es id h

pub returns-clause-some : goal.returns-clause-some
returns-clause-some c =
    if_before c.index_of-2.result c.min.result c.args.entries.now c.args.id
    (subst (λ es. IfSome c.index_of-2.result (λ i. slice_get (ids es) i ≡ Some c.args.id)) c.split_at.ensures.front c.index_of-2.ensures.some)
