-- What a replica took by a call, by what the call says of the content.
use Rattle.rga_store.proofs.Prelude.{◌≡◌, ◌≢◌, ℕ, List, [], ◌∷◌, refl, sym, ◌∙◌, Ok, Err, OnOk, Content, join, single, content_of, answer, Verdict, Op, New, Known, Memory, Answer, ok, err, known-iff, held_adds_nothing}
use Rattle.std.specs.Prelude.{Result}
use Rattle.rga_ops.specs.Took.{one, list, merged}
use Rattle.rga_ops.specs.declared.refusal.Refusal.{Refusal}
use Rattle.rga_ops.specs.declared.refusal.Refusal.TheVariants.{Memory as OfMemory}
use Rattle.rga_store.specs.Taking.{TakesMore, TakesAllOf}

-- an operation, new or known
pub one_taken : (limit : ℕ) (c d : Content) (op : Op) (r : Answer) → (r ≢ Err Memory → r ≡ answer limit c op) → (r ≡ Ok New → d ≡ join c (single op)) → (r ≢ Ok New → d ≡ c) → OnOk r (TakesMore c (op ∷ []) d)
one_taken limit c d op (Ok New) exact new same = λ ops t. one ops c op t refl (new refl)
one_taken limit c d op (Ok Known) exact new same =
    let answered : ok Known ≡ answer limit c op = exact (λ (p : ok Known ≡ err Memory). cc) in
    let kept : d ≡ c = same (λ (p : ok Known ≡ ok New). cc) in
    λ ops t. one ops c op t refl (kept ∙ sym (held_adds_nothing c op ((known-iff limit c op).0 (sym answered)).1))
one_taken limit c d op (Err e) exact new same = tt

-- a list
pub joined_taken : (c d : Content) (more : List Op) → d ≡ join c (content_of more) → TakesMore c more d
joined_taken c d more joined = λ ops t. list ops c more t refl joined

pub list_taken : (c d : Content) (more : List Op) (r : Verdict) → (r ≡ Ok tt → d ≡ join c (content_of more)) → OnOk r (TakesMore c more d)
list_taken c d more (Ok u) whole = joined_taken c d more (whole refl)
list_taken c d more (Err e) whole = tt

-- all that another replica holds
pub all_taken : (c d e : Content) (r : Verdict) → (r ≡ Ok tt → e ≡ join c d) → OnOk r (TakesAllOf c d e)
all_taken c d e (Ok u) joined = λ others u ops t. merged ops c others d t u refl (joined refl)
all_taken c d e (Err fault) joined = tt

-- what is not to be refused, is refused for want of memory alone
pub memory_alone : {A : Type 0} (r answer : Result A Refusal) (a : A) (e : Refusal) → answer ≡ Ok a → r ≡ Err e → (r ≢ Err Memory → r ≡ answer) → e ≡ Memory
memory_alone r answer a (OfMemory m) allowed is exact = refl
memory_alone r answer a e allowed is exact =
    let clash : Err e ≡ Ok a = sym is ∙ exact (λ k. let other : Err e ≡ Err Memory = sym is ∙ k in cc) ∙ allowed in cc
