-- What is told in turn.
use Rattle.std.proofs.Common.{◌≡◌, ◌∙◌, ap, sym, subst, List, [], ◌++◌, Some, None}
use Rattle.std.specs.Prelude.{IfSome}
use Rattle.std.proofs.lemmas.List.{append_assoc, append-nil}
use Rattle.mgr.specs.Telling.{KnownTelling, Telling, TellsMore}

pub tells_nothing : (told : KnownTelling) → TellsMore told told []
tells_nothing None = tt
tells_nothing (Some known) = ap (λ (l : List Telling). Some l) (sym (append-nil known))

-- some, and then more
pub tells_both : (a b c : KnownTelling) (xs ys : List Telling) → TellsMore a b xs → TellsMore b c ys → TellsMore a c (xs ++ ys)
tells_both None b c xs ys first second = tt
tells_both (Some known) b c xs ys first second =
    let next : c ≡ Some ((known ++ xs) ++ ys) = subst (λ (o : KnownTelling). IfSome o (λ k. c ≡ Some (k ++ ys))) first second in
    next ∙ ap (λ (l : List Telling). Some l) (append_assoc known xs ys)
