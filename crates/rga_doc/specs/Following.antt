-- What operations that are taken in turn leave of a document, beside its content and its limit.
use Rattle.std.proofs.Common.{◌≡◌, List, [], ◌∷◌, ◌++◌, refl, ◌∙◌}
use Rattle.rga_ops.specs.declared.op.Op.{Op}
use Rattle.rga_doc.specs.Document.{Document}

-- the replica stays; and where nothing was taken, the document stays listed or not
pub record Follows (d : Document) (ops : List Op) (e : Document) : Type 0 where
  pub replica : e.replica ≡ d.replica
  pub listed : ops ≡ [] → e.listed ≡ d.listed

-- to take nothing changes nothing
pub follows_nothing : (d : Document) → Follows d [] d
follows_nothing d = record { replica = refl; listed = λ none. refl }

-- operations may be taken in parts
pub follows_on : {d e f : Document} {xs ys : List Op} → Follows d xs e → Follows e ys f → Follows d (xs ++ ys) f
follows_on {d} {e} {f} {xs} {ys} a b = record { replica = b.replica ∙ a.replica; listed = by xs ys a.listed b.listed }
  where
    by : (xs ys : List Op) → (xs ≡ [] → e.listed ≡ d.listed) → (ys ≡ [] → f.listed ≡ e.listed) → xs ++ ys ≡ [] → f.listed ≡ d.listed
    by [] ys p q h = q h ∙ p refl
    by (x ∷ xs) ys p q h = let clash : x ∷ (xs ++ ys) ≡ [] = h in cc
