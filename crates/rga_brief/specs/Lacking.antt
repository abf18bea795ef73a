-- Those of the operations that are told one by one which another replica lacks.
use Rattle.std.proofs.Common.{◌≡◌, List, [], ◌++◌, filter, Bool, refl, sym, ap, ◌∙◌, append_assoc}
use Rattle.std.proofs.lemmas.List.{append-nil}
use Rattle.std.proofs.lemmas.List.Elements.{filter-append}
use Rattle.rga_ops.specs.Operation.{id_of}
use Rattle.rga_ops.specs.declared.op.Op.{Op}
use Rattle.rga_brief.specs.Digest.{block_of}
use Rattle.rga_brief.specs.Summary.{Summary, digests_at, lacks_by}

-- who gave the second summary lacks the operation of who has the first
abbrev pub lacks_between : Summary → Summary → Op → Bool
lacks_between own peer op = lacks_by (digests_at own (block_of (id_of op))) (digests_at peer (block_of (id_of op))) op

-- the own summary, that of the peer, and the operations that it lacks
pub record Lacking : Type 0 where
  pub own : Summary
  pub peer : Summary
  pub ops : List Op

-- the lacked among the operations came behind those before
pub record Lacks (s : Lacking) (ops : List Op) (t : Lacking) : Type 0 where
  pub own : t.own ≡ s.own
  pub peer : t.peer ≡ s.peer
  pub chosen : t.ops ≡ s.ops ++ filter (lacks_between s.own s.peer) ops

-- to be told nothing changes nothing
pub lacks_nothing : (s : Lacking) → Lacks s [] s
lacks_nothing s = record { own = refl; peer = refl; chosen = sym (append-nil s.ops) }

-- operations may be told in parts
pub lacks_on : {s t u : Lacking} {xs ys : List Op} → Lacks s xs t → Lacks t ys u → Lacks s (xs ++ ys) u
lacks_on {s} {t} {u} {xs} {ys} first second = record {
  own = second.own ∙ first.own;
  peer = second.peer ∙ first.peer;
  chosen =
      second.chosen
      ∙ (λ k. first.chosen k ++ filter (lacks_between (first.own k) (first.peer k)) ys)
      ∙ append_assoc s.ops (filter (lacks_between s.own s.peer) xs) (filter (lacks_between s.own s.peer) ys)
      ∙ ap (λ ops. s.ops ++ ops) (sym (filter-append (lacks_between s.own s.peer) xs ys));
}
