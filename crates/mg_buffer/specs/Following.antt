-- What operations that are taken leave of a buffer.
use Rattle.std.proofs.Common.{◌≡◌, List, [], ◌++◌, refl, sym, ap, ◌∙◌, append-nil, append_assoc}
use Rattle.rga_ops.specs.Content.{join, content_of}
use Rattle.rga_ops.specs.NewOperations.{new_operations}
use Rattle.rga_ops.specs.declared.op.Op.{Op}
use Rattle.rga_ops.proofs.ContentLaws.{join_nothing, join_assoc}
use Rattle.rga_ops.proofs.OperationLaws.{content_of-append}
use Rattle.rga_ops.proofs.NewLaws.{new_in_parts}
use Rattle.rga_store.specs.Taking.{TakesMore}
use Rattle.mg_buffer.specs.State.{State}

-- what became unsaved was taken
abbrev pub TakesUnsaved : State → State → Type 0
TakesUnsaved b d = (ops : List Op) × (d.unsaved ≡ b.unsaved ++ ops) × TakesMore b.content ops d.content

-- ---- operations of others, in turn

-- `unsaved` grows by exactly those that were new, in order; point, mark, groups and all else stay
pub record TakesOperations (b : State) (ops : List Op) (d : State) : Type 0 where
  pub content : d.content ≡ join b.content (content_of ops)
  pub unsaved : d.unsaved ≡ b.unsaved ++ new_operations b.content ops
  pub rest : d ≡ record b { content = d.content; unsaved = d.unsaved }

-- the buffer that has taken them
abbrev pub with_operations : List Op → State → State
with_operations ops b = record b { content = join b.content (content_of ops); unsaved = b.unsaved ++ new_operations b.content ops }

-- to take nothing changes nothing
pub takes_no_operations : (b : State) → TakesOperations b [] b
takes_no_operations b = record { content = sym (join_nothing b.content); unsaved = sym (append-nil b.unsaved); rest = refl }

-- operations may be taken in parts
pub takes_more_operations : {b d e : State} {xs ys : List Op} → TakesOperations b xs d → TakesOperations d ys e → TakesOperations b (xs ++ ys) e
takes_more_operations {b} {d} {e} {xs} {ys} f g = record {
  content = g.content ∙ ap (λ c. join c (content_of ys)) f.content ∙ join_assoc b.content (content_of xs) (content_of ys) ∙ ap (join b.content) (sym (content_of-append xs ys));
  unsaved = g.unsaved ∙ (λ k. f.unsaved k ++ new_operations (f.content k) ys)
      ∙ append_assoc b.unsaved (new_operations b.content xs) (new_operations (join b.content (content_of xs)) ys)
      ∙ ap (λ ops. b.unsaved ++ ops) (sym (new_in_parts b.content xs ys));
  rest = g.rest ∙ ap (λ (s : State). record s { content = e.content; unsaved = e.unsaved }) f.rest;
}
