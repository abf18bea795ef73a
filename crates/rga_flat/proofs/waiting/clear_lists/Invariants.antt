use Rattle.std.proofs.Common.{◌≡◌, false, not, ◌&&◌, map}
use Rattle.std.specs.List.{list_any}
use Rattle.rga_ops.specs.Identifier.{Identifier}
use Rattle.rga_ops.proofs.IdentifierLaws.{is}
use Rattle.rga_flat.specs.Waiting.{under, has_list}
use Rattle.rga_flat.proofs.waiting.clear_lists.Given as goal

-- the lists of those that were passed are gone
abbrev pub invariant-loop-id : goal.invariant-loop-id
invariant-loop-id l = record {
  under : (p : Identifier) → list_any (is p) (map (λ x. x.now) l.yielded) ≡ false → under l.waiting p ≡ under l.initial.waiting p;
  lists : (p : Identifier) → has_list l.waiting p ≡ (has_list l.initial.waiting p && not (list_any (is p) (map (λ x. x.now) l.yielded)));
}
