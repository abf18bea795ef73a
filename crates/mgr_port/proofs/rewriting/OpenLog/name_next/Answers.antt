use Rattle.std.proofs.Common.{Err, inl, inr, ℕ, refl}
use Rattle.mgr_port.specs.declared.staged.Old.TheVariants as old
use Rattle.mgr_port.specs.Disk.{last_steps}
use Rattle.mgr_port.proofs.PlaceLaws.{at_path, at_removal, puts_at, puts_chain, puts_paths, puts_whole, rights_none, waits_at, waits_chain, waits_stopped}
use Rattle.mgr_port.proofs.RewritingLaws.{named_read}
use Rattle.mgr_port.proofs.rewriting.OpenLog.name_next.Goals as goal

pub returns-in-Ok-clause-named : goal.returns-in-Ok-clause-named
returns-in-Ok-clause-named g c = named_read _ _ _ _ (record { path = c.as_str.result; name = c.as_str-2.result; later = c.later.result; old = old.Read c.args.self.now.read }) _ _ _ _ _ _ c.settled.ensures c.as_str.ensures.value c.as_str-2.ensures.value c.later.ensures refl c.in-Ok.ensures.named

pub returns-in-Ok-clause-only : goal.returns-in-Ok-clause-only
returns-in-Ok-clause-only g c = (puts_paths _ _ _ _ _ _ _ c.as_str.ensures.value c.as_str-2.ensures.value (puts_whole _ _ _ c.name_written.result last_steps _ _ _ c.name_written.ensures.named c.name_written.ensures.unnamed))

pub returns-clause-only : goal.returns-clause-only
returns-clause-only g c =
    puts_chain _ _ _ _ _ _
    (puts_paths _ _ _ _ _ _ _ c.as_str.ensures.value c.as_str-2.ensures.value (puts_whole _ _ _ c.name_written.result last_steps _ _ _ c.name_written.ensures.named c.name_written.ensures.unnamed))
    (puts_at _ _ _ _ _ (at_path _ _ _ _ c.as_str.ensures.value (at_removal _ _ _ _ _ c.remove_open.ensures.tried)))

pub returns-in-Ok-clause-left : goal.returns-in-Ok-clause-left
returns-in-Ok-clause-left g c =
    inr (c.in-Ok.named, (record { path = c.as_str.result; name = c.as_str-2.result; later = c.later.result; old = old.Read c.args.self.now.read }, c.as_str.ensures.value, c.as_str-2.ensures.value, c.later.ensures, refl, c.in-Ok.ensures.named))

pub returns-clause-left : goal.returns-clause-left
returns-clause-left g c =
    inl (waits_chain _ _ _ _ _ _ (waits_stopped _ _ _ {A = ℕ} (Err c.in-Err.error) _ _ _ _ _ _ (tt, (tt, tt)) c.as_str.ensures.value c.as_str-2.ensures.value (rights_none _ _ _ refl) c.in-Err.ensures.unnamed)
    (waits_at _ _ _ _ _ (at_path _ _ _ _ c.as_str.ensures.value (at_removal _ _ _ _ _ c.remove_open.ensures.tried))))
