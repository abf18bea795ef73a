-- What is told of a log whose compacted lines were written beside it, and how many calls failed.
use Rattle.std.proofs.Common.{◌≡◌, ◌∙◌, ℕ, Bool, List, [], Option, Some, None, Result, Err, ap, subst, refl}
use Rattle.std.specs.Prelude.{IfSome}
use Rattle.std.specs.Option.{option_map}
use Rattle.std.specs.Io.KnownBytes.{Appends}
use Rattle.rga_exchange.specs.Counting.{Calls, CountsAs, one_more}
use Rattle.mgr_port.specs.Logs.{Standing, left, raised}
use Rattle.mgr_port.proofs.LogsLaws.{all_written}
use Rattle.mgr_show.specs.Compacted.{KeepsContent, compacted, Compacts}
use Rattle.mgr_show.specs.declared.fault.ShowFault.{ShowFault}
use Rattle.mgr_show.specs.declared.fault.ShowFault.TheVariants as fault
use Rattle.mgr_mend.specs.CompactionEnds.{failures_after_compaction}

-- ---- what stands there

-- What holds where the bytes of the file beside were to get the name, holds of the compacted lines: the file began empty,
-- and got them.
pub after_naming : {R W : Type 0} (P : List ℕ → Standing → Type 0) (remaining : R → Option (List ℕ)) (contents : W → Option (List ℕ)) (log : R) (reader : Calls R) (next : W) (old new : Calls W) (dels : Bool) (standing opened now : Option Standing)
    → opened ≡ standing → now ≡ opened → IfSome standing (λ s. remaining log ≡ Some s.log) → IfSome opened (λ _. contents next ≡ Some []) → reader.inner ≡ log → old.inner ≡ next
    → IfSome (remaining reader.inner) (Compacts contents old new dels) → IfSome now (λ s. IfSome (contents new.inner) (λ bytes. P bytes s))
    → IfSome standing (λ s. KeepsContent dels s.log × P (compacted dels s.log) s)
after_naming P remaining contents log reader next old new dels None opened now first second is empty reads writes lines named = tt
after_naming P remaining contents log reader next old new dels (Some s) opened now first second is empty reads writes lines named =
    let none : contents next ≡ Some [] = subst (λ o. IfSome o (λ _. contents next ≡ Some [])) first empty in
    let whole : Compacts contents old new dels s.log = subst (λ o. IfSome o (Compacts contents old new dels)) (ap remaining reads ∙ is) lines in
    let written : contents new.inner ≡ Some (compacted dels s.log) =
    all_written (contents new.inner) (compacted dels s.log) (subst (λ o. Appends o (contents new.inner) (compacted dels s.log)) (ap contents writes ∙ none) whole.written) in
    let here : IfSome (contents new.inner) (λ bytes. P bytes s) = subst (λ o. IfSome o (λ s. IfSome (contents new.inner) (λ bytes. P bytes s))) (second ∙ first) named in
    (whole.keeps, subst (λ o. IfSome o (λ bytes. P bytes s)) written here)

-- What holds of the bytes of a log that was read holds of what stood there, and the file beside was removed.
pub after_leaving : {R : Type 0} (Q : List ℕ → Type 0) (remaining : R → Option (List ℕ)) (log : R) (reader : Calls R) (standing opened now end : Option Standing)
    → opened ≡ standing → now ≡ opened → IfSome standing (λ s. remaining log ≡ Some s.log) → reader.inner ≡ log
    → IfSome (remaining reader.inner) Q → end ≡ option_map left now → IfSome standing (λ s. Q s.log × (end ≡ Some (left s)))
after_leaving Q remaining log reader None opened now end first second is reads holds ends = tt
after_leaving Q remaining log reader (Some s) opened now end first second is reads holds ends =
    (subst (λ o. IfSome o Q) (ap remaining reads ∙ is) holds, ends ∙ ap (option_map left) (second ∙ first))

-- ---- how many calls failed

both : (n a b c d : ℕ) → a ≡ c → b ≡ d → raised (raised n a) b ≡ raised (raised n c) d
both n a b c d e f = ap (λ k. raised (raised n k) b) e ∙ ap (λ k. raised (raised n c) k) f

-- Of two devices that had not failed, one failed once where it is at fault.
pub both_raised : {R W : Type 0} (r : Result (Unit {0}) ShowFault) (n : ℕ) (a b : Calls R) (c d : Calls W) → a.failures ≡ 0 → c.failures ≡ 0 → CountsAs fault.Read r a b → CountsAs fault.Write r c d
    → raised (raised n b.failures) d.failures ≡ failures_after_compaction r n
both_raised (Err fault.Read) n a b c d none unfailed reads writes = both n b.failures d.failures 1 0 (reads.failed refl ∙ ap one_more none) (writes.unfailed (λ e. absurd cc) ∙ unfailed)
both_raised (Err fault.Write) n a b c d none unfailed reads writes = both n b.failures d.failures 0 1 (reads.unfailed (λ e. absurd cc) ∙ none) (writes.failed refl ∙ ap one_more unfailed)
both_raised r n a b c d none unfailed reads writes = both n b.failures d.failures 0 0 (reads.unfailed (λ e. absurd cc) ∙ none) (writes.unfailed (λ e. absurd cc) ∙ unfailed)
