-- What is told of a note that is mended.
use Rattle.std.proofs.Common.{◌≡◌, ◌⊎◌, inl, inr, ◌∙◌, ℕ, true, false, List, [], ◌∷◌, length, ◌==◌, Option, Some, None, Result, Ok, Err, refl, ap, subst}
use Rattle.std.specs.Prelude.{IfSome, OnOk, OnErr}
use Rattle.std.specs.Option.{option_map}
use Rattle.std.specs.Io.KnownBytes.{Appends}
use Rattle.std.proofs.lemmas.Option.{IfSome_then}
use Rattle.rga_exchange.specs.Counting.{Calls, Writes}
use Rattle.mg_files.specs.declared.port.PortFault.{PortFault}
use Rattle.mgr_port.specs.Disk.{whole_steps}
use Rattle.mgr_port.specs.Logs.{Standing, StaysSame, StopsEarly, Names, AppendsFront, left, renamed, raised}
use Rattle.mgr_port.proofs.LogsLaws.{all_written, gains_front}
use Rattle.mgr_mend.specs.Fitting.{fitted, all_refused}
use Rattle.mgr_mend.specs.Ends.{MendsInPart, mended_standing}

-- ---- what stands there

-- the bytes that were read of a log
pub read_whole : {R : Type 0} (remaining : R → Option (List ℕ)) (log : R) (bytes : List ℕ) (standing : Option Standing)
    → IfSome standing (λ s. remaining log ≡ Some s.log) → IfSome (remaining log) (λ all. bytes ≡ all) → IfSome standing (λ s. bytes ≡ s.log)
read_whole remaining log bytes standing is read = IfSome_then standing is (λ s told. subst (λ o. IfSome o (λ all. bytes ≡ all)) told read)

pub stays : (standing found : Option Standing) → found ≡ standing → IfSome standing (λ s. StaysSame s found)
stays None found is = tt
stays (Some s) found is = inl is

pub stays_left : (standing opened found : Option Standing) → opened ≡ standing → found ≡ option_map left opened → IfSome standing (λ s. StaysSame s found)
stays_left None opened found same is = tt
stays_left (Some s) opened found same is = inr (is ∙ ap (option_map left) same)

-- What holds where the bytes of the file beside were to get the name, holds of those that were written: the file began empty.
pub after_writing : {W : Type 0} (P : List ℕ → Standing → Type 0) (contents : W → Option (List ℕ)) (next : W) (old new : Calls W) (bytes : List ℕ) (standing opened : Option Standing)
    → opened ≡ standing → IfSome standing (λ _. contents next ≡ Some []) → old.inner ≡ next → Writes contents old new bytes
    → IfSome opened (λ s. IfSome (contents new.inner) (λ written. P written s)) → IfSome standing (P bytes)
after_writing P contents next old new bytes None opened same empty is writes named = tt
after_writing P contents next old new bytes (Some s) opened same empty is writes named =
    let written : contents new.inner ≡ Some bytes = all_written (contents new.inner) bytes (subst (λ o. Appends o (contents new.inner) bytes) (ap contents is ∙ empty) writes) in
    let here : IfSome (contents new.inner) (λ l. P l s) = subst (λ o. IfSome o (λ s. IfSome (contents new.inner) (λ l. P l s))) same named in
    subst (λ o. IfSome o (λ l. P l s)) written here

-- What holds of bytes that were made of those of a log holds of what these make.
pub made_of : (P : List ℕ → List ℕ → Standing → Type 0) (f g : List ℕ → List ℕ) (standing opened : Option Standing) (bytes log refused : List ℕ)
    → opened ≡ standing → IfSome standing (λ s. bytes ≡ s.log) → log ≡ f bytes → refused ≡ g bytes
    → IfSome opened (P log refused) → IfSome standing (λ s. P (f s.log) (g s.log) s)
made_of P f g None opened bytes log refused same whole one two holds = tt
made_of P f g (Some s) opened bytes log refused same whole one two holds =
    let here : P log refused s = subst (λ o. IfSome o (P log refused)) same holds in
    subst (λ l. P l (g s.log) s) (one ∙ ap f whole) (subst (λ l. P log l s) (two ∙ ap g whole) here)

renamed_for : (refused : List ℕ) (s : Standing) → (length refused == 0) ≡ false → renamed whole_steps (fitted s.log) ≡ mended_standing refused s
renamed_for [] s e = let no : true ≡ false = e in absurd cc
renamed_for (byte ∷ refused) s e = refl

-- else the mended log does, where that was given the name
pub some_refused : (g : List ℕ → List ℕ) (standing found : Option Standing) (bytes refused : List ℕ)
    → IfSome standing (λ s. bytes ≡ s.log) → refused ≡ g bytes → (length refused == 0) ≡ false
    → IfSome standing (λ s. found ≡ Some (renamed whole_steps (fitted s.log))) → IfSome standing (λ s. found ≡ Some (mended_standing (g s.log) s))
some_refused g None found bytes refused whole is some named = tt
some_refused g (Some s) found bytes refused whole is some named =
    named ∙ ap (λ (t : Standing). Some t) (renamed_for (g s.log) s (subst (λ (l : List ℕ). (length l == 0) ≡ false) (is ∙ ap g whole) some))

pub told_ok : {A E P : Type 0} (r : Result A E) → P → OnOk r P
told_ok (Ok a) p = p
told_ok (Err e) p = tt

-- what is told of the name, by what the naming answers
pub names_ok : (r : Result (Unit {0}) PortFault) (bytes : List ℕ) (standing found : Option Standing) → IfSome standing (λ s. Names r bytes s found)
    → OnOk r (IfSome standing (λ s. found ≡ Some (renamed whole_steps bytes)))
names_ok (Ok u) bytes standing found holds = holds
names_ok (Err fault) bytes standing found holds = tt

pub names_err : (r : Result (Unit {0}) PortFault) (bytes : List ℕ) (standing found : Option Standing) → IfSome standing (λ s. Names r bytes s found)
    → OnErr r (IfSome standing (λ s. StaysSame s found ⊎ StopsEarly bytes s found))
names_err (Ok u) bytes standing found holds = tt
names_err (Err fault) bytes standing found holds = IfSome_then standing holds (λ s stops. inr stops)

-- ---- what is kept as refused

pub in_part : (bytes refused : List ℕ) (s : Standing) (found : Option Standing) (kept now : Option (List ℕ))
    → Appends kept now refused → StaysSame s found ⊎ StopsEarly bytes s found → MendsInPart bytes refused s found kept now
in_part bytes refused s found kept now all (inl same) = inl (same, gains_front kept now refused all)
in_part bytes refused s found kept now all (inr stops) = inr (stops, all)

pub nothing_begun : (bytes refused : List ℕ) (standing found : Option Standing) (kept now : Option (List ℕ))
    → found ≡ standing → AppendsFront kept now refused → IfSome standing (λ s. MendsInPart bytes refused s found kept now)
nothing_begun bytes refused standing found kept now same front =
    IfSome_then standing (stays standing found same) (λ s is. inl (is, front))

-- of the bytes that were made of those of a log, which was opened
pub mends_part : (standing opened found : Option Standing) (before kept now : Option (List ℕ)) (bytes log refused : List ℕ)
    → opened ≡ standing → before ≡ kept → IfSome standing (λ s. bytes ≡ s.log) → log ≡ fitted bytes → refused ≡ all_refused bytes
    → IfSome opened (λ s. MendsInPart log refused s found before now) → IfSome standing (λ s. MendsInPart (fitted s.log) (all_refused s.log) s found kept now)
mends_part standing opened found before kept now bytes log refused same is whole one two holds =
    made_of (λ bytes gone s. MendsInPart bytes gone s found kept now) fitted all_refused standing opened bytes log refused same whole one two
    (subst (λ o. IfSome opened (λ s. MendsInPart log refused s found o now)) is holds)

-- ---- how many calls failed

-- of a log and a file of which no call failed, or one of the file
pub raised_by : (n a b k : ℕ) → a ≡ 0 → b ≡ k → raised (raised n a) b ≡ raised n k
raised_by n a b k none is = ap (λ (m : ℕ). raised (raised n m) b) none ∙ ap (λ (m : ℕ). raised n m) is
