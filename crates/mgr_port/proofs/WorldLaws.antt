-- What is lost of a path that goes.
use Rattle.std.proofs.Common.{◌≡◌, ◌≢◌, ◌⊎◌, inl, inr, ℕ, zero, List, [], ◌∷◌, ◌++◌, Bool, true, false, Option, Some, None, IfSome, refl, sym, ap, subst, ◌∙◌, length, take, arith}
use Rattle.std.proofs.lemmas.List.{append-nil, length-append}
use Rattle.mgr_port.specs.Spares.{IsNothing}
use Rattle.mgr_port.specs.Verdicts.{MayGrow}
use Rattle.mgr_port.specs.Worlds.{World, Has, Shows, ShowsFile, IsLinked, IsMade, IsLeftAlone, IsBare, StoodUnder, Locks, EndsAt, Grows}
use Rattle.mgr_port.specs.declared.log.End.{End}
use Rattle.mgr_port.specs.declared.log.FoundLog.{FoundLog}
use Rattle.mgr_port.specs.declared.log.LeftLog.{LeftLog}
use Rattle.mgr_port.specs.declared.spare.Look.{Look}

-- ---- a path for which nothing with bytes stood

no_bytes : (l : List ℕ) → length l ≡ 0 → l ≡ []
no_bytes [] is = refl
no_bytes (b ∷ l) is = absurd cc

bare_of : (path : List ℕ) (n : ℕ) (plain : Bool) (a b : World) → (plain ≡ false) ⊎ (n ≡ 0) → ShowsFile a path plain n → IsLeftAlone path a b → IsBare b path
bare_of path n false a b nothing shown alone = inl (alone.name ∙ shown)
bare_of path n true a b (inl no_plain) shown alone = absurd cc
bare_of path n true a b (inr empty) shown alone =
    inr (shown.0, alone.name ∙ shown.1, alone.bytes shown.0 shown.1 ∙ no_bytes (a.bytes shown.0) (shown.2 ∙ empty))

pub bare : (path : List ℕ) (found : Option Look) (a b : World) → IsNothing found → Shows a path found → IsLeftAlone path a b → IsBare b path
bare path None a b nothing shown alone = inl (alone.name ∙ shown)
bare path (Some look) a b nothing shown alone = bare_of path look.stamp.length look.is_plain a b nothing shown alone

-- ---- a path whose file stands under another name

abbrev number_of : Option ℕ → ℕ
number_of None = zero
number_of (Some n) = n

-- a path stands for one file
one_file : (w : World) (path : List ℕ) (one two : ℕ) → Has w path one → Has w path two → one ≡ two
one_file w path one two first second = ap number_of (sym first ∙ second)

-- a path that stands for a file is no name that was free
differs : (w : World) (path name : List ℕ) (file : ℕ) → Has w path file → w.file name ≡ None → path ≢ name
differs w path name file stood free same = let clash : Some file ≡ None = sym stood ∙ ap w.file same ∙ free in absurd cc

pub linked : (path name : List ℕ) (a b c : World) → IsLinked path name a b → IsLeftAlone path b c → StoodUnder name b path c
linked path name a b c l alone file now =
    let there : Has b path l.file = l.leaves.names path (differs a path name l.file l.stood l.was_free) ∙ l.stood in
    let is : l.file ≡ file = one_file c path l.file file (alone.name ∙ there) now in
    (l.file, l.has_name, sym (alone.bytes l.file there) ∙ ap c.bytes is)

pub copied : (path name bytes : List ℕ) (file : ℕ) (a b c d : World) → Has a path file → a.bytes file ≡ bytes → IsLeftAlone path a b → IsMade name bytes b c → IsLeftAlone path c d
    → StoodUnder name c path d
copied path name bytes file a b c d stood read alone made later other now =
    let before : Has b path file = alone.name ∙ stood in
    let there : Has c path file = made.leaves.names path (differs b path name file before made.was_free) ∙ before in
    let is : file ≡ other = one_file d path file other (later.name ∙ there) now in
    let same : d.bytes file ≡ bytes = later.bytes file there ∙ made.leaves.files path file before ∙ alone.bytes file stood ∙ read in
    (made.file, made.has_name, made.has_bytes ∙ sym same ∙ ap d.bytes is)

-- ---- who has a note

pub one_holder : (path : List ℕ) (one two first second : ℕ) (a b : World) → Locks one a path first → IsLeftAlone path a b → b.holder first ≡ Some one → Locks two b path second
    → one ≡ two
one_holder path one two first second a b l alone still m =
    let is : first ≡ second = one_file b path first second (alone.name ∙ l.there) m.there in
    ap number_of (sym still ∙ ap b.holder is ∙ m.locked)

-- ---- a log that grows

no_more : (l more : List ℕ) (n : ℕ) → length (l ++ more) ≡ n → length l ≡ n → more ≡ []
no_more l [] n all is = refl
no_more l (x ∷ more) n all is = let long = length-append l (x ∷ more) in absurd omega (arith, all, is, long)

-- what ends at the same length in the same bytes, after the same ones
pub same_front : (old now before : List ℕ) (end : End) → EndsAt old (length old) end before → EndsAt now (length old) end before → (more : List ℕ) × (now ≡ old ++ more)
same_front old now before end (none, is, long) (more, becomes, also) =
    let front = before ++ take end.length end.bytes in
    let all : old ≡ front = is ∙ ap (λ l. front ++ l) (no_more front none (length old) (sym (ap length is)) long) ∙ append-nil front in
    (more, becomes ∙ ap (λ l. l ++ more) (sym all))

pub grown : (file : ℕ) (before : List ℕ) (a b : World) (left : LeftLog) (found : FoundLog) → EndsAt (a.bytes file) (length (a.bytes file)) left.end before
    → left.stamp.length ≡ length (a.bytes file) → MayGrow left found → IfSome found.end (λ end. EndsAt (b.bytes file) left.stamp.length end before) → Grows file a b
grown file before a b left found ends long may shown =
    let here : EndsAt (b.bytes file) left.stamp.length left.end before =
    subst (λ o. IfSome o (λ end. EndsAt (b.bytes file) left.stamp.length end before)) may.same_end shown in
    same_front (a.bytes file) (b.bytes file) before left.end ends (subst (λ n. EndsAt (b.bytes file) n left.end before) long here)
