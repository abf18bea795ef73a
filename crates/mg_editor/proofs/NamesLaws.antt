-- Open buffers keep names of their own.
use Rattle.std.proofs.Common.{◌≡◌, ◌≢◌, ◌⊎◌, inl, inr, ◌∙◌, ℕ, zero, suc, ◌<◌, Bool, true, false, not, List, [], ◌∷◌, ◌++◌, length, get_or, set, Option, Some, None, Result, Ok, Err, refl, sym, ap, subst, length-append, true≢false, arith}
use Rattle.std.proofs.lemmas.Bool.Decides.{nat_tests}
use Rattle.std.specs.Prelude.{◌+◌, encode_utf8_all, chars, if◌then◌else◌, nat_lt}
use Rattle.std.specs.List.{position_or_len, remove}
use Rattle.std.specs.Str.{all_scalars}
use Rattle.std.proofs.lemmas.List.{get_or_append_left, get_or-append-add, length-set}
use Rattle.std.proofs.lemmas.List.Sums.{prefix_len_passes}
use Rattle.std.proofs.lemmas.Slice.Eq.{bytes_eq-Decides}
use Rattle.std.proofs.lemmas.Str.{chars-encodes}
use Rattle.rga_ops.specs.declared.op.Op.{Op}
use Rattle.mg_plain.specs.declared.command.Command.{Command}
use Rattle.mg_buffer.specs.OpenState.{OpenState}
use Rattle.mg_files.specs.Calls.{Call}
use Rattle.mg_minibuffer.specs.declared.ending.Action.{Action}
use Rattle.mg_minibuffer.specs.declared.ending.Reaction.{Reaction}
use Rattle.mg_minibuffer.specs.declared.ending.Reaction.TheVariants.{Ends, Replaces, Accepts}
use Rattle.mg_minibuffer.specs.declared.ending.Request.{Request}
use Rattle.mg_minibuffer.specs.declared.ending.Request.TheVariants as request
use Rattle.mg_screen.specs.Settings.{Values}
use Rattle.mg_workspace.specs.Actions.{ActionVerdict, Done}
use Rattle.mg_workspace.specs.AtIndex.{RunsAt}
use Rattle.mg_workspace.specs.Buffers.{no_buffer}
use Rattle.mg_workspace.specs.Names.{buffer_named, is_named}
use Rattle.mg_workspace.specs.Opening.{workspace}
use Rattle.mg_workspace.specs.Workspaces.{Workspace}
use Rattle.mg_editor.specs.Carrying.{Carried}
use Rattle.mg_editor.specs.Editors.{Editor}
use Rattle.mg_editor.specs.Holding.{HaveOwnNames}
use Rattle.mg_editor.specs.LiveTaking.{taking}
use Rattle.mg_editor.specs.Pasting.{PasteAnswer, Pasted}
use Rattle.mg_editor.specs.Presses.{PressAnswer, FollowsReaction, Pressed}
use Rattle.mg_editor.specs.Telling.{CarryAnswer}
use Rattle.mg_editor.proofs.ActionCases.{KeepsNames, action_leaves, ended_so, one_keeps, run_keeps, takes_keep}
use Rattle.mg_editor.proofs.PasteCases.{behind_a_paste}
use Rattle.mg_editor.proofs.PressCases.{behind_a_press, replaces}
use Rattle.mg_editor.proofs.RequestLaws.{Opens, carry_leaves}

abbrev Own : List OpenState → Type 0
Own l = (i j : ℕ) → i < length l → j < length l → (get_or l i no_buffer).buffer.name ≡ (get_or l j no_buffer).buffer.name → i ≡ j

-- one alone has its own
pub one_own : (values : Values) (b : OpenState) → HaveOwnNames (workspace values b).buffers
one_own values b i j li lj e = omega (arith, li, lj)

-- ---- one became another of its name

pub set_name : (l : List OpenState) (i : ℕ) (y : OpenState) → y.buffer.name ≡ (get_or l i no_buffer).buffer.name → (k : ℕ) → (get_or (set l i y) k no_buffer).buffer.name ≡ (get_or l k no_buffer).buffer.name
set_name [] i y same k = refl
set_name (z ∷ zs) zero y same zero = same
set_name (z ∷ zs) zero y same (suc k) = refl
set_name (z ∷ zs) (suc i) y same zero = refl
set_name (z ∷ zs) (suc i) y same (suc k) = set_name zs i y same k

set_own : (l : List OpenState) (i : ℕ) (y : OpenState) → y.buffer.name ≡ (get_or l i no_buffer).buffer.name → Own l → Own (set l i y)
set_own l i y same own a b la lb e =
    own a b (subst (λ n. a < n) (length-set l i y) la) (subst (λ n. b < n) (length-set l i y) lb) (sym (set_name l i y same a) ∙ e ∙ set_name l i y same b)

-- ---- one was removed

-- where what stands at an index stood before
before_removal : ℕ → ℕ → ℕ
before_removal zero k = suc k
before_removal (suc gone) zero = zero
before_removal (suc gone) (suc k) = suc (before_removal gone k)

stood : (l : List OpenState) (gone k : ℕ) → k < length (remove l gone) → (before_removal gone k < length l) × (get_or (remove l gone) k no_buffer ≡ get_or l (before_removal gone k) no_buffer)
unfolding before_removal
stood [] zero k lt = absurd (omega (arith, lt))
stood [] (suc gone) k lt = absurd (omega (arith, lt))
stood (z ∷ zs) zero k lt = (omega (arith, lt), refl)
stood (z ∷ zs) (suc gone) zero lt = (omega arith, refl)
stood (z ∷ zs) (suc gone) (suc k) lt = let r = stood zs gone k (omega (arith, lt)) in (omega (arith, r.0), r.1)

one_stood : (gone a b : ℕ) → before_removal gone a ≡ before_removal gone b → a ≡ b
unfolding before_removal
one_stood zero a b e = omega (arith, e)
one_stood (suc gone) zero zero e = refl
one_stood (suc gone) zero (suc b) e = absurd (omega (arith, e))
one_stood (suc gone) (suc a) zero e = absurd (omega (arith, e))
one_stood (suc gone) (suc a) (suc b) e = ap suc (one_stood gone a b (omega (arith, e)))

remove_own : (l : List OpenState) (gone : ℕ) → Own l → Own (remove l gone)
remove_own l gone own a b la lb e =
    let one = stood l gone a la in
    let two = stood l gone b lb in
    let name = λ (x : OpenState). x.buffer.name in
    one_stood gone a b (own (before_removal gone a) (before_removal gone b) one.0 two.0 (ap name (sym one.1) ∙ e ∙ ap name two.1))

-- ---- one was opened

below_or_last : (a n : ℕ) → a < n + 1 → (a < n) ⊎ (a ≡ n)
below_or_last zero zero lt = inr refl
below_or_last zero (suc n) lt = inl (omega arith)
below_or_last (suc a) zero lt = absurd (omega (arith, lt))
below_or_last (suc a) (suc n) lt = elim (below_or_last a n (omega (arith, lt))) [
  | inl under ↦ inl (omega (arith, under))
  | inr same ↦ inr (ap suc same)
]

push_own : (l : List OpenState) (x : OpenState) → ((k : ℕ) → k < length l → (get_or l k no_buffer).buffer.name ≢ x.buffer.name) → Own l → Own (l ++ x ∷ [])
push_own l x apart own a b la lb e = by (below_or_last a (length l) (subst (λ n. a < n) (length-append l (x ∷ [])) la)) (below_or_last b (length l) (subst (λ n. b < n) (length-append l (x ∷ [])) lb))
  where
    named : (k : ℕ) → k < length l → (get_or (l ++ x ∷ []) k no_buffer).buffer.name ≡ (get_or l k no_buffer).buffer.name
    named k lt = ap (λ (y : OpenState). y.buffer.name) (get_or_append_left l (x ∷ []) no_buffer k lt)

    last : (k : ℕ) → k ≡ length l → (get_or (l ++ x ∷ []) k no_buffer).buffer.name ≡ x.buffer.name
    last k is = ap (λ n. (get_or (l ++ x ∷ []) n no_buffer).buffer.name) (is ∙ omega arith) ∙ ap (λ (y : OpenState). y.buffer.name) (get_or-append-add l (x ∷ []) 0 no_buffer)

    by : (a < length l) ⊎ (a ≡ length l) → (b < length l) ⊎ (b ≡ length l) → a ≡ b
    by (inl p) (inl q) = own a b p q (sym (named a p) ∙ e ∙ named b q)
    by (inl p) (inr q) = absurd (apart a p (sym (named a p) ∙ e ∙ last b q))
    by (inr p) (inl q) = absurd (apart b q (sym (named b q) ∙ sym e ∙ last a p))
    by (inr p) (inr q) = p ∙ sym q

-- ---- a press

same_own : (v w : List OpenState) → v ≡ w → Own w → Own v
same_own v w e own = subst Own (sym e) own

keeps_own : (w v : Workspace) → KeepsNames w v → Own w.buffers.all → Own v.buffers.all
keeps_own w v (inl same) own = same_own v.buffers.all w.buffers.all same own
keeps_own w v (inr (i, x, name, is)) own = same_own v.buffers.all (set w.buffers.all i x) is (set_own w.buffers.all i x name own)

acts_own : (action : Action) (w v : Workspace) (r : ActionVerdict) → Done action w (v, r) → Own w.buffers.all → Own v.buffers.all
acts_own action w v r did own = elim (action_leaves action w v r did) [
  | inl keeps ↦ keeps_own w v keeps own
  | inr gone ↦ same_own v.buffers.all (remove w.buffers.all gone.0) gone.2 (remove_own w.buffers.all gone.0 own)
]

follows_own : (reaction : Reaction) (old new : Editor) (request : Request) → FollowsReaction reaction old new request → Own old.work.buffers.all → Own new.work.buffers.all
follows_own (Ends e) old new request it own = let did = ended_so e old new request it in acts_own e.action old.work new.work did.0 did.1 own
follows_own (Replaces pattern put count) old new request it own =
    let two = replaces pattern put count old new request it in
    keeps_own two.0 new.work (one_keeps two.0 new.work two.2) (keeps_own old.work two.0 (one_keeps old.work two.0 two.1) own)
follows_own Accepts old new request it own = same_own new.work.buffers.all old.work.buffers.all (ap (λ (e : Editor). e.work.buffers.all) it.0) own

pub press_own : (byte : ℕ) (old new : Editor) (r : PressAnswer) → HaveOwnNames old.work.buffers → Pressed byte old new r → HaveOwnNames new.work.buffers
press_own byte old new r own p =
    behind_a_press (λ w. Own w.buffers.all) byte old new r own (λ reaction request read it. follows_own reaction (record old { talk = read }) new request it own) p

-- ---- what is taken, a splice, and a text that is pasted

pub taken_own : (i : ℕ) (ops : List Op) (old new : Editor) → HaveOwnNames old.work.buffers → new ≡ taking i ops old → HaveOwnNames new.work.buffers
taken_own i ops old new own is = keeps_own old.work new.work (takes_keep i ops old new is) own

pub spliced_own : (i : ℕ) (command : Command) (n : ℕ) (old new : Editor) (r : ActionVerdict) → HaveOwnNames old.work.buffers → RunsAt i command n old.work (new.work, r) → HaveOwnNames new.work.buffers
spliced_own i command n old new r own did = keeps_own old.work new.work (run_keeps i command n old.work new.work r did) own

pub pasted_own : (put : List ℕ) (old new : Editor) (r : PasteAnswer) → HaveOwnNames old.work.buffers → Pasted put old new r → HaveOwnNames new.work.buffers
pasted_own put old new r own p = by own
  where
    by : Own old.work.buffers.all → Own new.work.buffers.all
    by =
        behind_a_paste (λ w v. Own w.buffers.all → Own v.buffers.all) (λ w v one. keeps_own w v (one_keeps w v one)) (λ w u v first second own. second (first own))
        put old new r p

-- ---- a request

-- none of that name was open, and so the one that is opened has its own
none_named : (name : List ℕ) (l : List OpenState) → all_scalars name ≡ true → buffer_named name l ≡ None → (k : ℕ) → k < length l → (get_or l k no_buffer).buffer.name ≢ encode_utf8_all name
none_named name l right none k lt is = by (nat_lt (position_or_len (is_named name) l) (length l)) refl none
  where
    named : is_named name (get_or l k no_buffer) ≡ true
    named = (bytes_eq-Decides (chars (get_or l k no_buffer).buffer.name) name).1 (ap chars is ∙ chars-encodes name right)

    le_so : nat_lt (position_or_len (is_named name) l) (length l) ≡ false → k < length l → k < position_or_len (is_named name) l
    le_so at lt = grind (arith, nat_tests)

    by : (found : Bool) → nat_lt (position_or_len (is_named name) l) (length l) ≡ found → (if found then Some (position_or_len (is_named name) l) else None) ≡ None → ⊥
    by true at e = absurd cc
    by false at e =
        let passes : not (is_named name (get_or l k no_buffer)) ≡ true = prefix_len_passes (λ b. not (is_named name b)) l k no_buffer (le_so at lt) in
        true≢false (sym passes ∙ ap not named)

opens_own : (name : List ℕ) (w v : Workspace) → all_scalars name ≡ true → Opens name w v → Own w.buffers.all → Own v.buffers.all
opens_own name w v right (x, none, named, is) own =
    same_own v.buffers.all (w.buffers.all ++ x ∷ []) is (push_own w.buffers.all x (λ k lt e. none_named name w.buffers.all right none k lt (e ∙ named)) own)

pub carry_own : (carried : Request) (calls more : Option (List Call)) (old new : Editor) (r : CarryAnswer) → ((name : List ℕ) → carried ≡ request.Find name → all_scalars name ≡ true) → HaveOwnNames old.work.buffers
    → Carried carried calls more old new r → HaveOwnNames new.work.buffers
carry_own carried calls more old new r right own h = elim (carry_leaves carried calls more old new r h) [
  | inl keeps ↦ keeps_own old.work new.work keeps own
  | inr opened ↦ opens_own opened.0 old.work new.work (right opened.0 opened.1) opened.2 own
]
