-- A session stands after a report.
use Rattle.std.proofs.Common.{◌≡◌, inl, inr, ◌∙◌, ◌<◌, ℕ, Bool, true, List, [], ◌∷◌, length, Some, Result, Ok, Err, MatchResult, is_ok, refl, sym, ap, subst}
use Rattle.std.specs.Prelude.{encode_utf8_all}
use Rattle.std.specs.List.{Contains}
use Rattle.std.specs.Str.{all_scalars}
use Rattle.rga_ops.specs.Answer.{answer}
use Rattle.rga_ops.specs.ListAnswer.{list_answer}
use Rattle.rga_ops.specs.declared.op.Op.{Op}
use Rattle.rga_ops.specs.declared.out_of_memory.OutOfMemory.{OutOfMemory}
use Rattle.rga_ops.specs.declared.refusal.Refusal.{Refusal}
use Rattle.rga_ops.specs.declared.refusal.Taken.{Taken}
use Rattle.rga_lines.specs.Runs.{stretch_operations, run_deletions}
use Rattle.rga_lines.specs.declared.fault.LineFault.{LineFault}
use Rattle.mg_buffer.specs.OpenState.{OpenState}
use Rattle.mg_files.specs.Held.{Held}
use Rattle.mg_events.specs.Reports.{report_at}
use Rattle.mg_events.specs.declared.report.Report.{Report}
use Rattle.mg_events.specs.declared.report.Report.TheVariants as report
use Rattle.mg_plain.specs.declared.command.Command.TheVariants.{ReplaceRange}
use Rattle.mg_session.specs.declared.course.Course.{Course}
use Rattle.mg_session.specs.declared.course.Course.TheVariants.{On}
use Rattle.mg_workspace.specs.AtIndex.{RunsAt, state_at}
use Rattle.mg_editor.specs.Editors.{Editor}
use Rattle.mg_editor.specs.Holding.{GoesOn, HaveOwnNames, IsOpen}
use Rattle.mg_editor.specs.LiveTaking.{taking}
use Rattle.mg_editor.specs.declared.pasting.PasteFault.{PasteFault}
use Rattle.mg_editor.proofs.HoldingLaws.{one_taken_on, pasted_on, spliced_on, taken_on}
use Rattle.mg_editor.proofs.NamesLaws.{pasted_own, spliced_own, taken_own}
use Rattle.mg_editor.proofs.RemovalLaws.{pasted_stay, spliced_stay, taken_stay}
use Rattle.mg_live.specs.FaultNames.{of_paste}
use Rattle.mg_live.specs.Made.{is_live, live_index, made_at, with_made}
use Rattle.mg_live.specs.Reports.{Verdict, with_taken, TakesOperation, TakesList, TakesOthers, Pastes, Splices, TakesPiece, Takes, RefusesReport, TakesReport, TakesLine, counted, resized}
use Rattle.mg_live.specs.Standing.{AreKept, AreSafe, operations_of, operations_read, operations_at}
use Rattle.mg_live.specs.States.{Live}
use Rattle.mg_live.specs.declared.fault.ReportFault.TheVariants.{Line}
use Rattle.mg_live.specs.declared.gathered.Piece.{Piece}
use Rattle.mg_live.specs.declared.gathered.Piece.TheVariants.{Held as Waits, Whole, Dropped}
use Rattle.mg_live.proofs.KeyLaws.{StandsSo, goes_on}
use Rattle.mg_live.proofs.StageLaws.{live_there, made_safe, GoOn}
use Rattle.mg_live.proofs.NameLaws.{found_so}
use Rattle.mg_live.proofs.ShapeLaws.{KeepsNumbers, paste_numbers, run_numbers, same_numbers, paste_same, run_same}
use Rattle.mg_live.proofs.ReachLaws.{SameTold, follows_told, others_case, refused_told, splices_case, told_as}

abbrev PastedSo : Editor → Live → Editor → Live → Verdict → Result (Unit {0}) PasteFault → Type 0
PastedSo e live f next verdict a = MatchResult a
    (λ _. (noted : Result (Unit {0}) OutOfMemory) × (verdict ≡ Ok noted) × (next ≡ with_made (is_live live.name e.work.buffers.current e) (is_ok noted) (made_at e.work.buffers.current e f) live))
    (λ fault. (verdict ≡ Err (of_paste fault)) × (next ≡ live))

-- ---- what stands of a session then, and how each open buffer came to be

module _ (name : List ℕ) (right : all_scalars name ≡ true) (s : Held) (e : Editor) where
  pub record Came (ops : List Op) (f : Editor) (next : Live) : Type 0 where
    pub stands : StandsSo name next.telling.untold f.work.buffers s
    pub named : next.name ≡ name
    pub each : (d : OpenState) → Contains f.work.buffers.all d → GoesOn ops e.work.buffers s d s
    pub numbers : KeepsNumbers e.work f.work

  pub keeps_came : (ops : List Op) (f : Editor) (live next : Live) → SameTold live next → Came ops f live → Came ops f next
  keeps_came ops f live next keeps came = record {
    stands = subst (λ (xs : List Op). StandsSo name xs f.work.buffers s) (sym keeps.untold) came.stands;
    named = keeps.name ∙ came.named;
    each = came.each;
    numbers = came.numbers;
  }

  -- the buffers are as they were
  module _ (live : Live) (stands : StandsSo name live.telling.untold e.work.buffers s) (named : live.name ≡ name) where
    here : (ops : List Op) → Came ops e live
    here ops = record {
      stands = stands;
      named = named;
      each = λ d c. record { b = d; was = c; steps = []; takes = tt; goes = (refl, refl) };
      numbers = same_numbers e.work e.work refl;
    }

    stays : (ops : List Op) (f : Editor) (next : Live) → f ≡ e → next ≡ live → Came ops f next
    stays ops f next same still = subst (λ (g : Editor). Came ops g next) (sym same) (keeps_came ops e live next (told_as live still refl refl refl) (here ops))

    stays_with : (ops : List Op) (f : Editor) (next : Live) → f ≡ e → SameTold live next → Came ops f next
    stays_with ops f next same keeps = subst (λ (g : Editor). Came ops g next) (sym same) (keeps_came ops e live next keeps (here ops))

    -- they went on, and what was made is noted or not
    went : (ops : List Op) (f : Editor) (next : Live) → AreKept f.work.buffers → HaveOwnNames f.work.buffers
        → ((d : OpenState) → Contains f.work.buffers.all d → GoesOn ops e.work.buffers s d s)
        → ((b : OpenState) → Contains e.work.buffers.all b → IsOpen b.buffer.name f.work.buffers)
        → KeepsNumbers e.work f.work → (StandsSo name live.telling.untold f.work.buffers s → StandsSo name next.telling.untold f.work.buffers s) → next.name ≡ live.name → Came ops f next
    went ops f next later own each stay numbers noted same =
        let go : GoOn (encode_utf8_all name) e.work f.work s s = record {
          each = λ d c. inl (ops, each d c);
          removed = λ b c at none. absurd (none (subst (λ n. IsOpen n f.work.buffers) at (stay b c)));
          spared = λ closed. refl;
        } in
        record { stands = noted (goes_on name live.telling.untold e f s s right stands later own go); named = same ∙ named; each = each; numbers = numbers }

    -- ---- operations of others

    taken : (ops : List Op) (i : ℕ) (f : Editor) (next : Live) → AreKept f.work.buffers → f ≡ taking i ops e
        → ((d : OpenState) → Contains f.work.buffers.all d → GoesOn ops e.work.buffers s d s) → SameTold live next → Came ops f next
    taken ops i f next later same each keeps =
        went ops f next later (taken_own i ops e f stands.own same) each (taken_stay i ops e f same) (record { replica = ap (λ (g : Editor). g.work.replica) same; limit = ap (λ (g : Editor). g.work.limit) same })
        (λ so. subst (λ (xs : List Op). StandsSo name xs f.work.buffers s) (sym keeps.untold) so) keeps.name

    takes_one : (op : Op) (i : ℕ) (r : Result Taken Refusal) (f : Editor) (next : Live) → i < length e.work.buffers.all → AreKept f.work.buffers → TakesOperation op i e r f
        → SameTold live next → Came (op ∷ []) f next
    takes_one op i (Ok known) f next there later takes keeps =
        let answered : answer (state_at i e.work).limit (state_at i e.work).content op ≡ Ok known = sym (takes.exact (λ bad. absurd cc)) in
        taken (op ∷ []) i f next later takes.left (one_taken_on i op known e f s there stands.kept.are later.are answered takes.left) keeps
    takes_one op i (Err why) f next there later takes keeps = stays_with (op ∷ []) f next takes.left keeps

    takes_list : (ops : List Op) (i : ℕ) (r : Result (Unit {0}) Refusal) (f : Editor) (next : Live) → i < length e.work.buffers.all → AreKept f.work.buffers → TakesList ops i e r f
        → SameTold live next → Came ops f next
    takes_list ops i (Ok u) f next there later takes keeps =
        let answered : list_answer (state_at i e.work).limit (state_at i e.work).content ops ≡ Ok tt = sym (takes.exact (λ bad. absurd cc)) in
        taken ops i f next later takes.left (taken_on ops s i e f there later.are answered takes.left) keeps
    takes_list ops i (Err why) f next there later takes keeps = stays_with ops f next takes.left keeps

    others : {A : Type 0} (ops : List Op) (Each : ℕ → Editor → Result A Refusal → Editor → Type 0) (f : Editor) (next : Live) (verdict : Verdict)
        → ((i : ℕ) (r : Result A Refusal) → i < length e.work.buffers.all → Each i e r f → SameTold live next → Came ops f next)
        → TakesOthers ops Each e live verdict f next → Came ops f next
    others {A} ops Each f next verdict each = others_case e live f next verdict (stays ops f next) ops Each answered
      where
        answered : (i : ℕ) (r : Result A Refusal) → live_index live.name e ≡ Some i → Each i e r f
            → MatchResult r (λ _. next ≡ with_taken live) (λ why. next ≡ live) → Came ops f next
        answered i (Ok a) at takes is =
            each i (Ok a) (found_so live.name e.work.buffers i stands.kept.named at).within takes (told_as live is refl refl refl)
        answered i (Err why) at takes is = each i (Err why) (found_so live.name e.work.buffers i stands.kept.named at).within takes (told_as live is refl refl refl)

    -- ---- pasted text, and splices

    pastes : (put : List ℕ) (f : Editor) (next : Live) (verdict : Verdict) → AreKept f.work.buffers → Pastes put e live verdict f next → Came [] f next
    pastes put f next verdict later (r, pasted, came) = by r refl came
      where
        pasted_so : (StandsSo name live.telling.untold f.work.buffers s → StandsSo name next.telling.untold f.work.buffers s) → next.name ≡ live.name → Came [] f next
        pasted_so noted same =
            went [] f next later (pasted_own put e f r stands.own pasted) (pasted_on [] s put e f r stands.kept.are later.are pasted)
            (pasted_stay put e f r pasted) (paste_numbers put e f r pasted) noted same

        by : (a : Result (Unit {0}) PasteFault) → r ≡ a → PastedSo e live f next verdict a → Came [] f next
        by (Ok u) at (noted, told, is) =
            let current = e.work.buffers.current in
            pasted_so
            (λ so. record {
              kept = so.kept;
              own = so.own;
              logged = so.logged;
              safe = subst (λ (l : Live). AreSafe (encode_utf8_all name) l.telling.untold f.work.buffers s) (sym is)
                  (made_safe name s f so.own later.named so.logged (is_live live.name current e) (is_ok noted) e current live stands.kept.named
                  (λ there. live_there name current e (subst (λ n. is_live n current e ≡ true) named there)) (λ count. paste_same put e f r pasted) so.safe);
            })
            (ap (λ (l : Live). l.name) is)
        by (Err fault) at (told, is) =
            pasted_so (λ so. subst (λ (l : Live). StandsSo name l.telling.untold f.work.buffers s) (sym is) so) (ap (λ (l : Live). l.name) is)

    splices : (base lo hi : ℕ) (put : List ℕ) (f : Editor) (next : Live) (verdict : Verdict) → AreKept f.work.buffers → Splices base lo hi put e live verdict f next → Came [] f next
    splices base lo hi put f next verdict later = splices_case e live f next verdict (stays [] f next) base lo hi put made
      where
        made : (i : ℕ) (noted : Bool) → live_index live.name e ≡ Some i → RunsAt i (ReplaceRange lo hi put) 1 e.work (f.work, Ok tt)
            → next ≡ with_made true noted (made_at i e f) live → Came [] f next
        made i noted at did is =
            let there = (found_so live.name e.work.buffers i stands.kept.named at).within in
            went [] f next later (spliced_own i (ReplaceRange lo hi put) 1 e f (Ok tt) stands.own did) (spliced_on [] s i (ReplaceRange lo hi put) 1 e f (Ok tt) there later.are did)
            (spliced_stay i (ReplaceRange lo hi put) 1 e f (Ok tt) did) (run_numbers i (ReplaceRange lo hi put) 1 e.work f.work (Ok tt) did)
            (λ so. record {
              kept = so.kept;
              own = so.own;
              logged = so.logged;
              safe = subst (λ (l : Live). AreSafe (encode_utf8_all name) l.telling.untold f.work.buffers s) (sym is)
                  (made_safe name s f so.own later.named so.logged true noted e i live stands.kept.named
                  (λ _. subst (λ n. live_index n e ≡ Some i) named at) (λ count. run_same i (ReplaceRange lo hi put) 1 e.work f.work (Ok tt) did) so.safe);
            })
            (ap (λ (l : Live). l.name) is)

    sized : (rows columns : ℕ) (f : Editor) (next : Live) → AreKept f.work.buffers → f ≡ resized rows columns e → next ≡ live → Came [] f next
    sized rows columns f next later same is =
        let all : f.work.buffers.all ≡ e.work.buffers.all = ap (λ (g : Editor). g.work.buffers.all) same in
        let own : HaveOwnNames f.work.buffers = subst (λ (g : Editor). HaveOwnNames g.work.buffers) (sym same) stands.own in
        went [] f next later own
        (λ d c. record { b = d; was = subst (λ (l : List OpenState). Contains l d) all c; steps = []; takes = tt; goes = (refl, refl) })
        (λ b c. (b, subst (λ (l : List OpenState). Contains l b) (sym all) c, refl))
        (record { replica = ap (λ (g : Editor). g.work.replica) same; limit = ap (λ (g : Editor). g.work.limit) same })
        (λ so. subst (λ (l : Live). StandsSo name l.telling.untold f.work.buffers s) (sym is) so) (ap (λ (l : Live). l.name) is)

  -- a piece of text, with what is held of it
  piece_taken : (Each : List ℕ → Editor → Live → Verdict → Editor → Live → Type 0) (piece : Piece) (live : Live) (f : Editor) (next : Live) (verdict : Verdict)
      → StandsSo name live.telling.untold e.work.buffers s → live.name ≡ name → ((put : List ℕ) → Each put e live verdict f next → Came [] f next)
      → TakesPiece piece Each e live verdict f next → Came [] f next
  piece_taken Each Waits live f next verdict stands named each (told, same, is) = stays live stands named [] f next same is
  piece_taken Each (Dropped fault) live f next verdict stands named each (told, same, is) = stays live stands named [] f next same is
  piece_taken Each (Whole put) live f next verdict stands named each taken = each put taken

  module _ (live : Live) (stands : StandsSo name live.telling.untold e.work.buffers s) (named : live.name ≡ name) (f : Editor) (next : Live) (verdict : Verdict) (later : AreKept f.work.buffers) where
    takes : (told : Report) → Takes told e live verdict f next → Came (operations_of told) f next
    takes (report.One op) it = others live stands named (op ∷ []) (TakesOperation op) f next verdict (λ i r there. takes_one live stands named op i r f next there later) it
    takes (report.Run run) (inl (told, same, is)) = stays live stands named (stretch_operations run) f next same is
    takes (report.Run run) (inr it) =
        others live stands named (stretch_operations run) (TakesList (stretch_operations run)) f next verdict
        (λ i r there. takes_list live stands named (stretch_operations run) i r f next there later) it
    takes (report.Deletions run) (inl (told, same, is)) = stays live stands named (run_deletions run) f next same is
    takes (report.Deletions run) (inr it) =
        others live stands named (run_deletions run) (TakesList (run_deletions run)) f next verdict
        (λ i r there. takes_list live stands named (run_deletions run) i r f next there later) it
    takes (report.Paste text more) (held, piece, gathers, it) =
        piece_taken Pastes piece (record live { paste = held }) f next verdict stands named (λ put. pastes (record live { paste = held }) stands named put f next verdict later) it
    takes (report.Splice base lo hi text more) (held, piece, gathers, it) =
        piece_taken (Splices base lo hi) piece (record live { splice = held }) f next verdict stands named
        (λ put. splices (record live { splice = held }) stands named base lo hi put f next verdict later) it
    takes (report.Size rows columns) (told, same, is) = sized live stands named rows columns f next later same is
    takes (report.Places places) (told, same, is) = stays_with live stands named [] f next same (told_as live is refl refl refl)
    takes report.Rest (told, same, is) = stays_with live stands named [] f next same (told_as live is refl refl refl)

  -- ---- the line of a report

  module _ (live : Live) (stands : StandsSo name live.telling.untold e.work.buffers s) (named : live.name ≡ name) (f : Editor) (next : Live) (after : Course) (later : AreKept f.work.buffers) where
    reported : (told : Report) → TakesReport told e (counted live) f next after → Came (operations_of told) f next
    reported told (verdict, between, taken, follows) =
        keeps_came (operations_of told) f between next (follows_told verdict between next after follows)
        (takes (counted live) stands named f between verdict later told taken)

    pub line_came : (bytes : List ℕ) → TakesLine bytes e live f next after → Came (operations_at bytes) f next
    line_came bytes (r, exact, taken) = by r refl taken
      where
        by : (read : Result Report LineFault) → r ≡ read
            → MatchResult read (λ told. TakesReport told e (counted live) f next after) (λ fault. (f ≡ e) × RefusesReport (Line fault) On (counted live) next after)
            → Came (operations_at bytes) f next
        by (Ok told) at it =
            let is : report_at bytes ≡ Ok told = sym (exact (λ bad. absurd cc)) ∙ at in
            subst (λ (x : Result Report LineFault). Came (operations_read x) f next) (sym is) (reported told it)
        by (Err fault) at (same, so) =
            let keeps = refused_told (Line fault) On (counted live) next after so in
            stays_with live stands named (operations_at bytes) f next same (record { name = keeps.name; untold = keeps.untold; changes = keeps.changes })
