-- What becomes of a piece of text, by what the code made of it.
use Rattle.std.proofs.Common.{◌≡◌, ◌∙◌, Bool, true, false, List, ℕ, nat_eq, Option, Some, None, Result, Ok, Err, MatchResult, is_ok, arith, refl, sym, ap, subst}
use Rattle.std.specs.Bool.{MatchBool}
use Rattle.rga_ops.specs.declared.out_of_memory.OutOfMemory.{OutOfMemory}
use Rattle.rga_lines.specs.declared.fault.LineFault.{LineFault}
use Rattle.mg_plain.specs.declared.command.Command.TheVariants.{ReplaceRange}
use Rattle.mg_workspace.specs.Actions.{ActionVerdict}
use Rattle.mg_workspace.specs.AtIndex.{RunsAt}
use Rattle.mg_editor.specs.Editors.{Editor}
use Rattle.mg_editor.specs.LiveTaking.{with_changed}
use Rattle.mg_live.specs.Changes.{change_count}
use Rattle.mg_live.specs.FaultNames.{of_action}
use Rattle.mg_live.specs.Made.{is_live, live_index, made_at, with_made}
use Rattle.mg_live.specs.States.{Live}
use Rattle.mg_live.specs.Gathering.{Gathered}
use Rattle.mg_live.specs.Reports.{Verdict, Gathers, TakesPiece, Pastes, TakesPaste, Splices, TakesSplice}
use Rattle.mg_live.specs.declared.fault.ReportFault.TheVariants.{Closed, Line, Stale}
use Rattle.mg_live.specs.declared.gathered.Piece.{Piece}
use Rattle.mg_live.specs.declared.gathered.Piece.TheVariants.{Held, Whole, Dropped}

module _ (Takes : List ℕ → Editor → Live → Verdict → Editor → Live → Type 0) (piece : Piece) (e : Editor) (live : Live) where
  pub piece_held : piece ≡ Held → TakesPiece piece Takes e live (Ok (Ok tt)) e live
  piece_held is = subst (λ (p : Piece). TakesPiece p Takes e live (Ok (Ok tt)) e live) (sym is) (refl, refl, refl)

  pub piece_dropped : (fault : LineFault) → piece ≡ Dropped fault → TakesPiece piece Takes e live (Err (Line fault)) e live
  piece_dropped fault is = subst (λ (p : Piece). TakesPiece p Takes e live (Err (Line fault)) e live) (sym is) (refl, refl, refl)

  pub piece_whole : (put slice : List ℕ) (verdict : Verdict) (f : Editor) (next : Live) → piece ≡ Whole put → slice ≡ put
      → Takes slice e live verdict f next → TakesPiece piece Takes e live verdict f next
  piece_whole put slice verdict f next is same taken =
      subst (λ (p : Piece). TakesPiece p Takes e live verdict f next) (sym is) (subst (λ (cs : List ℕ). Takes cs e live verdict f next) same taken)

module _ (text : List ℕ) (more : Bool) (inside live : Live) (same : inside ≡ live) (held : Gathered) (piece : Piece) (e : Editor) (verdict : Verdict) (f : Editor) (next : Live) where
  pub paste_taken : Gathers text more inside.paste held piece → TakesPiece piece Pastes e (record inside { paste = held }) verdict f next
      → TakesPaste text more e live verdict f next
  paste_taken gathered taken = subst (λ (l : Live). TakesPaste text more e l verdict f next) same (held, piece, gathered, taken)

  pub splice_taken : (base lo hi : ℕ) → Gathers text more inside.splice held piece
      → TakesPiece piece (Splices base lo hi) e (record inside { splice = held }) verdict f next → TakesSplice base lo hi text more e live verdict f next
  splice_taken base lo hi gathered taken =
      subst (λ (l : Live). TakesSplice base lo hi text more e l verdict f next) same (held, piece, gathered, taken)

-- a splice that the live buffer made
module _ (base lo hi : ℕ) (put : List ℕ) (e : Editor) (live : Live) (f : Editor) (next : Live) (noted : Result (Unit {0}) OutOfMemory) where
  abbrev MadeAt : ℕ → Bool → Type 0
  MadeAt i current = MatchBool current
      ((r : ActionVerdict) × RunsAt i (ReplaceRange lo hi put) 1 e.work (f.work, r) × MatchResult r
      (λ _. (made : Result (Unit {0}) OutOfMemory) × (f ≡ with_changed i f.work e) × (◌≡◌ {A = Verdict} (Ok noted) (Ok made))
      × (next ≡ with_made true (is_ok made) (made_at i e f) live))
      (λ fault. (f ≡ e) × (◌≡◌ {A = Verdict} (Ok noted) (Err (of_action fault))) × (next ≡ live)))
      ((◌≡◌ {A = Verdict} (Ok noted) (Err Stale)) × (f ≡ e) × (next ≡ live))

  abbrev MadeIf : Option ℕ → Type 0
  MadeIf None = (◌≡◌ {A = Verdict} (Ok noted) (Err Closed)) × (f ≡ e) × (next ≡ live)
  MadeIf (Some i) = MadeAt i (nat_eq base (change_count live.changes))

  is_live_there : (i : ℕ) (o : Option ℕ) → o ≡ Some i → elim o [ Some k ↦ nat_eq k i | None ↦ false ] ≡ true
  is_live_there i o at = grind arith

  pub splice_made : (i : ℕ) (u : Unit {0}) → live_index live.name e ≡ Some i → nat_eq base (change_count live.changes) ≡ true
      → RunsAt i (ReplaceRange lo hi put) 1 e.work (f.work, Ok u) → f ≡ with_changed i f.work e
      → next ≡ with_made (is_live live.name i e) (is_ok noted) (made_at i e f) live → Splices base lo hi put e live (Ok noted) f next
  splice_made i u found same ran changed is =
      let made : next ≡ with_made true (is_ok noted) (made_at i e f) live =
      is ∙ ap (λ b. with_made b (is_ok noted) (made_at i e f) live) (is_live_there i (live_index live.name e) found) in
      subst MadeIf (sym found) (subst (MadeAt i) (sym same) (Ok u, ran, (noted, changed, refl, made)))
