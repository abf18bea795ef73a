use Rattle.std.proofs.Common.{◌≡◌, ◌∷◌, [], ◌++◌, ◌∙◌, List, ℕ, ap, sym, subst, lit<, arith}
use Rattle.rga_lines.specs.declared.run.TheConstants.{MAX_RUN}
use Rattle.rga_lines.specs.Runs.{IsRun, stretch}
use Rattle.rga_exchange.specs.Compacting.{run_of}
use Rattle.rga_ops.specs.Content.{element, content_of}
use Rattle.rga_exchange.proofs.GoingOnLemmas.{IsRunBegun, begun_first, grown, begun_ends, begun_full, found_none, is_run}
use Rattle.rga_exchange.proofs.compacting.run_from.Goals as goal
use Rattle.rga_exchange.proofs.compacting.run_from.Goals.{else-chars-test, then-chars-test+in_default}

pub chars-init : goal.chars-init
chars-init c =
    let first : c.push.new.self.items ≡ c.args.ch ∷ [] = c.in_ok-push.ensures.items ∙ ap (λ (cs : List ℕ). cs ++ c.args.ch ∷ []) c.new-chars.ensures.items in
    subst (λ (cs : List ℕ). IsRunBegun (content_of c.args.ops.now) MAX_RUN c.args.id c.args.ch cs c.args.id) (sym first)
    (begun_first (content_of c.args.ops.now) MAX_RUN c.args.id c.args.ch (lit< tt) c.requires.within)

pub chars-preserved : goal.chars-preserved
chars-preserved c =
    grown (content_of c.args.ops.now) MAX_RUN c.args.id c.args.ch c.chars.chars.items c.push-in-chars.new.self.items c.chars.last _ c.chars.invariant (omega arith) c.in-Some.ensures c.in_ok-push-2.ensures.items

pub next_in_run-requires-clause-within : goal.next_in_run-requires-clause-within
next_in_run-requires-clause-within c = c.chars.invariant.within

pub returns-clause-run : goal.returns-clause-run
returns-clause-run c =
    let whole : c.chars.chars.items ≡ (run_of (content_of c.args.ops.now) (c.args.id, element c.args.parent c.args.ch)).chars = elim c.chars-test.branch [
      | else-chars-test w ↦ begun_full (content_of c.args.ops.now) MAX_RUN c.args.id c.args.ch c.chars.chars.items c.chars.last c.chars.invariant (omega arith)
      | then-chars-test+in_default w ↦
          begun_ends (content_of c.args.ops.now) MAX_RUN c.args.id c.args.ch c.chars.chars.items c.chars.last c.chars.invariant (
          found_none (content_of c.args.ops.now) c.chars.last (sym w.in_default.is ∙ w.next_in_run.ensures))
    ] in
    ap (λ (cs : List ℕ). stretch c.args.id c.args.parent cs) whole

pub returns-clause-whole : goal.returns-clause-whole
returns-clause-whole c = subst IsRun (sym (returns-clause-run c)) (is_run (content_of c.args.ops.now) c.args.id c.args.parent c.args.ch c.requires.rising c.requires.within)
