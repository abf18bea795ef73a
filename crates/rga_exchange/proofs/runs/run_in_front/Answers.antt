use Rattle.std.proofs.Common.{rules, ◌≡◌, ◌-◌, ◌∷◌, [], List, ℕ, length, None, ap, lit<, arith}
use Rattle.rga_lines.specs.declared.run.TheConstants.{MAX_RUN}
use Rattle.rga_lines.specs.Runs.{stretch}
use Rattle.rga_exchange.specs.RunLines.{going_behind, front_characters}
use Rattle.rga_exchange.proofs.RunLineLaws.{front_first, front_next, front_full, front_last, front_ends}
use Rattle.rga_exchange.proofs.runs.run_in_front.Goals as goal
use Rattle.rga_exchange.proofs.runs.run_in_front.Goals.{else-chars-test, then-chars-test+in_default, then-chars-test+in-Some+in_default-next_in_list}

pub chars-init : goal.chars-init
chars-init c =
    let first : c.push.new.self.items ≡ c.args.ch ∷ [] = search rules in
    front_first MAX_RUN c.args.id c.args.ch c.args.behind.now c.push.new.self.items (lit< tt) first

pub chars-preserved : goal.chars-preserved
chars-preserved c =
    let parts : c.chars.rest.now ≡ c.in-Some.op.now ∷ c.in-Some.later.now = search rules in
    front_next MAX_RUN c.args.id c.args.ch c.args.behind.now c.chars.chars.items c.push-in-chars.new.self.items c.chars.last c.in-Some.op.now c.chars.rest.now c.in-Some.later.now _ c.chars.invariant (omega arith) parts c.in-Some-next_in_list.ensures c.in_ok-push-2.ensures.items

pub returns : goal.returns
returns c =
    let whole : c.chars.chars.items ≡ c.args.ch ∷ front_characters c.args.id (MAX_RUN - 1) c.args.behind.now = elim c.chars-test.branch [
      | else-chars-test w ↦ front_full MAX_RUN c.args.id c.args.ch c.args.behind.now c.chars.chars.items c.chars.last c.chars.rest.now c.chars.invariant (omega arith)
      | then-chars-test+in_default w ↦
          let none : length c.chars.rest.now ≡ 0 = search rules in
          front_last MAX_RUN c.args.id c.args.ch c.args.behind.now c.chars.chars.items c.chars.last c.chars.rest.now c.chars.invariant none
      | then-chars-test+in-Some+in_default-next_in_list w ↦
          let parts : c.chars.rest.now ≡ w.in-Some.op.now ∷ w.in-Some.later.now = search rules in
          let none : None ≡ going_behind c.chars.last w.in-Some.op.now = search rules in
          front_ends MAX_RUN c.args.id c.args.ch c.args.behind.now c.chars.chars.items c.chars.last w.in-Some.op.now c.chars.rest.now w.in-Some.later.now c.chars.invariant parts none
    ] in
    ap (λ (cs : List ℕ). stretch c.args.id c.args.parent cs) whole
