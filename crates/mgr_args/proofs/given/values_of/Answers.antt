use Rattle.std.proofs.Common.{rules, ◌≡◌, List, None, Some, refl, subst, sym, codes}
use Rattle.clap.specs.Matches.{found_of}
use Rattle.clap.specs.Walk.{Row, rows_of}
use Rattle.mgr_args.specs.Given.{GivesNumber, GivesNumberIf}
use Rattle.mgr_args.proofs.given.values_of.Goals as goal

pub returns-in_err-number-clause-none : goal.returns-in_err-number-clause-none
returns-in_err-number-clause-none c =
    let none : c.number.result ≡ None = search rules in
    λ _ v g. subst (GivesNumberIf 16 (rows_of (found_of c.args.found.now)) (codes "replica")) none c.number.ensures v.replica g.replica

pub returns-in_err-number-2-clause-none : goal.returns-in_err-number-2-clause-none
returns-in_err-number-2-clause-none c =
    let none : c.number-2.result ≡ None = search rules in
    λ _ v g. subst (GivesNumberIf 16 (rows_of (found_of c.args.found.now)) (codes "rows")) none c.number-2.ensures v.rows g.rows_of

pub returns-in_err-number-3-clause-none : goal.returns-in_err-number-3-clause-none
returns-in_err-number-3-clause-none c =
    let none : c.number-3.result ≡ None = search rules in
    λ _ v g. subst (GivesNumberIf 16 (rows_of (found_of c.args.found.now)) (codes "cols")) none c.number-3.ensures v.columns g.columns

pub returns-in_err-number-4-clause-none : goal.returns-in_err-number-4-clause-none
returns-in_err-number-4-clause-none c =
    let none : c.number-4.result ≡ None = search rules in
    λ _ v g. subst (GivesNumberIf 16 (rows_of (found_of c.args.found.now)) (codes "fill")) none c.number-4.ensures v.fill g.fill

pub returns-clause-options : goal.returns-clause-options
returns-clause-options c =
    let found : List Row = rows_of (found_of c.args.found.now) in
    let replica : c.number.result ≡ Some c.in_ok-number.field-0 = search rules in
    let lines : c.number-2.result ≡ Some c.in_ok-number-2.field-0 = search rules in
    let columns : c.number-3.result ≡ Some c.in_ok-number-3.field-0 = search rules in
    let fill : c.number-4.result ≡ Some c.in_ok-number-4.field-0 = search rules in
    record {
      replica = subst (GivesNumberIf 16 found (codes "replica")) replica c.number.ensures;
      rows_of = subst (GivesNumber 16 found (codes "rows")) (sym c.from.ensures) (subst (GivesNumberIf 16 found (codes "rows")) lines c.number-2.ensures);
      columns = subst (GivesNumber 16 found (codes "cols")) (sym c.from-2.ensures) (subst (GivesNumberIf 16 found (codes "cols")) columns c.number-3.ensures);
      fill = subst (GivesNumberIf 16 found (codes "fill")) fill c.number-4.ensures;
      port = c.number-5.ensures;
      trace = c.has_flag.ensures;
      live = c.has_flag-2.ensures;
      changes = c.has_flag-3.ensures;
      runs = c.has_flag-4.ensures;
      brief = c.has_flag-5.ensures;
      strict = c.has_flag-6.ensures;
      limit = refl;
    }
