-- The fault of a report that is no operation is that of the first demand that it does not meet.
use Rattle.std.proofs.Common.{◌≡◌, arith, ℕ, ◌+◌, Bool, true, List, [], ◌∷◌, Option, Some, None, Err, if◌then◌else◌, ◌&&◌, ap, ◌∙◌, codes}
use Rattle.std.specs.Prelude.{◌==◌, is_some, option_and_then, unwrap_or}
use Rattle.std.specs.Result.{result_err}
use Rattle.serde_json.specs.Data.{Data}
use Rattle.serde_json.specs.Find.{get, as_str}
use Rattle.rga_lines.specs.declared.fault.LineFault.TheVariants as fault
use Rattle.rga_lines.specs.Table.{AnyReading, number_of, text_at, value_line}
use Rattle.rga_lines.specs.Faults.{demand, first_fault}
use Rattle.mg_events.specs.Reports.{ReportReading, member_count, more_count, more_of, with_splice_types, splice, of_kind, with_name, value_report}
use Rattle.mg_events.proofs.ReportLemmas.{by_kind}
use Rattle.mg_events.specs.Faults.{ReportKind, paste_report, splice_report, size_report, places_report, rest_report, kinds, kind_among, kind_of, text_member, number_member, has_type, report_demands}

-- ---- kind by kind

splice_members : (all : Bool) (b h l t : Option Data) (m : Option Bool)
    → result_err (if all && (is_some b && (is_some h && (is_some l && is_some t)))
    then with_splice_types (option_and_then number_of b) (option_and_then number_of h) (option_and_then number_of l) (option_and_then as_str t) m else Err fault.Member)
    ≡ first_fault (demand (all && (is_some b && (is_some h && (is_some l && (is_some t && true))))) fault.Member
    ∷ demand ((has_type number_member b && (has_type number_member h && (has_type number_member l && (has_type text_member t && true)))) && is_some m) fault.Kind
    ∷ demand true fault.Id ∷ [])
splice_members all b h l t m = grind arith

-- ---- by name

splice_fault : (d : Data) → result_err (splice (member_count d) d) ≡ first_fault (report_demands splice_report d)
splice_fault d =
    splice_members (member_count d == 5 + more_count (get (codes "more") d)) (get (codes "base") d) (get (codes "hi") d) (get (codes "lo") d) (get (codes "text") d) (more_of (get (codes "more") d))

name_fault : (said : AnyReading) (d : Data) (kind : ReportKind) (name : List ℕ) → kind_among kinds name ≡ Some kind
    → result_err (of_kind said d name) ≡ first_fault (report_demands kind d)
name_fault said d kind name =
    by_kind (λ r of. of ≡ Some kind → result_err r ≡ first_fault (report_demands kind d)) name said d
    (λ _. as_kind paste_report _ (grind arith)) (λ _. as_kind splice_report _ (splice_fault d)) (λ _. as_kind size_report _ (grind arith))
    (λ _. as_kind places_report _ (grind arith)) (λ _. as_kind rest_report _ (grind arith)) (λ is. absurd cc)
  where
    as_kind : (mine : ReportKind) (r : ReportReading) → result_err r ≡ first_fault (report_demands mine d) → Some mine ≡ Some kind
        → result_err r ≡ first_fault (report_demands kind d)
    as_kind mine r here is = here ∙ ap (λ o. first_fault (report_demands (unwrap_or o mine) d)) is

pub report_fault : (d : Data) (kind : ReportKind) → kind_of d ≡ Some kind → result_err (value_report d) ≡ first_fault (report_demands kind d)
unfolding value_report
report_fault d kind is = by (text_at (codes "op") d) is
  where
    by : (name : Option (List ℕ)) → option_and_then (kind_among kinds) name ≡ Some kind
        → result_err (with_name (value_line d) d name) ≡ first_fault (report_demands kind d)
    by None e = absurd cc
    by (Some name) e = name_fault (value_line d) d kind name e
