use Rattle.std.proofs.Common.{◌∙◌, ◌≤◌, length, ap, sym, subst, ◌++◌, append_assoc}
use Rattle.std.specs.Prelude.{string_bytes}
use Rattle.std.specs.List.{flat_map}
use Rattle.mgr_show.specs.Authors.{line_of, authored_lines}
use Rattle.mgr_show.proofs.LineLaws.{first_line, line_within}
use Rattle.mgr_show.proofs.lines.lines_text.Goals as goal

pub split_at-requires : goal.split_at-requires
split_at-requires c = subst (λ n. n ≤ length c.lines.rest.now) (sym c.line_len.ensures) (line_within c.lines.rest.now)

pub lines-preserved : goal.lines-preserved
lines-preserved c =
    ap (λ b. b ++ flat_map line_of (authored_lines c.split_at.result.1.now)) c.in_ok-push_line.ensures
    ∙ append_assoc (string_bytes c.lines.text) _ _
    ∙ (λ k. string_bytes c.lines.text ++ (line_of (c.split_at.ensures.front k) ++ flat_map line_of (authored_lines (c.split_at.ensures.back k))))
    ∙ ap (λ b. string_bytes c.lines.text ++ b) (first_line line_of c.lines.rest.now _ c.line_len.result c.in-Some.ensures.value c.line_len.ensures)
    ∙ c.lines.invariant
