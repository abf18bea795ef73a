-- The head of claims is no other line.
use Rattle.std.proofs.Common.{◌≡◌, codes, Some, None, option_and_then, Err, refl, sym, ap, ◌∙◌, lit≤}
use Rattle.json.proofs.Printed.Utf8.{IsUtf8-are_ascii}
use Rattle.serde_json.proofs.OnLiterals.{serde_json_on_literals}
use Rattle.serde_json.specs.Data.{Data, unsigned, number, string, object, member, no_members}
use Rattle.serde_json.specs.Read.{read}
use Rattle.rga_lines.specs.declared.fault.LineFault.TheVariants.{Kind}
use Rattle.rga_lines.specs.Table.{any_line_at, value_line}
use Rattle.rga_lines.proofs.ReadingLemmas.{accepted}
use Rattle.rga_brief.specs.Claims.{claim_of}
use Rattle.rga_brief.specs.Lines.{claim_line_at, end_said}
use Rattle.rga_brief.proofs.LineLaws.{said, of_text}
use Rattle.mgr_show.specs.Claims.{head_line}

abbrev head_data : Data
head_data = object (member (codes "op") (string (codes "claims")) (member (codes "version") (number (unsigned 1)) no_members))

read_head : read head_line ≡ Some head_data
unfolding serde_json_on_literals head_line
read_head = refl

says_nothing : value_line head_data ≡ Err Kind
unfolding value_line
says_nothing = refl

pub no_line : any_line_at head_line ≡ Err Kind
unfolding head_line
no_line = accepted head_line head_data (lit≤ tt) (IsUtf8-are_ascii head_line refl) read_head ∙ says_nothing

claims_nothing : claim_of head_data ≡ None
unfolding serde_json_on_literals
claims_nothing = refl

pub no_claim : claim_line_at head_line ≡ Err Kind
unfolding head_line
no_claim =
    let none = of_text head_line head_line None refl (IsUtf8-are_ascii head_line refl) (sym claims_nothing ∙ sym (ap (option_and_then claim_of) read_head)) in
    said head_line None (lit≤ tt) (sym none) ∙ ap end_said no_line
