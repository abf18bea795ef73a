-- What a line says where claims are told, or what is wrong with it.
use Rattle.std.specs.Prelude.{ℕ, nat_lt, List, length, Option, Some, None, Result, Ok, Err, if◌then◌else◌}
use Rattle.std.specs.Str.{is_utf8}
use Rattle.rga_lines.specs.Table.{AnyReading, any_line_at}
use Rattle.rga_lines.specs.declared.line.TheConstants.{MAX_LINE}
use Rattle.rga_lines.specs.declared.line.Line.TheVariants as line
use Rattle.rga_lines.specs.declared.fault.LineFault.{LineFault}
use Rattle.rga_lines.specs.declared.fault.LineFault.TheVariants as fault
use Rattle.rga_brief.specs.declared.claim.Claim.{Claim}
use Rattle.rga_brief.specs.Claims.{claim_in}
use Rattle.rga_brief.specs.declared.claim_line.ClaimLine.{ClaimLine}
use Rattle.rga_brief.specs.declared.claim_line.ClaimLine.TheVariants.{One, Last}

-- the claim that a line says, if it says one
abbrev pub claim_said : List ℕ → Option Claim
claim_said bytes = if is_utf8 bytes then claim_in bytes else None

-- the end of so many claims; each other line of an exchange is of another kind
abbrev pub end_said : AnyReading → Result ClaimLine LineFault
end_said (Ok (line.One op)) = Err fault.Kind
end_said (Ok (line.Run r)) = Err fault.Kind
end_said (Ok (line.Deletions r)) = Err fault.Kind
end_said (Ok line.Head) = Err fault.Kind
end_said (Ok (line.Last number)) = Ok (Last number)
end_said (Err e) = Err e

abbrev pub claim_or_end : Option Claim → AnyReading → Result ClaimLine LineFault
claim_or_end (Some claim) reading = Ok (One claim)
claim_or_end None reading = end_said reading

-- what the bytes of a line say, its newline left out
unfoldable pub claim_line_at : List ℕ → Result ClaimLine LineFault
claim_line_at bytes = if nat_lt MAX_LINE (length bytes) then Err fault.Long else claim_or_end (claim_said bytes) (any_line_at bytes)
