use Rattle.std.proofs.Common.{◌++◌, ◌-◌, ◌≡◌, ◌≤◌}
use Rattle.mg_plain.specs.Cases.{character_splices, recased_char}
use Rattle.mg_plain.proofs.cases.character_splices.Given as goal

abbrev pub invariant-loop-i : goal.invariant-loop-i
invariant-loop-i l = record {
  all : l.splices.items ++ character_splices (recased_char l.casing l.first) l.text l.lo (l.i - l.lo)
      ≡ character_splices (recased_char l.casing l.first) l.text l.lo (l.hi - l.lo);
  from : l.lo ≤ l.i;
  within : l.i ≤ l.hi;
}

abbrev pub decreases-loop-i : goal.decreases-loop-i
decreases-loop-i l = l.i - l.lo
