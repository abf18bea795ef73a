use Rattle.std.proofs.Common.{◌≡◌, ◌-◌, ◌≤◌, length, drop}
use Rattle.mg_keys.specs.KeyTable.{same_keys}
use Rattle.mg_keys.proofs.names.is_name.Given as goal

abbrev pub invariant-loop-k : goal.invariant-loop-k
invariant-loop-k l = record {
  same : same_keys l.name l.text ≡ same_keys (drop l.k l.name) (drop l.k l.text);
  within : l.k ≤ length l.name;
  long : length l.name ≡ length l.text;
}

abbrev pub decreases-loop-k : goal.decreases-loop-k
decreases-loop-k l = length l.name - l.k
