-- How much each replica wrote.
use Rattle.std.specs.Prelude.{ℕ, ◌+◌, Bool, max, List, [], ◌∷◌, Option, Some, None, true, false}
use Rattle.std.specs.Ordering.{nat_cmp}
use Rattle.std.specs.Map.{lookup}
use Rattle.std.specs.BTreeMap.{insert_entry, is_at}
use Rattle.rga_ops.specs.declared.op.Op.{Op}
use Rattle.rga_ops.specs.declared.op.Op.TheVariants.{Insert, Delete}
use Rattle.mgr_show.specs.declared.tallies.Tally.{Tally}

-- ---- what each replica inserted

abbrev pub tally : ℕ → ℕ → Tally
tally characters counter = record { characters = characters; counter = counter }

-- the same with one character more, which has that counter
abbrev pub and_character : ℕ → Option Tally → Tally
and_character counter None = tally 1 counter
and_character counter (Some t) = tally (t.characters + 1) (max t.counter counter)

-- what is told of a replica
abbrev pub tally_of : ℕ → List (ℕ × Tally) → Option Tally
tally_of replica es = lookup (is_at (nat_cmp replica)) es

abbrev pub and_insertion : List (ℕ × Tally) → Op → List (ℕ × Tally)
and_insertion es (Insert id parent ch) = insert_entry nat_cmp es id.replica (and_character id.counter (tally_of id.replica es))
and_insertion es (Delete id) = es

-- the same with those of some operations more
abbrev pub and_tallies : List (ℕ × Tally) → List Op → List (ℕ × Tally)
and_tallies es [] = es
and_tallies es (op ∷ ops) = and_tallies (and_insertion es op) ops

abbrev pub is_insertion : Op → Bool
is_insertion (Insert id parent ch) = true
is_insertion (Delete id) = false
