-- What counts say of a content, and those of the empty one.
use Rattle.rga_store.proofs.Prelude.{◌≡◌, ℕ, ◌≤◌, true, sym, ◌∙◌, arith, true≢false, Ok, none-some, id_cmp, checked, Element, Content, Holds, nothing, clock_of, clock_within, known_nothing, Op, Insert, Delete, IsCounted}
use Rattle.std.specs.FinMap as finite_map
use Rattle.std.specs.FinSet as finite_set
use Rattle.std.proofs.lemmas.Bool.Decides.{nat_tests}
use Rattle.rga_store.specs.Limit.{is_limit}
use Rattle.rga_store.proofs.StepLaws.{inserted_within}

pub within_limits : (limit : ℕ) → is_limit limit ≡ true → limit ≤ 1000000
within_limits limit h = grind (arith, nat_tests)

-- no more are inserted than a limit may be
pub few_inserted : (c : Content) (latest insertions identifiers limit : ℕ) → IsCounted c latest insertions identifiers limit → insertions ≤ 1000000
few_inserted c latest insertions identifiers limit w = omega (arith, w.inserted, w.known, w.room, inserted_within c, within_limits limit w.limited)

-- ---- nothing

nothing_held : (op : Op) → Holds nothing op → checked op ≡ Ok tt
nothing_held (Insert id parent ch) h = absurd (none-some _ (sym (finite_map.get-empty id_cmp id) ∙ h))
nothing_held (Delete id) h = absurd (true≢false (sym h ∙ finite_set.contains-empty id_cmp id))

no_clock : 0 ≡ clock_of nothing
no_clock = zero_only (clock_of nothing) (clock_within nothing 0 (record {
  own = λ q x g. absurd (none-some _ (sym (finite_map.get-empty id_cmp q) ∙ g));
  parents = λ q x g. absurd (none-some _ (sym (finite_map.get-empty id_cmp q) ∙ g));
  deleted = λ q m. absurd (true≢false (sym m ∙ finite_set.contains-empty id_cmp q));
}))
  where
    zero_only : (n : ℕ) → n ≤ 0 → 0 ≡ n
    zero_only n h = omega arith

pub counted_nothing : (limit : ℕ) → is_limit limit ≡ true → IsCounted nothing 0 0 0 limit
counted_nothing limit h = record {
  sound = nothing_held;
  clocked = no_clock;
  inserted = sym (finite_map.len-empty id_cmp Element);
  known = sym known_nothing;
  room = omega arith;
  limited = h;
}
