-- What follows in each case of a test.
use Rattle.rga_store.proofs.Prelude.{◌≡◌, Bool, true, false, cond, ◌||◌, sym, or-true, or-false}

-- true here, and elsewhere as it was
pub true_where : (here there : Bool) → cond here true there ≡ (there || here)
true_where true there = sym (or-true there)
true_where false there = sym (or-false there)
