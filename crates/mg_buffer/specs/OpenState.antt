-- A buffer that is open, as its callers see it.
use Rattle.std.specs.Prelude.{ℕ, Bool, true, false, not, ◌||◌, ◌&&◌, ◌==◌, nat_lt, List, [], ◌∷◌, length, refl}
use Rattle.std.specs.Coded.{Coded, code_by, coded×, coded_bool}
use Rattle.rga_ops.specs.declared.op.Op.{Op}
use Rattle.rga_ops.specs.declared.op.Op.TheVariants.{Insert, Delete}
use Rattle.mg_buffer.specs.State.{State, state_code}

-- the buffer; whether the next writing of its log is a whole one; whether the log has operations that were written since
-- the text was put; whether a save of many operations appends them in runs; and whether an exchange tells first what is
-- known, and sends only what the peer lacks
pub record OpenState : Type 0 where
  pub buffer : State
  pub whole : Bool
  pub text_waits : Bool
  pub runs : Bool
  pub brief : Bool

abbrev pub open_state_code : Coded OpenState
open_state_code =
    code_by (State × (Bool × (Bool × (Bool × Bool)))) (coded× state_code (coded× coded_bool (coded× coded_bool (coded× coded_bool coded_bool))))
    (λ o. (o.buffer, (o.whole, (o.text_waits, (o.runs, o.brief)))))
    (λ p. record { buffer = p.0; whole = p.1.0; text_waits = p.1.1.0; runs = p.1.1.1.0; brief = p.1.1.1.1 })
    (λ _. refl)

-- the same buffer, of which saves append runs or do not
abbrev pub with_runs : Bool → OpenState → OpenState
with_runs runs b = record b { runs = runs }

-- the same buffer, of which exchanges are brief or not
abbrev pub with_brief : Bool → OpenState → OpenState
with_brief brief b = record b { brief = brief }

-- ---- what is to be saved of it

abbrev are_any : List Op → Bool
are_any [] = false
are_any (op ∷ ops) = true

-- some operation is not in the log
abbrev pub has_unsaved : OpenState → Bool
has_unsaved b = are_any b.buffer.unsaved

-- there is something to save
abbrev pub is_changed : OpenState → Bool
is_changed b = has_unsaved b || b.text_waits

-- ---- what became of it since its load

-- a command or an undo made something since then: a load leaves no undo group, and each that made operations leaves one
abbrev pub has_made : OpenState → Bool
has_made b = nat_lt 0 (length b.buffer.groups)

-- the insertion of the first character of a text that a replica loaded without a log
abbrev pub is_first_loaded : ℕ → Op → Bool
is_first_loaded replica (Insert id parent ch) = (id.counter == 1) && (id.replica == replica)
is_first_loaded replica (Delete id) = false

-- operations that are unsaved since such a load begin with it
abbrev pub begin_as_loaded : ℕ → List Op → Bool
begin_as_loaded replica [] = false
begin_as_loaded replica (op ∷ ops) = is_first_loaded replica op

-- something was made in it since its load, or it is no longer as it was loaded
abbrev pub is_touched : OpenState → Bool
is_touched b = has_made b || b.whole || b.text_waits || not (begin_as_loaded b.buffer.replica b.buffer.unsaved)
