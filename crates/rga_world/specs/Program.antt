-- What a program that exchanges does, as events of a world.
use Rattle.std.specs.Prelude.{ℕ, ◌+◌, List, [], ◌∷◌, zero, suc}
use Rattle.rga_world.specs.declared.event.Event.{Event}
use Rattle.rga_world.specs.declared.event.Event.TheVariants.{Deliver}

-- the taker takes so many of the giver's saved operations in turn, from a place on
abbrev pub deliveries : ℕ → ℕ → ℕ → ℕ → List Event
deliveries taker giver place zero = []
deliveries taker giver place (suc count) = Deliver taker giver place ∷ deliveries taker giver (place + 1) count
