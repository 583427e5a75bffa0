-- The turn of one of the actors with an item.
use Rattle.std.specs.Prelude.{ℕ, List, slice_set}
use Rattle.or_base.specs.declared.item.Stamped.{Stamped}
use Rattle.or_actor.specs.Steps.{TurnMade}
use Rattle.net_record.specs.declared.actor.ActorState.{ActorState}
use Rattle.net_record.specs.Actors.{actor_at, made_by, actor_after}

-- the turn of the actor with this number that takes an item of a lane and finds a journal of this length
abbrev pub made_from : List ActorState → ℕ → ℕ → ℕ → Stamped → TurnMade
made_from actors number lane at taken = made_by actors (actor_at actors number) lane at taken

-- the actors after a turn of the one with this number
abbrev pub actors_after : List ActorState → ℕ → TurnMade → List ActorState
actors_after actors number m = slice_set actors number (actor_after (actor_at actors number) m)
