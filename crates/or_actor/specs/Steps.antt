-- What the turns of an actor do, over plain lists: their stamps, the state that they lead to, and what they took.
use Rattle.std.specs.Prelude.{ℕ, ◌+◌, ◌-◌, ◌^◌, max, List, [], ◌∷◌, map, Bool, ◌==◌, if◌then◌else◌}
use Rattle.std.specs.List.{filter}
use Rattle.or_base.specs.declared.item.Item.{Item}
use Rattle.or_base.specs.declared.item.Stamped.{Stamped}
use Rattle.or_base.specs.TurnDone.{TurnDone}
use Rattle.or_actor.specs.declared.output.Output.{Output}

-- ---- what a turn finds

-- the answer of a turn that was none, because what a desk looked at was refused to it
abbrev pub no_turn : ℕ
no_turn = 2 ^ 64 - 1

-- what a module that finds nothing answers
abbrev pub finds_nothing : ℕ → Bool
finds_nothing at = at == 0

-- What a turn that answered this made of a state, where its step leads to the state and outputs given. One that was none changed
-- nothing and sent nothing.
abbrev pub turned : {S : Type 0} → ℕ → S → S × List Output → S × List Output
turned at before after = if at == no_turn then (before, []) else after

-- ---- turns that were made

-- A turn that was made: the number of its lane, the journal's length that a desk found (0 for every other module), the item that
-- it took with its stamp, the stamp of the turn that made that length (0 where there was none), and its own stamp.
pub record TurnMade : Type 0 where
  pub lane : ℕ
  pub at : ℕ
  pub taken : Stamped
  pub found : ℕ
  pub stamp : ℕ

-- as a record tells it
abbrev pub turn_done : TurnMade → TurnDone
turn_done m = record { lane = m.lane; at = m.at; stamp = m.stamp; item = m.taken.item }

-- A turn's stamp, by that of its item, the actor's clock, and the stamp of the turn that made what was found: one more than the
-- greatest of the three.
abbrev pub next_stamp : ℕ → ℕ → ℕ → ℕ
next_stamp sent clock found = max (max sent clock) found + 1

-- the turn of an actor with this clock
abbrev pub turn_made : ℕ → ℕ → ℕ → Stamped → ℕ → TurnMade
turn_made clock lane at taken found =
    record { lane = lane; at = at; taken = taken; found = found; stamp = next_stamp taken.stamp clock found }

-- the state after turns, one after another, by a module's step
abbrev pub state_after : {S : Type 0} → (S → ℕ → Item → ℕ → S × List Output) → S → List TurnMade → S
state_after step s [] = s
state_after step s (m ∷ ms) = state_after step (step s m.lane m.taken.item m.at).0 ms

-- the items that turns took from a lane, in order
abbrev pub taken_from : ℕ → List TurnMade → List Stamped
taken_from lane ms = map (λ m. m.taken) (filter (λ m. m.lane == lane) ms)
