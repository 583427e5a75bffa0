-- The answers of a phase, in the order of its questions.
use Rattle.std.specs.Prelude.{ℕ, List, [], ◌∷◌, ◌++◌, Option, Some, None, option_to_list, slice_set}
use Rattle.std.specs.List.{flat_map}
use Rattle.or_base.specs.declared.asked.Asked.{Asked}
use Rattle.or_actor.specs.declared.output.Output.{Output}
use Rattle.or_actor.specs.declared.output.Output.TheVariants.{To}
use Rattle.net_record.specs.declared.actor.ActorState.{ActorState}
use Rattle.net_record.specs.declared.record.AnswerDone.{AnswerDone}
use Rattle.net_record.specs.Desk.{asked_in}
use Rattle.net_record.specs.Actors.{actor_at, answer_of, actor_without_question}

-- the actor with this number, if something is asked
abbrev pub asked_if : ℕ → Option Asked → List ℕ
asked_if number None = []
asked_if number (Some asked) = number ∷ []

abbrev pub desk_asked : Output → List ℕ
desk_asked (To number item) = asked_if number (asked_in item)

-- the numbers of the desks that are asked by what the driver sends, in order
abbrev pub desks_asked : List Output → List ℕ
desks_asked issues = flat_map desk_asked issues

-- actors, and the answers that they have given
pub record Giving : Type 0 where
  pub actors : List ActorState
  pub answers : List AnswerDone

-- an actor answers its oldest question, if it has one
unfoldable pub give : Giving → ℕ → Giving
give g number =
    let actor = actor_at g.actors number in
    record {
      actors = slice_set g.actors number (actor_without_question actor);
      answers = g.answers ++ option_to_list (answer_of g.actors actor.part);
    }

-- each of these answers one
abbrev pub give_all : Giving → List ℕ → Giving
give_all g [] = g
give_all g (number ∷ numbers) = give_all (give g number) numbers

-- the answers of desks to the questions of a phase, and the actors after them
abbrev pub giving_of : List ActorState → List ℕ → Giving
giving_of actors asked = give_all (record { actors = actors; answers = [] }) asked
