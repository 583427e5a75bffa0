-- Small cases that the definitions compute: the lanes of two linked stores, and what desks tell.
use Rattle.std.proofs.Common.{◌≡◌, ℕ, Some, None, [], ◌∷◌, List, false, refl}
use Rattle.std.specs.Prelude.{codes}
use Rattle.or_base.specs.declared.asked.Asked.{Asked}
use Rattle.or_base.specs.declared.asked.Asked.TheVariants.{Key, Prefix as PrefixAsked}
use Rattle.or_base.specs.declared.prefix.Prefix.{Prefix as PrefixType}
use Rattle.or_base.specs.declared.asked.Told.{Told}
use Rattle.or_base.specs.declared.asked.Told.TheVariants.{Value, Nothing, Behind}
use Rattle.or_base.specs.declared.entry.JournalEntry.{JournalEntry}
use Rattle.or_base.specs.declared.entry.JournalEntry.TheVariants.{Merged, Cleared}
use Rattle.or_base.specs.declared.origin.Origin.TheVariants.{Local}
use Rattle.or_base.specs.declared.value.KvValue.{KvValue}
use Rattle.or_base.specs.declared.kind.Kind.TheVariants.{Stores}
use Rattle.net_laboratory.specs.Scenario.{Laboratory}
use Rattle.kv_store.specs.Store.{new_store}
use Rattle.net_record.specs.declared.wire.Wire.{Wire}
use Rattle.net_record.specs.declared.kinds.AnyModule.TheVariants.{Store}
use Rattle.net_record.specs.declared.part.Part.TheVariants.{Desk, Module}
use Rattle.net_record.specs.declared.desk.Question.{Question}
use Rattle.net_record.specs.declared.actor.ActorState.{ActorState}
use Rattle.net_record.specs.declared.record.AnswerDone.{AnswerDone}
use Rattle.net_record.specs.Roles.{roles}
use Rattle.net_record.specs.Wires.{wires}
use Rattle.net_record.specs.Desk.{DeskState, with_question}
use Rattle.net_record.specs.Actors.{no_actor, made_at, range_in, told_to, question_answer, answer_of}
use Rattle.net_record.specs.Answers.{give, giving_of}

-- ---- lanes. The actors are 0 the driver, 1 and 2 the store and the desk of a, 3 and 4 those of b, and 5 the link.

abbrev two_stores : Laboratory
two_stores = record {
  kind = Stores;
  ttl = None;
  nodes = record { name = codes "a"; faults = [] } ∷ record { name = codes "b"; faults = [] } ∷ [];
  links = record { a = codes "a"; aif = codes "if-b"; am = 1; b = codes "b"; bif = codes "if-a"; bm = 1 } ∷ [];
  commands = [];
  turns = None;
}

abbrev lane : ℕ → ℕ → ℕ → Wire
lane writer port reader = record { writer = writer; port = port; reader = reader }

-- by reader and then by writer; a link's ports are 4 for the store of its end a and 12 for that of its end b
pub wires-two_stores : wires (roles two_stores) ≡ lane 0 1 1 ∷ lane 5 4 1 ∷ lane 0 2 2 ∷ lane 0 3 3 ∷ lane 5 12 3 ∷ lane 0 4 4 ∷ lane 0 5 5 ∷ lane 1 8 5 ∷ lane 3 8 5 ∷ []
wires-two_stores = refl

-- ---- desks

abbrev value_of : ℕ → KvValue
value_of version = record { version = version; originator = codes "a"; value = 1 ∷ []; ttl = None; ttl_version = 0 }

-- x with version 1, a restart, and x with version 2; the first two entries were made by one turn
abbrev journal : List JournalEntry
journal =
    Merged (record { key = codes "x"; value = value_of 1 }) 0 Local ∷ Cleared 0
    ∷ Merged (record { key = codes "x"; value = value_of 2 }) 0 Local ∷ []

abbrev store : ActorState
store = record { part = Module (Store (record (new_store Stores (codes "a")) { journal = journal })); clock = 9; told = 0; made = 5 ∷ 5 ∷ 9 ∷ [] }

abbrev prefix : PrefixType
prefix = record { v6 = false; bits = 0; len = 0; sound = refl }

abbrev asked : Asked
asked = Key (codes "x")

abbrev question : ℕ → ℕ → Question
question at seen = record { asked = asked; at = at; seen = seen }

-- the first of these actors is the store of a, which the desk knows by its number, wherever it stands
abbrev desk : DeskState
desk = record { node = codes "a"; seen = 1; store = record { owner = 0; last = 2 }; decision = record { owner = 1; last = 0 }; questions = [] }

abbrev told : ℕ → ℕ → Told
told at seen = told_to (store ∷ no_actor ∷ []) desk (question at seen)

-- no entries, one, two and all
pub told-none : told 0 0 ≡ Nothing
unfolding told_to
told-none = refl

pub told-one : told 1 0 ≡ Value (value_of 1)
unfolding told_to
told-one = refl

pub told-two : told 2 0 ≡ Nothing
unfolding told_to
told-two = refl

-- as many entries as were seen are not behind, and one fewer is
pub told-all : told 3 3 ≡ Value (value_of 2)
unfolding told_to
told-all = refl

pub told-behind : told 2 3 ≡ Behind 2
unfolding told_to
told-behind = refl

-- an actor that is no Decision has no route
pub told-no_route : told_to (store ∷ no_actor ∷ []) desk (record { asked = PrefixAsked prefix; at = 0; seen = 0 }) ≡ Nothing
unfolding told_to
told-no_route = refl

-- the stamps of the turns that made so many entries
pub made-none : made_at store.made 0 ≡ 0
made-none = refl

pub made-two : made_at store.made 2 ≡ 5
made-two = refl

pub made-all : made_at store.made 3 ≡ 9
made-all = refl

-- a desk that found two entries of the store last may find two or three
pub range-desk : range_in (store ∷ no_actor ∷ []) desk.store ≡ record { least = 2; most = 3 }
range-desk = refl

-- with three it has seen them, and keeps what it had seen before
pub asked-desk : with_question desk (Some asked) 3
    ≡ record { node = codes "a"; seen = 3; store = record { owner = 0; last = 3 }; decision = record { owner = 1; last = 0 }; questions = question 3 1 ∷ [] }
asked-desk = refl

-- ---- answers stand in the order of the questions: here of b, of a and of b again, each of which finds all three entries

abbrev desk_with : List ℕ → ℕ → List Question → ActorState
desk_with node owner questions = record {
  part = Desk (record { node = node; seen = 0; store = record { owner = owner; last = 0 }; decision = record { owner = 0; last = 0 }; questions = questions });
  clock = 0;
  told = 0;
  made = [];
}

abbrev asked_actors : List ActorState
asked_actors = no_actor ∷ desk_with (codes "a") 3 (question 0 0 ∷ []) ∷ desk_with (codes "b") 3 (question 3 0 ∷ question 1 3 ∷ []) ∷ store ∷ []

abbrev answer : List ℕ → Told → AnswerDone
answer node told = record { node = node; asked = asked; told = told }

pub give-order : (giving_of asked_actors (2 ∷ 1 ∷ 2 ∷ [])).answers
    ≡ answer (codes "b") (Value (value_of 2)) ∷ answer (codes "a") Nothing ∷ answer (codes "b") (Behind 1) ∷ []
unfolding give answer_of question_answer told_to
give-order = refl
