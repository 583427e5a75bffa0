use Rattle.std.specs.Prelude.{◌≡◌, ℕ, List, Some, None, option_map, option_to_list, Result, Ok, Err}
use Rattle.std.specs.List.{flat_map}
use Rattle.or_base.specs.declared.entry.JournalEntry.{JournalEntry}
use Rattle.net_record.specs.declared.part.Part.{Part}
use Rattle.net_record.specs.declared.actor.ActorState.{ActorState}
use Rattle.net_record.specs.declared.record.Record.{Record}
use Rattle.net_record.specs.Actors.{store_of}
use Rattle.net_record.specs.World.{WorldState}
use Rattle.net_record.specs.Rounds.{RoundsEnded}

-- the journal of an actor that is a store
abbrev pub journal_of : Part → List (List JournalEntry)
journal_of part = option_to_list (option_map (λ s. s.journal) (store_of part))

-- the journals of the stores among the actors, in order
abbrev pub journals_of : List ActorState → List (List JournalEntry)
journals_of actors = flat_map (λ actor. journal_of actor.part) actors

-- what was done in a run that came to this world, with the number of turns done as each round ended
abbrev pub record_of : WorldState → List ℕ → Record
record_of w marks = record { turns = w.turns; journals = journals_of w.actors; settles = w.settles; marks = marks }

-- the record is that of a run by rounds that settled every phase
pub record IsSettled (ended : RoundsEnded) (done : Record) : Type 0 where
  pub settled : ended.unsettled ≡ None
  pub all : done ≡ record_of ended.last.world ended.last.marks

-- the record is that of a run by rounds as far as it came, the phase with this number being unsettled
pub record IsUnsettled (ended : RoundsEnded) (phase : ℕ) (done : Record) : Type 0 where
  pub unsettled : ended.unsettled ≡ Some phase
  pub all : done ≡ record_of ended.last.world ended.last.marks

-- the record is that of a run that ended after its last settle, with the marks that it has
abbrev pub IsRecordOf : Result WorldState ℕ → Record → Type 0
IsRecordOf (Ok w) done = done ≡ record_of w done.marks
IsRecordOf (Err index) done = ⊥
