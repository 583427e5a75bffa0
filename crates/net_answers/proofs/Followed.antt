-- What a node's desk sees of the node's Decision is what it sees of the node's store: Decision has taken the first entries of the
-- store's journal.
use Rattle.std.proofs.Common.{◌≡◌, ℕ, List, [], Option, Some, None}
use Rattle.or_base.specs.declared.entry.JournalEntry.{JournalEntry}
use Rattle.kv_store.specs.Growth.{IsFront}
use Rattle.kv_store.proofs.Growth.{front_shorter}
use Rattle.decision_core.specs.Decision.{DecisionState}
use Rattle.net_record.specs.declared.actor.ActorState.{ActorState}
use Rattle.net_record.specs.Desk.{DeskState}
use Rattle.net_record.specs.Actors.{actor_at, desk_of, decision_of, entries_of}
use Rattle.net_answers.proofs.Attentive.{DecisionsFollow}

-- The actor of which a desk has a view as of a Decision has the first entries of the one of which it has a view as of a store. Where it
-- is a Decision it is that of the desk's node, and where it is none it has no entries.
pub record IsFollowing (actors : List ActorState) (d : DeskState) : Type 0 where
  pub front : IsFront (entries_of (actor_at actors d.decision.owner).part) (entries_of (actor_at actors d.store.owner).part)
  pub me : (s : DecisionState) → decision_of (actor_at actors d.decision.owner).part ≡ Some s → s.me ≡ d.node
  pub none : decision_of (actor_at actors d.decision.owner).part ≡ None → entries_of (actor_at actors d.decision.owner).part ≡ []

-- so it is of every desk
abbrev pub Follow : List ActorState → Type 0
Follow actors = (number : ℕ) (d : DeskState) → desk_of (actor_at actors number).part ≡ Some d → IsFollowing actors d

pub follow_within : (actors : List ActorState) → Follow actors → DecisionsFollow actors
follow_within actors follow number d is =
    front_shorter (entries_of (actor_at actors d.decision.owner).part) (entries_of (actor_at actors d.store.owner).part) (follow number d is).front
