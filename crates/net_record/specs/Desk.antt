-- A node's desk. It is asked what the node's store holds and where its Decision routes prefixes, and keeps each question with the
-- number of entries that it found; the settle reads the answer from the first so many entries.
use Rattle.std.specs.Prelude.{ℕ, max, List, [], ◌∷◌, ◌++◌, drop, Option, Some, None, Bool, nat_le, slice_index_or}
use Rattle.or_base.specs.declared.asked.Asked.{Asked}
use Rattle.or_base.specs.declared.asked.Asked.TheVariants.{Key, Prefix}
use Rattle.or_base.specs.declared.item.Item.{Item}
use Rattle.or_base.specs.declared.item.Item.TheVariants.{Up, Down, Script, Tick, Set, Sync, Restart, Persist, Unset, Drain, LinkDrain, Metric, Advertise, Withdraw, Aggregate, Get, Ask, LinkUp, LinkDown, NeighbourUp, NeighbourDown, PeerUp, PeerDown, Net, Entry, Routes}
use Rattle.or_actor.specs.Steps.{finds_nothing}
use Rattle.net_record.specs.declared.desk.Question.{Question}
use Rattle.net_record.specs.declared.desk.View.{View}

-- A desk: its node's name, the greatest number of entries that it has seen, its views of the node's store and of the node's
-- Decision, and the questions that no settle has answered, the oldest first.
pub record DeskState : Type 0 where
  pub node : List ℕ
  pub seen : ℕ
  pub store : View
  pub decision : View
  pub questions : List Question

-- a view of an actor in which nothing was found yet
abbrev pub new_view : ℕ → View
new_view owner = record { owner = owner; last = 0 }

-- a desk as it starts, with the actor numbers of the node's store and of its Decision
abbrev pub new_desk : List ℕ → ℕ → ℕ → DeskState
new_desk node store decision = record { node = node; seen = 0; store = new_view store; decision = new_view decision; questions = [] }

-- what an item asks a desk for
abbrev pub asked_in : Item → Option Asked
asked_in (Get key) = Some (Key key)
asked_in (Ask prefix) = Some (Prefix prefix)
asked_in Up = None
asked_in Down = None
asked_in (Script from acts) = None
asked_in (Tick at) = None
asked_in (Set pair) = None
asked_in (Sync link) = None
asked_in Restart = None
asked_in (Persist key value ttl) = None
asked_in (Unset key) = None
asked_in (Drain on) = None
asked_in (LinkDrain link on) = None
asked_in (Metric link metric) = None
asked_in (Advertise entry) = None
asked_in (Withdraw prefix) = None
asked_in (Aggregate prefix least) = None
asked_in (LinkUp link) = None
asked_in (LinkDown link) = None
asked_in (NeighbourUp link peer peer_if) = None
asked_in (NeighbourDown link) = None
asked_in (PeerUp link peer) = None
asked_in (PeerDown link) = None
asked_in (Net link from msg) = None
asked_in (Entry entry) = None
asked_in (Routes delta) = None

-- the view in which a desk looks for what it is asked
abbrev pub view_for : DeskState → Asked → View
view_for d (Key key) = d.store
view_for d (Prefix prefix) = d.decision

-- ---- one turn

abbrev pub with_last : View → ℕ → View
with_last v at = record { owner = v.owner; last = at }

-- a desk that found so many entries in the view for what it is asked
abbrev pub with_found : DeskState → Asked → ℕ → DeskState
with_found d (Key key) at = record d { store = with_last d.store at }
with_found d (Prefix prefix) at = record d { decision = with_last d.decision at }

-- a desk with one open question more, for which it found so many entries
abbrev pub with_open : DeskState → Asked → ℕ → DeskState
with_open d asked at = record d { seen = max d.seen at; questions = d.questions ++ record { asked = asked; at = at; seen = d.seen } ∷ [] }

-- a desk after it was asked, if it was, and found so many entries
abbrev pub with_question : DeskState → Option Asked → ℕ → DeskState
with_question d None at = d
with_question d (Some asked) at = with_open (with_found d asked at) asked at

unfoldable pub desk_after : DeskState → Item → ℕ → DeskState
desk_after d item at = with_question d (asked_in item) at

-- what a desk that is asked finds is no less than it found last in that view
abbrev pub may_find_for : DeskState → Option Asked → ℕ → Bool
may_find_for d None at = finds_nothing at
may_find_for d (Some asked) at = nat_le (view_for d asked).last at

unfoldable pub desk_may_find : DeskState → Item → ℕ → Bool
desk_may_find d item at = may_find_for d (asked_in item) at

-- a desk to which so many entries are shown, before it takes an item, so that a question finds them
abbrev pub shown_for : DeskState → Option Asked → ℕ → DeskState
shown_for d None at = d
shown_for d (Some asked) at = with_found d asked at

unfoldable pub desk_shown : DeskState → Item → ℕ → DeskState
desk_shown d item at = shown_for d (asked_in item) at

-- what its next turn finds, by what was shown to it last
abbrev pub found_for : DeskState → Option Asked → ℕ
found_for d None = 0
found_for d (Some asked) = (view_for d asked).last

unfoldable pub desk_finds : DeskState → Item → ℕ
desk_finds d item = found_for d (asked_in item)

-- ---- a settle

-- a desk without its oldest question
abbrev pub without_question : DeskState → DeskState
without_question d = record d { questions = drop 1 d.questions }

-- a view of actors that have so many entries, by their numbers, in which all was found
abbrev pub whole_view : List ℕ → View → View
whole_view counts v = with_last v (slice_index_or counts v.owner 0)

-- a desk after a settle at which actors have so many entries: it has seen all that its store has, and finds no less from now on
abbrev pub desk_after_settle : List ℕ → DeskState → DeskState
desk_after_settle counts d =
    record {
      node = d.node;
      seen = (whole_view counts d.store).last;
      store = whole_view counts d.store;
      decision = whole_view counts d.decision;
      questions = d.questions;
    }
