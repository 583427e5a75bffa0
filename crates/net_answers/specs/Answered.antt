-- What a record tells of an answer is what its journals hold, or the route from scratch over them.
use Rattle.std.specs.Prelude.{◌≡◌, ◌≤◌, ℕ, List, [], ◌∷◌, take, All, Bool, true, false, Some, nat_lt, slice_get, slice_index_or, if◌then◌else◌}
use Rattle.std.specs.List.{list_any}
use Rattle.or_base.specs.declared.entry.JournalEntry.{JournalEntry}
use Rattle.or_base.specs.declared.asked.Asked.{Asked}
use Rattle.or_base.specs.declared.asked.Asked.TheVariants.{Key, Prefix}
use Rattle.or_base.specs.declared.asked.Told.{Told}
use Rattle.or_base.specs.declared.asked.Told.TheVariants.{Value, Route, Nothing, Behind}
use Rattle.or_base.specs.Journal.{held_value}
use Rattle.ls_routes.specs.Routes.{route_to}
use Rattle.decision_core.specs.Scratch.{scratch}
use Rattle.net_laboratory.specs.declared.command.Command.{Command}
use Rattle.net_laboratory.specs.declared.command.Command.TheVariants.{Ask}
use Rattle.net_laboratory.specs.Scenario.{Laboratory}
use Rattle.net_record.specs.declared.record.AnswerDone.{AnswerDone}
use Rattle.net_record.specs.declared.record.NodeMark.{NodeMark}
use Rattle.net_record.specs.declared.record.SettleDone.{SettleDone}
use Rattle.decision_core.specs.Decision.{route_told}
use Rattle.net_record.specs.Actors.{value_told}
use Rattle.net_record.specs.Marks.{entries_told}

-- what these entries of a node's journal tell: what they hold under a key, or the node's route from scratch to a prefix
abbrev pub told_by : List ℕ → List JournalEntry → Asked → Told
told_by node entries (Key key) = value_told (held_value entries key)
told_by node entries (Prefix prefix) = route_told (route_to (scratch node entries) prefix)

-- what is told to a desk that found the first `at` entries and had seen so many: that it is behind, where it had seen more
abbrev pub told_at : List ℕ → List JournalEntry → ℕ → ℕ → Asked → Told
told_at node journal seen at asked = if nat_lt at seen then Behind at else told_by node (take at journal) asked

-- An answer of a settle with these marks, behind one with those before, in a record with these journals, of nodes with these
-- names. The node that answered has a place. Its desk had seen no fewer entries of the node's journal than the settle before told
-- of, and found `at` of them; neither is more than the settle tells of. What was told is just what so many tell.
pub record IsAnswered (names : List (List ℕ)) (before marks : List NodeMark) (journals : List (List JournalEntry)) (answer : AnswerDone) : Type 0 where
  pub place : ℕ
  pub node : slice_get names place ≡ Some answer.node
  pub seen : ℕ
  pub since : entries_told before place ≤ seen
  pub known : seen ≤ entries_told marks place
  pub at : ℕ
  pub within : at ≤ entries_told marks place
  pub told : answer.told ≡ told_at answer.node (slice_index_or journals place []) seen at answer.asked

-- each answer of each of these settles, the first of which comes behind one with these marks
abbrev pub AreAnsweredAfter : List (List ℕ) → List NodeMark → List SettleDone → List (List JournalEntry) → Type 0
AreAnsweredAfter names before [] journals = Unit {0}
AreAnsweredAfter names before (settle ∷ settles) journals =
    All (IsAnswered names before settle.nodes journals) settle.answers × AreAnsweredAfter names settle.nodes settles journals

-- each answer of the settles of a run
abbrev pub AreAnswered : List (List ℕ) → List SettleDone → List (List JournalEntry) → Type 0
AreAnswered names settles journals = AreAnsweredAfter names [] settles journals

-- ---- desks that aren't behind

abbrev pub is_behind : Told → Bool
is_behind (Behind at) = true
is_behind (Value value) = false
is_behind (Route route) = false
is_behind Nothing = false

-- no desk was behind
abbrev pub AreCurrent : List SettleDone → Type 0
AreCurrent settles = All (λ settle. All (λ answer. is_behind answer.told ≡ false) settle.answers) settles

abbrev pub asks_route : Command → Bool
asks_route (Ask node prefix) = true
asks_route _ = false

-- some command asks for a route
abbrev pub asks_for_routes : Laboratory → Bool
asks_for_routes lab = list_any asks_route lab.commands
