-- What is asked and kept of running sessions.
use Rattle.std.specs.Prelude.{ℕ, ◌^◌, ◌-◌, ◌<◌, ◌≤◌, ◌≢◌, List, [], ◌∷◌, Bool, false, Option, Some, None, All, AllPairs}
use Rattle.std.specs.List.{AllByRecursion}
use Rattle.std.specs.Map.{values_of}
use Rattle.or_base.specs.declared.session.SyncDone.{SyncDone}
use Rattle.kv_sync.specs.declared.session.SyncPhase.TheVariants.{Pushed}
use Rattle.kv_sync.specs.declared.session.Session.{Session}
use Rattle.kv_sync.specs.Sessions.{SessionsState, same_phase}

-- a session whose reply has arrived
abbrev pub may_push : Option Session → Bool
may_push None = false
may_push (Some session) = same_phase session.phase Pushed

-- the number of a session, or 0
abbrev pub number_of : Option Session → ℕ
number_of None = 0
number_of (Some session) = session.number

-- the session of a link has a number that was given already
abbrev pub IsGiven : ℕ → ℕ × Session → Type 0
IsGiven last entry = entry.1.number ≤ last

-- the session of a link comes before that of another, and has another number
abbrev pub IsApart : ℕ × Session → ℕ × Session → Type 0
IsApart entry later = (entry.0 < later.0) × (entry.1.number ≢ later.1.number)

-- sessions in the order of links, one a link, of which no two share a number
abbrev pub AreApart : List (ℕ × Session) → Type 0
AreApart [] = Unit {0}
AreApart (entry ∷ later) = AllByRecursion (IsApart entry) later × AreApart later

-- What is kept of running sessions where this number was given last. The counter of numbers saturates; as long as it is below its
-- greatest number, no two sessions share one.
pub record AreNumbered (last : ℕ) (running : List (ℕ × Session)) : Type 0 where
  pub fits : last < 2 ^ 64
  pub given : AllByRecursion (IsGiven last) running
  pub apart : last < 2 ^ 64 - 1 → AreApart running

-- a finished sync has a number that was given already
abbrev pub HasGivenNumber : ℕ → SyncDone → Type 0
HasGivenNumber last sync = sync.session ≤ last

-- two finished syncs have different numbers
abbrev pub HaveOwnNumbers : SyncDone → SyncDone → Type 0
HaveOwnNumbers sync later = sync.session ≢ later.session

abbrev pub HasAnotherNumber : ℕ → SyncDone → Type 0
HasAnotherNumber number sync = sync.session ≢ number

-- no finished sync has the number of this session
abbrev pub IsUnlikeDone : List SyncDone → Session → Type 0
IsUnlikeDone done session = All (HasAnotherNumber session.number) done

-- What is kept of all full syncs that a store started, those that run and these, which were finished: as long as the
-- counter of numbers is below its greatest number, no two of them share one.
pub record AreAllNumbered (s : SessionsState) (done : List SyncDone) : Type 0 where
  pub running : AreNumbered s.last s.running
  pub given : All (HasGivenNumber s.last) done
  pub apart : s.last < 2 ^ 64 - 1 → AllPairs HaveOwnNumbers done
  pub unshared : s.last < 2 ^ 64 - 1 → All (IsUnlikeDone done) (values_of s.running)
