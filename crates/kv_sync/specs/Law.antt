-- A session's number isn't used again, until the counter of numbers saturates; and a session goes on until it is ended.
use Rattle.std.specs.Prelude.{◌≡◌, ℕ, ◌+◌, ◌^◌, ◌<◌, List, [], ◌∷◌, length, Bool, true, false, ◌&&◌, ◌==◌, Some}
use Rattle.std.specs.Option.{IsSomeAnd}
use Rattle.kv_sync.specs.declared.session.SyncPhase.{SyncPhase}
use Rattle.kv_sync.specs.declared.session.Session.{Session}
use Rattle.kv_sync.specs.declared.session.SyncPhase.TheVariants.{Dumped, Pushed}
use Rattle.kv_sync.specs.Sessions.{SessionsState, no_sessions, session_on, without_session, without_sessions, with_started_session, is_in, current, after_reply, after_ack, after_push}
use Rattle.or_base.specs.Counting.{saturate}
use Rattle.kv_sync.specs.Running.{AreNumbered}

-- what can be done with the sessions of a store
pub data Step : Type 0 where
  -- a session starts on a link, with this peer, at this length of the journal
  start : ℕ → List ℕ → ℕ → Step
  -- a reply on a link, with a session's number, the length of the peer's journal, and how many pairs the peer withheld
  reply : ℕ → ℕ → ℕ → ℕ → Step
  -- a push on a link, of which so many pairs are withheld
  push : ℕ → ℕ → Step
  -- an acknowledgement on a link, with a session's number
  ack : ℕ → ℕ → Step
  drop_link : ℕ → Step
  drop_all : Step

abbrev pub after_step : SessionsState → Step → SessionsState
after_step s (start link peer a0) = with_started_session s link peer a0
after_step s (reply link number b0 withheld) = after_reply s link b0 withheld (current s link number Dumped)
after_step s (push link withheld) = after_push s link withheld (session_on s link)
after_step s (ack link number) = after_ack s link (current s link number Pushed)
after_step s (drop_link link) = without_session s link
after_step s drop_all = without_sessions s

abbrev pub after_steps : SessionsState → List Step → SessionsState
after_steps s [] = s
after_steps s (step ∷ steps) = after_steps (after_step s step) steps

-- the number of the session that a step starts, if it starts one, and then these
abbrev pub with_number : SessionsState → Step → List ℕ → List ℕ
with_number s (start link peer a0) later = saturate (s.last + 1) ∷ later
with_number s (reply link number b0 withheld) later = later
with_number s (push link withheld) later = later
with_number s (ack link number) later = later
with_number s (drop_link link) later = later
with_number s drop_all later = later

-- the numbers of the sessions that steps start, in order
abbrev pub numbers_given : SessionsState → List Step → List ℕ
numbers_given s [] = []
numbers_given s (step ∷ steps) = with_number s step (numbers_given (after_step s step) steps)

-- each number is above this one and above those before it
abbrev pub RiseFrom : ℕ → List ℕ → Type 0
RiseFrom last [] = Unit {0}
RiseFrom last (number ∷ numbers) = (last < number) × RiseFrom number numbers

pub record NumbersAreNew : Type 0 where
  -- From any sessions on: as long as the last number and the starts that follow come to less than 2^64, each start gives a number above
  -- all that were given before it. A counter that saturates repeats its last number.
  pub rise : (s : SessionsState) (steps : List Step) → s.last + length (numbers_given s steps) < 2 ^ 64 → RiseFrom s.last (numbers_given s steps)
  -- The sessions that run at any time have numbers that were given; as long as the last number is below 2^64 - 1, no two have the same.
  pub apart : (steps : List Step) → AreNumbered (after_steps no_sessions steps).last (after_steps no_sessions steps).running

-- from this phase to that: a session doesn't go back
abbrev pub is_onward : SyncPhase → SyncPhase → Bool
is_onward Dumped Dumped = true
is_onward Dumped Pushed = true
is_onward Pushed Dumped = false
is_onward Pushed Pushed = true

-- a session and what it is later: its number, its peer and the length of its starter's journal stay
pub record GoesOnAs (session later : Session) : Type 0 where
  pub number : later.number ≡ session.number
  pub peer : later.peer ≡ session.peer
  pub a0 : later.a0 ≡ session.a0
  pub phase : is_onward session.phase later.phase ≡ true

-- A step ends the session of a link: an acknowledgement that arrives for it, its link or all links that are dropped, or a new session in
-- its place.
abbrev pub ends : ℕ → Session → Step → Bool
ends link session (start on peer a0) = on == link
ends link session (reply on number b0 withheld) = false
ends link session (push on withheld) = false
ends link session (ack on number) = on == link && is_in session number Pushed
ends link session (drop_link on) = on == link
ends link session drop_all = true

-- a running session goes on with each step that doesn't end it
abbrev pub SessionsGoOn : Type 0
SessionsGoOn = (s : SessionsState) (step : Step) (link : ℕ) (session : Session) → session_on s link ≡ Some session → ends link session step ≡ false
    → IsSomeAnd (session_on (after_step s step) link) (GoesOnAs session)
