-- Sessions of three-way full syncs, as their starter sees them.
use Rattle.std.specs.Prelude.{ℕ, ◌+◌, List, [], Bool, true, false, ◌&&◌, ◌==◌, Option, Some, None, Result, Ok, Err, option_map}
use Rattle.or_base.specs.declared.session.SyncDone.{SyncDone}
use Rattle.or_base.specs.ByLink.{at_link, with_link, without_link}
use Rattle.or_base.specs.Counting.{saturate}
use Rattle.kv_sync.specs.declared.session.SyncPhase.{SyncPhase}
use Rattle.kv_sync.specs.declared.session.SyncPhase.TheVariants.{Dumped, Pushed}
use Rattle.kv_sync.specs.declared.session.Session.{Session}
use Rattle.kv_sync.specs.declared.session.Stale.{Stale}

-- The number of the session that was started last, and the running session of each link that has one, in the order of
-- links.
pub record SessionsState : Type 0 where
  pub last : ℕ
  pub running : List (ℕ × Session)

abbrev pub no_sessions : SessionsState
no_sessions = record { last = 0; running = [] }

-- the running session of a link
abbrev pub session_on : SessionsState → ℕ → Option Session
session_on s link = at_link s.running link

-- the link's running session becomes this one
abbrev pub with_session : SessionsState → ℕ → Session → SessionsState
with_session s link session = record { last = s.last; running = with_link s.running link session }

-- the link has no running session
abbrev pub without_session : SessionsState → ℕ → SessionsState
without_session s link = record { last = s.last; running = without_link s.running link }

-- no link has one; numbers go on
abbrev pub without_sessions : SessionsState → SessionsState
without_sessions s = record { last = s.last; running = [] }

-- A session with the next number takes the place of the link's session. a0 is the length of the starter's journal.
unfoldable pub with_started_session : SessionsState → ℕ → List ℕ → ℕ → SessionsState
with_started_session s link peer a0 = record {
  last = saturate (s.last + 1);
  running = with_link s.running link (record { number = saturate (s.last + 1); peer = peer; a0 = a0; b0 = 0; withheld = 0; phase = Dumped });
}

abbrev pub same_phase : SyncPhase → SyncPhase → Bool
same_phase Dumped Dumped = true
same_phase Dumped Pushed = false
same_phase Pushed Dumped = false
same_phase Pushed Pushed = true

-- the session has this number and this phase
abbrev pub is_in : Session → ℕ → SyncPhase → Bool
is_in session number phase = session.number == number && same_phase session.phase phase

-- what a stale message tells of the running session
abbrev pub stale_of : Option Session → Stale
stale_of running = record { running = option_map (λ session. (session.number, session.phase)) running }

-- The link's running session, where it has this number and this phase; else it is stale, and what runs is told.
abbrev pub current_if : Bool → Session → Result Session Stale
current_if true session = Ok session
current_if false session = Err (stale_of (Some session))

abbrev pub current_of : Option Session → ℕ → SyncPhase → Result Session Stale
current_of None number phase = Err (stale_of None)
current_of (Some session) number phase = current_if (is_in session number phase) session

unfoldable pub current : SessionsState → ℕ → ℕ → SyncPhase → Result Session Stale
current s link number phase = current_of (session_on s link) number phase

-- A session for which its reply has arrived: it is in the second phase, with the length of the peer's journal and the number of
-- pairs that the peer withheld.
abbrev pub session_after_reply : Session → ℕ → ℕ → Session
session_after_reply session b0 withheld = record session { b0 = b0; withheld = withheld; phase = Pushed }

-- a session of which so many more pairs are withheld; the count saturates
abbrev pub with_more_withheld : Session → ℕ → Session
with_more_withheld session more = record session { withheld = saturate (session.withheld + more) }

-- a finished session
abbrev pub done_of : ℕ → Session → SyncDone
done_of link session =
    record { link = link; peer = session.peer; session = session.number; a0 = session.a0; b0 = session.b0; withheld = session.withheld }

-- after a reply: the session goes on, or nothing changes
abbrev pub after_reply : SessionsState → ℕ → ℕ → ℕ → Result Session Stale → SessionsState
after_reply s link b0 withheld (Ok session) = with_session s link (session_after_reply session b0 withheld)
after_reply s link b0 withheld (Err stale) = s

-- after an acknowledgement: the session is over, or nothing changes
abbrev pub after_ack : SessionsState → ℕ → Result Session Stale → SessionsState
after_ack s link (Ok session) = without_session s link
after_ack s link (Err stale) = s

-- after a push: the withheld pairs count
abbrev pub after_push : SessionsState → ℕ → ℕ → Option Session → SessionsState
after_push s link withheld None = s
after_push s link withheld (Some session) = with_session s link (with_more_withheld session withheld)
