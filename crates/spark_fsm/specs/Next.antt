-- What an event makes of the state of a neighbour.
use Rattle.std.specs.Prelude.{Bool, true, false, not}
use Rattle.spark_fsm.specs.declared.state.State.{State}
use Rattle.spark_fsm.specs.declared.state.State.TheVariants.{Idle, Warm, Negotiate, Established, Restart}
use Rattle.spark_fsm.specs.declared.event.Event.{Event}
use Rattle.spark_fsm.specs.declared.event.Event.TheVariants.{HelloWithUs, HelloWithoutUs, HelloRestarting, Handshake, HandshakeBad, NegotiateTimer, HoldTimer, RestartTimer}

-- an event that has no row of its own for a state changes nothing
abbrev pub next : State → Event → State
next Idle HelloWithUs = Warm
next Idle HelloWithoutUs = Warm
next Idle HelloRestarting = Warm
next Warm HelloWithUs = Negotiate
next Negotiate Handshake = Established
next Negotiate NegotiateTimer = Warm
next Negotiate HandshakeBad = Warm
next Established HelloWithoutUs = Idle
next Established HoldTimer = Idle
next Established HelloRestarting = Restart
next Restart HelloWithUs = Negotiate
next Restart RestartTimer = Idle
next state event = state

abbrev pub is_same_state : State → State → Bool
is_same_state Idle Idle = true
is_same_state Warm Warm = true
is_same_state Negotiate Negotiate = true
is_same_state Established Established = true
is_same_state Restart Restart = true
is_same_state state other = false

-- the event leads to another state
abbrev pub is_moved_by : State → Event → Bool
is_moved_by state event = not (is_same_state (next state event) state)
