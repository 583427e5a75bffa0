-- Fib: its turn. It keeps the routes that are wanted, and has an agent program them.
use Rattle.std.specs.Prelude.{ℕ, List, [], ◌∷◌, fold, map, Bool, false, if◌then◌else◌}
use Rattle.or_base.specs.declared.item.Item.{Item}
use Rattle.or_base.specs.declared.item.Item.TheVariants.{Up, Down, Script, Tick, Set, Sync, Restart, Persist, Unset, Drain, LinkDrain, Metric, Advertise, Withdraw, Aggregate, Get, Ask, LinkUp, LinkDown, NeighbourUp, NeighbourDown, PeerUp, PeerDown, Net, Entry, Routes}
use Rattle.or_base.specs.declared.prefix.Prefix.{Prefix}
use Rattle.or_base.specs.declared.route.Route.{Route}
use Rattle.or_actor.specs.declared.output.Output.{Output}
use Rattle.ls_routes.specs.Routes.{applied}
use Rattle.fib_core.specs.declared.op.FibOp.{FibOp}
use Rattle.fib_core.specs.declared.op.FibOp.TheVariants.{Whole}
use Rattle.fib_core.specs.Agent.{AgentState, new_agent, agent_after, answers, ops_of, until_refused}

-- Fib of a node: the node, the routes that are wanted, the agent that programs them, and whether the agent may not have them all.
pub record FibState : Type 0 where
  pub me : List ℕ
  pub wanted : List (Prefix × Route)
  pub agent : AgentState
  pub dirty : Bool

-- Fib over an agent that refuses these calls
abbrev pub new_fib : List ℕ → List ℕ → FibState
new_fib me failing = record { me = me; wanted = []; agent = new_agent failing; dirty = false }

-- the last of these answers, or the one before them where there is none
abbrev pub last_answer : Bool → List Bool → Bool
last_answer before answers = fold (λ earlier answer. answer) before answers

-- Fib once its agent was asked this: it is dirty where the last call was refused
abbrev pub asked : FibState → List FibOp → FibState
asked fib ops = record fib { agent = fold agent_after fib.agent ops; dirty = last_answer fib.dirty (answers fib.agent ops) }

-- where it is clean, its agent is asked this up to the first refusal
abbrev pub programmed : FibState → List FibOp → FibState
programmed fib ops = if fib.dirty then fib else asked fib (until_refused fib.agent ops)

-- where it is dirty, its agent is asked to have exactly the routes that are wanted
abbrev pub mended : FibState → FibState
mended fib = if fib.dirty then asked fib (Whole (map (λ e. e.1) fib.wanted) ∷ []) else fib

-- Fib after an item: what changes of the routes is wanted from now on, and is programmed; a tick mends; the items from Up on change
-- nothing.
unfoldable pub fib_after : FibState → Item → FibState
fib_after fib (Routes delta) = programmed (record fib { wanted = applied fib.wanted delta }) (ops_of delta)
fib_after fib (Tick at) = mended fib
fib_after fib Up = fib
fib_after fib Down = fib
fib_after fib (Script from acts) = fib
fib_after fib (Set pair) = fib
fib_after fib (Sync link) = fib
fib_after fib Restart = fib
fib_after fib (Persist key value ttl) = fib
fib_after fib (Unset key) = fib
fib_after fib (Drain on) = fib
fib_after fib (LinkDrain link on) = fib
fib_after fib (Metric link metric) = fib
fib_after fib (Advertise entry) = fib
fib_after fib (Withdraw prefix) = fib
fib_after fib (Aggregate prefix least) = fib
fib_after fib (Get key) = fib
fib_after fib (Ask prefix) = fib
fib_after fib (LinkUp link) = fib
fib_after fib (LinkDown link) = fib
fib_after fib (NeighbourUp link peer peer_if) = fib
fib_after fib (NeighbourDown link) = fib
fib_after fib (PeerUp link peer) = fib
fib_after fib (PeerDown link) = fib
fib_after fib (Net link from msg) = fib
fib_after fib (Entry entry) = fib

-- one turn: it sends nothing
abbrev pub fib_step : FibState → Item → FibState × List Output
fib_step fib item = (fib_after fib item, [])
