-- What an agent is asked to do, and what becomes of its table; an agent in memory, some of whose calls are refused.
use Rattle.std.specs.Prelude.{ℕ, ◌+◌, ◌-◌, ◌^◌, List, [], ◌∷◌, ◌++◌, fold, map, Bool, ◌&&◌, nat_lt, if◌then◌else◌, ⊤}
use Rattle.or_base.specs.Counting.{saturate}
use Rattle.or_base.specs.Memory.{is_listed}
use Rattle.or_base.specs.declared.prefix.Prefix.{Prefix}
use Rattle.or_base.specs.declared.route.Delta.{Delta}
use Rattle.or_base.specs.declared.route.Route.{Route}
use Rattle.ls_routes.specs.Routes.{with_route, without_route}
use Rattle.fib_core.specs.declared.op.FibOp.{FibOp}
use Rattle.fib_core.specs.declared.op.FibOp.TheVariants.{Del, Set, Whole}
use Rattle.fib_core.specs.declared.refusal.AgentRefusal.{AgentRefusal}
use Rattle.fib_core.specs.declared.refusal.AgentRefusal.TheVariants.{Fault, NoMemory}

-- ---- any agent

-- the table once an operation is done: a route is gone, or stands in the place of the one to its prefix, or these are all
abbrev pub table_after : List (Prefix × Route) → FibOp → List (Prefix × Route)
table_after table (Del prefix) = without_route table prefix
table_after table (Set route) = with_route table route
table_after table (Whole routes) = fold with_route [] routes

-- the count of faults once a call was refused for this cause
abbrev pub faults_after : AgentRefusal → ℕ → ℕ
faults_after Fault faults = faults + 1
faults_after NoMemory faults = faults

-- the claim, where the call was refused and memory wasn't the cause
abbrev pub IfFault : AgentRefusal → Type 0 → Type 0
IfFault Fault P = P
IfFault NoMemory P = ⊤

-- what is asked of an agent for a change of routes: the deleted prefixes go, and then each route is set
abbrev pub ops_of : Delta → List FibOp
ops_of delta = map Del delta.del ++ map Set delta.set

-- ---- an agent in memory

-- An agent: the numbers of the calls that it refuses, how many calls it had, how many of them it refused, and its table. Calls are
-- numbered from 1. The count of calls saturates at 2^64 - 1: a later call has no number, and isn't refused.
pub record AgentState : Type 0 where
  pub failing : List ℕ
  pub calls : ℕ
  pub faults : ℕ
  pub table : List (Prefix × Route)

abbrev pub new_agent : List ℕ → AgentState
new_agent failing = record { failing = failing; calls = 0; faults = 0; table = [] }

-- its next call is one of those that it refuses
abbrev pub is_refused : AgentState → Bool
is_refused agent = nat_lt agent.calls (2 ^ 64 - 1) && is_listed (agent.calls + 1) agent.failing

-- the agent after one call: where it is refused, it is counted as a fault, and the table stays
abbrev pub agent_after : AgentState → FibOp → AgentState
agent_after agent op =
    if is_refused agent then record agent { calls = saturate (agent.calls + 1); faults = agent.faults + 1 }
    else record agent { calls = saturate (agent.calls + 1); table = table_after agent.table op }

-- what it answers to these calls, one after another: true where it refuses
abbrev pub answers : AgentState → List FibOp → List Bool
answers agent [] = []
answers agent (op ∷ ops) = is_refused agent ∷ answers (agent_after agent op) ops

-- the operations up to the first that it refuses
abbrev pub until_refused : AgentState → List FibOp → List FibOp
until_refused agent [] = []
until_refused agent (op ∷ ops) = op ∷ (if is_refused agent then [] else until_refused (agent_after agent op) ops)
