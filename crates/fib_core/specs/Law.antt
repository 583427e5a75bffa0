-- Laws of Fib, over all items and all lists of calls that its agent refuses.
use Rattle.std.specs.Prelude.{◌≡◌, ℕ, ◌<◌, ◌^◌, List, [], ◌∷◌, ◌++◌, length, fold, map, Option, Some, None, false, if◌then◌else◌}
use Rattle.std.specs.List.{AllByRecursion, enumerate_from, filter_map}
use Rattle.or_base.specs.Memory.{is_listed}
use Rattle.or_base.specs.declared.item.Item.{Item}
use Rattle.or_base.specs.declared.item.Item.TheVariants.{Tick, Routes}
use Rattle.or_base.specs.declared.route.Delta.{Delta}
use Rattle.ls_routes.specs.Routes.{IsTable, applied}
use Rattle.fib_core.specs.declared.op.FibOp.{FibOp}
use Rattle.fib_core.specs.declared.op.FibOp.TheVariants.{Whole}
use Rattle.fib_core.specs.Agent.{new_agent, is_refused, agent_after, answers, ops_of, until_refused}
use Rattle.fib_core.specs.Fib.{FibState, new_fib, last_answer, fib_after}

-- Fib over an agent that refuses these calls, after these items
abbrev pub fib_after_items : List ℕ → List ℕ → List Item → FibState
fib_after_items me failing items = fold fib_after (new_fib me failing) items

-- ---- calls

-- the agent refuses exactly the calls whose numbers are listed, however many there are
abbrev pub ListedCallsAreRefused : Type 0
ListedCallsAreRefused =
    (failing : List ℕ) (ops : List FibOp) → AllByRecursion (λ n. n < 2 ^ 64) failing
    → answers (new_agent failing) ops ≡ map (λ call. is_listed call.0 failing) (enumerate_from 1 ops)

-- what the agent is asked in a turn with this item: a change of routes up to the first refusal, or all routes that are wanted
abbrev pub asked_in : FibState → Item → List FibOp
asked_in fib (Routes delta) = if fib.dirty then [] else until_refused fib.agent (ops_of delta)
asked_in fib (Tick at) = if fib.dirty then Whole (map (λ e. e.1) fib.wanted) ∷ [] else []
asked_in fib _ = []

-- what it is asked in all turns with these items
abbrev pub asked_over : FibState → List Item → List FibOp
asked_over fib [] = []
asked_over fib (item ∷ items) = asked_in fib item ++ asked_over (fib_after fib item) items

-- The agent has had exactly these calls, and Fib is dirty exactly where the last of them was refused.
pub record IsDirtyByCalls (me failing : List ℕ) (items : List Item) : Type 0 where
  pub agent : (fib_after_items me failing items).agent ≡ fold agent_after (new_agent failing) (asked_over (new_fib me failing) items)
  pub dirty : (fib_after_items me failing items).dirty ≡ last_answer false (answers (new_agent failing) (asked_over (new_fib me failing) items))

abbrev pub DirtyByTheLastCall : Type 0
DirtyByTheLastCall = (me failing : List ℕ) (items : List Item) → IsDirtyByCalls me failing items

-- ---- routes

-- the change of routes that an item brings
abbrev pub delta_of : Item → Option Delta
delta_of (Routes delta) = Some delta
delta_of _ = None

-- the routes that are wanted are what all changes so far give, applied in order
abbrev pub NoChangeIsLost : Type 0
NoChangeIsLost = (me failing : List ℕ) (items : List Item) → (fib_after_items me failing items).wanted ≡ fold applied [] (filter_map delta_of items)

-- the routes that are wanted and those that are programmed are tables
pub record HasTables (fib : FibState) : Type 0 where
  pub wanted : IsTable fib.wanted
  pub programmed : IsTable fib.agent.table

abbrev pub FibsHaveTables : Type 0
FibsHaveTables = (me failing : List ℕ) (items : List Item) → HasTables (fib_after_items me failing items)

-- where Fib is clean, its agent has exactly the routes that are wanted
abbrev pub CleanIsInStep : Type 0
CleanIsInStep =
    (me failing : List ℕ) (items : List Item) → (fib_after_items me failing items).dirty ≡ false
    → (fib_after_items me failing items).agent.table ≡ (fib_after_items me failing items).wanted

-- ---- recovery

-- it is clean, and its agent has exactly the routes that are wanted
pub record IsMended (fib : FibState) : Type 0 where
  pub clean : fib.dirty ≡ false
  pub same : fib.agent.table ≡ fib.wanted

-- a tick mends where the agent doesn't refuse the next call
abbrev pub TicksMend : Type 0
TicksMend =
    (me failing : List ℕ) (items : List Item) (at : ℕ) → is_refused (fib_after_items me failing items).agent ≡ false
    → IsMended (fib_after (fib_after_items me failing items) (Tick at))

-- one tick more than calls are listed mends in any case
abbrev pub EnoughTicksMend : Type 0
EnoughTicksMend =
    (me failing : List ℕ) (items : List Item) (ticks : List ℕ) → length failing < length ticks
    → IsMended (fold fib_after (fib_after_items me failing items) (map Tick ticks))
