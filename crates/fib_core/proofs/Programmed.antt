-- The routes that are wanted and those that are programmed: both are tables, and of a clean Fib they are the same.
use Rattle.std.proofs.Common.{◌≡◌, ◌∙◌, ℕ, List, [], ◌∷◌, Bool, true, false, cond, fold, map, refl, sym, ap}
use Rattle.std.specs.List.{filter, filter_map}
use Rattle.std.proofs.lemmas.List.Sums.{fold-append}
use Rattle.or_base.specs.declared.item.Item.{Item}
use Rattle.or_base.specs.declared.item.Item.TheVariants.{Tick, Routes}
use Rattle.or_base.specs.declared.prefix.Prefix.{Prefix}
use Rattle.or_base.specs.declared.route.Delta.{Delta}
use Rattle.or_base.specs.declared.route.Route.{Route}
use Rattle.ls_routes.specs.Routes.{IsTable, with_route, without_route, applied, delta_between}
use Rattle.ls_routes.proofs.Leading.{deltas_lead_on}
use Rattle.ls_routes.proofs.Tables.{no_routes, table_with, table_without}
use Rattle.fib_core.specs.declared.op.FibOp.{FibOp}
use Rattle.fib_core.specs.declared.op.FibOp.TheVariants.{Del, Set, Whole}
use Rattle.fib_core.specs.Agent.{AgentState, is_refused, agent_after, table_after, answers, ops_of, until_refused}
use Rattle.fib_core.specs.Fib.{FibState, new_fib, last_answer, asked, programmed, mended, fib_after}
use Rattle.fib_core.specs.Law.{NoChangeIsLost, HasTables, FibsHaveTables, CleanIsInStep, delta_of}
use Rattle.fib_core.proofs.Calls.{agent_if}

-- ---- tables

tables_with : (table : List (Prefix × Route)) (routes : List Route) → IsTable table → IsTable (fold with_route table routes)
tables_with table [] is = is
tables_with table (route ∷ routes) is = tables_with (with_route table route) routes (table_with table route is)

tables_without : (table : List (Prefix × Route)) (prefixes : List Prefix) → IsTable table → IsTable (fold without_route table prefixes)
tables_without table [] is = is
tables_without table (prefix ∷ prefixes) is = tables_without (without_route table prefix) prefixes (table_without table prefix is)

table_applied : (table : List (Prefix × Route)) (delta : Delta) → IsTable table → IsTable (applied table delta)
unfolding applied
table_applied table delta is = tables_with (fold without_route table delta.del) delta.set (tables_without table delta.del is)

table_asked : (table : List (Prefix × Route)) (op : FibOp) → IsTable table → IsTable (table_after table op)
table_asked table (Del prefix) is = table_without table prefix is
table_asked table (Set route) is = table_with table route is
table_asked table (Whole routes) is = tables_with [] routes no_routes

kept_all : {A : Type 0} (xs : List A) → filter (λ x. true) xs ≡ xs
kept_all [] = refl
kept_all (x ∷ xs) = ap (λ rest. x ∷ rest) (kept_all xs)

-- the routes of a table, one set after another, are the table
pub set_anew : (table : List (Prefix × Route)) → IsTable table → fold with_route [] (map (λ (e : Prefix × Route). e.1) table) ≡ table
unfolding applied delta_between
set_anew table is = ap (fold with_route []) (sym (kept_all (map (λ (e : Prefix × Route). e.1) table))) ∙ deltas_lead_on [] table no_routes is

deleted : (table : List (Prefix × Route)) (prefixes : List Prefix) → fold table_after table (map Del prefixes) ≡ fold without_route table prefixes
deleted table [] = refl
deleted table (prefix ∷ prefixes) = deleted (without_route table prefix) prefixes

set : (table : List (Prefix × Route)) (routes : List Route) → fold table_after table (map Set routes) ≡ fold with_route table routes
set table [] = refl
set table (route ∷ routes) = set (with_route table route) routes

-- the operations for a change of routes do that change
followed : (table : List (Prefix × Route)) (delta : Delta) → fold table_after table (ops_of delta) ≡ applied table delta
unfolding applied
followed table delta =
    fold-append table_after table (map Del delta.del) (map Set delta.set)
    ∙ ap (λ t. fold table_after t (map Set delta.set)) (deleted table delta.del)
    ∙ set (fold without_route table delta.del) delta.set

-- ---- the agent's table

table_if : (refused : Bool) (agent : AgentState) (op : FibOp) → IsTable agent.table → IsTable (agent_if refused agent op).table
table_if true agent op is = is
table_if false agent op is = table_asked agent.table op is

agent_tables : (agent : AgentState) (ops : List FibOp) → IsTable agent.table → IsTable (fold agent_after agent ops).table
agent_tables agent [] is = is
agent_tables agent (op ∷ ops) is = agent_tables (agent_after agent op) ops (table_if (is_refused agent) agent op is)

done_if : (refused : Bool) (agent : AgentState) (op : FibOp) → refused ≡ false → (agent_if refused agent op).table ≡ table_after agent.table op
done_if true agent op clear = cc
done_if false agent op clear = refl

-- a call that isn't refused is done
done : (agent : AgentState) (op : FibOp) → is_refused agent ≡ false → (agent_after agent op).table ≡ table_after agent.table op
done agent op clear = done_if (is_refused agent) agent op clear

all_done_if : (refused : Bool) (agent : AgentState) (table : List (Prefix × Route)) (ops : List FibOp) → (refused ≡ false → agent.table ≡ table)
    → (last_answer false (answers agent (until_refused agent ops)) ≡ false → (fold agent_after agent (until_refused agent ops)).table ≡ fold table_after agent.table ops)
    → last_answer refused (answers agent (cond refused [] (until_refused agent ops))) ≡ false
    → (fold agent_after agent (cond refused [] (until_refused agent ops))).table ≡ fold table_after table ops
all_done_if true agent table ops here later clear = cc
all_done_if false agent table ops here later clear = later clear ∙ ap (λ t. fold table_after t ops) (here refl)

-- where the last call isn't refused, none is, and all is done
all_done : (agent : AgentState) (ops : List FibOp) → last_answer false (answers agent (until_refused agent ops)) ≡ false
    → (fold agent_after agent (until_refused agent ops)).table ≡ fold table_after agent.table ops
all_done agent [] clear = refl
all_done agent (op ∷ ops) clear =
    all_done_if (is_refused agent) (agent_after agent op) (table_after agent.table op) ops (done agent op) (all_done (agent_after agent op) ops) clear

-- ---- turns

-- both are tables, and the same where Fib is clean
pub record IsInStep (fib : FibState) : Type 0 where
  pub tables : HasTables fib
  pub same : fib.dirty ≡ false → fib.agent.table ≡ fib.wanted

programmed_in_step : (dirty : Bool) (me : List ℕ) (wanted : List (Prefix × Route)) (agent : AgentState) (delta : Delta)
    → IsTable wanted → IsTable agent.table → (dirty ≡ false → agent.table ≡ wanted)
    → IsInStep (programmed (record { me = me; wanted = applied wanted delta; agent = agent; dirty = dirty }) (ops_of delta))
programmed_in_step true me wanted agent delta table table' same = record {
  tables = record { wanted = table_applied wanted delta table; programmed = table' };
  same = λ clear. cc;
}
programmed_in_step false me wanted agent delta table table' same = record {
  tables = record { wanted = table_applied wanted delta table; programmed = agent_tables agent (until_refused agent (ops_of delta)) table' };
  same = λ clear. all_done agent (ops_of delta) clear ∙ followed agent.table delta ∙ ap (λ t. applied t delta) (same refl);
}

mended_in_step : (dirty : Bool) (me : List ℕ) (wanted : List (Prefix × Route)) (agent : AgentState)
    → IsTable wanted → IsTable agent.table → (dirty ≡ false → agent.table ≡ wanted)
    → IsInStep (mended (record { me = me; wanted = wanted; agent = agent; dirty = dirty }))
mended_in_step true me wanted agent table table' same =
    let whole = Whole (map (λ (e : Prefix × Route). e.1) wanted) in
    record {
      tables = record { wanted = table; programmed = agent_tables agent (whole ∷ []) table' };
      same = λ clear. done agent whole clear ∙ set_anew wanted table;
    }
mended_in_step false me wanted agent table table' same = record { tables = record { wanted = table; programmed = table' }; same = same }

pub in_step_after : (fib : FibState) (item : Item) → IsInStep fib → IsInStep (fib_after fib item)
unfolding fib_after
in_step_after fib (Routes delta) is = programmed_in_step fib.dirty fib.me fib.wanted fib.agent delta is.tables.wanted is.tables.programmed is.same
in_step_after fib (Tick at) is = mended_in_step fib.dirty fib.me fib.wanted fib.agent is.tables.wanted is.tables.programmed is.same
in_step_after fib _ is = is

pub in_step_over : (fib : FibState) (items : List Item) → IsInStep fib → IsInStep (fold fib_after fib items)
in_step_over fib [] is = is
in_step_over fib (item ∷ items) is = in_step_over (fib_after fib item) items (in_step_after fib item is)

pub new_in_step : (me failing : List ℕ) → IsInStep (new_fib me failing)
new_in_step me failing = record { tables = record { wanted = no_routes; programmed = no_routes }; same = λ clear. refl }

pub fibs_have_tables : FibsHaveTables
fibs_have_tables me failing items = (in_step_over (new_fib me failing) items (new_in_step me failing)).tables

pub clean_is_in_step : CleanIsInStep
clean_is_in_step me failing items = (in_step_over (new_fib me failing) items (new_in_step me failing)).same

-- ---- what is wanted

unless_dirty_wanted : (dirty : Bool) (fib : FibState) (ops : List FibOp) → (cond dirty fib (asked fib ops)).wanted ≡ fib.wanted
unless_dirty_wanted true fib ops = refl
unless_dirty_wanted false fib ops = refl

where_dirty_wanted : (dirty : Bool) (fib : FibState) (ops : List FibOp) → (cond dirty (asked fib ops) fib).wanted ≡ fib.wanted
where_dirty_wanted true fib ops = refl
where_dirty_wanted false fib ops = refl

wanted_in : (fib : FibState) (item : Item) (items : List Item)
    → fold applied (fib_after fib item).wanted (filter_map delta_of items) ≡ fold applied fib.wanted (filter_map delta_of (item ∷ items))
unfolding fib_after
wanted_in fib (Routes delta) items =
    let wanting = record fib { wanted = applied fib.wanted delta } in
    ap (λ wanted. fold applied wanted (filter_map delta_of items)) (unless_dirty_wanted fib.dirty wanting (until_refused fib.agent (ops_of delta)))
wanted_in fib (Tick at) items =
    let whole = Whole (map (λ (e : Prefix × Route). e.1) fib.wanted) in
    ap (λ wanted. fold applied wanted (filter_map delta_of items)) (where_dirty_wanted fib.dirty fib (whole ∷ []))
wanted_in fib _ items = refl

wanted_over : (fib : FibState) (items : List Item) → (fold fib_after fib items).wanted ≡ fold applied fib.wanted (filter_map delta_of items)
wanted_over fib [] = refl
wanted_over fib (item ∷ items) = wanted_over (fib_after fib item) items ∙ wanted_in fib item items

pub no_change_is_lost : NoChangeIsLost
no_change_is_lost me failing items = wanted_over (new_fib me failing) items
