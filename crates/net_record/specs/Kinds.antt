-- The kinds of modules: what each is made of, and its step. A new kind adds a row to `node_part` or to `new_part`, and to
-- `module_step`; what a run wants to know of a kind it asks by a projection, in which every other kind has the default.
use Rattle.std.specs.Prelude.{ℕ, List, [], Option, Some, None, Bool}
use Rattle.or_base.specs.declared.entry.JournalEntry.{JournalEntry}
use Rattle.or_base.specs.declared.item.Item.{Item}
use Rattle.or_actor.specs.declared.output.Output.{Output}
use Rattle.or_actor.specs.Steps.{finds_nothing}
use Rattle.kv_store.specs.Store.{StoreState, store_step}
use Rattle.net_link.specs.Link.{link_step}
use Rattle.spark_node.specs.Spark.{spark_step}
use Rattle.link_monitor.specs.LinkMonitor.{link_monitor_step}
use Rattle.prefix_manager.specs.PrefixManager.{prefix_manager_step}
use Rattle.decision_core.specs.Decision.{DecisionState, decision_step}
use Rattle.fib_core.specs.Fib.{FibState, fib_step}
use Rattle.net_record.specs.declared.kinds.AnyModule.{AnyModule}
use Rattle.net_record.specs.declared.kinds.AnyModule.TheVariants.{Spark, LinkMonitor, PrefixManager, Store, Decision, Fib, Link}

-- One turn of a module: its state after it, and what it sends. No module of any kind finds a length; desks do, and stand beside
-- the modules.
unfoldable pub module_step : AnyModule → ℕ → Item → AnyModule × List Output
module_step (Spark s) lane item = let after = spark_step s item in (Spark after.0, after.1)
module_step (LinkMonitor s) lane item = let after = link_monitor_step s item in (LinkMonitor after.0, after.1)
module_step (PrefixManager s) lane item = let after = prefix_manager_step s item in (PrefixManager after.0, after.1)
module_step (Decision s) lane item = let after = decision_step s item in (Decision after.0, after.1)
module_step (Fib s) lane item = let after = fib_step s item in (Fib after.0, after.1)
module_step (Store s) lane item = let after = store_step s item in (Store after.0, after.1)
module_step (Link s) lane item = let after = link_step s item in (Link after.0, after.1)

abbrev pub module_may_find : AnyModule → Item → ℕ → Bool
module_may_find m item at = finds_nothing at

-- ---- projections

-- the store that a module is, if it is one
abbrev pub store_in : AnyModule → Option StoreState
store_in (Store s) = Some s
store_in _ = None

-- the Decision that it is, if it is one
abbrev pub decision_in : AnyModule → Option DecisionState
decision_in (Decision s) = Some s
decision_in _ = None

-- the Fib that it is, if it is one
abbrev pub fib_in : AnyModule → Option FibState
fib_in (Fib s) = Some s
fib_in _ = None

-- the entries that it has: the journal of a store, and of a Decision what it took of one
abbrev pub entries_in : AnyModule → List JournalEntry
entries_in (Store s) = s.journal
entries_in (Decision s) = s.taken
entries_in _ = []
