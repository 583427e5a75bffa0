-- The arcs of settled links are usable, and a state without changes has the arcs that it had.
use Rattle.std.proofs.Common.{◌≡◌, ℕ, List, [], sym, subst}
use Rattle.std.specs.List.Sorted.{IsStrictlySortedBy}
use Rattle.std.proofs.lemmas.List.Elements.{All-nil}
use Rattle.or_base.specs.declared.database.AdjDb.{AdjDb}
use Rattle.ls_graph.specs.declared.arc.Arc.{Arc}
use Rattle.ls_graph.specs.Arcs.{usable_arcs}
use Rattle.ls_graph.specs.State.{AreSoundDatabases, AreUsable, IsSoundDatabase, UsableArcsAreThese}

-- arcs that are the usable ones
pub usable_by : UsableArcsAreThese → (me : List ℕ) (databases : List (List ℕ × AdjDb)) (arcs : List Arc) → AreSoundDatabases databases → arcs ≡ usable_arcs me databases
    → AreUsable me databases arcs
usable_by these me databases arcs sound is = subst (AreUsable me databases) (sym is) (these me databases sound)

no_databases : AreSoundDatabases []
unfolding IsStrictlySortedBy
no_databases = record { by_name = tt; each = All-nil IsSoundDatabase }

-- without databases there are none
pub none_usable : UsableArcsAreThese → (me : List ℕ) → AreUsable me [] []
unfolding usable_arcs
none_usable these me = these me [] no_databases
