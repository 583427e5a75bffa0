-- The routes that settles show are those from scratch.
use Rattle.std.specs.Prelude.{◌≡◌, ◌++◌, ℕ, List, [], ◌∷◌, length, map, take, Bool, true, false, Some, ◌&&◌, slice_get, slice_index_or, if◌then◌else◌}
use Rattle.or_base.specs.declared.entry.JournalEntry.{JournalEntry}
use Rattle.or_base.specs.declared.kind.Kind.{Kind}
use Rattle.or_base.specs.declared.kind.Kind.TheVariants.{Stores, Full}
use Rattle.or_base.specs.declared.route.Route.{Route}
use Rattle.decision_core.specs.Scratch.{scratch}
use Rattle.net_laboratory.specs.Scenario.{Laboratory}
use Rattle.net_record.specs.declared.phase.Phase.{Phase}
use Rattle.net_record.specs.declared.record.SettleDone.{SettleDone}
use Rattle.net_record.specs.Marks.{no_mark, entries_told}
use Rattle.net_record.specs.Phases.{phases}
use Rattle.net_record.specs.Roles.{node_names}

abbrev pub computes_routes : Kind → Bool
computes_routes Stores = false
computes_routes Full = true

-- a phase that isn't there
abbrev pub no_phase : Phase
no_phase = record { issues = []; rounds = 0; moment = 0; shows_routes = false }

-- the settle with this index, from 0, tells of routes: it shows them, in a laboratory whose nodes compute routes
abbrev pub tells_routes : Laboratory → ℕ → Bool
tells_routes lab index = computes_routes lab.kind && (slice_index_or (phases lab) index no_phase).shows_routes

-- the routes of a node from scratch over these entries of its journal, in the order of prefixes
abbrev pub routes_due : List ℕ → List JournalEntry → List Route
routes_due node entries = map (λ e. e.1) (scratch node entries)

-- A settle behind those before tells of each node the routes from scratch over all entries of its journal that it tells of, where
-- it tells of routes; else none.
abbrev pub IsRouted : Laboratory → List (List JournalEntry) → List SettleDone → SettleDone → Type 0
IsRouted lab journals before s =
    (place : ℕ) (node : List ℕ) → slice_get (node_names lab) place ≡ Some node
    → (slice_index_or s.nodes place no_mark).routes
    ≡ (if tells_routes lab (length before) then routes_due node (take (entries_told s.nodes place) (slice_index_or journals place [])) else [])

-- each of the settles
abbrev pub AreRouted : Laboratory → List (List JournalEntry) → List SettleDone → Type 0
AreRouted lab journals settles = (before later : List SettleDone) (s : SettleDone) → settles ≡ before ++ s ∷ later → IsRouted lab journals before s
