-- What the routes from scratch are, by lookups.
use Rattle.std.specs.Prelude.{◌≡◌, ℕ, List}
use Rattle.or_base.specs.declared.entry.JournalEntry.{JournalEntry}
use Rattle.or_base.specs.declared.prefix.Prefix.{Prefix}
use Rattle.ls_routes.specs.Routes.{route_to, IsTable}
use Rattle.ls_records.specs.Change.{known_after}
use Rattle.decision_core.specs.Scratch.{route_for, scratch}

-- The routes are a table, which has for each prefix its route, and no others.
pub record RoutesAreByPrefix : Type 0 where
  pub table : (me : List ℕ) (journal : List JournalEntry) → IsTable (scratch me journal)
  pub route : (me : List ℕ) (journal : List JournalEntry) (prefix : Prefix) → route_to (scratch me journal) prefix ≡ route_for (known_after me journal) prefix
