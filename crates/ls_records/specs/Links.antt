-- The link records that a node knows, with the arcs that it may use by them.
use Rattle.std.specs.Prelude.{◌≡◌, ℕ, List, [], Bool, false, Option, Some, None, IfSome, if◌then◌else◌}
use Rattle.or_base.specs.declared.database.AdjDb.{AdjDb}
use Rattle.ls_graph.specs.Arcs.{usable_arcs}
use Rattle.std.specs.Str.{bytes_eq}
use Rattle.ls_graph.specs.Changes.{AreChanges}
use Rattle.ls_graph.specs.State.{KnownLinks, IsSettled}
use Rattle.ls_graph.specs.declared.change.LinkChange.{LinkChange}
use Rattle.ls_records.specs.Change.{is_overloaded}
use Rattle.ls_records.specs.Step.{changed}

-- what is known where there is a state of links, and where there is none
abbrev pub known_links : List ℕ → Option KnownLinks → KnownLinks
known_links me None = record { me = me; databases = []; in_force = [] }
known_links me (Some state) = record { me = me; databases = state.databases; in_force = state.in_force }

-- the state is of this node, and all changes are in force
abbrev pub AreLinksOf : List ℕ → Option KnownLinks → Type 0
AreLinksOf me state = IfSome state (λ links. (links.me ≡ me) × IsSettled links)

-- what is known once the node has this link record, or none
abbrev pub with_record : KnownLinks → List ℕ → Option AdjDb → KnownLinks
with_record k node db = let databases = changed k.databases node db in record { me = k.me; databases = databases; in_force = usable_arcs k.me databases }

-- what differs between two states of the links: the arcs, and at most whether this node takes transit traffic
pub record CoversLinks (before after : KnownLinks) (changes : List LinkChange) (node : List ℕ) (transit_differs : Bool) : Type 0 where
  pub links : AreChanges before.in_force after.in_force changes
  pub others : (other : List ℕ) → bytes_eq node other ≡ false → is_overloaded after.databases other ≡ is_overloaded before.databases other
  pub own : transit_differs ≡ false → is_overloaded after.databases node ≡ is_overloaded before.databases node

-- the name, if it is to be told
abbrev pub name_if : Bool → List ℕ → Option (List ℕ)
name_if told name = if told then Some name else None
