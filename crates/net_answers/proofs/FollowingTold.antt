-- What a settle tells of routes, by the places of nodes.
use Rattle.std.proofs.Common.{◌≡◌, ℕ, zero, suc, ◌<◌, List, [], ◌∷◌, ◌++◌, true, false, Option, Some, None, length, get_or, refl, sym, ap, ◌∙◌, arith}
use Rattle.std.specs.Prelude.{slice_get, option_map}
use Rattle.std.specs.List.{list_all}
use Rattle.std.specs.Option.{option_map_or}
use Rattle.std.proofs.lemmas.Bool.{and_parts}
use Rattle.std.proofs.lemmas.Option.{none-some, same_Some, slice_get-map}
use Rattle.or_base.specs.declared.item.Stamped.{Stamped}
use Rattle.or_base.specs.declared.route.Route.{Route}
use Rattle.kv_store.specs.Store.{StoreState}
use Rattle.net_laboratory.specs.declared.declared.NodeDecl.{NodeDecl}
use Rattle.net_laboratory.specs.Scenario.{Laboratory}
use Rattle.net_record.specs.declared.actor.ActorState.{ActorState}
use Rattle.net_record.specs.declared.record.NodeMark.{NodeMark}
use Rattle.net_record.specs.declared.stores.FibMark.{FibMark}
use Rattle.net_record.specs.Actors.{store_of}
use Rattle.net_record.specs.Marks.{no_mark}
use Rattle.net_record.specs.Roles.{node_names}
use Rattle.net_record.specs.World.{is_empty, mark_of_store, marks_of, all_routes, with_routes, all_fibs, with_fibs, nodes_told}

-- the routes in a place
abbrev pub routes_at : List NodeMark → ℕ → List Route
routes_at marks place = (get_or marks place no_mark).routes

-- marks with routes tell those in the same place
routes_in : (marks : List NodeMark) (routes : List (List Route)) (place : ℕ) → place < length marks → place < length routes → routes_at (with_routes marks routes) place ≡ get_or routes place []
routes_in [] routes place marked routed = absurd (omega (arith, marked))
routes_in (mark ∷ marks) [] place marked routed = absurd (omega (arith, routed))
routes_in (mark ∷ marks) (first ∷ routes) zero marked routed = refl
routes_in (mark ∷ marks) (first ∷ routes) (suc place) marked routed = routes_in marks routes place (omega (arith, marked)) (omega (arith, routed))

no_routes_with : (marks : List NodeMark) → with_routes marks [] ≡ marks
no_routes_with [] = refl
no_routes_with (mark ∷ marks) = ap (λ ms. mark ∷ ms) (no_routes_with marks)

no_route_head : (told : ℕ) (store : Option StoreState) (rest : List NodeMark) → ((place : ℕ) → routes_at rest place ≡ [])
    → (place : ℕ) → routes_at (option_map_or (mark_of_store told) store [] ++ rest) place ≡ []
no_route_head told None rest none place = none place
no_route_head told (Some s) rest none zero = refl
no_route_head told (Some s) rest none (suc place) = none place

-- marks of stores tell none
marks_without : (actors : List ActorState) (place : ℕ) → routes_at (marks_of actors) place ≡ []
marks_without [] zero = refl
marks_without [] (suc place) = refl
marks_without (actor ∷ actors) place = no_route_head actor.told (store_of actor.part) (marks_of actors) (marks_without actors) place

-- where Fibs stand leaves the routes
routes_fibs : (marks : List NodeMark) (fibs : List FibMark) (place : ℕ) → routes_at (with_fibs marks fibs) place ≡ routes_at marks place
routes_fibs [] fibs zero = refl
routes_fibs [] fibs (suc place) = refl
routes_fibs (mark ∷ marks) [] zero = refl
routes_fibs (mark ∷ marks) [] (suc place) = routes_fibs marks [] place
routes_fibs (mark ∷ marks) (fib ∷ fibs) zero = refl
routes_fibs (mark ∷ marks) (fib ∷ fibs) (suc place) = routes_fibs marks fibs place

-- ---- what a settle tells

pub told_unshown : (actors : List ActorState) (place : ℕ) → routes_at (nodes_told actors false) place ≡ []
unfolding nodes_told
told_unshown actors place = marks_without actors place

pub told_nowhere : (actors : List ActorState) (place : ℕ) → all_routes actors ≡ [] → routes_at (nodes_told actors true) place ≡ []
unfolding nodes_told
told_nowhere actors place none =
    routes_fibs (with_routes (marks_of actors) (all_routes actors)) (all_fibs actors) place
    ∙ ap (λ rs. routes_at (with_routes (marks_of actors) rs) place) none ∙ ap (λ ms. routes_at ms place) (no_routes_with (marks_of actors)) ∙ marks_without actors place

pub told_shown : (actors : List ActorState) (place : ℕ) → place < length (marks_of actors) → place < length (all_routes actors)
    → routes_at (nodes_told actors true) place ≡ get_or (all_routes actors) place []
unfolding nodes_told
told_shown actors place marked routed =
    routes_fibs (with_routes (marks_of actors) (all_routes actors)) (all_fibs actors) place ∙ routes_in (marks_of actors) (all_routes actors) place marked routed

-- ---- where no item waits

pub none_on_lane : (lanes : List (List Stamped)) (lane : ℕ) → list_all is_empty lanes ≡ true → get_or lanes lane [] ≡ []
none_on_lane [] lane drained = refl
none_on_lane (items ∷ lanes) zero drained = empty items (and_parts (is_empty items) (list_all is_empty lanes) drained).0 where
  empty : (waits : List Stamped) → is_empty waits ≡ true → waits ≡ []
  empty [] is = refl
  empty (s ∷ others) is = cc is
none_on_lane (items ∷ lanes) (suc lane) drained = none_on_lane lanes lane (and_parts (is_empty items) (list_all is_empty lanes) drained).1

-- ---- the node in a place

pub record IsNodeIn (lab : Laboratory) (place : ℕ) (name : List ℕ) : Type 0 where
  pub node : NodeDecl
  pub there : slice_get lab.nodes place ≡ Some node
  pub named : node.name ≡ name

pub node_in : (lab : Laboratory) (place : ℕ) (name : List ℕ) → slice_get (node_names lab) place ≡ Some name → IsNodeIn lab place name
node_in lab place name e = by_node (slice_get lab.nodes place) refl (sym (slice_get-map (λ (n : NodeDecl). n.name) lab.nodes place) ∙ e) where
  by_node : (found : Option NodeDecl) → slice_get lab.nodes place ≡ found → option_map (λ (n : NodeDecl). n.name) found ≡ Some name → IsNodeIn lab place name
  by_node None there is = absurd (none-some name is)
  by_node (Some node) there is = record { node = node; there = there; named = same_Some node.name name is }
