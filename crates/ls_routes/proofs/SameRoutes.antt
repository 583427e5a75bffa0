-- Routes to one prefix that are the same are equal.
use Rattle.std.proofs.Common.{◌≡◌, ℕ, List, Bool, true, false, refl}
use Rattle.std.specs.Prelude.{◌&&◌, ◌==◌}
use Rattle.std.specs.Bool.{Decides}
use Rattle.std.proofs.lemmas.Bool.{and_parts, eqb-true, eq-eqb}
use Rattle.std.proofs.lemmas.Slice.Eq.{bytes_eq-Decides, slice_eq-Decides}
use Rattle.or_base.specs.declared.route.Route.{Route}
use Rattle.ls_routes.specs.Laws.{SameRoutesAreEqual}
use Rattle.ls_routes.specs.Routes.{are_same_names, is_same_route}

pub both_true : (s t : Bool) → s ≡ true → t ≡ true → s && t ≡ true
both_true true t e f = f
both_true false t e f = cc

names_decide : (names others : List (List ℕ)) → Decides (are_same_names names others) (names ≡ others)
names_decide names others = slice_eq-Decides bytes_eq-Decides names others (are_same_names names others) refl

pub same_routes_are_equal : SameRoutesAreEqual
same_routes_are_equal r s prefix same =
    let parts = and_parts (r.cost == s.cost) (are_same_names r.hops s.hops) same in
    let cost : r.cost ≡ s.cost = eqb-true r.cost s.cost parts.0 in
    let hops : r.hops ≡ s.hops = (names_decide r.hops s.hops).0 parts.1 in
    λ i. record { prefix = prefix i; cost = cost i; hops = hops i }

pub same_route_itself : (r : Route) → is_same_route r r ≡ true
same_route_itself r = both_true (r.cost == r.cost) (are_same_names r.hops r.hops) (eq-eqb r.cost r.cost refl) ((names_decide r.hops r.hops).1 refl)
