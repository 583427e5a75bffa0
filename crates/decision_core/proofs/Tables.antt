-- The routes from scratch are a table, which has for each prefix its route.
use Rattle.std.proofs.Common.{◌≡◌, ℕ, List, [], Bool, true, false, cond, Option, Some, None, map, refl, sym, ap, ◌∙◌, option_map}
use Rattle.or_base.specs.declared.prefix.Prefix.{Prefix}
use Rattle.or_base.specs.declared.route.Route.{Route}
use Rattle.ls_select.specs.Selection.{select, best_offers}
use Rattle.ls_select.specs.declared.offer.Selected.{Selected}
use Rattle.ls_routes.specs.Routes.{IsTable, route_to, is_listed}
use Rattle.ls_routes.proofs.Tables.{no_routes}
use Rattle.ls_routes.proofs.Chosen.{table_after, found_after}
use Rattle.ls_records.specs.Records.{advertised_prefixes}
use Rattle.ls_records.proofs.Listing.{advertised_have_advertisers}
use Rattle.ls_records.specs.Change.{KnownRecords, known_after}
use Rattle.decision_core.specs.Scratch.{offer_of, offers_for, route_over, route_for, routes_over, scratch}
use Rattle.decision_core.specs.Law.{RoutesAreByPrefix}

own_over : (known : KnownRecords) (p : Prefix) (selected : Option Selected) (r : Route) → option_map (route_over known p) selected ≡ Some r → r.prefix ≡ p
own_over known p None r e = cc e
own_over known p (Some s) r e =
    let same : route_over known p s ≡ r = cc e in
    ap (λ (q : Route). q.prefix) (sym same)

-- the route to a prefix has it as its own
pub own_route : (known : KnownRecords) (p : Prefix) (r : Route) → route_for known p ≡ Some r → r.prefix ≡ p
unfolding route_for
own_route known p r e = own_over known p (select known.me (offers_for known p)) r e

-- without offers nothing is selected
none_selected : (me : List ℕ) → select me [] ≡ None
unfolding select best_offers
none_selected me = refl

-- nobody advertises a prefix that isn't among the advertised ones, so that there is no route to it
none_listed : (known : KnownRecords) (p : Prefix) → is_listed (advertised_prefixes known.prefixes) p ≡ false → route_for known p ≡ None
unfolding route_for
none_listed known p e =
    ap (λ some. option_map (route_over known p) (select known.me (map (offer_of known) some))) (advertised_have_advertisers.none known.prefixes p e)
    ∙ ap (option_map (route_over known p)) (none_selected known.me)

found_if : (listed : Bool) (chosen : Option Route) → (listed ≡ false → chosen ≡ None) → cond listed chosen None ≡ chosen
found_if true chosen none = refl
found_if false chosen none = sym (none refl)

pub table_over : (known : KnownRecords) → IsTable (routes_over known)
unfolding routes_over
table_over known = table_after (route_for known) (own_route known) [] (advertised_prefixes known.prefixes) no_routes

pub found_over : (known : KnownRecords) (p : Prefix) → route_to (routes_over known) p ≡ route_for known p
unfolding routes_over
found_over known p =
    found_after (route_for known) (own_route known) [] (advertised_prefixes known.prefixes) p no_routes
    ∙ found_if (is_listed (advertised_prefixes known.prefixes) p) (route_for known p) (none_listed known p)

pub routes_are_by_prefix : RoutesAreByPrefix
unfolding scratch
routes_are_by_prefix = record {
  table = λ me journal. table_over (known_after me journal);
  route = λ me journal prefix. found_over (known_after me journal) prefix;
}
