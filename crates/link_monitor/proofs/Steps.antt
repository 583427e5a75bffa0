-- What a step of LinkMonitor sends names no link but that of the item.
use Rattle.std.proofs.Common.{◌≡◌, List, [], ◌∷◌, ◌++◌, Bool, true, false, map, ◌==◌, length, if◌then◌else◌, refl, arith}
use Rattle.std.specs.List.{flat_map}
use Rattle.std.proofs.lemmas.List.Folds.{list_all-append}
use Rattle.std.proofs.lemmas.Bool.Decides.{nat_tests}
use Rattle.or_base.specs.declared.database.Adjacency.{Adjacency}
use Rattle.or_base.specs.declared.item.Item.{Item}
use Rattle.or_base.specs.declared.item.Item.TheVariants.{LinkDrain, Metric, NeighbourUp, NeighbourDown}
use Rattle.or_actor.specs.declared.output.Output.{Output}
use Rattle.or_actor.specs.Fits.{sends_small_link, has_small_link, have_small_links}
use Rattle.own_record.proofs.Small.{small_handed_over}
use Rattle.link_monitor.specs.declared.link.MonitoredLink.{MonitoredLink}
use Rattle.link_monitor.specs.LinkMonitor.{LinkMonitorState, adjacencies, has_none, is_for, link_turn, drained_after, record_text, link_monitor_step}

pub none_by_length : (listed : List Adjacency) → (length listed == 0) ≡ has_none listed
none_by_length [] = refl
none_by_length (a ∷ more) = grind (arith, nat_tests)

small_both : (xs ys : List Output) → have_small_links xs ≡ true → have_small_links ys ≡ true → have_small_links (xs ++ ys) ≡ true
small_both xs ys hx hy = rw (list_all-append sends_small_link xs ys, hx) hy

small_turn_if : (test : Bool) (t u : MonitoredLink × List Output) → have_small_links t.1 ≡ true → have_small_links u.1 ≡ true
    → have_small_links (if test then t else u).1 ≡ true
small_turn_if true t u ht hu = ht
small_turn_if false t u ht hu = hu

small_link_turn : (l : MonitoredLink) (item : Item) → has_small_link item ≡ true → have_small_links (link_turn l item).1 ≡ true
unfolding link_turn
small_link_turn l (NeighbourUp link peer peer_if) h = small_turn_if (is_for l link) _ _ (rw h refl) refl
small_link_turn l (NeighbourDown link) h = small_turn_if (is_for l link) _ _ (rw h refl) refl
small_link_turn l (LinkDrain link on) h = small_turn_if (is_for l link) _ _ refl refl
small_link_turn l (Metric link metric) h = small_turn_if (is_for l link) _ _ refl refl
small_link_turn l _ h = refl

-- what the turns of these links send
abbrev sent_of : Item → List MonitoredLink → List Output
sent_of item links = flat_map (λ (t : MonitoredLink × List Output). t.1) (map (λ l. link_turn l item) links)

small_turns : (item : Item) (links : List MonitoredLink) → has_small_link item ≡ true → have_small_links (sent_of item links) ≡ true
small_turns item [] h = refl
small_turns item (l ∷ links) h = small_both (link_turn l item).1 (sent_of item links) (small_link_turn l item h) (small_turns item links h)

-- the links as the item leaves them
abbrev links_after : Item → List MonitoredLink → List MonitoredLink
links_after item links = map (λ (t : MonitoredLink × List Output). t.0) (map (λ l. link_turn l item) links)

pub small_step : (s : LinkMonitorState) (item : Item) → has_small_link item ≡ true → have_small_links (link_monitor_step s item).1 ≡ true
unfolding link_monitor_step
small_step s item h =
    let links = links_after item s.links in
    let now : LinkMonitorState = record s { is_drained = drained_after s.is_drained item; links = links } in
    small_both (sent_of item s.links) _ (small_turns item s.links h) (small_handed_over s.own (record_text now) (has_none (adjacencies links)))
