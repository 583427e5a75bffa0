use Rattle.std.proofs.Common.{◌≡◌, subst, sym, true, [], rules}
use Rattle.std.specs.List.{list_all}
use Rattle.ls_spf.specs.Table.{AreArcs, IsRight}
use Rattle.ls_spf.specs.Slack.{is_slack_change}
use Rattle.ls_records.specs.Change.{is_that}
use Rattle.decision_core.specs.Reach.{has_moved, with_prefixes, with_touched}
use Rattle.decision_core.proofs.Places.{right_as_before, right_with_moved}
use Rattle.decision_core.proofs.routing.places_of.Goals as goal

-- the arcs that change are slack
pub returns-then-stays : goal.returns-then-stays
returns-then-stays c k arcs right tells me =
    let known = c.args.records.now in
    let change = c.args.change.now in
    let arcs' : AreArcs known.arcs = subst AreArcs c.in_ok-arcs.ensures.arcs c.in_ok-arcs.ensures.few in
    let slack : list_all (is_slack_change c.args.before.rows) change.links.items ≡ true = search rules in
    let right' : IsRight known.arcs known.me c.args.before.rows =
    subst (λ n. IsRight known.arcs n c.args.before.rows) (sym me) (c.slack_changes_keep_right.ensures k.arcs known.arcs k.me c.args.before.rows change.links.items arcs arcs' right tells.links slack) in
    let places : c.in_ok-places-2.places.items ≡ with_touched (is_that change.transit) (with_prefixes [] change.prefixes.items) known.prefixes = search rules in
    right_as_before k known c.args.before.rows change c.in_ok-places-2.places.items right arcs' right' tells me places c.in_ok-places-2.ensures.in_order

-- walks are searched for again
pub returns : goal.returns
returns c k arcs right tells me =
    let known = c.args.records.now in
    let change = c.args.change.now in
    let arcs' : AreArcs known.arcs = subst AreArcs c.in_ok-arcs.ensures.arcs c.in_ok-arcs.ensures.few in
    let right' : IsRight known.arcs known.me c.in_ok-after.after.rows = search rules in
    let places : c.in_ok-places-3.places.items
    ≡ with_touched (has_moved c.args.before.rows c.in_ok-after.after.rows) (with_touched (is_that change.transit) (with_prefixes [] change.prefixes.items) known.prefixes) known.prefixes = search rules in
    right_with_moved k known c.args.before.rows c.in_ok-after.after.rows change c.in_ok-places-3.places.items right arcs' right' tells me places c.in_ok-places-3.ensures.in_order
