use Rattle.std.proofs.Common.{◌≡◌, ℕ, ◌++◌, ◌∷◌, [], ◌<◌, length, ap, ◌∙◌, rules}
use Rattle.std.specs.Map.Iter.{deref}
use Rattle.std.proofs.lemmas.List.{get_or_read}
use Rattle.std.proofs.lemmas.Map.Iter.{rest_more}
use Rattle.std.proofs.lemmas.List.Elements.{All-same}
use Rattle.net_world.proofs.Busied.{busy_below, busy_more, there_first, there_rest}
use Rattle.net_world.proofs.lanes.busy_of.Goals as goal

pub loop-lane-init : goal.loop-lane-init
loop-lane-init c = record {
  found = search rules;
  there =
      All-same (λ (n : ℕ). n < length c.args.lanes.now) c.into_iter-lane-iterator.result c.args.busy.now.keys (search rules)
      (busy_below c.args.lanes.now c.args.busy.now.keys c.requires);
}

pub loop-lane-preserved : goal.loop-lane-preserved
loop-lane-preserved c =
    let lanes = c.args.lanes.now in
    let lane = c.in-Some.lane.now in
    let found = c.loop-lane.found.items in
    let turn = rest_more deref c.loop-lane.lane-iterator c.next.new.self c.next.result c.in-Some.lane c.in-Some.is c.next.ensures.steps in
    let within = there_first (length lanes) lane c.loop-lane.lane-iterator c.next.new.self turn c.loop-lane.invariant.there in
    let read = get_or_read lanes lane c.index-lanes-lane.result within c.index-lanes-lane.is [] in
    let put : c.push.new.self.items ≡ found ++ record { lane = lane; count = length c.index-lanes-lane.result } ∷ [] = search rules in
    record {
      found =
          busy_more lanes lane c.loop-lane.lane-iterator c.next.new.self found c.push.new.self.items _ turn
          (put ∙ ap (λ items. found ++ record { lane = lane; count = length items } ∷ []) read) c.loop-lane.invariant.found;
      there = there_rest (length lanes) lane c.loop-lane.lane-iterator c.next.new.self turn c.loop-lane.invariant.there;
    }
