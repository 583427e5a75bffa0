use Rattle.std.proofs.Common.{ℕ, List}
use Rattle.std.specs.Map.Iter.{deref_pair}
use Rattle.std.proofs.lemmas.Map.Iter.{rest_more}
use Rattle.kv_store.specs.Floods.{flooded_to}
use Rattle.kv_store.proofs.Peers.{flooded_more, small_rest}
use Rattle.kv_store.proofs.floods.Floods.send.Goals as goal

pub loop-link-preserved : goal.loop-link-preserved
loop-link-preserved c =
    let peer : ℕ × List ℕ = (c.in-Some.link.now, c.in-Some.peer.now) in
    let turn = rest_more deref_pair c.loop-link.link-iterator c.next.new.self c.next.result (c.in-Some.link, c.in-Some.peer) c.in-Some.is c.next.ensures.steps in
    record {
      sent = flooded_more (flooded_to c.args.self.now) peer c.loop-link.link-iterator c.next.new.self c.loop-link.out c.send_to.new.out _ turn c.in_ok-send_to.ensures c.loop-link.invariant.sent;
      small = small_rest peer c.loop-link.link-iterator c.next.new.self turn c.loop-link.invariant.small;
    }
