use Rattle.std.proofs.Common.{ℕ, List, rules}
use Rattle.std.specs.Map.Iter.{deref_pair}
use Rattle.std.proofs.lemmas.Map.Iter.{rest_more}
use Rattle.kv_store.proofs.Peers.{small_first, small_rest}
use Rattle.kv_store.proofs.Starting.{running_more, sent_more}
use Rattle.kv_store.proofs.answers.start_each.Goals as goal

pub start_with-requires : goal.start_with-requires
start_with-requires c =
    let peer : ℕ × List ℕ = (c.in-Some.link.now, c.in-Some.peer.now) in
    let turn = rest_more deref_pair c.loop-link.link-iterator c.next.new.self c.next.result (c.in-Some.link, c.in-Some.peer) c.in-Some.is c.next.ensures.steps in
    small_first peer c.loop-link.link-iterator c.next.new.self turn c.loop-link.invariant.small

pub loop-link-preserved : goal.loop-link-preserved
loop-link-preserved c =
    let me = c.args.me.now in
    let journal = c.args.table.now in
    let peer : ℕ × List ℕ = (c.in-Some.link.now, c.in-Some.peer.now) in
    let turn = rest_more deref_pair c.loop-link.link-iterator c.next.new.self c.next.result (c.in-Some.link, c.in-Some.peer) c.in-Some.is c.next.ensures.steps in
    record {
      running =
          running_more me journal c.loop-link.sessions c.start_with.new.sessions _ peer c.loop-link.link-iterator c.next.new.self turn (search rules) c.loop-link.invariant.running;
      sent =
          sent_more me journal c.loop-link.sessions c.start_with.new.sessions peer c.loop-link.link-iterator c.next.new.self c.loop-link.out c.start_with.new.out _ turn (search rules)
          (search rules) c.loop-link.invariant.sent;
      small = small_rest peer c.loop-link.link-iterator c.next.new.self turn c.loop-link.invariant.small;
    }
