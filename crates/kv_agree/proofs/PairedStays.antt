-- Paired stores stay paired.
use Rattle.std.proofs.Common.{◌≡◌, ℕ, ◌+◌, ◌-◌, ◌^◌, ◌<◌, ◌≤◌, List, [], ◌++◌, length, replicate, Option, Some, None, inl, inr, refl, sym, ◌∙◌, ap, subst, arith, length-append}
use Rattle.std.specs.List.{Contains}
use Rattle.or_base.specs.declared.entry.JournalEntry.{JournalEntry}
use Rattle.or_base.specs.declared.kind.Kind.{Kind}
use Rattle.or_base.specs.declared.message.Msg.{Msg}
use Rattle.or_base.specs.declared.message.Msg.TheVariants as msg
use Rattle.or_base.specs.declared.item.Item.{Item}
use Rattle.or_base.specs.declared.item.Item.TheVariants.{Net}
use Rattle.or_actor.specs.Ports.{first_link_port}
use Rattle.kv_sync.specs.declared.session.Session.{Session}
use Rattle.kv_sync.specs.Sessions.{session_on}
use Rattle.kv_sync.proofs.Numbers.{found_given, numbered_none}
use Rattle.kv_store.specs.Growth.{IsFront}
use Rattle.kv_store.specs.Store.{Change, item_change, store_step}
use Rattle.kv_store.proofs.Growth.{front_same, journals_grow}
use Rattle.kv_agree.specs.Traced.{TracedStore, Trace, trace_of, new_traced, traced_step}
use Rattle.kv_agree.specs.Orderly.{IsOrderly, IsNotBefore, CarryValid, StaysOrderly}
use Rattle.kv_agree.specs.Paired.{OnWay, IsRunning, IsPaired, ComesOf, IsBrought, StaysPaired}
use Rattle.kv_agree.proofs.PairedGrowth.{Between, GoesOn, phase_on}
use Rattle.kv_agree.proofs.PairedSteps.{AreTied, with_made, length-made, finished_stay}
use Rattle.kv_agree.proofs.PairedSent.{FloodsAreFloods}
use Rattle.kv_agree.proofs.PairedFloods.{floods_are_floods}
use Rattle.kv_agree.proofs.PairedTurns.{TakesReply, TakesAck, StarterChange, item_at_starter, TakesDump, TakesPush, PeerChange, item_at_peer}
use Rattle.kv_agree.proofs.PairedNumbered.{numbered_after_turn}
use Rattle.kv_agree.proofs.PairedStarter.{written, turned, turn_sends, before_turn, StarterTurned, starter_kept, starter_acked, starter_replied}
use Rattle.kv_agree.proofs.PairedPeerTurn.{PeerTurned, peer_kept, peer_dumped, peer_pushed}

-- ---- new stores

nothing_there : {P : Type 0} (m : Msg) → Contains [] m → P
nothing_there m there = absurd (omega (arith, there.1))

nothing_carried : CarryValid []
nothing_carried = record {
  replies = λ n b0 pairs wanted withheld there. nothing_there (msg.Reply n b0 pairs wanted withheld) there;
  pushes = λ n pairs there. nothing_there (msg.Push n pairs) there;
}

starts : StaysOrderly → (link : ℕ) (kind : Kind) (me you : List ℕ) → IsPaired link (new_traced kind me) (new_traced kind you) [] []
starts orderly link kind me you = record {
  starter = orderly.starts kind me;
  peer = orderly.starts kind you;
  made_a = refl;
  made_b = refl;
  valid_out = nothing_carried;
  valid_back = nothing_carried;
  numbered = numbered_none 0 (omega arith);
  given = record {
    dumps = λ n rows there. nothing_there (msg.Dump n rows) there;
    pushes = λ n pairs there. nothing_there (msg.Push n pairs) there;
    replies = λ n b0 pairs wanted withheld there. nothing_there (msg.Reply n b0 pairs wanted withheld) there;
    acks = λ n there. nothing_there (msg.Ack n) there;
    replies_taken = tt;
    pushes_taken = tt;
    finished = tt;
  };
  running = tt;
  finished = tt;
}

-- ---- fewer messages

module _ (link : ℕ) (a b : TracedStore) (out back out_after back_after : OnWay) (less_out : (m : Msg) → Contains out_after m → Contains out m)
    (less_back : (m : Msg) → Contains back_after m → Contains back m) where
  abbrev v : Between
  v = before_turn a (trace_of b) out back

  abbrev w : Between
  w = before_turn a (trace_of b) out_after back_after

  goes_on_with_fewer : (n : ℕ) → GoesOn link n v w
  goes_on_with_fewer n = record {
    starter = front_same a.store.journal;
    peer = front_same b.store.journal;
    of_reply = λ pairs all. all;
    no_reply = λ m within all. all;
    of_push = λ pairs all. all;
    no_push = λ all. all;
    dumps = λ rows there. less_out (msg.Dump n rows) there;
    pushes = λ pairs there. less_out (msg.Push n pairs) there;
    acks = λ there. less_back (msg.Ack n) there;
  }

  runs_with_fewer : (running : Option Session) → length a.makers ≡ length a.store.journal → IsRunning link running v.a v.b v.out v.back → IsRunning link running w.a w.b w.out w.back
  runs_with_fewer None made running = tt
  runs_with_fewer (Some s) made running =
      phase_on s.phase link s v w made (goes_on_with_fewer s.number) (λ dumped b0 pairs wanted withheld there. inl (less_back (msg.Reply s.number b0 pairs wanted withheld) there)) running

  fewer : IsPaired link a b out back → IsPaired link a b out_after back_after
  fewer p = record {
    starter = p.starter;
    peer = p.peer;
    made_a = p.made_a;
    made_b = p.made_b;
    valid_out = record {
      replies = λ n b0 pairs wanted withheld there. p.valid_out.replies n b0 pairs wanted withheld (less_out (msg.Reply n b0 pairs wanted withheld) there);
      pushes = λ n pairs there. p.valid_out.pushes n pairs (less_out (msg.Push n pairs) there);
    };
    valid_back = record {
      replies = λ n b0 pairs wanted withheld there. p.valid_back.replies n b0 pairs wanted withheld (less_back (msg.Reply n b0 pairs wanted withheld) there);
      pushes = λ n pairs there. p.valid_back.pushes n pairs (less_back (msg.Push n pairs) there);
    };
    numbered = p.numbered;
    given = record {
      dumps = λ n rows there. p.given.dumps n rows (less_out (msg.Dump n rows) there);
      pushes = λ n pairs there. p.given.pushes n pairs (less_out (msg.Push n pairs) there);
      replies = λ n b0 pairs wanted withheld there. p.given.replies n b0 pairs wanted withheld (less_back (msg.Reply n b0 pairs wanted withheld) there);
      acks = λ n there. p.given.acks n (less_back (msg.Ack n) there);
      replies_taken = p.given.replies_taken;
      pushes_taken = p.given.pushes_taken;
      finished = p.given.finished;
    };
    running = runs_with_fewer (session_on a.store.sessions link) p.made_a p.running;
    finished =
        finished_stay link a.store.sessions.last (session_on a.store.sessions link) (session_on a.store.sessions link) v w a.store.done p.made_a
        (λ n upto below. goes_on_with_fewer n) (λ n upto below. below) (record { given = p.given; running = p.running; finished = p.finished });
  }

-- ---- what a turn makes of a trace and of what is on its way

trace_after : (t : Trace) (item : Item) (journal : List JournalEntry) (front : IsFront t.journal journal)
    → (let after : Trace = record { journal = journal; makers = t.makers ++ replicate (length journal - length t.journal) item } in after ≡ with_made t item front.more)
trace_after t item journal front =
    let count : length journal - length t.journal ≡ length front.more = omega (arith, ap length front.is, length-append t.journal front.more) in
    ap (λ n. let after : Trace = record { journal = journal; makers = t.makers ++ replicate n item } in after) count
    ∙ ap (λ j. let after : Trace = record { journal = j; makers = t.makers ++ replicate (length front.more) item } in after) front.is

made_after : (a : TracedStore) (item : Item) → length a.makers ≡ length a.store.journal → length (traced_step a item).makers ≡ length (traced_step a item).store.journal
made_after a item made =
    let front = journals_grow a.store item in
    subst (λ (t : Trace). length t.makers ≡ length t.journal) (sym (trace_after (trace_of a) item (store_step a.store item).0.journal front)) (length-made (trace_of a) item front.more made)

valid_after : StaysOrderly → (link : ℕ) (a : TracedStore) (before after : OnWay) (item : Item) → IsNotBefore a.store.moment item → IsOrderly a.store
    → ComesOf before after a.store.me link (store_step a.store item).1 → CarryValid before → CarryValid after
valid_after orderly link a before after item later is comes valid = record {
  replies = λ n b0 pairs wanted withheld there.
      elim (comes (msg.Reply n b0 pairs wanted withheld) there) [
        | inl old ↦ valid.replies n b0 pairs wanted withheld old
        | inr now ↦ orderly.replies a.store item (first_link_port + link) link n b0 pairs wanted withheld later is now
      ];
  pushes = λ n pairs there.
      elim (comes (msg.Push n pairs) there) [
        | inl old ↦ valid.pushes n pairs old
        | inr now ↦ orderly.pushes a.store item (first_link_port + link) link n pairs later is now
      ];
}

-- ---- the starter

module _ (flooded : FloodsAreFloods) (link : ℕ) (a b : TracedStore) (out back after : OnWay) (item : Item) (p : IsPaired link a b out back) (brought : IsBrought link back item) where
  tied_before : AreTied link a.store.sessions.last (session_on a.store.sessions link) a.store.done (before_turn a (trace_of b) out back)
  tied_before = record { given = p.given; running = p.running; finished = p.finished }

  -- the number of the session that runs was given
  number_given : (u : Session) → session_on a.store.sessions link ≡ Some u → u.number ≤ a.store.sessions.last
  number_given u found = found_given a.store.sessions.last link u a.store.sessions.running p.numbered.given found

  abbrev Turns : Item → Change → Type 0
  Turns i change = ComesOf out after a.store.me link (turn_sends a.store i change) → StarterTurned link a (trace_of b) i after back (turned a.store i change)

  abbrev FrontTurns : Item → Change → Type 0
  FrontTurns i change = IsFront a.store.journal (written a.store i change).journal → (turned a.store i change).sessions.last < 2 ^ 64 - 1 → Turns i change

  takes_reply : (change : Change) → TakesReply link a.store item change → FrontTurns item change
  takes_reply change r front within =
      let there = brought r.from (msg.Reply r.number r.b0 r.pairs r.wanted r.withheld) r.item_is in
      subst (λ i. Turns i change) (sym r.item_is)
      (subst (Turns (Net link r.from (msg.Reply r.number r.b0 r.pairs r.wanted r.withheld))) (sym r.change_is)
      (starter_replied flooded link a (trace_of b) out back after p.made_a p.made_b p.numbered tied_before r.session r.from r.number (number_given r.session r.runs.found) r.runs.found
      r.runs.number_is r.b0 r.pairs r.wanted r.withheld r.runs.phase_is there (p.valid_back.replies r.number r.b0 r.pairs r.wanted r.withheld there)))

  takes_ack : (change : Change) → TakesAck link a.store item change → FrontTurns item change
  takes_ack change r =
      subst (λ i. FrontTurns i change) (sym r.item_is)
      (subst (FrontTurns (Net link r.from (msg.Ack r.number))) (sym r.change_is)
      (λ front within comes.
      starter_acked flooded link a (trace_of b) out back after p.made_a p.made_b p.numbered tied_before r.session r.from r.number (number_given r.session r.runs.found) r.runs.found
      r.runs.number_is r.runs.phase_is (brought r.from (msg.Ack r.number) r.item_is) within comes front))

  starter_turns : (change : Change) → StarterChange link a.store item change → FrontTurns item change
  starter_turns change (inl keeps) front within comes =
      starter_kept flooded link a (trace_of b) out back after item p.made_a p.made_b p.numbered tied_before change within comes keeps front
  starter_turns change (inr (inl reply)) front within comes = takes_reply change reply front within comes
  starter_turns change (inr (inr ack)) front within comes = takes_ack change ack front within comes

  starter_turned : (store_step a.store item).0.sessions.last < 2 ^ 64 - 1 → ComesOf out after a.store.me link (store_step a.store item).1
      → IsFront a.store.journal (store_step a.store item).0.journal → StarterTurned link a (trace_of b) item after back (store_step a.store item).0
  unfolding store_step
  starter_turned within comes front = starter_turns (item_change a.store item) (item_at_starter link a.store item) front within comes

starter : FloodsAreFloods → StaysOrderly → (link : ℕ) (a b : TracedStore) (out back after : OnWay) (item : Item) → IsBrought link back item → IsNotBefore a.store.moment item
    → ComesOf out after a.store.me link (store_step a.store item).1 → (store_step a.store item).0.sessions.last < 2 ^ 64 - 1
    → IsPaired link a b out back → IsPaired link (traced_step a item) b after back
starter flooded orderly link a b out back after item brought later comes within p =
    let s = (store_step a.store item).0 in
    let turned = starter_turned flooded link a b out back after item p brought within comes (journals_grow a.store item) in
    let tied =
    subst (λ (t : Trace). AreTied link s.sessions.last (session_on s.sessions link) s.done (record { a = t; b = trace_of b; out = after; back = back }))
    (sym (trace_after (trace_of a) item s.journal turned.front)) turned.tied in
    record {
      starter = orderly.goes_on a.store item later p.starter;
      peer = p.peer;
      made_a = made_after a item p.made_a;
      made_b = p.made_b;
      valid_out = valid_after orderly link a out after item later p.starter comes p.valid_out;
      valid_back = p.valid_back;
      numbered = numbered_after_turn a.store item p.numbered;
      given = tied.given;
      running = tied.running;
      finished = tied.finished;
    }

-- ---- the peer

module _ (flooded : FloodsAreFloods) (link : ℕ) (a b : TracedStore) (out back after : OnWay) (item : Item) (p : IsPaired link a b out back) (brought : IsBrought link out item) where
  tied_so_far : AreTied link a.store.sessions.last (session_on a.store.sessions link) a.store.done (before_turn a (trace_of b) out back)
  tied_so_far = record { given = p.given; running = p.running; finished = p.finished }

  abbrev PeerTurns : Item → Change → Type 0
  PeerTurns i change =
      IsFront b.store.journal (written b.store i change).journal → ComesOf back after b.store.me link (turn_sends b.store i change)
      → PeerTurned link a b i out after (turned b.store i change)

  takes_dump : (change : Change) → TakesDump link b.store item change → PeerTurns item change
  takes_dump change r =
      subst (λ i. PeerTurns i change) (sym r.item_is)
      (subst (PeerTurns (Net link r.from (msg.Dump r.number r.rows))) (sym r.change_is)
      (λ front comes.
      peer_dumped flooded link a b out back after p.made_a tied_so_far r.from r.number r.rows (brought r.from (msg.Dump r.number r.rows) r.item_is) comes front))

  takes_push : (change : Change) → TakesPush link b.store item change → PeerTurns item change
  takes_push change r =
      let there = brought r.from (msg.Push r.number r.pairs) r.item_is in
      subst (λ i. PeerTurns i change) (sym r.item_is)
      (subst (PeerTurns (Net link r.from (msg.Push r.number r.pairs))) (sym r.change_is)
      (λ front comes. peer_pushed flooded link a b out back after p.made_a tied_so_far r.from r.number r.pairs there (p.valid_out.pushes r.number r.pairs there) comes))

  peer_turns : (change : Change) → PeerChange link b.store item change → PeerTurns item change
  peer_turns change (inl keeps) front comes = peer_kept flooded link a b out back after p.made_a tied_so_far item change keeps comes front
  peer_turns change (inr (inl dump)) front comes = takes_dump change dump front comes
  peer_turns change (inr (inr push)) front comes = takes_push change push front comes

  peer_turned : ComesOf back after b.store.me link (store_step b.store item).1 → IsFront b.store.journal (store_step b.store item).0.journal
      → PeerTurned link a b item out after (store_step b.store item).0
  unfolding store_step
  peer_turned comes front = peer_turns (item_change b.store item) (item_at_peer link b.store item) front comes

peer : FloodsAreFloods → StaysOrderly → (link : ℕ) (a b : TracedStore) (out back after : OnWay) (item : Item) → IsBrought link out item → IsNotBefore b.store.moment item
    → ComesOf back after b.store.me link (store_step b.store item).1 → IsPaired link a b out back → IsPaired link a (traced_step b item) out after
peer flooded orderly link a b out back after item brought later comes p =
    let s = (store_step b.store item).0 in
    let turned = peer_turned flooded link a b out back after item p brought comes (journals_grow b.store item) in
    let tied =
    subst (λ (t : Trace). AreTied link a.store.sessions.last (session_on a.store.sessions link) a.store.done (record { a = trace_of a; b = t; out = out; back = after }))
    (sym (trace_after (trace_of b) item s.journal turned.front)) turned.tied in
    record {
      starter = p.starter;
      peer = orderly.goes_on b.store item later p.peer;
      made_a = p.made_a;
      made_b = made_after b item p.made_b;
      valid_out = p.valid_out;
      valid_back = valid_after orderly link b back after item later p.peer comes p.valid_back;
      numbered = p.numbered;
      given = tied.given;
      running = tied.running;
      finished = tied.finished;
    }

pub stay_paired : StaysOrderly → StaysPaired
stay_paired orderly = record { starts = starts orderly; fewer = fewer; starter = starter floods_are_floods orderly; peer = peer floods_are_floods orderly }
