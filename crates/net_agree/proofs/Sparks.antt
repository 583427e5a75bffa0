-- What a Spark hears and sends: its own messages, each to the port of its link, and news of the neighbours that it heard; no ticks.
use Rattle.std.proofs.Common.{◌≡◌, ℕ, ◌+◌, List, [], ◌∷◌, Bool, true, false, not, ◌&&◌, Option, Some, None, map, if◌then◌else◌, refl, sym, subst}
use Rattle.std.specs.Prelude.{nat_le}
use Rattle.std.specs.Option.{option_map_or}
use Rattle.std.specs.List.{Contains, AllByRecursion, flat_map}
use Rattle.std.proofs.lemmas.Bool.{eqb-true}
use Rattle.std.proofs.lemmas.List.Elements.{All-contains, All-from_recursion}
use Rattle.std.proofs.lemmas.Option.{none-some, same_Some}
use Rattle.or_base.specs.declared.item.Item.{Item}
use Rattle.or_base.specs.declared.item.Item.TheVariants.{LinkUp, LinkDown, Tick, Net, NeighbourUp, NeighbourDown, PeerUp, Restart as Restarts}
use Rattle.or_base.specs.declared.message.Msg.{Msg}
use Rattle.or_base.specs.declared.message.Msg.TheVariants.{Hello, Handshake as HandshakeMsg, Heartbeat as HeartbeatMsg, Flood, Dump, Reply, Push, Ack}
use Rattle.or_actor.specs.declared.link_end.LinkEnd.{LinkEnd}
use Rattle.or_actor.specs.declared.output.Output.{Output}
use Rattle.or_actor.specs.declared.output.Output.TheVariants.{To}
use Rattle.or_actor.specs.Ports.{link_monitor_port, first_link_port}
use Rattle.spark_fsm.specs.declared.event.Event.{Event}
use Rattle.spark_fsm.specs.declared.event.Event.TheVariants.{Handshake, HandshakeBad, Heartbeat}
use Rattle.spark_fsm.specs.declared.state.State.{State}
use Rattle.spark_fsm.specs.declared.state.State.TheVariants.{Idle, Warm, Negotiate, Established, Restart}
use Rattle.spark_fsm.specs.Next.{next, is_moved_by, is_same_state}
use Rattle.spark_node.specs.declared.neighbour.Neighbour.{Neighbour}
use Rattle.spark_node.specs.declared.neighbour.HeardNode.{HeardNode}
use Rattle.spark_node.specs.declared.link.SparkLink.{SparkLink}
use Rattle.spark_node.specs.Spark.{SparkState, Outcome, over, tell_up, tell_down, told_on_entry, hello_back, sent_at_tick, time_of, unheard, enter, renews, happen, and_send, take_hello, hello_event, take_handshake, is_interface_of, take_message, expire, take_tick, begin_anew, down_link, is_for, while_up, come_up, link_turn, moment_after, spark_step}
use Rattle.kv_agree.proofs.Lists.{all_joined}

-- the message is one of Sparks
abbrev pub is_of_spark : Msg → Bool
is_of_spark (Hello interface heard restarting) = true
is_of_spark (HandshakeMsg interface done) = true
is_of_spark HeartbeatMsg = true
is_of_spark (Flood passed pairs) = false
is_of_spark (Dump session digest) = false
is_of_spark (Reply session b0 pairs wanted withheld) = false
is_of_spark (Push session pairs) = false
is_of_spark (Ack session) = false

-- the item is such a message over the link of the port, or news of a node that the link may have, or neither a message nor news nor a tick
abbrev pub IsSparkItem : (ℕ → List ℕ → Type 0) → ℕ → Item → Type 0
IsSparkItem J port (Net link from msg) = (port ≡ first_link_port + link) × (is_of_spark msg ≡ true)
IsSparkItem J port (NeighbourUp link peer peer_if) = J link peer
IsSparkItem J port (PeerUp link peer) = ⊥
IsSparkItem J port (Tick at) = ⊥
IsSparkItem J port _ = Unit {0}

abbrev pub IsOfSpark : (ℕ → List ℕ → Type 0) → Output → Type 0
IsOfSpark J (To port item) = IsSparkItem J port item

-- what was heard on a link is a node that the link may have
abbrev pub Hears : (ℕ → List ℕ → Type 0) → SparkLink → Type 0
Hears J l = (n : Neighbour) (p : HeardNode) → l.neighbour ≡ Some n → n.peer ≡ Some p → J l.end.link p.name

-- the item brings messages of no other node
abbrev pub IsFromOnly : (ℕ → List ℕ → Type 0) → Item → Type 0
IsFromOnly J item = (link : ℕ) (from : List ℕ) (msg : Msg) → item ≡ Net link from msg → J link from

module _ (J : ℕ → List ℕ → Type 0) where
  abbrev AreOfSpark : List Output → Type 0
  AreOfSpark sent = AllByRecursion (IsOfSpark J) sent

  -- the peer is one that the link may have
  abbrev MayHear : LinkEnd → Option HeardNode → Type 0
  MayHear end peer = (p : HeardNode) → peer ≡ Some p → J end.link p.name

  -- what becomes of a neighbour, and what is sent, are as they may be
  abbrev IsFair : LinkEnd → Outcome → Type 0
  IsFair end o = MayHear end o.neighbour.peer × AreOfSpark o.sent

  -- so are a link and what is sent over it
  abbrev IsFairTurn : SparkLink × List Output → Type 0
  IsFairTurn t = Hears J t.0 × AreOfSpark t.1

  own_if : (test : Bool) (x : Output) → IsOfSpark J x → AreOfSpark (if test then x ∷ [] else [])
  own_if true x own = (own, tt)
  own_if false x own = tt

  fair_if : (end : LinkEnd) (test : Bool) (o p : Outcome) → IsFair end o → IsFair end p → IsFair end (if test then o else p)
  fair_if end true o p first other = first
  fair_if end false o p first other = other

  fair_more : (end : LinkEnd) (o : Outcome) (more : List Output) → IsFair end o → AreOfSpark more → IsFair end (and_send o more)
  fair_more end o more first later = (first.0, all_joined (IsOfSpark J) o.sent more first.1 later)

  turn_if : (test : Bool) (t u : SparkLink × List Output) → (test ≡ true → IsFairTurn t) → IsFairTurn u → IsFairTurn (if test then t else u)
  turn_if true t u first other = first refl
  turn_if false t u first other = other

  -- ---- what becomes of a neighbour

  own_up : (end : LinkEnd) (peer : Option HeardNode) → MayHear end peer → AreOfSpark (tell_up end peer)
  own_up end None may = tt
  own_up end (Some p) may = (may p refl, tt)

  own_down : (end : LinkEnd) (n : Neighbour) → AreOfSpark (tell_down end n)
  own_down end n = own_if n.is_told (To link_monitor_port (NeighbourDown end.link)) tt

  own_entry : (end : LinkEnd) (state : State) (n : Neighbour) → MayHear end n.peer → AreOfSpark (told_on_entry end state n)
  own_entry end Idle n may = own_down end n
  own_entry end Warm n may = own_down end n
  own_entry end Negotiate n may = tt
  own_entry end Established n may = own_up end n.peer may
  own_entry end Restart n may = tt

  -- nothing was heard
  none_heard : (end : LinkEnd) → MayHear end None
  none_heard end p is = absurd (none-some p is)

  heard_entering : (end : LinkEnd) (now : ℕ) (state : State) (n : Neighbour) → MayHear end n.peer → MayHear end (enter now state n).peer
  heard_entering end now Idle n may = none_heard end
  heard_entering end now Warm n may = may
  heard_entering end now Negotiate n may = may
  heard_entering end now Established n may = may
  heard_entering end now Restart n may = may

  heard_renewed : (end : LinkEnd) (now : ℕ) (n : Neighbour) (test : Bool) → MayHear end n.peer → MayHear end (if test then record n { since = now } else n).peer
  heard_renewed end now n true may = may
  heard_renewed end now n false may = may

  fair_happen : (now : ℕ) (end : LinkEnd) (n : Neighbour) (event : Event) → MayHear end n.peer → IsFair end (happen now end n event)
  unfolding happen
  fair_happen now end n event may =
      fair_if end (is_moved_by n.state event) _ _
      (heard_entering end now (next n.state event) n may, own_entry end (next n.state event) n may)
      (heard_renewed end now n (renews n.state event) may, tt)

  own_hello_back : (me : List ℕ) (end : LinkEnd) (n : Neighbour) → AreOfSpark (hello_back me end n)
  own_hello_back me end n = ((refl, refl), own_if (is_same_state n.state Negotiate) (over me end (HandshakeMsg end.own_if false)) (refl, refl))

  own_at_tick : (me : List ℕ) (end : LinkEnd) (n : Neighbour) → AreOfSpark (sent_at_tick me end n)
  own_at_tick me end n = ((refl, refl), own_if (is_same_state n.state Established) (over me end HeartbeatMsg) (refl, refl))

  fair_hello : (me : List ℕ) (now : ℕ) (end : LinkEnd) (n : Neighbour) (from interface : List ℕ) (heard : Option (List ℕ)) (restarting : Bool) → J end.link from
      → IsFair end (take_hello me now end n from interface heard restarting)
  unfolding take_hello
  fair_hello me now end n from interface heard restarting here =
      let event = hello_event me heard restarting in
      let sender : HeardNode = record { name = from; interface = interface } in
      let known = record n { peer = Some sender } in
      let outcome = happen now end known event in
      let fair = fair_happen now end known event (λ p is. subst (λ (q : HeardNode). J end.link q.name) (same_Some sender p is) here) in
      fair_if end (is_moved_by n.state event) (and_send outcome (hello_back me end outcome.neighbour)) outcome
      (fair_more end outcome (hello_back me end outcome.neighbour) fair (own_hello_back me end outcome.neighbour)) fair

  fair_handshake : (me : List ℕ) (now : ℕ) (end : LinkEnd) (n : Neighbour) (interface : List ℕ) (done : Bool) → MayHear end n.peer
      → IsFair end (take_handshake me now end n interface done)
  unfolding take_handshake
  fair_handshake me now end n interface done may =
      let event = if is_interface_of n.peer interface then Handshake else HandshakeBad in
      let outcome = happen now end n event in
      let answer = over me end (HandshakeMsg end.own_if true) ∷ [] in
      let fair = fair_happen now end n event may in
      fair_if end (not done && is_same_state outcome.neighbour.state Established) (and_send outcome answer) outcome
      (fair_more end outcome answer fair ((refl, refl), tt)) fair

  fair_message : (me : List ℕ) (now : ℕ) (end : LinkEnd) (n : Neighbour) (from : List ℕ) (msg : Msg) → J end.link from → MayHear end n.peer
      → IsFair end (take_message me now end n from msg)
  fair_message me now end n from (Hello interface heard restarting) here may = fair_hello me now end n from interface heard restarting here
  fair_message me now end n from (HandshakeMsg interface done) here may = fair_handshake me now end n interface done may
  fair_message me now end n from HeartbeatMsg here may = fair_happen now end n Heartbeat may
  fair_message me now end n from _ here may = (may, tt)

  fair_timed : (now : ℕ) (end : LinkEnd) (n : Neighbour) (time : Option (ℕ × Event)) → MayHear end n.peer
      → IsFair end (option_map_or (λ (t : ℕ × Event). if nat_le (n.since + t.0) now then happen now end n t.1 else record { neighbour = n; sent = [] })
      time (record { neighbour = n; sent = [] }))
  fair_timed now end n None may = (may, tt)
  fair_timed now end n (Some t) may = fair_if end (nat_le (n.since + t.0) now) _ _ (fair_happen now end n t.1 may) (may, tt)

  fair_tick : (me : List ℕ) (now : ℕ) (end : LinkEnd) (n : Neighbour) → MayHear end n.peer → IsFair end (take_tick me now end n)
  unfolding take_tick
  fair_tick me now end n may =
      let outcome = expire now end n in
      fair_more end outcome (sent_at_tick me end outcome.neighbour) (fair_timed now end n (time_of n.state) may) (own_at_tick me end outcome.neighbour)

  -- ---- a turn

  -- a link of which a neighbour is known as it may be
  hears_one : (l : SparkLink) (n : Neighbour) → MayHear l.end n.peer → Hears J (record l { neighbour = Some n })
  hears_one l n may m p is peer = may p (subst (λ (k : Neighbour). k.peer ≡ Some p) (sym (same_Some n m is)) peer)

  hears_none : (end : LinkEnd) → Hears J (down_link end)
  hears_none end n p is peer = absurd (none-some n is)

  fair_if_up : (l : SparkLink) (outcome_of : Neighbour → Outcome) (neighbour : Option Neighbour) → l.neighbour ≡ neighbour → Hears J l
      → ((n : Neighbour) → MayHear l.end n.peer → IsFair l.end (outcome_of n))
      → IsFairTurn (option_map_or {U = SparkLink × List Output}
      (λ n. let outcome = outcome_of n in (record l { neighbour = Some outcome.neighbour }, outcome.sent)) neighbour (l, []))
  fair_if_up l outcome_of None is hears fair = (hears, tt)
  fair_if_up l outcome_of (Some n) is hears fair =
      let after = fair n (λ p peer. hears n p is peer) in
      (hears_one l (outcome_of n).neighbour after.0, after.1)

  fair_while_up : (l : SparkLink) (outcome_of : Neighbour → Outcome) → Hears J l → ((n : Neighbour) → MayHear l.end n.peer → IsFair l.end (outcome_of n))
      → IsFairTurn (while_up l outcome_of)
  fair_while_up l outcome_of hears fair = fair_if_up l outcome_of l.neighbour refl hears fair

  fair_come_up : (me : List ℕ) (l : SparkLink) (neighbour : Option Neighbour) → l.neighbour ≡ neighbour → Hears J l → IsFairTurn (come_up me l.end neighbour)
  fair_come_up me l None is hears = (hears_one l unheard (none_heard l.end), ((refl, refl), tt))
  fair_come_up me l (Some n) is hears = (hears_one l n (λ p peer. hears n p is peer), tt)

  own_go_down : (end : LinkEnd) (neighbour : Option Neighbour) → AreOfSpark (option_map_or (tell_down end) neighbour [])
  own_go_down end None = tt
  own_go_down end (Some n) = own_down end n

  fair_anew : (me : List ℕ) (end : LinkEnd) (n : Neighbour) → IsFair end (begin_anew me end n)
  fair_anew me end n = (none_heard end, ((refl, refl), own_down end n))

  -- a message for the link is of a node that it may have
  here_if : (end : LinkEnd) (link : ℕ) (from : List ℕ) → J link from → is_for end link ≡ true → J end.link from
  here_if end link from here same = subst (λ k. J k from) (sym (eqb-true end.link link same)) here

  fair_turn : (me : List ℕ) (now : ℕ) (l : SparkLink) (item : Item) → IsFromOnly J item → Hears J l → IsFairTurn (link_turn me now l item)
  unfolding link_turn
  fair_turn me now l (LinkUp link) brings hears = turn_if (is_for l.end link) _ _ (λ same. fair_come_up me l l.neighbour refl hears) (hears, tt)
  fair_turn me now l (LinkDown link) brings hears = turn_if (is_for l.end link) _ _ (λ same. (hears_none l.end, own_go_down l.end l.neighbour)) (hears, tt)
  fair_turn me now l (Tick at) brings hears = fair_while_up l _ hears (λ n may. fair_tick me now l.end n may)
  fair_turn me now l Restarts brings hears = fair_while_up l _ hears (λ n may. fair_anew me l.end n)
  fair_turn me now l (Net link from msg) brings hears =
      turn_if (is_for l.end link) _ _
      (λ same. fair_while_up l _ hears (λ n may. fair_message me now l.end n from msg (here_if l.end link from (brings link from msg refl) same) may)) (hears, tt)
  fair_turn me now l _ brings hears = (hears, tt)

  hears_turned : (me : List ℕ) (now : ℕ) (item : Item) (links : List SparkLink) → IsFromOnly J item → AllByRecursion (Hears J) links
      → AllByRecursion (Hears J) (map (λ (t : SparkLink × List Output). t.0) (map (λ l. link_turn me now l item) links))
  hears_turned me now item [] brings hears = tt
  hears_turned me now item (l ∷ links) brings hears = ((fair_turn me now l item brings hears.0).0, hears_turned me now item links brings hears.1)

  own_turns : (me : List ℕ) (now : ℕ) (item : Item) (links : List SparkLink) → IsFromOnly J item → AllByRecursion (Hears J) links
      → AreOfSpark (flat_map (λ (t : SparkLink × List Output). t.1) (map (λ l. link_turn me now l item) links))
  own_turns me now item [] brings hears = tt
  own_turns me now item (l ∷ links) brings hears =
      all_joined (IsOfSpark J) (link_turn me now l item).1 _ (fair_turn me now l item brings hears.0).1 (own_turns me now item links brings hears.1)

  -- a Spark that hears whom its links may have still does after a turn
  pub spark_hears : (s : SparkState) (item : Item) → IsFromOnly J item → AllByRecursion (Hears J) s.links → AllByRecursion (Hears J) (spark_step s item).0.links
  unfolding spark_step
  spark_hears s item brings hears = hears_turned s.me (moment_after s.moment item) item s.links brings hears

  -- and all that it sends in a turn is of Sparks
  pub spark_sends : (s : SparkState) (item : Item) → IsFromOnly J item → AllByRecursion (Hears J) s.links → AllByRecursion (IsOfSpark J) (spark_step s item).1
  unfolding spark_step
  spark_sends s item brings hears = own_turns s.me (moment_after s.moment item) item s.links brings hears

-- ---- whoever it hears

abbrev pub Anybody : ℕ → List ℕ → Type 0
Anybody link peer = Unit {0}

hears_anybody : (links : List SparkLink) → AllByRecursion (Hears Anybody) links
hears_anybody [] = tt
hears_anybody (l ∷ links) = (λ n p is peer. tt, hears_anybody links)

pub spark_sends_own : (s : SparkState) (item : Item) → AllByRecursion (IsOfSpark Anybody) (spark_step s item).1
spark_sends_own s item = spark_sends Anybody s item (λ link from msg brings. tt) (hears_anybody s.links)

pub sent_by_spark : (s : SparkState) (item : Item) (port link : ℕ) (node : List ℕ) (msg : Msg) → Contains (spark_step s item).1 (To port (Net link node msg)) → is_of_spark msg ≡ true
sent_by_spark s item port link node msg sent =
    let own : IsOfSpark Anybody (To port (Net link node msg)) =
    All-contains (IsOfSpark Anybody) (spark_step s item).1 (To port (Net link node msg)) (All-from_recursion (IsOfSpark Anybody) (spark_step s item).1 (spark_sends_own s item)) sent in
    own.1
