-- What Spark sends over a link or tells of it names that link, whose number is small.
use Rattle.std.proofs.Common.{◌≡◌, ◌<◌, ℕ, ◌+◌, List, [], ◌∷◌, ◌++◌, Bool, true, false, not, Option, Some, None, ◌&&◌, map, nat_le, if◌then◌else◌, refl}
use Rattle.std.specs.List.{flat_map, All}
use Rattle.std.specs.Option.{option_map_or}
use Rattle.std.proofs.lemmas.Bool.{lt-ltb}
use Rattle.std.proofs.lemmas.List.{with_items_is}
use Rattle.std.proofs.lemmas.List.Elements.{All-head, All-tail, All-map}
use Rattle.std.proofs.lemmas.List.Folds.{list_all-append}
use Rattle.or_base.specs.declared.item.Item.{Item}
use Rattle.or_base.specs.declared.item.Item.TheVariants.{LinkUp, LinkDown, Tick, Net, NeighbourDown, Restart as Restarts}
use Rattle.or_base.specs.declared.message.Msg.{Msg}
use Rattle.or_base.specs.declared.message.Msg.TheVariants.{Hello, Handshake as HandshakeMsg, Heartbeat as HeartbeatMsg}
use Rattle.or_actor.specs.declared.link_end.LinkEnd.{LinkEnd}
use Rattle.or_actor.specs.declared.output.Output.{Output}
use Rattle.or_actor.specs.declared.output.Output.TheVariants.{To}
use Rattle.or_actor.specs.Ports.{link_monitor_port}
use Rattle.or_actor.specs.Fits.{link_number_end, sends_small_link, is_link_number, have_small_links}
use Rattle.spark_fsm.specs.declared.event.Event.{Event}
use Rattle.spark_fsm.specs.declared.event.Event.TheVariants.{Handshake, HandshakeBad}
use Rattle.spark_fsm.specs.declared.state.State.{State}
use Rattle.spark_fsm.specs.declared.state.State.TheVariants.{Idle, Warm, Negotiate, Established, Restart}
use Rattle.spark_fsm.specs.Next.{next, is_moved_by, is_same_state}
use Rattle.spark_node.specs.declared.neighbour.Neighbour.{Neighbour}
use Rattle.spark_node.specs.declared.neighbour.HeardNode.{HeardNode}
use Rattle.spark_node.specs.declared.link.SparkLink.{SparkLink}
use Rattle.spark_node.specs.Spark.{SparkState, Outcome, down_link, over, hello, tell_up, tell_down, told_on_entry, hello_back, sent_at_tick, time_of, happen, and_send, take_hello, hello_event, take_handshake, is_interface_of, take_message, expire, take_tick, begin_anew, unheard, is_for, while_up, come_up, link_turn, moment_after, spark_step}

-- ---- over lists of outputs

small_first : (x : Output) (xs : List Output) → sends_small_link x ≡ true → have_small_links xs ≡ true → have_small_links (x ∷ xs) ≡ true
small_first x xs hx hxs = rw hx hxs

small_both : (xs ys : List Output) → have_small_links xs ≡ true → have_small_links ys ≡ true → have_small_links (xs ++ ys) ≡ true
small_both xs ys hx hy = rw (list_all-append sends_small_link xs ys, hx) hy

small_one_if : (test : Bool) (x : Output) → sends_small_link x ≡ true → have_small_links (if test then x ∷ [] else []) ≡ true
small_one_if true x hx = rw hx refl
small_one_if false x hx = refl

small_outcome_if : (test : Bool) (o p : Outcome) → have_small_links o.sent ≡ true → have_small_links p.sent ≡ true
    → have_small_links (if test then o else p).sent ≡ true
small_outcome_if true o p ho hp = ho
small_outcome_if false o p ho hp = hp

small_turn_if : (test : Bool) (t u : SparkLink × List Output) → have_small_links t.1 ≡ true → have_small_links u.1 ≡ true
    → have_small_links (if test then t else u).1 ≡ true
small_turn_if true t u ht hu = ht
small_turn_if false t u ht hu = hu

-- ---- what is sent of a link with a small number

small_up : (end : LinkEnd) (peer : Option HeardNode) → is_link_number end.link ≡ true → have_small_links (tell_up end peer) ≡ true
small_up end None h = refl
small_up end (Some p) h = rw h refl

small_down : (end : LinkEnd) (n : Neighbour) → is_link_number end.link ≡ true → have_small_links (tell_down end n) ≡ true
small_down end n h = small_one_if n.is_told (To link_monitor_port (NeighbourDown end.link)) h

small_entry : (end : LinkEnd) (state : State) (n : Neighbour) → is_link_number end.link ≡ true → have_small_links (told_on_entry end state n) ≡ true
small_entry end Idle n h = small_down end n h
small_entry end Warm n h = small_down end n h
small_entry end Negotiate n h = refl
small_entry end Established n h = small_up end n.peer h
small_entry end Restart n h = refl

small_hello_back : (me : List ℕ) (end : LinkEnd) (n : Neighbour) → is_link_number end.link ≡ true → have_small_links (hello_back me end n) ≡ true
small_hello_back me end n h =
    small_first (over me end (hello end n)) (if is_same_state n.state Negotiate then over me end (HandshakeMsg end.own_if false) ∷ [] else []) h
    (small_one_if (is_same_state n.state Negotiate) (over me end (HandshakeMsg end.own_if false)) h)

small_at_tick : (me : List ℕ) (end : LinkEnd) (n : Neighbour) → is_link_number end.link ≡ true → have_small_links (sent_at_tick me end n) ≡ true
small_at_tick me end n h =
    small_first (over me end (hello end n)) (if is_same_state n.state Established then over me end HeartbeatMsg ∷ [] else []) h
    (small_one_if (is_same_state n.state Established) (over me end HeartbeatMsg) h)

-- ---- events

small_happen : (now : ℕ) (end : LinkEnd) (n : Neighbour) (event : Event) → is_link_number end.link ≡ true → have_small_links (happen now end n event).sent ≡ true
unfolding happen
small_happen now end n event h = small_outcome_if (is_moved_by n.state event) _ _ (small_entry end (next n.state event) n h) refl

small_and_send_if : (test : Bool) (o : Outcome) (more : List Output) → have_small_links o.sent ≡ true → have_small_links more ≡ true
    → have_small_links (if test then and_send o more else o).sent ≡ true
small_and_send_if true o more ho hm = small_both o.sent more ho hm
small_and_send_if false o more ho hm = ho

small_take_hello : (me : List ℕ) (now : ℕ) (end : LinkEnd) (n : Neighbour) (from interface : List ℕ) (heard : Option (List ℕ)) (restarting : Bool)
    → is_link_number end.link ≡ true → have_small_links (take_hello me now end n from interface heard restarting).sent ≡ true
unfolding take_hello
small_take_hello me now end n from interface heard restarting h =
    let event = hello_event me heard restarting in
    let known = record n { peer = Some (record { name = from; interface = interface }) } in
    let outcome = happen now end known event in
    small_and_send_if (is_moved_by n.state event) outcome (hello_back me end outcome.neighbour) (small_happen now end known event h)
    (small_hello_back me end outcome.neighbour h)

small_take_handshake : (me : List ℕ) (now : ℕ) (end : LinkEnd) (n : Neighbour) (interface : List ℕ) (done : Bool)
    → is_link_number end.link ≡ true → have_small_links (take_handshake me now end n interface done).sent ≡ true
unfolding take_handshake
small_take_handshake me now end n interface done h =
    let event = if is_interface_of n.peer interface then Handshake else HandshakeBad in
    let outcome = happen now end n event in
    small_and_send_if (not done && is_same_state outcome.neighbour.state Established) outcome (over me end (HandshakeMsg end.own_if true) ∷ [])
    (small_happen now end n event h) (small_first (over me end (HandshakeMsg end.own_if true)) [] h refl)

small_take_message : (me : List ℕ) (now : ℕ) (end : LinkEnd) (n : Neighbour) (from : List ℕ) (msg : Msg)
    → is_link_number end.link ≡ true → have_small_links (take_message me now end n from msg).sent ≡ true
small_take_message me now end n from (Hello interface heard restarting) h = small_take_hello me now end n from interface heard restarting h
small_take_message me now end n from (HandshakeMsg interface done) h = small_take_handshake me now end n interface done h
small_take_message me now end n from HeartbeatMsg h = small_happen now end n _ h
small_take_message me now end n from _ h = refl

small_timed : (now : ℕ) (end : LinkEnd) (n : Neighbour) (time : Option (ℕ × Event)) → is_link_number end.link ≡ true
    → have_small_links (option_map_or (λ (t : ℕ × Event). if nat_le (n.since + t.0) now then happen now end n t.1 else record { neighbour = n; sent = [] })
    time (record { neighbour = n; sent = [] })).sent ≡ true
small_timed now end n None h = refl
small_timed now end n (Some t) h = small_outcome_if (nat_le (n.since + t.0) now) _ _ (small_happen now end n t.1 h) refl

small_expire : (now : ℕ) (end : LinkEnd) (n : Neighbour) → is_link_number end.link ≡ true → have_small_links (expire now end n).sent ≡ true
small_expire now end n h = small_timed now end n (time_of n.state) h

small_take_tick : (me : List ℕ) (now : ℕ) (end : LinkEnd) (n : Neighbour) → is_link_number end.link ≡ true → have_small_links (take_tick me now end n).sent ≡ true
unfolding take_tick
small_take_tick me now end n h =
    let outcome = expire now end n in
    small_both outcome.sent (sent_at_tick me end outcome.neighbour) (small_expire now end n h) (small_at_tick me end outcome.neighbour h)

small_begin_anew : (me : List ℕ) (end : LinkEnd) (n : Neighbour) → is_link_number end.link ≡ true → have_small_links (begin_anew me end n).sent ≡ true
small_begin_anew me end n h = small_first (over me end (Hello end.own_if None true)) (tell_down end n) h (small_down end n h)

-- ---- a turn

small_if_up : (l : SparkLink) (outcome_of : Neighbour → Outcome) (neighbour : Option Neighbour) → ((n : Neighbour) → have_small_links (outcome_of n).sent ≡ true)
    → have_small_links (option_map_or {U = SparkLink × List Output}
    (λ n. let outcome = outcome_of n in (record l { neighbour = Some outcome.neighbour }, outcome.sent)) neighbour (l, [])).1 ≡ true
small_if_up l outcome_of None small = refl
small_if_up l outcome_of (Some n) small = small n

small_while_up : (l : SparkLink) (outcome_of : Neighbour → Outcome) → ((n : Neighbour) → have_small_links (outcome_of n).sent ≡ true)
    → have_small_links (while_up l outcome_of).1 ≡ true
small_while_up l outcome_of small = small_if_up l outcome_of l.neighbour small

small_come_up : (me : List ℕ) (end : LinkEnd) (neighbour : Option Neighbour) → is_link_number end.link ≡ true → have_small_links (come_up me end neighbour).1 ≡ true
small_come_up me end None h = small_first (over me end (hello end unheard)) [] h refl
small_come_up me end (Some n) h = refl

small_go_down : (end : LinkEnd) (neighbour : Option Neighbour) → is_link_number end.link ≡ true → have_small_links (option_map_or (tell_down end) neighbour []) ≡ true
small_go_down end None h = refl
small_go_down end (Some n) h = small_down end n h

small_link_turn : (me : List ℕ) (now : ℕ) (l : SparkLink) (item : Item) → is_link_number l.end.link ≡ true → have_small_links (link_turn me now l item).1 ≡ true
unfolding link_turn
small_link_turn me now l (LinkUp link) h = small_turn_if (is_for l.end link) _ _ (small_come_up me l.end l.neighbour h) refl
small_link_turn me now l (LinkDown link) h = small_turn_if (is_for l.end link) _ _ (small_go_down l.end l.neighbour h) refl
small_link_turn me now l (Tick at) h = small_while_up l _ (λ n. small_take_tick me now l.end n h)
small_link_turn me now l Restarts h = small_while_up l _ (λ n. small_begin_anew me l.end n h)
small_link_turn me now l (Net link from msg) h = small_turn_if (is_for l.end link) _ _ (small_while_up l _ (λ n. small_take_message me now l.end n from msg h)) refl
small_link_turn me now l _ h = refl

-- the number of the link is small
abbrev pub IsSmall : SparkLink → Type 0
IsSmall l = l.end.link < link_number_end

-- what the turns of these links send
abbrev sent_of : List ℕ → ℕ → Item → List SparkLink → List Output
sent_of me now item links = flat_map (λ (t : SparkLink × List Output). t.1) (map (λ l. link_turn me now l item) links)

small_turns : (me : List ℕ) (now : ℕ) (item : Item) (links : List SparkLink) → All IsSmall links → have_small_links (sent_of me now item links) ≡ true
small_turns me now item [] small = refl
small_turns me now item (l ∷ links) small =
    small_both (link_turn me now l item).1 (sent_of me now item links)
    (small_link_turn me now l item (lt-ltb l.end.link link_number_end (All-head IsSmall l links small)))
    (small_turns me now item links (All-tail IsSmall l links small))

-- the links have small numbers, and so have those of all that is sent
pub small_step : (s : SparkState) (item : Item) → All IsSmall s.links → have_small_links (spark_step s item).1 ≡ true
unfolding spark_step
small_step s item small = small_turns s.me (moment_after s.moment item) item s.links small

-- links that are down have the numbers of the ends that they were made of
pub small_links : (ends : List LinkEnd) (links : List SparkLink) → links ≡ map down_link ends
    → All (λ (e : LinkEnd). e.link < link_number_end) ends → All IsSmall links
small_links ends links is small = rw is (All-map IsSmall down_link ends small)

-- what a step of the module cites
pub ruleset stepping = (small_step, with_items_is)
