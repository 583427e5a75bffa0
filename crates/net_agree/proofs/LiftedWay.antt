-- What stores have on its way over a link after a turn was so before, or the store that had the turn sent it.
use Rattle.std.proofs.Common.{◌≡◌, ℕ, ◌+◌, List, [], ◌∷◌, ◌++◌, Option, Some, None, Bool, true, false, ◌&&◌, ◌==◌, if◌then◌else◌, get_or, set, ◌⊎◌, inl, inr, refl, sym, ap, ◌∙◌, subst, arith}
use Rattle.std.specs.Prelude.{slice_get}
use Rattle.std.specs.Str.{bytes_eq}
use Rattle.std.specs.Option.{option_map_or}
use Rattle.std.specs.List.{Contains, flat_map}
use Rattle.std.proofs.lemmas.Bool.{and_parts, and_from, eq-eqb, eqb-true, false≢true}
use Rattle.std.proofs.lemmas.List.Elements.{Contains-append_cases, Contains-append_left, Contains-append_right}
use Rattle.std.proofs.lemmas.Slice.Eq.{bytes_eq-Decides}
use Rattle.or_base.specs.declared.item.Item.{Item}
use Rattle.or_base.specs.declared.item.Item.TheVariants.{Net}
use Rattle.or_base.specs.declared.item.Stamped.{Stamped}
use Rattle.or_base.specs.declared.message.Msg.{Msg}
use Rattle.or_base.proofs.Members.{Contains-cases, Contains-first, Contains-later}
use Rattle.or_actor.specs.declared.output.Output.{Output}
use Rattle.or_actor.specs.declared.output.Output.TheVariants.{To}
use Rattle.or_actor.specs.Ports.{first_link_port}
use Rattle.or_actor.specs.Steps.{TurnMade}
use Rattle.link_monitor.specs.LinkMonitor.{link_monitor_step}
use Rattle.prefix_manager.specs.PrefixManager.{prefix_manager_step}
use Rattle.decision_core.specs.Decision.{decision_step}
use Rattle.kv_store.specs.Store.{StoreState, store_step}
use Rattle.kv_agree.specs.Traced.{carried_by}
use Rattle.kv_agree.proofs.Lists.{contains_at}
use Rattle.net_link.specs.Link.{LinkState, link_step}
use Rattle.net_link.specs.Flow.{held_of, WasThere}
use Rattle.net_link.proofs.Flow.{links_make_nothing_up}
use Rattle.net_record.specs.declared.kinds.AnyModule.TheVariants.{Spark, LinkMonitor, PrefixManager, Store, Decision, Fib, Link}
use Rattle.net_record.specs.declared.part.Part.{Part}
use Rattle.net_record.specs.declared.part.Part.TheVariants.{Driver, Desk, Module}
use Rattle.net_record.specs.declared.actor.ActorState.{ActorState}
use Rattle.net_record.specs.declared.wire.Wire.{Wire}
use Rattle.net_record.specs.Wires.{lane_of}
use Rattle.net_record.specs.Kinds.{module_step}
use Rattle.net_record.specs.Actors.{store_of, part_step, actor_after, outputs_of}
use Rattle.net_record.specs.World.{WorldState, waiting, put, deliver, turn_of}
use Rattle.net_agree.specs.Lifted.{message_if, messages_in, link_of, held_on, on_way}
use Rattle.net_agree.proofs.LiftedLists.{set_gives, gives_at, gives_or, gives_both}
use Rattle.net_agree.proofs.LiftedSends.{sent_own}
use Rattle.net_agree.proofs.Advertisers.{told_no_message, link_monitor_sends, prefix_manager_sends, decision_sends}
use Rattle.net_agree.proofs.Sparks.{is_of_spark, Anybody, sent_by_spark}

-- ---- the message of an item

abbrev pub brought : ℕ → List ℕ → Item → List Msg
brought link node item = option_map_or (message_if link node) (carried_by item) []

abbrev brought_by : ℕ → List ℕ → Stamped → List Msg
brought_by link node s = brought link node s.item

message_is : (link : ℕ) (node : List ℕ) (l : ℕ) (from : List ℕ) (m msg : Msg) → Contains (message_if link node (record { link = l; from = from; msg = m })) msg → Net l from m ≡ Net link node msg
message_is link node l from m msg h = where_tested ((l == link) && bytes_eq from node) refl h where
  where_tested : (test : Bool) → ((l == link) && bytes_eq from node) ≡ test → Contains (if test then m ∷ [] else []) msg → Net l from m ≡ Net link node msg
  where_tested true e h =
      let parts = and_parts (l == link) (bytes_eq from node) e in
      elim (Contains-cases m [] msg h) [
        | inl same ↦ ap (λ n. Net n from m) (eqb-true l link parts.0) ∙ ap (λ n. Net link n m) ((bytes_eq-Decides from node).0 parts.1) ∙ ap (Net link node) same
        | inr later ↦ absurd (omega (arith, later.1))
      ]
  where_tested false e h = absurd (omega (arith, h.1))

pub brought_is : (link : ℕ) (node : List ℕ) (item : Item) (msg : Msg) → Contains (brought link node item) msg → item ≡ Net link node msg
brought_is link node (Net l from m) msg h = message_is link node l from m msg h
brought_is link node _ msg h = absurd (omega (arith, h.1))

message_here : (link : ℕ) (node : List ℕ) (msg : Msg) → Contains (message_if link node (record { link = link; from = node; msg = msg })) msg
message_here link node msg =
    subst (λ test. Contains (if test then msg ∷ [] else []) msg) (sym (and_from (link == link) (bytes_eq node node) (eq-eqb link link refl) ((bytes_eq-Decides node node).1 refl)))
    (Contains-first msg [])

brings : (link : ℕ) (node : List ℕ) (item : Item) (msg : Msg) → item ≡ Net link node msg → Contains (brought link node item) msg
brings link node item msg e = subst (λ i. Contains (brought link node i) msg) (sym e) (message_here link node msg)

-- a message that waits on a lane is on its way
pub way_waiting : (w : WorldState) (lane : ℕ) (s : Stamped) (link : ℕ) (node : List ℕ) (msg : Msg) → Contains (waiting w lane) s → s.item ≡ Net link node msg
    → Contains (on_way w link node) msg
way_waiting w lane s link node msg among e =
    Contains-append_left (flat_map (messages_in link node) w.lanes) (flat_map (λ (actor : ActorState). option_map_or (held_on link node) (link_of actor.part) []) w.actors) msg
    (gives_or (messages_in link node) [] w.lanes lane msg refl (contains_at (brought_by link node) (waiting w lane) s msg among (brings link node s.item msg e)))

-- ---- lanes

-- one of these outputs is the message
pub record IsAmong (outputs : List Output) (link : ℕ) (node : List ℕ) (msg : Msg) : Type 0 where
  pub port : ℕ
  pub among : Contains outputs (To port (Net link node msg))

put_gives : (link : ℕ) (node : List ℕ) (lanes : List (List Stamped)) (to : Option ℕ) (s : Stamped) (msg : Msg) → Contains (flat_map (messages_in link node) (put lanes to s)) msg
    → Contains (flat_map (messages_in link node) lanes) msg ⊎ Contains (brought link node s.item) msg
put_gives link node lanes None s msg h = inl h
put_gives link node lanes (Some lane) s msg h =
    elim (set_gives (messages_in link node) lanes lane (get_or lanes lane [] ++ s ∷ []) msg h) [
      | inl was ↦ inl was
      | inr now ↦
          elim (gives_both (brought_by link node) (get_or lanes lane []) (s ∷ []) msg now) [
            | inl here ↦ inl (gives_or (messages_in link node) [] lanes lane msg refl here)
            | inr last ↦ elim (Contains-append_cases (brought_by link node s) [] msg last) [ inl it ↦ inr it | inr none ↦ absurd (omega (arith, none.1)) ]
          ]
    ]

pub deliver_gives : (link : ℕ) (node : List ℕ) (wires : List Wire) (writer stamp : ℕ) (lanes : List (List Stamped)) (outputs : List Output) (msg : Msg)
    → Contains (flat_map (messages_in link node) (deliver wires writer stamp lanes outputs)) msg → Contains (flat_map (messages_in link node) lanes) msg ⊎ IsAmong outputs link node msg
deliver_gives link node wires writer stamp lanes [] msg h = inl h
deliver_gives link node wires writer stamp lanes (To port item ∷ outputs) msg h =
    let s : Stamped = record { stamp = stamp; item = item } in
    let to = lane_of wires writer port in
    elim (deliver_gives link node wires writer stamp (put lanes to s) outputs msg h) [
      | inl was ↦
          elim (put_gives link node lanes to s msg was) [
            | inl before ↦ inl before
            | inr it ↦ inr (record { port = port; among = subst (λ i. Contains (To port item ∷ outputs) (To port i)) (brought_is link node item msg it) (Contains-first (To port item) outputs) })
          ]
      | inr sent ↦ inr (record { port = sent.port; among = Contains-later (To port item) outputs (To sent.port (Net link node msg)) sent.among })
    ]

-- ---- what an actor holds back and sends

-- a link held the message back, or the item brings it
record IsOfLink (part : Part) (item : Item) (link : ℕ) (node : List ℕ) (msg : Msg) : Type 0 where
  pub state : LinkState
  pub is : link_of part ≡ Some state
  pub number : state.link ≡ link
  pub was : WasThere state item node msg

-- a store of the node sends it
pub record IsSentBy (part : Part) (item : Item) (link : ℕ) (node : List ℕ) (msg : Msg) : Type 0 where
  pub store : StoreState
  pub is : store_of part ≡ Some store
  pub me : store.me ≡ node
  pub sent : Contains (store_step store item).1 (To (first_link_port + link) (Net link node msg))

held_if : (test : Bool) (held : List Msg) (msg : Msg) → Contains (if test then held else []) msg → (test ≡ true) × Contains held msg
held_if true held msg h = (refl, h)
held_if false held msg h = absurd (omega (arith, h.1))

link_held : (part : Part) (state : LinkState) (link : ℕ) (node : List ℕ) (msg : Msg) → link_of part ≡ Some state → state.link ≡ link → Contains (held_of state node) msg
    → Contains (option_map_or (held_on link node) (link_of part) []) msg
link_held part state link node msg is number held =
    let here : Contains (held_on link node state) msg = subst (λ test. Contains (if test then held_of state node else []) msg) (sym (eq-eqb state.link link number)) held in
    subst (λ l. Contains (option_map_or (held_on link node) l []) msg) (sym is) here

part_holds : (part : Part) (lane : ℕ) (item : Item) (at link : ℕ) (node : List ℕ) (msg : Msg)
    → Contains (option_map_or (held_on link node) (link_of (part_step part lane item at).0) []) msg → IsOfLink part item link node msg
unfolding part_step module_step
part_holds Driver lane item at link node msg h = absurd (omega (arith, h.1))
part_holds (Desk d) lane item at link node msg h = absurd (omega (arith, h.1))
part_holds (Module (Link s)) lane item at link node msg h =
    let after = (link_step s item).0 in
    let held = held_if (after.link == link) (held_of after node) msg h in
    let law = links_make_nothing_up s item in
    record { state = s; is = refl; number = sym law.link ∙ eqb-true after.link link held.0; was = law.held node msg held.1 }
part_holds (Module _) lane item at link node msg h = absurd (omega (arith, h.1))

part_sends : (part : Part) (lane : ℕ) (item : Item) (at port link : ℕ) (node : List ℕ) (msg : Msg) → is_of_spark msg ≡ false → Contains (part_step part lane item at).1 (To port (Net link node msg))
    → IsSentBy part item link node msg ⊎ IsOfLink part item link node msg
unfolding part_step module_step
part_sends Driver lane item at port link node msg stores h = absurd (omega (arith, h.1))
part_sends (Desk d) lane item at port link node msg stores h = absurd (omega (arith, h.1))
part_sends (Module (Spark s)) lane item at port link node msg stores h = absurd (false≢true (sym stores ∙ sent_by_spark s item port link node msg h))
part_sends (Module (LinkMonitor s)) lane item at port link node msg stores h =
    absurd (told_no_message Anybody (link_monitor_step s item).1 port link node msg (link_monitor_sends Anybody s item (λ l peer peer_if brings. tt)) h)
part_sends (Module (PrefixManager s)) lane item at port link node msg stores h =
    absurd (told_no_message Anybody (prefix_manager_step s item).1 port link node msg (prefix_manager_sends Anybody s item) h)
part_sends (Module (Decision s)) lane item at port link node msg stores h =
    absurd (told_no_message Anybody (decision_step s item).1 port link node msg (decision_sends Anybody s item) h)
part_sends (Module (Fib s)) lane item at port link node msg stores h = absurd (omega (arith, h.1))
part_sends (Module (Store s)) lane item at port link node msg stores h =
    let own = sent_own s item port link node msg h in
    inl (record { store = s; is = refl; me = sym own.0; sent = subst (λ p. Contains (store_step s item).1 (To p (Net link node msg))) own.1 h })
part_sends (Module (Link s)) lane item at port link node msg stores h =
    let law = (links_make_nothing_up s item).sent port link node msg h in
    inr (record { state = s; is = refl; number = sym law.0; was = law.2 })

-- ---- a turn

-- an item that brings a message to a link names it
abbrev pub NamesLink : Part → Item → Type 0
NamesLink part item = (state : LinkState) → link_of part ≡ Some state → (l : ℕ) (from : List ℕ) (msg : Msg) → item ≡ Net l from msg → l ≡ state.link

module _ (w : WorldState) (reader : ℕ) (others : List Stamped) (actor : ActorState) (m : TurnMade) (waits : waiting w m.lane ≡ m.taken ∷ others)
    (there : slice_get w.actors reader ≡ Some actor) (names : NamesLink actor.part m.taken.item) (link : ℕ) (node : List ℕ) (msg : Msg) (stores : is_of_spark msg ≡ false) where
  abbrev held_by : ActorState → List Msg
  held_by a = option_map_or (held_on link node) (link_of a.part) []

  on_lanes : Contains (flat_map (messages_in link node) w.lanes) msg → Contains (on_way w link node) msg
  on_lanes h = Contains-append_left (flat_map (messages_in link node) w.lanes) (flat_map held_by w.actors) msg h

  by_actors : Contains (flat_map held_by w.actors) msg → Contains (on_way w link node) msg
  by_actors h = Contains-append_right (flat_map (messages_in link node) w.lanes) (flat_map held_by w.actors) msg h

  of_link : IsOfLink actor.part m.taken.item link node msg → Contains (on_way w link node) msg
  of_link l = was l.was where
    was : WasThere l.state m.taken.item node msg → Contains (on_way w link node) msg
    was (inl held) = by_actors (gives_at held_by w.actors reader actor msg there (link_held actor.part l.state link node msg l.is l.number held))
    was (inr (n, brings)) =
        let number : n ≡ link = names l.state l.is n node msg brings ∙ l.number in
        way_waiting w m.lane m.taken link node msg (subst (λ ss. Contains ss m.taken) (sym waits) (Contains-first m.taken others)) (brings ∙ ap (λ k. Net k node msg) number)

  left : Contains (messages_in link node others) msg → Contains (on_way w link node) msg
  left h =
      let all : Contains (messages_in link node (m.taken ∷ others)) msg = Contains-append_right (brought_by link node m.taken) (messages_in link node others) msg h in
      on_lanes (gives_or (messages_in link node) [] w.lanes m.lane msg refl (subst (λ ss. Contains (messages_in link node ss) msg) (sym waits) all))

  -- What stores have on its way after a turn was so before, or a store of the node sent it in this turn.
  pub way_after : Contains (on_way (turn_of w reader others actor m) link node) msg → Contains (on_way w link node) msg ⊎ IsSentBy actor.part m.taken.item link node msg
  unfolding turn_of actor_after outputs_of
  way_after h =
      elim (Contains-append_cases (flat_map (messages_in link node) (deliver w.wires reader m.stamp (set w.lanes m.lane others) (outputs_of actor m)))
      (flat_map held_by (set w.actors reader (actor_after actor m))) msg h) [
        | inl lanes ↦
            elim (deliver_gives link node w.wires reader m.stamp (set w.lanes m.lane others) (outputs_of actor m) msg lanes) [
              | inl was ↦ elim (set_gives (messages_in link node) w.lanes m.lane others msg was) [ inl before ↦ inl (on_lanes before) | inr rest ↦ inl (left rest) ]
              | inr sent ↦ elim (part_sends actor.part m.lane m.taken.item m.at sent.port link node msg stores sent.among) [ inl by_store ↦ inr by_store | inr by_link ↦ inl (of_link by_link) ]
            ]
        | inr held ↦
            elim (set_gives held_by w.actors reader (actor_after actor m) msg held) [
              | inl before ↦ inl (by_actors before)
              | inr now ↦ inl (of_link (part_holds actor.part m.lane m.taken.item m.at link node msg now))
            ]
      ]
