-- In every world of a run a store's journal is what its node's Decision took, with what waits for Decision behind that.
use Rattle.std.proofs.Common.{◌≡◌, ℕ, zero, suc, ◌+◌, List, [], ◌∷◌, ◌++◌, Bool, true, Option, Some, None, map, get_or, set, length, refl, sym, ap, ◌∙◌}
use Rattle.std.specs.Prelude.{slice_get}
use Rattle.or_base.specs.declared.item.Stamped.{Stamped}
use Rattle.or_base.specs.declared.kind.Kind.{Kind}
use Rattle.or_base.specs.declared.kind.Kind.TheVariants.{Full}
use Rattle.or_actor.specs.declared.output.Output.{Output}
use Rattle.kv_store.specs.Store.{StoreState}
use Rattle.net_laboratory.specs.Scenario.{Laboratory}
use Rattle.net_laboratory.specs.Sound.{is_sound}
use Rattle.net_record.specs.declared.role.NodeModule.TheVariants.{Decision as DecisionRole}
use Rattle.net_record.specs.declared.role.Role.{Role}
use Rattle.net_record.specs.declared.role.Role.TheVariants.{Driver as DriverRole, Node, Link as LinkRole}
use Rattle.net_record.specs.declared.part.Part.{Part}
use Rattle.net_record.specs.declared.part.Part.TheVariants.{Driver, Desk, Module}
use Rattle.net_record.specs.declared.phase.Phase.{Phase}
use Rattle.net_record.specs.declared.actor.ActorState.{ActorState}
use Rattle.net_record.specs.Phases.{phases}
use Rattle.net_record.specs.Roles.{roles}
use Rattle.net_record.specs.Wires.{wires, lane_of}
use Rattle.net_record.specs.Actors.{actor_at, store_of, entries_of, new_part, new_actor, made_by, outputs_of, entry_counts, actor_after_settle, part_without_question, actor_without_question}
use Rattle.net_record.specs.Answers.{Giving, give, give_all, giving_of, desks_asked}
use Rattle.net_record.specs.World.{WorldState, start, waiting, turn, turn_of, turn_by, reader_of, issue, driver_clock, settle, greatest_clock}
use Rattle.net_record.specs.Run.{begin}
use Rattle.net_record.specs.Reached.{IsReached}
use Rattle.net_record.specs.Reached.IsReached.{starts, turns, settles}
use Rattle.net_record.proofs.Found.{entries_settled}
use Rattle.net_agree.specs.Routed.{IsRouted}
use Rattle.net_agree.proofs.Counted.{kept_reached}
use Rattle.net_agree.proofs.Routed.{runs_are_routed}
use Rattle.net_answers.proofs.FollowingRoles.{in_place, decision_among}
use Rattle.net_answers.proofs.FollowingLanes.{IsFeed, feed_writer, feed_driver}
use Rattle.net_answers.proofs.FollowingWay.{entries_on, way_other, way_start, AreNamed, named_deliver, named_taken, named_start}
use Rattle.net_answers.proofs.FollowingTurns.{had, IsFed, fed_turn}

-- ---- lanes with a name

named_of : (w : WorldState) (lane at : ℕ) (reader : ℕ) (items : List Stamped) (actor : Option ActorState) → waiting w lane ≡ items → AreNamed w.wires w.lanes
    → AreNamed (turn_by w lane at reader items actor).wires (turn_by w lane at reader items actor).lanes
unfolding turn_of
named_of w lane at reader [] actor front named = named
named_of w lane at reader (s ∷ others) None front named = named
named_of w lane at reader (s ∷ others) (Some actor) front named =
    let m = made_by w.actors actor lane at s in
    named_deliver w.wires reader m.stamp (set w.lanes lane others) (outputs_of actor m) (named_taken w.wires w.lanes lane s others front named)

named_turn : (w : WorldState) (lane at : ℕ) → AreNamed w.wires w.lanes → AreNamed (turn w lane at).wires (turn w lane at).lanes
unfolding turn
named_turn w lane at named = named_of w lane at (reader_of (slice_get w.wires lane)) (waiting w lane) (slice_get w.actors (reader_of (slice_get w.wires lane))) refl named

named_issue : (w : WorldState) (issues : List Output) → AreNamed w.wires w.lanes → AreNamed (issue w issues).wires (issue w issues).lanes
unfolding issue
named_issue w issues named = named_deliver w.wires 0 (driver_clock w.actors) w.lanes issues named

named_begin : (w : WorldState) (later : List Phase) → AreNamed w.wires w.lanes → AreNamed (begin w later).wires (begin w later).lanes
named_begin w [] named = named
named_begin w (phase ∷ later) named = named_issue w phase.issues named

named_settle : (moment : ℕ) (asked : List ℕ) (shows : Bool) (w : WorldState) → AreNamed w.wires w.lanes → AreNamed (settle moment asked shows w).wires (settle moment asked shows w).lanes
unfolding settle
named_settle moment asked shows w named = named

named_reached : (lab : Laboratory) {w : WorldState} {later : List Phase} → IsReached lab w later → AreNamed w.wires w.lanes
named_reached lab starts = named_begin (start lab) (phases lab) (named_start (wires (roles lab)) (length (wires (roles lab))))
named_reached lab (turns w phase later t before legal) = named_turn w t.lane t.at (named_reached lab before)
named_reached lab (settles w phase later before drained) =
    let asked = desks_asked phase.issues in
    named_begin (settle phase.moment asked phase.shows_routes w) later (named_settle phase.moment asked phase.shows_routes w (named_reached lab before))

-- ---- entries at the start and over a settle

new_entries : (kind : Kind) (role : Role) → entries_of (new_part kind role) ≡ []
new_entries kind DriverRole = refl
new_entries kind (Node DecisionRole node setup) = refl
new_entries kind (Node _ node setup) = refl
new_entries kind (LinkRole link a b) = refl

had_start : (kind : Kind) (all : List Role) (number : ℕ) → had (map (new_actor kind) all) number ≡ []
had_start kind [] number = refl
had_start kind (role ∷ all) zero = new_entries kind role
had_start kind (role ∷ all) (suc number) = had_start kind all number

had_settled : (clock : ℕ) (lengths : List ℕ) (actors : List ActorState) (number : ℕ) → had (map (actor_after_settle clock lengths) actors) number ≡ had actors number
had_settled clock lengths [] number = refl
had_settled clock lengths (actor ∷ actors) zero = entries_settled lengths actor.part
had_settled clock lengths (actor ∷ actors) (suc number) = had_settled clock lengths actors number

entries_without : (part : Part) → entries_of (part_without_question part) ≡ entries_of part
entries_without Driver = refl
entries_without (Desk d) = refl
entries_without (Module m) = refl

had_without : (actors : List ActorState) (n number : ℕ) → had (set actors n (actor_without_question (actor_at actors n))) number ≡ had actors number
had_without [] n number = refl
had_without (actor ∷ actors) zero zero = entries_without actor.part
had_without (actor ∷ actors) zero (suc number) = refl
had_without (actor ∷ actors) (suc n) zero = refl
had_without (actor ∷ actors) (suc n) (suc number) = had_without actors n number

had_given : (g : Giving) (n number : ℕ) → had (give g n).actors number ≡ had g.actors number
unfolding give
had_given g n number = had_without g.actors n number

had_all_given : (g : Giving) (numbers : List ℕ) (number : ℕ) → had (give_all g numbers).actors number ≡ had g.actors number
had_all_given g [] number = refl
had_all_given g (n ∷ numbers) number = had_all_given (give g n) numbers number ∙ had_given g n number

had_settle : (moment : ℕ) (asked : List ℕ) (shows : Bool) (w : WorldState) (number : ℕ) → had (settle moment asked shows w).actors number ≡ had w.actors number
unfolding settle
had_settle moment asked shows w number =
    let g = giving_of w.actors asked in
    had_settled (greatest_clock w.actors + 1) (entry_counts g.actors) g.actors number ∙ had_all_given (record { actors = w.actors; answers = [] }) asked number

lanes_settle : (moment : ℕ) (asked : List ℕ) (shows : Bool) (w : WorldState) → (settle moment asked shows w).lanes ≡ w.lanes
unfolding settle
lanes_settle moment asked shows w = refl

wires_settle : (moment : ℕ) (asked : List ℕ) (shows : Bool) (w : WorldState) → (settle moment asked shows w).wires ≡ w.wires
unfolding settle
wires_settle moment asked shows w = refl

-- ---- a run

module _ (lab : Laboratory) (sound : is_sound lab ≡ true) (store decision lane : ℕ) (f : IsFeed lab store decision lane) where
  abbrev Fed : WorldState → Type 0
  Fed w = IsFed w.actors w.lanes store decision lane

  full_kind : lab.kind ≡ Full
  full_kind =
      let p = in_place lab decision DecisionRole f.name f.their f.to in
      (decision_among lab.kind p.index p.is).0

  fed_start : Fed (start lab)
  fed_start =
      let all = roles lab in
      let count = length (wires all) in
      had_start lab.kind all store ∙ ap (λ es. es ++ []) (sym (had_start lab.kind all decision))
      ∙ ap (λ es. had (start lab).actors decision ++ es) (sym (way_start count lane))

  fed_issue : (w : WorldState) (issues : List Output) → w.wires ≡ wires (roles lab) → Fed w → Fed (issue w issues)
  unfolding issue
  fed_issue w issues wired before =
      before
      ∙ ap (λ items. had w.actors decision ++ entries_on items)
      (sym (way_other w.wires 0 (driver_clock w.actors) w.lanes issues lane
      (λ port e. feed_driver lab store decision lane f (sym (feed_writer lab store decision lane f 0 port (ap (λ ws. lane_of ws 0 port) (sym wired) ∙ e)).0))))

  fed_begin : (w : WorldState) (later : List Phase) → w.wires ≡ wires (roles lab) → Fed w → Fed (begin w later)
  fed_begin w [] wired before = before
  fed_begin w (phase ∷ later) wired before = fed_issue w phase.issues wired before

  fed_settle : (moment : ℕ) (asked : List ℕ) (shows : Bool) (w : WorldState) → Fed w → Fed (settle moment asked shows w)
  fed_settle moment asked shows w before =
      let v = settle moment asked shows w in
      had_settle moment asked shows w store ∙ before
      ∙ ap (λ es. es ++ entries_on (get_or w.lanes lane [])) (sym (had_settle moment asked shows w decision))
      ∙ ap (λ ls. had v.actors decision ++ entries_on (get_or ls lane [])) (sym (lanes_settle moment asked shows w))

  fed_by : (w : WorldState) (from at : ℕ) (items : List Stamped) (actor : Option ActorState) → IsRouted (roles lab) w → AreNamed w.wires w.lanes
      → ((s : StoreState) → store_of (actor_at w.actors store).part ≡ Some s → s.kind ≡ Full) → waiting w from ≡ items → slice_get w.actors (reader_of (slice_get w.wires from)) ≡ actor
      → Fed w → Fed (turn_by w from at (reader_of (slice_get w.wires from)) items actor)
  fed_by w from at [] actor r named full front there before = before
  fed_by w from at (s ∷ others) None r named full front there before = before
  fed_by w from at (s ∷ others) (Some actor) r named full front there before =
      fed_turn lab sound w r named store decision lane f full before (reader_of (slice_get w.wires from)) others actor (made_by w.actors actor from at s) front there refl

  fed_after_turn : (w : WorldState) (from at : ℕ) → IsRouted (roles lab) w → AreNamed w.wires w.lanes
      → ((s : StoreState) → store_of (actor_at w.actors store).part ≡ Some s → s.kind ≡ Full) → Fed w → Fed (turn w from at)
  unfolding turn
  fed_after_turn w from at r named full before =
      fed_by w from at (waiting w from) (slice_get w.actors (reader_of (slice_get w.wires from))) r named full refl refl before

  pub fed_reached : {w : WorldState} {later : List Phase} → IsReached lab w later → Fed w
  fed_reached starts = fed_begin (start lab) (phases lab) refl fed_start
  fed_reached (turns w phase later t before legal) =
      fed_after_turn w t.lane t.at (runs_are_routed lab w (phase ∷ later) before) (named_reached lab before)
      (λ s is. (kept_reached lab before store s is).kind ∙ full_kind) (fed_reached before)
  fed_reached (settles w phase later before drained) =
      let asked = desks_asked phase.issues in
      fed_begin (settle phase.moment asked phase.shows_routes w) later (wires_settle phase.moment asked phase.shows_routes w ∙ (runs_are_routed lab w (phase ∷ later) before).lanes)
      (fed_settle phase.moment asked phase.shows_routes w (fed_reached before))
