-- Every two stores that a link joins are paired, in every world of every run: it begins so, and turns, settles and issues keep it.
use Rattle.std.proofs.Common.{◌≡◌, ℕ, zero, suc, ◌+◌, ◌-◌, ◌^◌, ◌<◌, ◌≤◌, List, [], ◌∷◌, ◌++◌, Option, Some, None, Bool, true, false, map, get_or, replicate, length, inl, inr, refl, sym, ap, ◌∙◌, subst, arith}
use Rattle.std.specs.Prelude.{slice_get, if◌then◌else◌}
use Rattle.std.specs.List.{Contains, flat_map}
use Rattle.std.specs.Option.{option_map_or}
use Rattle.std.proofs.Math.Seq.{map-set_same}
use Rattle.std.proofs.lemmas.Bool.{cases_lt}
use Rattle.std.proofs.lemmas.Nat.{mul-le}
use Rattle.std.proofs.lemmas.List.{get_or_past, length_push}
use Rattle.std.proofs.lemmas.List.Elements.{Contains-append_cases, Contains-append_left, Contains-append_right, All-contains}
use Rattle.std.proofs.lemmas.Option.{slice_get-get_or}
use Rattle.or_base.specs.declared.item.Stamped.{Stamped}
use Rattle.or_base.specs.declared.kind.Kind.{Kind}
use Rattle.or_base.specs.declared.message.Msg.{Msg}
use Rattle.or_base.proofs.Members.{Contains-first}
use Rattle.or_actor.specs.declared.output.Output.{Output}
use Rattle.or_actor.specs.Steps.{TurnMade, turn_done}
use Rattle.kv_store.specs.Store.{StoreState, new_store}
use Rattle.kv_agree.specs.Orderly.{IsNotBefore}
use Rattle.kv_agree.specs.Traced.{TracedStore, new_traced}
use Rattle.kv_agree.specs.Paired.{IsPaired, StaysPaired}
use Rattle.net_laboratory.specs.Scenario.{Laboratory}
use Rattle.net_laboratory.specs.Sound.{is_sound}
use Rattle.net_link.specs.Link.{LinkState, new_link}
use Rattle.net_link.specs.Flow.{held_of}
use Rattle.net_record.specs.declared.role.NodeModule.TheVariants.{Desk as DeskRole}
use Rattle.net_record.specs.declared.role.Role.{Role}
use Rattle.net_record.specs.declared.role.Role.TheVariants.{Driver as DriverRole, Node, Link as LinkRole}
use Rattle.net_record.specs.declared.part.Part.{Part}
use Rattle.net_record.specs.declared.part.Part.TheVariants.{Driver, Desk, Module}
use Rattle.net_record.specs.declared.phase.Phase.{Phase}
use Rattle.net_record.specs.declared.actor.ActorState.{ActorState}
use Rattle.net_record.specs.declared.wire.Wire.{Wire}
use Rattle.net_record.specs.Roles.{roles}
use Rattle.net_record.specs.Wires.{wires}
use Rattle.net_record.specs.Phases.{phases}
use Rattle.net_record.specs.Answers.{Giving, desks_asked, give, give_all, giving_of}
use Rattle.net_record.specs.Actors.{new_actor, no_actor, actor_at, store_of, made_by, part_after_settle, actor_after_settle, entry_counts, part_without_question, actor_without_question}
use Rattle.net_record.specs.World.{WorldState, start, waiting, turn, turn_of, turn_by, reader_of, issue, settle, driver_clock, greatest_clock}
use Rattle.net_record.specs.Run.{begin}
use Rattle.net_record.specs.Reached.{IsReached, starts, turns, settles}
use Rattle.net_agree.specs.Routed.{IsStoreAt, MayWaitFor, IsRouted, RunsAreRouted}
use Rattle.net_agree.specs.Timed.{IsFrom, IsTimed, RunsAreTimed}
use Rattle.net_agree.specs.Counted.{IsFewAfter, RunsAreCounted}
use Rattle.net_agree.specs.Lifted.{messages_in, link_of, held_on, trace_at, on_way, IsLifted, RunsArePaired}
use Rattle.net_agree.proofs.CountedStores.{store_there, starts_new, turns_settled}
use Rattle.net_agree.proofs.LiftedLists.{some_is}
use Rattle.net_agree.proofs.LiftedWay.{deliver_gives}
use Rattle.net_agree.proofs.LiftedIssues.{BringNone, PhasesBringNone, lab_brings_none, none_among}
use Rattle.net_agree.proofs.LiftedTurn.{lifted_turn}

-- ---- where stores stay and no message comes

-- In the first world are the stores of the second, which took what they took there, and no message is on its way that wasn't there.
record IsNoMore (v w : WorldState) : Type 0 where
  pub stores : (number : ℕ) (s : StoreState) → IsStoreAt v number s → IsStoreAt w number s
  pub traces : (number : ℕ) (s : StoreState) → trace_at v number s ≡ trace_at w number s
  pub way : (link : ℕ) (node : List ℕ) (msg : Msg) → Contains (on_way v link node) msg → Contains (on_way w link node) msg

lifted_no_more : (lab : Laboratory) (v w : WorldState) → StaysPaired → IsNoMore v w → IsLifted w lab → IsLifted v lab
lifted_no_more lab v w stays less lifted = record {
  traced = λ number s x. ap (λ (t : TracedStore). t.store) (less.traces number s) ∙ lifted.traced number s (less.stores number s x);
  paired = λ link x y s t at_x at_y ends.
      let paired = lifted.paired link x y s t (less.stores x s at_x) (less.stores y t at_y) ends in
      let fewer = stays.fewer link (trace_at w x s) (trace_at w y t) (on_way w link s.me) (on_way w link t.me) (on_way v link s.me) (on_way v link t.me) (less.way link s.me) (less.way link t.me) paired in
      subst (λ a. IsPaired link a (trace_at v y t) (on_way v link s.me) (on_way v link t.me)) (sym (less.traces x s))
      (subst (λ b. IsPaired link (trace_at w x s) b (on_way v link s.me) (on_way v link t.me)) (sym (less.traces y t)) fewer);
}

abbrev held_by : ℕ → List ℕ → ActorState → List Msg
held_by link node actor = option_map_or (held_on link node) (link_of actor.part) []

-- ---- issues

issue_no_more : (w : WorldState) (issues : List Output) → BringNone issues → IsNoMore (issue w issues) w
unfolding issue
issue_no_more w issues none = record {
  stores = λ number s x. record { actor = x.actor; there = x.there; is = x.is };
  traces = λ number s. refl;
  way = λ link node msg h. way link node msg h;
} where
  way : (link : ℕ) (node : List ℕ) (msg : Msg) → Contains (on_way (issue w issues) link node) msg → Contains (on_way w link node) msg
  way link node msg h =
      elim (Contains-append_cases (flat_map (messages_in link node) (issue w issues).lanes) (flat_map (held_by link node) w.actors) msg h) [
        | inl lanes ↦
            elim (deliver_gives link node w.wires 0 (driver_clock w.actors) w.lanes issues msg lanes) [
              | inl was ↦ Contains-append_left (flat_map (messages_in link node) w.lanes) (flat_map (held_by link node) w.actors) msg was
              | inr sent ↦ absurd (none_among issues link node msg none sent)
            ]
        | inr held ↦ Contains-append_right (flat_map (messages_in link node) w.lanes) (flat_map (held_by link node) w.actors) msg held
      ]

lifted_begun : (lab : Laboratory) (w : WorldState) (later : List Phase) → StaysPaired → PhasesBringNone later → IsLifted w lab → IsLifted (begin w later) lab
lifted_begun lab w [] stays none lifted = lifted
lifted_begun lab w (phase ∷ later) stays none lifted = lifted_no_more lab (issue w phase.issues) w stays (issue_no_more w phase.issues none.0) lifted

turns_begun : (w : WorldState) (later : List Phase) → (begin w later).turns ≡ w.turns
unfolding issue
turns_begun w [] = refl
turns_begun w (phase ∷ later) = refl

-- ---- a settle

-- the store or the link that an actor is
record Shown : Type 0 where
  pub store : Option StoreState
  pub link : Option LinkState

abbrev shows : Part → Shown
shows part = record { store = store_of part; link = link_of part }

abbrev shown : ActorState → Shown
shown actor = shows actor.part

shown_settled : (lengths : List ℕ) (part : Part) → shows (part_after_settle lengths part) ≡ shows part
shown_settled lengths Driver = refl
shown_settled lengths (Desk d) = refl
shown_settled lengths (Module m) = refl

shown_without : (part : Part) → shows (part_without_question part) ≡ shows part
shown_without Driver = refl
shown_without (Desk d) = refl
shown_without (Module m) = refl

all_settled : (clock : ℕ) (lengths : List ℕ) (actors : List ActorState) → map shown (map (actor_after_settle clock lengths) actors) ≡ map shown actors
all_settled clock lengths [] = refl
all_settled clock lengths (actor ∷ actors) =
    ap (λ s. s ∷ map shown (map (actor_after_settle clock lengths) actors)) (shown_settled lengths actor.part) ∙ ap (λ ss. shown actor ∷ ss) (all_settled clock lengths actors)

all_give : (g : Giving) (number : ℕ) → map shown (give g number).actors ≡ map shown g.actors
unfolding give
all_give g number = map-set_same shown g.actors number (actor_without_question (actor_at g.actors number)) no_actor (shown_without (actor_at g.actors number).part)

all_given_answers : (g : Giving) (asked : List ℕ) → map shown (give_all g asked).actors ≡ map shown g.actors
all_given_answers g [] = refl
all_given_answers g (number ∷ asked) = all_given_answers (give g number) asked ∙ all_give g number

shown_after : (moment : ℕ) (asked : List ℕ) (shows : Bool) (w : WorldState) → map shown (settle moment asked shows w).actors ≡ map shown w.actors
unfolding settle
shown_after moment asked shows w =
    let giving = giving_of w.actors asked in
    all_settled (greatest_clock w.actors + 1) (entry_counts giving.actors) giving.actors ∙ all_given_answers (record { actors = w.actors; answers = [] }) asked

first_is : {X : Type 0} {x y : X} {xs ys : List X} → (x ∷ xs) ≡ (y ∷ ys) → x ≡ y
first_is same = cc

others_are : {X : Type 0} {x y : X} {xs ys : List X} → (x ∷ xs) ≡ (y ∷ ys) → xs ≡ ys
others_are same = cc

shown_at : (xs ys : List ActorState) (number : ℕ) (actor : ActorState) → map shown xs ≡ map shown ys → slice_get xs number ≡ Some actor
    → (other : ActorState) × (slice_get ys number ≡ Some other) × (shown actor ≡ shown other)
shown_at [] ys number actor same there = cc
shown_at (x ∷ xs) [] number actor same there = cc
shown_at (x ∷ xs) (y ∷ ys) zero actor same there = (y, refl, ap shown (sym (some_is there)) ∙ first_is same)
shown_at (x ∷ xs) (y ∷ ys) (suc number) actor same there = shown_at xs ys number actor (others_are same) there

held_shown : (link : ℕ) (node : List ℕ) (actors : List ActorState) → flat_map (held_by link node) actors ≡ flat_map (λ (s : Shown). option_map_or (held_on link node) s.link []) (map shown actors)
held_shown link node [] = refl
held_shown link node (actor ∷ actors) = ap (λ ms. held_by link node actor ++ ms) (held_shown link node actors)

held_same : (link : ℕ) (node : List ℕ) (xs ys : List ActorState) → map shown xs ≡ map shown ys → flat_map (held_by link node) xs ≡ flat_map (held_by link node) ys
held_same link node xs ys same =
    held_shown link node xs ∙ ap (flat_map (λ (s : Shown). option_map_or (held_on link node) s.link [])) same ∙ sym (held_shown link node ys)

store_kept : (v w : WorldState) (number : ℕ) (s : StoreState) → map shown v.actors ≡ map shown w.actors → IsStoreAt v number s → IsStoreAt w number s
store_kept v w number s same x =
    let found = shown_at v.actors w.actors number x.actor same x.there in
    record { actor = found.0; there = found.1; is = sym (ap (λ (e : Shown). e.store) found.2) ∙ x.is }

settle_no_more : (moment : ℕ) (asked : List ℕ) (shows : Bool) (w : WorldState) → IsNoMore (settle moment asked shows w) w
unfolding settle
settle_no_more moment asked shows w =
    let same = shown_after moment asked shows w in
    record {
      stores = λ number s x. store_kept (settle moment asked shows w) w number s same x;
      traces = λ number s. refl;
      way = λ link node msg h. subst (λ held. Contains (flat_map (messages_in link node) w.lanes ++ held) msg) (held_same link node (settle moment asked shows w).actors w.actors same) h;
    }

-- ---- the start

store_new : (lab : Laboratory) (number : ℕ) (s : StoreState) → IsStoreAt (start lab) number s → s ≡ new_store lab.kind s.me
store_new lab number s x =
    let new = starts_new lab.kind (roles lab) number s (store_there (start lab) number s x) in
    new.1 ∙ ap (λ (t : StoreState). new_store lab.kind t.me) (sym new.1)

none_either : (test other : Bool) (msg : Msg) → Contains ((if test then [] else []) ++ (if other then [] else [])) msg → ⊥
none_either true true msg h = omega (arith, h.1)
none_either true false msg h = omega (arith, h.1)
none_either false true msg h = omega (arith, h.1)
none_either false false msg h = omega (arith, h.1)

none_held_if : (test : Bool) (held : List Msg) (msg : Msg) → (Contains held msg → ⊥) → Contains (if test then held else []) msg → ⊥
none_held_if true held msg none h = none h
none_held_if false held msg none h = omega (arith, h.1)

none_held : (kind : Kind) (link : ℕ) (node : List ℕ) (msg : Msg) (role : Role) → Contains (held_by link node (new_actor kind role)) msg → ⊥
none_held kind link node msg DriverRole h = omega (arith, h.1)
none_held kind link node msg (LinkRole l a b) h = none_held_if _ (held_of (new_link kind l a b) node) msg (none_either _ _ msg) h
none_held kind link node msg (Node DeskRole name setup) h = omega (arith, h.1)
none_held kind link node msg (Node _ name setup) h = omega (arith, h.1)

none_by_new : (kind : Kind) (link : ℕ) (node : List ℕ) (msg : Msg) (all : List Role) → Contains (flat_map (held_by link node) (map (new_actor kind) all)) msg → ⊥
none_by_new kind link node msg [] h = omega (arith, h.1)
none_by_new kind link node msg (role ∷ all) h =
    elim (Contains-append_cases (held_by link node (new_actor kind role)) (flat_map (held_by link node) (map (new_actor kind) all)) msg h) [
      | inl here ↦ none_held kind link node msg role here
      | inr later ↦ none_by_new kind link node msg all later
    ]

none_waits : (link : ℕ) (node : List ℕ) (msg : Msg) (n : ℕ) → Contains (flat_map (messages_in link node) (replicate n [])) msg → ⊥
none_waits link node msg zero h = omega (arith, h.1)
none_waits link node msg (suc n) h = none_waits link node msg n h

none_on_way : (lab : Laboratory) (link : ℕ) (node : List ℕ) (msg : Msg) → Contains (on_way (start lab) link node) msg → Contains [] msg
none_on_way lab link node msg h =
    elim (Contains-append_cases (flat_map (messages_in link node) (start lab).lanes) (flat_map (held_by link node) (start lab).actors) msg h) [
      | inl lanes ↦ absurd (none_waits link node msg (length (wires (roles lab))) lanes)
      | inr held ↦ absurd (none_by_new lab.kind link node msg (roles lab) held)
    ]

lifted_start : (lab : Laboratory) → StaysPaired → IsLifted (start lab) lab
lifted_start lab stays = record {
  traced = λ number s x.
      let is = store_new lab number s x in
      ap (λ kind. new_store kind s.me) (ap (λ (u : StoreState). u.kind) is) ∙ sym is;
  paired = λ link x y s t at_x at_y ends.
      let kind_s : s.kind ≡ lab.kind = ap (λ (u : StoreState). u.kind) (store_new lab x s at_x) in
      let kind_t : t.kind ≡ lab.kind = ap (λ (u : StoreState). u.kind) (store_new lab y t at_y) in
      let paired = stays.starts link lab.kind s.me t.me in
      let of_s = subst (λ kind. IsPaired link (new_traced kind s.me) (new_traced lab.kind t.me) [] []) (sym kind_s) paired in
      let of_t = subst (λ kind. IsPaired link (new_traced s.kind s.me) (new_traced kind t.me) [] []) (sym kind_t) of_s in
      stays.fewer link (trace_at (start lab) x s) (trace_at (start lab) y t) [] [] (on_way (start lab) link s.me) (on_way (start lab) link t.me)
      (none_on_way lab link s.me) (none_on_way lab link t.me) of_t;
}

-- ---- a turn

abbrev some_wire : Wire
some_wire = record { writer = 0; port = 0; reader = 0 }

-- where an item waits there is a lane
wire_there : (all : List Role) (w : WorldState) (lane : ℕ) (s : Stamped) (others : List Stamped) → IsRouted all w → waiting w lane ≡ s ∷ others
    → (wire : Wire) × (slice_get w.wires lane ≡ Some wire)
wire_there all w lane s others routed waits =
    elim (cases_lt lane (length w.lanes)) [
      | inl within ↦ (get_or w.wires lane some_wire, slice_get-get_or w.wires lane some_wire (omega (arith, within, routed.as_many)))
      | inr past ↦ absurd (nothing (get_or_past w.lanes lane [] past))
    ] where
      nothing : waiting w lane ≡ [] → ⊥
      nothing none = cc

module _ (lab : Laboratory) (sound : is_sound lab ≡ true) (stays : StaysPaired) (w : WorldState) (later : List Phase) (routed : IsRouted (roles lab) w) (timed : IsTimed w later)
    (lifted : IsLifted w lab) (lane at : ℕ) where
  abbrev reader : ℕ
  reader = reader_of (slice_get w.wires lane)

  abbrev HaveFew : WorldState → Type 0
  HaveFew v = (number : ℕ) (s : StoreState) → IsStoreAt v number s → s.sessions.last < 2 ^ 64 - 1

  lifted_taken : (s : Stamped) (others : List Stamped) (actor : ActorState) → waiting w lane ≡ s ∷ others → slice_get w.actors reader ≡ Some actor
      → HaveFew (turn_of w reader others actor (made_by w.actors actor lane at s)) → IsLifted (turn_of w reader others actor (made_by w.actors actor lane at s)) lab
  lifted_taken s others actor waits there few =
      let wire = wire_there (roles lab) w lane s others routed waits in
      let same : reader ≡ wire.0.reader = ap reader_of wire.1 in
      let among : Contains (waiting w lane) s = subst (λ ss. Contains ss s) (sym waits) (Contains-first s others) in
      let may : (role : Role) → slice_get (roles lab) reader ≡ Some role → MayWaitFor (roles lab) role s.item =
      λ role is. routed.items lane wire.0 role s wire.1 (ap (slice_get (roles lab)) (sym same) ∙ is) among in
      let in_time : (t : StoreState) → IsStoreAt w reader t → IsNotBefore t.moment s.item =
      λ t x. All-contains (IsFrom t.moment) (waiting w lane) s (timed.from_moment lane wire.0 t wire.1 (subst (λ n. IsStoreAt w n t) same x)) among in
      lifted_turn lab sound stays w routed lifted reader others actor (made_by w.actors actor lane at s) waits there refl may in_time few

  lifted_by : (items : List Stamped) (actor : Option ActorState) → waiting w lane ≡ items → slice_get w.actors reader ≡ actor → HaveFew (turn_by w lane at reader items actor)
      → IsLifted (turn_by w lane at reader items actor) lab
  lifted_by [] actor waits there few = lifted
  lifted_by (s ∷ others) None waits there few = lifted
  lifted_by (s ∷ others) (Some actor) waits there few = lifted_taken s others actor waits there few

  lifted_after : HaveFew (turn w lane at) → IsLifted (turn w lane at) lab
  unfolding turn
  lifted_after few = lifted_by (waiting w lane) (slice_get w.actors reader) refl refl few

grown_of : (w : WorldState) (reader : ℕ) (others : List Stamped) (actor : ActorState) (m : TurnMade) → length w.turns ≤ length (turn_of w reader others actor m).turns
unfolding turn_of
grown_of w reader others actor m = omega (arith, length_push w.turns (turn_done m))

grown_by : (w : WorldState) (lane at reader : ℕ) (items : List Stamped) (actor : Option ActorState) → length w.turns ≤ length (turn_by w lane at reader items actor).turns
grown_by w lane at reader [] actor = omega arith
grown_by w lane at reader (s ∷ others) None = omega arith
grown_by w lane at reader (s ∷ others) (Some actor) = grown_of w reader others actor (made_by w.actors actor lane at s)

-- turns only grow
turns_grown : (w : WorldState) (lane at : ℕ) → length w.turns ≤ length (turn w lane at).turns
unfolding turn
turns_grown w lane at = grown_by w lane at (reader_of (slice_get w.wires lane)) (waiting w lane) (slice_get w.actors (reader_of (slice_get w.wires lane)))

-- ---- all runs

small_last : (n : ℕ) (s : StoreState) → n < 2 ^ 31 → IsFewAfter n s → s.sessions.last < 2 ^ 64 - 1
small_last n s short few =
    let most : n ≤ 2 ^ 31 = omega (arith, short) in
    let square = mul-le n n (2 ^ 31) (2 ^ 31) most most in
    omega (arith, few.numbers, square)

reached_none : (lab : Laboratory) (w : WorldState) (later : List Phase) → IsReached lab w later → PhasesBringNone later
reached_none lab w later starts = lab_brings_none lab
reached_none lab w later (turns v phase others t reached legal) = reached_none lab v (phase ∷ others) reached
reached_none lab w later (settles v phase others reached drained) = (reached_none lab v (phase ∷ others) reached).1

pub runs_are_paired : StaysPaired → RunsAreRouted → RunsAreTimed → RunsAreCounted → RunsArePaired
runs_are_paired stays routed timed counted lab w later sound starts short = lifted_begun lab (start lab) (phases lab) stays (lab_brings_none lab) (lifted_start lab stays)
runs_are_paired stays routed timed counted lab w later sound (turns v phase others t reached legal) short =
    let before : length v.turns < 2 ^ 31 = omega (arith, short, turns_grown v t.lane t.at) in
    let lifted = runs_are_paired stays routed timed counted lab v (phase ∷ others) sound reached before in
    lifted_after lab sound stays v (phase ∷ others) (routed lab v (phase ∷ others) reached) (timed lab v (phase ∷ others) sound reached) lifted t.lane t.at
    (λ number s x. small_last (length (turn v t.lane t.at).turns) s short
    (counted lab (turn v t.lane t.at) (phase ∷ others) number s (turns v phase others t reached legal) x))
runs_are_paired stays routed timed counted lab w later sound (settles v phase others reached drained) short =
    let asked = desks_asked phase.issues in
    let same = ap (λ ts. length ts) (turns_begun (settle phase.moment asked phase.shows_routes v) others ∙ turns_settled phase.moment asked phase.shows_routes v) in
    let before : length v.turns < 2 ^ 31 = omega (arith, short, same) in
    let lifted = runs_are_paired stays routed timed counted lab v (phase ∷ others) sound reached before in
    lifted_begun lab (settle phase.moment asked phase.shows_routes v) others stays (reached_none lab v (phase ∷ others) reached).1
    (lifted_no_more lab (settle phase.moment asked phase.shows_routes v) v stays (settle_no_more phase.moment asked phase.shows_routes v) lifted)
