-- What settles tell of the full syncs that a store finished is the front of them all, which have numbers of their own.
use Rattle.std.proofs.Common.{◌≡◌, ℕ, zero, suc, ◌+◌, ◌≤◌, List, [], ◌∷◌, ◌++◌, Option, Some, None, length, map, drop, get_or, set, refl, sym, ap, ◌∙◌, subst, arith, append_assoc, length-append, Bool}
use Rattle.std.specs.Prelude.{AllPairs, slice_get}
use Rattle.std.specs.List.{AllZip}
use Rattle.std.proofs.lemmas.Nat.{mul-le}
use Rattle.std.proofs.lemmas.Grind.{flat_map-append}
use Rattle.std.proofs.lemmas.List.{append-nil, length_push, get_or_append_left}
use Rattle.std.proofs.Math.Seq.{drop-append_seam}
use Rattle.or_base.specs.declared.item.Item.{Item}
use Rattle.or_base.specs.declared.kind.Kind.TheVariants.{Stores}
use Rattle.or_base.specs.declared.item.Stamped.{Stamped}
use Rattle.or_base.specs.declared.session.SyncDone.{SyncDone}
use Rattle.or_base.specs.declared.kind.Kind.{Kind}
use Rattle.or_actor.specs.declared.output.Output.{Output}
use Rattle.or_actor.specs.Steps.{TurnMade, turn_done}
use Rattle.kv_store.specs.Store.{StoreState, new_store, store_step}
use Rattle.kv_store.specs.Numbered.{IsNumbered, HaveOwnNumbers}
use Rattle.kv_store.proofs.Numbered.{numbers_stay_apart, numbered_later}
use Rattle.net_laboratory.specs.Limits.{most_turns}
use Rattle.net_laboratory.specs.Scenario.{Laboratory}
use Rattle.net_record.specs.declared.role.NodeModule.TheVariants.{Store as StoreRole}
use Rattle.net_record.specs.declared.role.Role.{Role}
use Rattle.net_record.specs.declared.role.Role.TheVariants.{Driver as DriverRole, Node, Link as LinkRole}
use Rattle.net_record.specs.declared.kinds.AnyModule.{AnyModule}
use Rattle.net_record.specs.declared.kinds.AnyModule.TheVariants.{Store}
use Rattle.net_record.specs.declared.part.Part.{Part}
use Rattle.net_record.specs.declared.part.Part.TheVariants.{Driver, Desk, Module}
use Rattle.net_record.specs.declared.actor.ActorState.{ActorState}
use Rattle.net_record.specs.declared.phase.Phase.{Phase}
use Rattle.net_record.specs.declared.record.SettleDone.{SettleDone}
use Rattle.net_record.specs.Roles.{roles}
use Rattle.net_record.specs.Kinds.{module_step, store_in}
use Rattle.net_record.specs.Actors.{new_part, new_actor, store_of, part_step, made_by, actor_after, entry_counts, actors_after_settle}
use Rattle.net_record.specs.Answers.{giving_of}
use Rattle.net_record.specs.Marks.{no_mark}
use Rattle.net_record.specs.World.{WorldState, start, waiting, turn, turn_of, turn_by, reader_of, issue, settle, settle_done, greatest_clock}
use Rattle.net_record.specs.Run.{begin}
use Rattle.net_record.specs.Syncs.{syncs_told}
use Rattle.net_record.proofs.Found.{there}
use Rattle.net_record.proofs.FewTurns.{HasFewTurns}
use Rattle.net_record.proofs.Shown.{syncs_shown}
use Rattle.net_record.proofs.Tellers.{Teller, tellers_by, tellers_of, teller_in, teller_at, syncs_of_mark, told_all, settled_teller, tellers_give_all, set_teller}

-- What is kept of a store after so many turns, of whose full syncs settles told these: its numbers are apart, and these
-- are the front of all that it finished.
pub record IsToldOf (turns : ℕ) (syncs : List SyncDone) (t : Teller) : Type 0 where
  pub numbered : IsNumbered turns t.store
  pub left : List SyncDone
  pub all : t.store.done ≡ syncs ++ left
  pub count : t.told ≡ length syncs

-- ---- one turn

abbrev TurnKeeps : ℕ → Teller → Teller → Type 0
TurnKeeps turns t after = (syncs : List SyncDone) → IsToldOf turns syncs t → IsToldOf (turns + 1) syncs after

-- of any other store
keep_other : (turns : ℕ) (t : Teller) → TurnKeeps turns t t
keep_other turns t syncs h = record { numbered = numbered_later turns t.store h.numbered; left = h.left; all = h.all; count = h.count }

keep_store : (turns told : ℕ) (s : StoreState) (item : Item) → TurnKeeps turns (record { told = told; store = s }) (record { told = told; store = (store_step s item).0 })
keep_store turns told s item syncs h =
    let more = numbers_stay_apart.finished s item in
    record {
      numbered = numbers_stay_apart.turn turns s item h.numbered;
      left = h.left ++ more.more;
      all = more.is ∙ ap (λ done. done ++ more.more) h.all ∙ append_assoc syncs h.left more.more;
      count = h.count;
    }

keep_module : (turns told : ℕ) (m : AnyModule) (lane : ℕ) (item : Item) → AllZip (TurnKeeps turns) (tellers_by told (store_in m)) (tellers_by told (store_in (module_step m lane item).0))
unfolding module_step
keep_module turns told (Store s) lane item = (keep_store turns told s item, tt)
keep_module turns told _ lane item = tt

keep_part : (turns told : ℕ) (part : Part) (lane : ℕ) (item : Item) (at : ℕ)
    → AllZip (TurnKeeps turns) (tellers_by told (store_of part)) (tellers_by told (store_of (part_step part lane item at).0))
unfolding part_step
keep_part turns told Driver lane item at = tt
keep_part turns told (Desk d) lane item at = tt
keep_part turns told (Module m) lane item at = keep_module turns told m lane item

keep_actor : (turns : ℕ) (actors : List ActorState) (reader : ℕ) (actor : ActorState) (m : TurnMade) → slice_get actors reader ≡ Some actor
    → (place : ℕ) → TurnKeeps turns (teller_at actors place) (teller_at (set actors reader (actor_after actor m)) place)
unfolding actor_after
keep_actor turns actors reader actor m e place =
    let is = there actors reader actor e in
    let after = (part_step actor.part m.lane m.taken.item m.at).0 in
    set_teller (TurnKeeps turns) (keep_other turns) actors reader (actor_after actor m) is.0
    (subst (λ (a : ActorState). AllZip (TurnKeeps turns) (tellers_by a.told (store_of a.part)) (tellers_by actor.told (store_of after))) (sym is.1)
    (keep_part turns actor.told actor.part m.lane m.taken.item m.at)) place

-- what is kept of a world
abbrev pub AreTold : WorldState → Type 0
AreTold w = (place : ℕ) → IsToldOf (length w.turns) (syncs_told place w.settles) (teller_at w.actors place)

told_after : (w : WorldState) (reader : ℕ) (others : List Stamped) (actor : ActorState) (m : TurnMade) → slice_get w.actors reader ≡ Some actor
    → AreTold w → AreTold (turn_of w reader others actor m)
unfolding turn_of
told_after w reader others actor m e h place =
    subst (λ turns. IsToldOf turns (syncs_told place w.settles) (teller_at (set w.actors reader (actor_after actor m)) place)) (sym (length_push w.turns (turn_done m)))
    (keep_actor (length w.turns) w.actors reader actor m e place (syncs_told place w.settles) (h place))

told_by : (w : WorldState) (lane at reader : ℕ) (items : List Stamped) (actor : Option ActorState) → slice_get w.actors reader ≡ actor
    → AreTold w → AreTold (turn_by w lane at reader items actor)
told_by w lane at reader [] actor e h = h
told_by w lane at reader (s ∷ others) None e h = h
told_by w lane at reader (s ∷ others) (Some actor) e h = told_after w reader others actor (made_by w.actors actor lane at s) e h

pub told_turn : (w : WorldState) (lane at : ℕ) → AreTold w → AreTold (turn w lane at)
unfolding turn
told_turn w lane at h =
    let reader = reader_of (slice_get w.wires lane) in
    told_by w lane at reader (waiting w lane) (slice_get w.actors reader) refl h

-- ---- the start, issues and settles

fresh : (kind : Kind) (me : List ℕ) → IsToldOf 0 [] (record { told = 0; store = new_store kind me })
fresh kind me = record { numbered = numbers_stay_apart.start kind me; left = []; all = refl; count = refl }

start_head : (kind : Kind) (role : Role) (rest : List Teller) → ((place : ℕ) → IsToldOf 0 [] (teller_in rest place))
    → (place : ℕ) → IsToldOf 0 [] (teller_in (tellers_by 0 (store_of (new_part kind role)) ++ rest) place)
start_head kind DriverRole rest later place = later place
start_head kind (Node StoreRole node setup) rest later zero = fresh kind node
start_head kind (Node StoreRole node setup) rest later (suc place) = later place
start_head kind (Node _ node setup) rest later place = later place
start_head kind (LinkRole link a b) rest later place = later place

told_roles : (kind : Kind) (all : List Role) (place : ℕ) → IsToldOf 0 [] (teller_at (map (new_actor kind) all) place)
told_roles kind [] zero = fresh Stores []
told_roles kind [] (suc place) = fresh Stores []
told_roles kind (role ∷ all) place = start_head kind role (tellers_of (map (new_actor kind) all)) (told_roles kind all) place

told_issue : (w : WorldState) (issues : List Output) → AreTold w → AreTold (issue w issues)
unfolding issue
told_issue w issues h = h

pub told_begin : (w : WorldState) (phases : List Phase) → AreTold w → AreTold (begin w phases)
told_begin w [] h = h
told_begin w (phase ∷ phases) h = told_issue w phase.issues h

-- what one settle more tells
pub syncs_more : (place : ℕ) (settles : List SettleDone) (s : SettleDone) → syncs_told place (settles ++ s ∷ []) ≡ syncs_told place settles ++ (get_or s.nodes place no_mark).syncs
syncs_more place settles s =
    flat_map-append (λ (settle : SettleDone). (get_or settle.nodes place no_mark).syncs) settles (s ∷ [])
    ∙ ap (λ syncs. syncs_told place settles ++ syncs) (append-nil (get_or s.nodes place no_mark).syncs)

-- it tells what was left
settle_tells : (turns : ℕ) (syncs more : List SyncDone) (t : Teller) → more ≡ drop t.told t.store.done → IsToldOf turns syncs t → IsToldOf turns (syncs ++ more) (told_all t)
settle_tells turns syncs more t e h =
    let is : more ≡ h.left = e ∙ ap (λ n. drop n t.store.done) h.count ∙ ap (drop (length syncs)) h.all ∙ drop-append_seam syncs h.left in
    let all : t.store.done ≡ syncs ++ more = h.all ∙ ap (λ left. syncs ++ left) (sym is) in
    record {
      numbered = h.numbered;
      left = [];
      all = all ∙ sym (append-nil (syncs ++ more));
      count = ap length all;
    }

pub told_settle : (moment : ℕ) (asked : List ℕ) (shows : Bool) (w : WorldState) → AreTold w → AreTold (settle moment asked shows w)
unfolding settle
told_settle moment asked shows w h place =
    let g = giving_of w.actors asked in
    let clock = greatest_clock w.actors + 1 in
    let done = settle_done moment (length w.turns) w.actors shows g.answers in
    let more = (get_or done.nodes place no_mark).syncs in
    let after : teller_at (actors_after_settle clock g.actors) place ≡ told_all (teller_at w.actors place) =
    settled_teller clock (entry_counts g.actors) g.actors place
    ∙ ap (λ tellers. told_all (teller_in tellers place)) (tellers_give_all (record { actors = w.actors; answers = [] }) asked) in
    let told = settle_tells (length w.turns) (syncs_told place w.settles) more (teller_at w.actors place) (syncs_shown w.actors shows place ∙ syncs_of_mark w.actors place) (h place) in
    subst (λ syncs. IsToldOf (length w.turns) syncs (teller_at (actors_after_settle clock g.actors) place)) (sym (syncs_more place w.settles done))
    (subst (λ t. IsToldOf (length w.turns) (syncs_told place w.settles ++ more) t) (sym after) told)

-- ---- a run

pub told_start : (lab : Laboratory) → AreTold (start lab)
told_start lab = told_roles lab.kind (roles lab)

-- a front has numbers of its own, where the whole has
front_apart : (front rest : List SyncDone) → AllPairs HaveOwnNumbers (front ++ rest) → AllPairs HaveOwnNumbers front
front_apart front rest apart i j d before within =
    let one = get_or_append_left front rest d i (omega (arith, before, within)) in
    let other = get_or_append_left front rest d j within in
    let long = length-append front rest in
    subst (λ (s : SyncDone). HaveOwnNumbers s (get_or front j d)) one
    (subst (λ (s : SyncDone). HaveOwnNumbers (get_or (front ++ rest) i d) s) other (apart i j d before (omega (arith, within, long))))

apart_where_few : (turns : ℕ) (syncs : List SyncDone) (t : Teller) → turns ≤ most_turns → IsToldOf turns syncs t → AllPairs HaveOwnNumbers syncs
apart_where_few turns syncs t few h =
    let square = mul-le turns turns most_turns most_turns few few in
    let apart = numbers_stay_apart.differ turns t.store h.numbered (omega (arith, square)) in
    front_apart syncs h.left (subst (AllPairs HaveOwnNumbers) h.all apart)

-- the full syncs of one store that the settles of a world tell of, where few turns were done
pub syncs_apart : (w : WorldState) → AreTold w → HasFewTurns w → (place : ℕ) → AllPairs HaveOwnNumbers (syncs_told place w.settles)
syncs_apart w told few place = apart_where_few (length w.turns) (syncs_told place w.settles) (teller_at w.actors place) few (told place)
