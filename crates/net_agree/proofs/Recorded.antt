-- The stores of a record agree at its settles: what a settle tells of them, behind the settles before, is what they were in its world.
use Rattle.std.proofs.Common.{◌≡◌, ℕ, zero, suc, ◌+◌, ◌^◌, ◌<◌, ◌≤◌, List, [], ◌∷◌, ◌++◌, Bool, Option, Some, None, length, drop, get_or, take, refl, sym, ap, ◌∙◌, subst, arith, zero-add}
use Rattle.std.specs.Prelude.{slice_get, option_map, option_to_list, unwrap_or}
use Rattle.std.proofs.lemmas.List.{length-take}
use Rattle.std.proofs.lemmas.Option.{get_or_from_slice_get, slice_get-map}
use Rattle.std.proofs.Math.Seq.{drop-append_seam, take-nil}
use Rattle.or_base.specs.declared.entry.JournalEntry.{JournalEntry}
use Rattle.or_base.specs.declared.kind.Kind.{Kind}
use Rattle.kv_store.specs.Store.{StoreState, new_store}
use Rattle.kv_agree.specs.Traced.{new_traced, traced_after}
use Rattle.kv_agree.specs.Joined.{StoreSeen, QuietlyAgree, AgreeAfterOneRound}
use Rattle.net_laboratory.specs.declared.declared.NodeDecl.{NodeDecl}
use Rattle.net_laboratory.specs.Limits.{most_turns}
use Rattle.net_laboratory.specs.Scenario.{Laboratory}
use Rattle.net_record.specs.declared.actor.ActorState.{ActorState}
use Rattle.net_record.specs.declared.phase.Phase.{Phase}
use Rattle.net_record.specs.declared.record.NodeMark.{NodeMark}
use Rattle.net_record.specs.declared.record.Record.{Record}
use Rattle.net_record.specs.declared.record.SettleDone.{SettleDone}
use Rattle.net_record.specs.Roles.{modules_of, store_number, node_names}
use Rattle.net_record.specs.Phases.{phases}
use Rattle.net_record.specs.Actors.{actor_at, store_of}
use Rattle.net_record.specs.Answers.{desks_asked}
use Rattle.net_record.specs.Marks.{no_mark}
use Rattle.net_record.specs.Fronts.{fronts}
use Rattle.net_record.specs.Records.{journals_of}
use Rattle.net_record.specs.Reached.{IsReached}
use Rattle.net_record.specs.Reached.IsReached.{starts, turns, settles}
use Rattle.net_record.specs.Syncs.{syncs_told}
use Rattle.net_record.specs.Tells.{IsToldAtSettle, RunsTell}
use Rattle.net_record.specs.World.{WorldState, start, settle, nodes_told}
use Rattle.net_record.proofs.Shown.{syncs_shown}
use Rattle.net_record.proofs.SyncsTold.{AreTold, told_start, told_begin, told_turn, told_settle, syncs_more}
use Rattle.net_record.proofs.Tellers.{tellers_by, tellers_of, teller_in, teller_at, syncs_of_mark}
use Rattle.net_agree.specs.Lifted.{taken_by}
use Rattle.net_agree.specs.Recorded.{store_recorded, stores_recorded, RecordsAgree}
use Rattle.net_agree.specs.Settled.{stores_seen, AgreesAtSettle, RunsAgree}
use Rattle.net_agree.proofs.Counted.{kept_reached}
use Rattle.net_agree.proofs.Routed.{runs_are_routed}
use Rattle.net_agree.proofs.RecordedPlaces.{store_in_place, map_same, stores_give, teller_is}

-- ---- the finished full syncs of a place

told_reached : (lab : Laboratory) {w : WorldState} {later : List Phase} → IsReached lab w later → AreTold w
told_reached lab starts = told_begin (start lab) (phases lab) (told_start lab)
told_reached lab (turns w phase later t before legal) = told_turn w t.lane t.at (told_reached lab before)
told_reached lab (settles w phase later before drained) =
    told_begin (settle phase.moment (desks_asked phase.issues) phase.shows_routes w) later (told_settle phase.moment (desks_asked phase.issues) phase.shows_routes w (told_reached lab before))

-- behind one settle more all that a store finished is told
all_told : (w : WorldState) (shows : Bool) (s : SettleDone) (place : ℕ) → s.nodes ≡ nodes_told w.actors shows → AreTold w
    → syncs_told place (w.settles ++ s ∷ []) ≡ (teller_at w.actors place).store.done
all_told w shows s place e h =
    let t = teller_at w.actors place in
    let syncs = syncs_told place w.settles in
    let told = h place in
    let more : (get_or s.nodes place no_mark).syncs ≡ told.left =
    ap (λ nodes. (get_or nodes place no_mark).syncs) e ∙ syncs_shown w.actors shows place ∙ syncs_of_mark w.actors place ∙ ap (λ n. drop n t.store.done) told.count
    ∙ ap (drop (length syncs)) told.all ∙ drop-append_seam syncs told.left in
    syncs_more place w.settles s ∙ ap (λ left. syncs ++ left) more ∙ sym told.all

-- ---- the journal in a place

journal_head : (told : ℕ) (store : Option StoreState) (actors : List ActorState)
    → ((place : ℕ) → get_or (journals_of actors) place [] ≡ (teller_at actors place).store.journal)
    → (place : ℕ) → get_or (option_to_list (option_map (λ s. s.journal) store) ++ journals_of actors) place []
    ≡ (teller_in (tellers_by told store ++ tellers_of actors) place).store.journal
journal_head told None actors later place = later place
journal_head told (Some s) actors later zero = refl
journal_head told (Some s) actors later (suc place) = later place

journal_in : (actors : List ActorState) (place : ℕ) → get_or (journals_of actors) place [] ≡ (teller_at actors place).store.journal
journal_in [] zero = refl
journal_in [] (suc place) = refl
journal_in (actor ∷ actors) place = journal_head actor.told (store_of actor.part) actors (journal_in actors) place

-- the front in a place is that of the journal there, also where there is none
pub front_in : (marks : List NodeMark) (journals : List (List JournalEntry)) (place : ℕ)
    → get_or (fronts marks journals) place [] ≡ take (get_or marks place no_mark).entries (get_or journals place [])
front_in [] journals zero = refl
front_in [] journals (suc place) = refl
front_in (mark ∷ marks) [] zero = sym (take-nil mark.entries)
front_in (mark ∷ marks) [] (suc place) = sym (take-nil (get_or marks place no_mark).entries)
front_in (mark ∷ marks) (journal ∷ journals) zero = refl
front_in (mark ∷ marks) (journal ∷ journals) (suc place) = front_in marks journals place

-- ---- the store in a place

kind_of : (kind : Kind) (store : Option StoreState) → ((s : StoreState) → store ≡ Some s → s.kind ≡ kind) → (unwrap_or store (new_store kind [])).kind ≡ kind
kind_of kind None each = refl
kind_of kind (Some s) each = each s refl

-- a store in a world as a settle sees it, by its name and its number
abbrev store_as_seen : WorldState → List ℕ → ℕ → ActorState → StoreState → StoreSeen
store_as_seen w name number actor s =
    record { name = name; journal = s.journal; makers = (traced_after (new_traced s.kind name) (taken_by w number)).makers; syncs = s.done }

name_in : (lab : Laboratory) (place : ℕ) (node : NodeDecl) → slice_get lab.nodes place ≡ Some node → get_or (node_names lab) place [] ≡ node.name
name_in lab place node there =
    get_or_from_slice_get (node_names lab) place node.name []
    (slice_get-map (λ (n : NodeDecl). n.name) lab.nodes place ∙ ap (option_map (λ (n : NodeDecl). n.name)) there)

module _ (lab : Laboratory) (done : Record) (before : List SettleDone) (s : SettleDone) (h : IsToldAtSettle lab done before s) where
  -- the store of a node as it was in the world of the settle
  abbrev seen_there : ℕ × NodeDecl → StoreSeen
  seen_there n =
      let number = store_number (modules_of lab.kind) n.0 in
      store_as_seen h.world n.1.name number (actor_at h.world.actors number) (store_in_place lab.kind h.world.actors number)

  -- what a settle tells of the store of a node is what that store was
  told_is_seen : (place : ℕ) (node : NodeDecl) → slice_get lab.nodes place ≡ Some node → store_recorded lab done before s place ≡ seen_there (place, node)
  told_is_seen place node there =
      let w = h.world in
      let actors = w.actors in
      let r = runs_are_routed lab w (h.phase ∷ h.later) h.reached in
      let number = store_number (modules_of lab.kind) place in
      let is = teller_is lab w place node r there in
      let kind = kind_of lab.kind (store_of (actor_at actors number).part) (λ t at. (kept_reached lab h.reached number t at).kind) in
      let journal : take (get_or s.nodes place no_mark).entries (get_or done.journals place []) ≡ (store_in_place lab.kind actors number).journal =
      sym (front_in s.nodes done.journals place) ∙ ap (λ js. get_or js place []) (sym h.stores) ∙ journal_in actors place
      ∙ ap (λ (t : StoreState). t.journal) is in
      let syncs : syncs_told place (before ++ s ∷ []) ≡ (store_in_place lab.kind actors number).done =
      ap (λ (ss : List SettleDone). syncs_told place (ss ++ s ∷ [])) (sym h.settles)
      ∙ all_told w h.phase.shows_routes s place (ap (λ (d : SettleDone). d.nodes) h.tells) (told_reached lab h.reached) ∙ ap (λ (t : StoreState). t.done) is in
      rw (name_in lab place node there, journal, syncs, ← h.turns, ← r.lanes)
      (ap
      (λ (k : Kind).
      let t : StoreSeen =
      record {
        name = node.name;
        journal = (store_in_place lab.kind actors number).journal;
        makers = (traced_after (new_traced k node.name) (taken_by w number)).makers;
        syncs = (store_in_place lab.kind actors number).done;
      } in
      t)
      (sym kind))

  -- what a settle tells of all stores is what they were in its world
  told_are_seen : stores_recorded lab done before s ≡ stores_seen h.world
  told_are_seen =
      let w = h.world in
      map_same (λ (n : ℕ × NodeDecl). store_recorded lab done before s n.0) seen_there 0 lab.nodes
      (λ place node there. told_is_seen (0 + place) node (ap (slice_get lab.nodes) (zero-add place) ∙ there))
      ∙ sym (stores_give (store_as_seen w) lab w (runs_are_routed lab w (h.phase ∷ h.later) h.reached))

  few_in_world : length done.turns ≤ most_turns → length h.world.turns < 2 ^ 31
  few_in_world few = omega (arith, few, ap length h.turns, length-take s.turns done.turns)

-- ---- the law

pub records_agree : RunsTell → RunsAgree → RecordsAgree
records_agree tell agree lab done sound run = record {
  quiet = λ before later s e. subst QuietlyAgree (sym (seen before later s e)) (agrees before later s e).quiet;
  one_round = λ before later s e. subst AgreeAfterOneRound (sym (seen before later s e)) (agrees before later s e).one_round;
} where
  in_world : (before later : List SettleDone) (s : SettleDone) → done.settles ≡ before ++ s ∷ later → IsToldAtSettle lab done before s
  in_world before later s e = (tell lab done run).settles before later s e

  seen : (before later : List SettleDone) (s : SettleDone) (e : done.settles ≡ before ++ s ∷ later)
      → stores_recorded lab done before s ≡ stores_seen (in_world before later s e).world
  seen before later s e = told_are_seen lab done before s (in_world before later s e)

  agrees : (before later : List SettleDone) (s : SettleDone) (e : done.settles ≡ before ++ s ∷ later) → AgreesAtSettle (in_world before later s e).world
  agrees before later s e =
      let h = in_world before later s e in
      agree lab h.world h.phase h.later sound h.reached h.drained (few_in_world lab done before s h run.few)
