-- How many peers and sessions a store has after so many turns, and of which kind it is.
use Rattle.std.proofs.Common.{◌≡◌, ℕ, ◌+◌, inl, inr, List, [], ◌∷◌, Option, Some, None, length, refl, sym, ◌∙◌, subst, Bool}
use Rattle.std.specs.Prelude.{slice_get}
use Rattle.std.proofs.lemmas.List.{length_push}
use Rattle.or_base.specs.declared.kind.Kind.{Kind}
use Rattle.or_base.specs.declared.item.Item.{Item}
use Rattle.or_base.specs.declared.item.Stamped.{Stamped}
use Rattle.or_actor.specs.declared.output.Output.{Output}
use Rattle.or_actor.specs.Steps.{TurnMade, turn_done}
use Rattle.kv_store.specs.Store.{StoreState}
use Rattle.kv_store.specs.Numbered.{IsNumbered}
use Rattle.kv_store.proofs.Numbered.{numbers_stay_apart, numbered_later}
use Rattle.net_laboratory.specs.Scenario.{Laboratory}
use Rattle.net_record.specs.declared.phase.Phase.{Phase}
use Rattle.net_record.specs.declared.actor.ActorState.{ActorState}
use Rattle.net_record.specs.Phases.{phases}
use Rattle.net_record.specs.Roles.{roles}
use Rattle.net_record.specs.Actors.{made_by}
use Rattle.net_record.specs.Answers.{desks_asked}
use Rattle.net_record.specs.World.{WorldState, start, waiting, turn, turn_of, turn_by, reader_of, issue, settle}
use Rattle.net_record.specs.Run.{begin}
use Rattle.net_record.specs.Reached.{IsReached, starts, turns, settles}
use Rattle.net_agree.specs.Counted.{RunsAreCounted}
use Rattle.net_agree.proofs.CountedStores.{store_at, store_there, IsAfter, starts_new, actor_stepped, stores_settled, turns_settled}
use Rattle.net_agree.proofs.LiftedSends.{turn_of_one}

-- After so many turns the full syncs of a store are numbered so, and the store is one of this kind.
pub record IsKept (of : Kind) (count : ℕ) (s : StoreState) : Type 0 where
  pub numbered : IsNumbered count s
  pub kind : s.kind ≡ of

-- each store of a world is as after so many turns as were done
abbrev AreKept : Kind → WorldState → Type 0
AreKept kind w = (number : ℕ) (s : StoreState) → store_at w.actors number ≡ Some s → IsKept kind (length w.turns) s

-- ---- one turn

one_later : (kind : Kind) (count : ℕ) (actors : List ActorState) (reader : ℕ) (item : Item) (number : ℕ) (s : StoreState)
    → ((n : ℕ) (b : StoreState) → store_at actors n ≡ Some b → IsKept kind count b) → IsAfter actors reader item number s → IsKept kind (count + 1) s
one_later kind count actors reader item number s h (inl same) =
    let kept = h number s same in
    record { numbered = numbered_later count s kept.numbered; kind = kept.kind }
one_later kind count actors reader item number s h (inr (is, before, was, after)) =
    let kept = h number before was in
    subst (IsKept kind (count + 1)) (sym after)
    (record { numbered = numbers_stay_apart.turn count before item kept.numbered; kind = (turn_of_one before item).1 ∙ kept.kind })

kept_of : (kind : Kind) (w : WorldState) (reader : ℕ) (others : List Stamped) (actor : ActorState) (m : TurnMade) → slice_get w.actors reader ≡ Some actor → AreKept kind w
    → AreKept kind (turn_of w reader others actor m)
unfolding turn_of
kept_of kind w reader others actor m e h number s is =
    subst (λ count. IsKept kind count s) (sym (length_push w.turns (turn_done m)))
    (one_later kind (length w.turns) w.actors reader m.taken.item number s h (actor_stepped w.actors reader actor m number s e is))

kept_by : (kind : Kind) (w : WorldState) (lane at reader : ℕ) (items : List Stamped) (actor : Option ActorState) → slice_get w.actors reader ≡ actor → AreKept kind w
    → AreKept kind (turn_by w lane at reader items actor)
kept_by kind w lane at reader [] actor e h = h
kept_by kind w lane at reader (s ∷ others) None e h = h
kept_by kind w lane at reader (s ∷ others) (Some actor) e h = kept_of kind w reader others actor (made_by w.actors actor lane at s) e h

kept_turn : (kind : Kind) (w : WorldState) (lane at : ℕ) → AreKept kind w → AreKept kind (turn w lane at)
unfolding turn
kept_turn kind w lane at h =
    let reader = reader_of (slice_get w.wires lane) in
    kept_by kind w lane at reader (waiting w lane) (slice_get w.actors reader) refl h

-- ---- issues and settles

kept_issue : (kind : Kind) (w : WorldState) (issues : List Output) → AreKept kind w → AreKept kind (issue w issues)
unfolding issue
kept_issue kind w issues h = h

kept_begin : (kind : Kind) (w : WorldState) (later : List Phase) → AreKept kind w → AreKept kind (begin w later)
kept_begin kind w [] h = h
kept_begin kind w (phase ∷ later) h = kept_issue kind w phase.issues h

kept_settle : (kind : Kind) (moment : ℕ) (asked : List ℕ) (shows : Bool) (w : WorldState) → AreKept kind w → AreKept kind (settle moment asked shows w)
kept_settle kind moment asked shows w h number s is =
    subst (λ turns. IsKept kind (length turns) s) (sym (turns_settled moment asked shows w)) (h number s (sym (stores_settled moment asked shows w number) ∙ is))

-- ---- a run

kept_start : (lab : Laboratory) → AreKept lab.kind (start lab)
kept_start lab number s is =
    let new = starts_new lab.kind (roles lab) number s is in
    subst (IsKept lab.kind 0) (sym new.1) (record { numbered = numbers_stay_apart.start lab.kind new.0; kind = refl })

pub kept_reached : (lab : Laboratory) {w : WorldState} {later : List Phase} → IsReached lab w later → AreKept lab.kind w
kept_reached lab starts = kept_begin lab.kind (start lab) (phases lab) (kept_start lab)
kept_reached lab (turns w phase later t before legal) = kept_turn lab.kind w t.lane t.at (kept_reached lab before)
kept_reached lab (settles w phase later before drained) =
    kept_begin lab.kind (settle phase.moment (desks_asked phase.issues) phase.shows_routes w) later (kept_settle lab.kind phase.moment (desks_asked phase.issues) phase.shows_routes w (kept_reached lab before))

pub runs_are_counted : RunsAreCounted
runs_are_counted lab w later number s reached is =
    let numbered = (kept_reached lab reached number s (store_there w number s is)).numbered in
    record { peers = numbered.peers; numbers = numbered.last }
