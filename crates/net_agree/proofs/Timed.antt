-- Ticks never go back in a run.
use Rattle.std.proofs.Common.{◌≡◌, ℕ, List, [], ◌∷◌, Some, refl, ap, ◌∙◌, subst, arith}
use Rattle.std.specs.Prelude.{slice_get, All, IsTrue}
use Rattle.std.specs.Option.{option_map_or}
use Rattle.std.proofs.lemmas.Bool.{ne_eqb}
use Rattle.kv_store.specs.Store.{StoreState}
use Rattle.net_laboratory.specs.Scenario.{Laboratory}
use Rattle.net_laboratory.specs.Sound.{is_sound}
use Rattle.net_record.specs.declared.role.Role.{Role}
use Rattle.net_record.specs.declared.phase.Phase.{Phase}
use Rattle.net_record.specs.declared.wire.Wire.{Wire}
use Rattle.net_record.specs.Roles.{roles}
use Rattle.net_record.specs.Phases.{phases}
use Rattle.net_record.specs.Answers.{desks_asked}
use Rattle.net_record.specs.World.{WorldState, start, waiting, reader_of, settle}
use Rattle.net_record.specs.Run.{begin}
use Rattle.net_record.specs.Reached.{IsReached, starts, turns, settles}
use Rattle.net_agree.specs.Routed.{IsStoreAt}
use Rattle.net_agree.specs.Timed.{IsFrom, IsUntil, RunsAreTimed}
use Rattle.net_agree.proofs.CountedStores.{store_there}
use Rattle.net_agree.proofs.TimedTicks.{from_between, until_between, in_order_between, no_ticks}
use Rattle.net_agree.proofs.TimedWires.{is_driven}
use Rattle.net_agree.proofs.TimedLanes.{moment_at, KeepsTime, timed_turn, timed_issue, timed_settle, timed_start}
use Rattle.net_agree.proofs.TimedPhases.{Rise, phases_rise}

-- the moment is that of the first phase, which has begun, and ticks rise in the later ones
abbrev IsNow : ℕ → List Phase → Type 0
IsNow moment [] = Unit {0}
IsNow moment (phase ∷ later) = (moment ≡ phase.moment) × Rise moment later

record KeepsTimeUntil (all : List Role) (w : WorldState) (later : List Phase) : Type 0 where
  pub moment : ℕ
  pub keeps : KeepsTime all moment w
  pub now : IsNow moment later

begins : (all : List Role) (moment : ℕ) (w : WorldState) (later : List Phase) → KeepsTime all moment w → Rise moment later → KeepsTimeUntil all (begin w later) later
begins all moment w [] h rise = record { moment = moment; keeps = h; now = tt }
begins all moment w (phase ∷ later) h rise =
    record { moment = phase.moment; keeps = timed_issue all moment phase.moment w phase.issues h rise.0; now = (refl, rise.1) }

timed_reached : (lab : Laboratory) (w : WorldState) (later : List Phase) → IsTrue (is_sound lab) → IsReached lab w later → KeepsTimeUntil (roles lab) w later
timed_reached lab w later sound starts = begins (roles lab) 0 (start lab) (phases lab) (timed_start lab) (phases_rise lab sound)
timed_reached lab w later sound (turns v phase others t reached legal) =
    let before = timed_reached lab v (phase ∷ others) sound reached in
    record { moment = before.moment; keeps = timed_turn (roles lab) before.moment v t.lane t.at before.keeps; now = before.now }
timed_reached lab w later sound (settles v phase others reached drained) =
    let before = timed_reached lab v (phase ∷ others) sound reached in
    let asked = desks_asked phase.issues in
    begins (roles lab) before.moment (settle phase.moment asked phase.shows_routes v) others (timed_settle (roles lab) before.moment phase.moment asked phase.shows_routes v before.keeps) before.now.1

-- ---- what is said of it

now_of : (moment : ℕ) (later : List Phase) (phase : Phase) (others : List Phase) → later ≡ phase ∷ others → IsNow moment later → moment ≡ phase.moment
now_of moment later phase others e h = let now : IsNow moment (phase ∷ others) = subst (IsNow moment) e h in now.0

store_moment : (w : WorldState) (number : ℕ) (s : StoreState) → IsStoreAt w number s → moment_at w.actors number ≡ s.moment
store_moment w number s is = ap (λ o. option_map_or (λ (t : StoreState). t.moment) o 0) (store_there w number s is)

reader_moment : (w : WorldState) (lane : ℕ) (wire : Wire) (s : StoreState) → slice_get w.wires lane ≡ Some wire → IsStoreAt w wire.reader s
    → moment_at w.actors (reader_of (slice_get w.wires lane)) ≡ s.moment
reader_moment w lane wire s e is = ap (λ o. moment_at w.actors (reader_of o)) e ∙ store_moment w wire.reader s is

pub runs_are_timed : RunsAreTimed
runs_are_timed lab w later sound reached =
    let h = timed_reached lab w later sound reached in
    let from : ℕ → ℕ = λ lane. moment_at w.actors (reader_of (slice_get w.wires lane)) in
    record {
      driven = λ lane wire e other. no_ticks (waiting w lane) ((h.keeps.lanes lane).none (ap is_driven e ∙ ne_eqb wire.writer 0 other));
      in_order = λ lane. in_order_between (from lane) h.moment (waiting w lane) (h.keeps.lanes lane).between;
      from_moment = λ lane wire s e is.
          subst (λ moment. All (IsFrom moment) (waiting w lane)) (reader_moment w lane wire s e is) (from_between (from lane) h.moment (waiting w lane) (h.keeps.lanes lane).between);
      until = λ phase others e lane.
          subst (λ moment. All (IsUntil moment) (waiting w lane)) (now_of h.moment later phase others e h.now) (until_between (from lane) h.moment (waiting w lane) (h.keeps.lanes lane).between);
      stores = λ phase others e number s is.
          omega (arith, store_moment w number s is, h.keeps.stores number, now_of h.moment later phase others e h.now);
    }
