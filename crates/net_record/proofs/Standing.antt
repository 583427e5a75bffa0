-- What actors are stays in a run: a desk keeps its node's name and the number of its store, a store stays a store, and
-- the driver the driver.
use Rattle.std.proofs.Common.{◌≡◌, ℕ, List, [], ◌∷◌, Bool, true, false, Option, Some, None, map, set, refl, sym, ap, ◌∙◌}
use Rattle.std.specs.Prelude.{slice_get, option_map, is_some}
use Rattle.std.proofs.Math.Seq.{map-set_same}
use Rattle.or_base.specs.declared.asked.Asked.{Asked}
use Rattle.or_base.specs.declared.asked.Asked.TheVariants.{Key, Prefix}
use Rattle.or_base.specs.declared.item.Item.{Item}
use Rattle.or_base.specs.declared.item.Stamped.{Stamped}
use Rattle.or_actor.specs.Steps.{TurnMade}
use Rattle.kv_store.specs.Store.{StoreState}
use Rattle.net_record.specs.declared.part.Part.{Part}
use Rattle.net_record.specs.declared.part.Part.TheVariants.{Driver, Desk, Module}
use Rattle.net_record.specs.declared.actor.ActorState.{ActorState}
use Rattle.net_record.specs.Kinds.{module_step, store_in}
use Rattle.net_record.specs.Desk.{DeskState, asked_in, with_question, desk_after}
use Rattle.net_record.specs.Actors.{no_actor, desk_of, store_of, part_step, actor_after, part_after_settle, actor_after_settle, part_without_question}
use Rattle.net_record.specs.World.{WorldState, turn_of}
use Rattle.net_record.proofs.KindsGrow.{Grows, part_grows}
use Rattle.net_record.proofs.Found.{there}

-- What never changes of an actor: where it is a desk, its node's name and its store's number; whether it is a store;
-- whether it is the driver.
pub record Standing : Type 0 where
  pub desk : Option (List ℕ × ℕ)
  pub store : Bool
  pub driver : Bool

abbrev pub node_and_store : DeskState → List ℕ × ℕ
node_and_store d = (d.node, d.store.owner)

abbrev pub is_driver : Part → Bool
is_driver Driver = true
is_driver (Desk d) = false
is_driver (Module m) = false

abbrev pub standing_of : Part → Standing
standing_of part = record { desk = option_map node_and_store (desk_of part); store = is_some (store_of part); driver = is_driver part }

abbrev pub standings : List ActorState → List Standing
standings actors = map (λ actor. standing_of actor.part) actors

-- one that is nothing of these
abbrev pub no_standing : Standing
no_standing = standing_of no_actor.part

-- ---- a turn

store_stays : (s t : Option StoreState) → Grows s t → is_some t ≡ is_some s
store_stays None None g = refl
store_stays None (Some t) g = absurd g
store_stays (Some s) None g = absurd g
store_stays (Some s) (Some t) g = refl

pub node_and_store-question : (d : DeskState) (asked : Option Asked) (at : ℕ) → node_and_store (with_question d asked at) ≡ node_and_store d
node_and_store-question d None at = refl
node_and_store-question d (Some (Key key)) at = refl
node_and_store-question d (Some (Prefix prefix)) at = refl

standing_of-desk : (d e : DeskState) → node_and_store e ≡ node_and_store d → standing_of (Desk e) ≡ standing_of (Desk d)
standing_of-desk d e is = ap (λ s. let one : Standing = record { desk = Some s; store = false; driver = false } in one) is

part_stays : (part : Part) (lane : ℕ) (item : Item) (at : ℕ) → standing_of (part_step part lane item at).0 ≡ standing_of part
unfolding part_step desk_after
part_stays Driver lane item at = refl
part_stays (Desk d) lane item at = standing_of-desk d (with_question d (asked_in item) at) (node_and_store-question d (asked_in item) at)
part_stays (Module m) lane item at =
    ap (λ stays. let one : Standing = record { desk = None; store = stays; driver = false } in one)
    (store_stays (store_in m) (store_in (module_step m lane item).0) (part_grows (Module m) lane item at))

stay_actor : (actors : List ActorState) (reader : ℕ) (actor : ActorState) (m : TurnMade) → slice_get actors reader ≡ Some actor
    → standings (set actors reader (actor_after actor m)) ≡ standings actors
unfolding actor_after
stay_actor actors reader actor m e =
    map-set_same (λ (a : ActorState). standing_of a.part) actors reader (actor_after actor m) no_actor
    (part_stays actor.part m.lane m.taken.item m.at ∙ ap (λ (a : ActorState). standing_of a.part) (sym (there actors reader actor e).1))

pub stay_of : (w : WorldState) (reader : ℕ) (others : List Stamped) (actor : ActorState) (m : TurnMade) → slice_get w.actors reader ≡ Some actor
    → standings (turn_of w reader others actor m).actors ≡ standings w.actors
unfolding turn_of
stay_of w reader others actor m e = stay_actor w.actors reader actor m e

-- ---- a settle

pub stays_without : (part : Part) → standing_of (part_without_question part) ≡ standing_of part
stays_without Driver = refl
stays_without (Desk d) = refl
stays_without (Module m) = refl

stays_settled : (lengths : List ℕ) (part : Part) → standing_of (part_after_settle lengths part) ≡ standing_of part
stays_settled lengths Driver = refl
stays_settled lengths (Desk d) = refl
stays_settled lengths (Module m) = refl

pub stay_settled : (clock : ℕ) (lengths : List ℕ) (actors : List ActorState) → standings (map (actor_after_settle clock lengths) actors) ≡ standings actors
stay_settled clock lengths [] = refl
stay_settled clock lengths (actor ∷ actors) =
    ap (λ s. s ∷ standings (map (actor_after_settle clock lengths) actors)) (stays_settled lengths actor.part)
    ∙ ap (λ ss. standing_of actor.part ∷ ss) (stay_settled clock lengths actors)
