-- The stores of a world by their numbers: what turns and settles make of each.
use Rattle.std.proofs.Common.{◌≡◌, ℕ, zero, suc, ◌+◌, inl, inr, List, [], ◌∷◌, Option, Some, map, set, refl, sym, ap, ◌∙◌, get_or-set_same, get_or-set_other, Bool}
use Rattle.std.specs.Prelude.{◌⊎◌, slice_get}
use Rattle.std.proofs.lemmas.Bool.{cases_eq}
use Rattle.std.proofs.lemmas.Option.{get_or_from_slice_get}
use Rattle.or_base.specs.declared.item.Item.{Item}
use Rattle.or_base.specs.declared.kind.Kind.{Kind}
use Rattle.or_actor.specs.Steps.{TurnMade}
use Rattle.kv_store.specs.Store.{StoreState, new_store, store_step}
use Rattle.net_record.specs.declared.role.NodeModule.TheVariants.{Store as StoreRole}
use Rattle.net_record.specs.declared.role.Role.{Role}
use Rattle.net_record.specs.declared.role.Role.TheVariants.{Driver as DriverRole, Node, Link as LinkRole}
use Rattle.net_record.specs.declared.kinds.AnyModule.{AnyModule}
use Rattle.net_record.specs.declared.kinds.AnyModule.TheVariants.{Store}
use Rattle.net_record.specs.declared.part.Part.{Part}
use Rattle.net_record.specs.declared.part.Part.TheVariants.{Driver, Desk, Module}
use Rattle.net_record.specs.declared.actor.ActorState.{ActorState}
use Rattle.net_record.specs.Kinds.{module_step, store_in}
use Rattle.net_record.specs.Actors.{no_actor, actor_at, new_part, new_actor, store_of, part_step, actor_after, entry_counts, part_after_settle, actor_after_settle, actor_without_question}
use Rattle.net_record.specs.Answers.{Giving, give, give_all, giving_of}
use Rattle.net_record.specs.World.{WorldState, settle, greatest_clock}
use Rattle.net_record.proofs.Found.{there}
use Rattle.net_record.proofs.Grown.{store_without}
use Rattle.net_agree.specs.Routed.{IsStoreAt}

-- the store that the actor with this number is, if it is one
abbrev pub store_at : List ActorState → ℕ → Option StoreState
store_at actors number = store_of (actor_at actors number).part

pub store_there : (w : WorldState) (number : ℕ) (s : StoreState) → IsStoreAt w number s → store_at w.actors number ≡ Some s
store_there w number s h = ap (λ (a : ActorState). store_of a.part) (get_or_from_slice_get w.actors number h.actor no_actor h.there) ∙ h.is

-- ---- the start

new_one : (kind : Kind) (role : Role) (s : StoreState) → store_of (new_part kind role) ≡ Some s → (me : List ℕ) × (s ≡ new_store kind me)
new_one kind DriverRole s e = absurd (cc e)
new_one kind (Node StoreRole node setup) s e = (node, cc e)
new_one kind (Node _ node setup) s e = absurd (cc e)
new_one kind (LinkRole link a b) s e = absurd (cc e)

-- each store is as it starts
pub starts_new : (kind : Kind) (all : List Role) (number : ℕ) (s : StoreState) → store_at (map (new_actor kind) all) number ≡ Some s → (me : List ℕ) × (s ≡ new_store kind me)
starts_new kind [] zero s e = absurd (cc e)
starts_new kind [] (suc number) s e = absurd (cc e)
starts_new kind (role ∷ all) zero s e = new_one kind role s e
starts_new kind (role ∷ all) (suc number) s e = starts_new kind all number s e

-- ---- one turn

-- A store after a turn in which the reader took an item: it is as before, or it is the reader's, and took the item.
abbrev pub IsAfter : List ActorState → ℕ → Item → ℕ → StoreState → Type 0
IsAfter actors reader item number s =
    (store_at actors number ≡ Some s) ⊎ ((number ≡ reader) × (before : StoreState) × (store_at actors number ≡ Some before) × (s ≡ (store_step before item).0))

module_after : (m : AnyModule) (lane : ℕ) (item : Item) (s : StoreState) → store_in (module_step m lane item).0 ≡ Some s
    → (before : StoreState) × (store_in m ≡ Some before) × (s ≡ (store_step before item).0)
unfolding module_step
module_after (Store b) lane item s e = (b, refl, cc e)
module_after _ lane item s e = absurd (cc e)

pub part_after : (part : Part) (lane : ℕ) (item : Item) (at : ℕ) (s : StoreState) → store_of (part_step part lane item at).0 ≡ Some s
    → (before : StoreState) × (store_of part ≡ Some before) × (s ≡ (store_step before item).0)
unfolding part_step
part_after Driver lane item at s e = absurd (cc e)
part_after (Desk d) lane item at s e = absurd (cc e)
part_after (Module m) lane item at s e = module_after m lane item s e

pub actor_stepped : (actors : List ActorState) (reader : ℕ) (actor : ActorState) (m : TurnMade) (number : ℕ) (s : StoreState) → slice_get actors reader ≡ Some actor
    → store_at (set actors reader (actor_after actor m)) number ≡ Some s → IsAfter actors reader m.taken.item number s
unfolding actor_after
actor_stepped actors reader actor m number s e h =
    let is = there actors reader actor e in
    let next = actor_after actor m in
    elim (cases_eq number reader) [
      | inl same ↦
          let here = ap (λ n. actor_at (set actors reader next) n) same ∙ get_or-set_same actors reader next no_actor is.0 in
          let after = part_after actor.part m.lane m.taken.item m.at s (sym (ap (λ (a : ActorState). store_of a.part) here) ∙ h) in
          let before = ap (λ n. store_at actors n) same ∙ ap (λ (a : ActorState). store_of a.part) is.1 in
          inr (same, after.0, before ∙ after.1, after.2)
      | inr other ↦ inl (sym (ap (λ (a : ActorState). store_of a.part) (get_or-set_other actors reader number next no_actor other)) ∙ h)
    ]

-- ---- a settle

store_settled : (lengths : List ℕ) (part : Part) → store_of (part_after_settle lengths part) ≡ store_of part
store_settled lengths Driver = refl
store_settled lengths (Desk d) = refl
store_settled lengths (Module m) = refl

each_settled : (clock : ℕ) (lengths : List ℕ) (actors : List ActorState) (number : ℕ) → store_at (map (actor_after_settle clock lengths) actors) number ≡ store_at actors number
each_settled clock lengths [] zero = refl
each_settled clock lengths [] (suc number) = refl
each_settled clock lengths (actor ∷ actors) zero = store_settled lengths actor.part
each_settled clock lengths (actor ∷ actors) (suc number) = each_settled clock lengths actors number

without : (actors : List ActorState) (n number : ℕ) → store_at (set actors n (actor_without_question (actor_at actors n))) number ≡ store_at actors number
without [] n number = refl
without (actor ∷ actors) zero zero = store_without actor.part
without (actor ∷ actors) zero (suc number) = refl
without (actor ∷ actors) (suc n) zero = refl
without (actor ∷ actors) (suc n) (suc number) = without actors n number

gave : (g : Giving) (n number : ℕ) → store_at (give g n).actors number ≡ store_at g.actors number
unfolding give
gave g n number = without g.actors n number

gave_all : (g : Giving) (numbers : List ℕ) (number : ℕ) → store_at (give_all g numbers).actors number ≡ store_at g.actors number
gave_all g [] number = refl
gave_all g (n ∷ numbers) number = gave_all (give g n) numbers number ∙ gave g n number

-- a settle changes no store
pub stores_settled : (moment : ℕ) (asked : List ℕ) (shows : Bool) (w : WorldState) (number : ℕ) → store_at (settle moment asked shows w).actors number ≡ store_at w.actors number
unfolding settle
stores_settled moment asked shows w number =
    let g = giving_of w.actors asked in
    each_settled (greatest_clock w.actors + 1) (entry_counts g.actors) g.actors number ∙ gave_all (record { actors = w.actors; answers = [] }) asked number

-- and none of the turns
pub turns_settled : (moment : ℕ) (asked : List ℕ) (shows : Bool) (w : WorldState) → (settle moment asked shows w).turns ≡ w.turns
unfolding settle
turns_settled moment asked shows w = refl
