-- The stores among actors, in order, each with how many of its finished full syncs settles told.
use Rattle.std.proofs.Common.{◌≡◌, ℕ, zero, suc, ◌<◌, List, [], ◌∷◌, ◌++◌, drop, Option, Some, None, length, map, get_or, set, refl, ap, ◌∙◌, arith}
use Rattle.std.specs.Option.{option_map_or}
use Rattle.std.specs.List.{AllZip}
use Rattle.or_base.specs.declared.kind.Kind.TheVariants.{Stores}
use Rattle.or_base.specs.declared.session.SyncDone.{SyncDone}
use Rattle.kv_store.specs.Store.{StoreState, new_store}
use Rattle.net_record.specs.declared.part.Part.{Part}
use Rattle.net_record.specs.declared.part.Part.TheVariants.{Driver, Desk, Module}
use Rattle.net_record.specs.declared.actor.ActorState.{ActorState}
use Rattle.net_record.specs.Kinds.{store_in}
use Rattle.net_record.specs.Actors.{actor_at, store_of, finished_by, part_after_settle, actor_after_settle, actor_without_question}
use Rattle.net_record.specs.Answers.{Giving, give, give_all}
use Rattle.net_record.specs.Marks.{no_mark}
use Rattle.net_record.specs.World.{mark_of_store, marks_of}
use Rattle.net_record.proofs.Grown.{store_without}

pub record Teller : Type 0 where
  pub told : ℕ
  pub store : StoreState

-- an actor is one, where it is a store
abbrev pub tellers_by : ℕ → Option StoreState → List Teller
tellers_by told None = []
tellers_by told (Some s) = record { told = told; store = s } ∷ []

abbrev pub tellers_of : List ActorState → List Teller
tellers_of [] = []
tellers_of (actor ∷ actors) = tellers_by actor.told (store_of actor.part) ++ tellers_of actors

-- one that stands where there is none
abbrev pub no_teller : Teller
no_teller = record { told = 0; store = new_store Stores [] }

abbrev pub teller_in : List Teller → ℕ → Teller
teller_in tellers place = get_or tellers place no_teller

abbrev pub teller_at : List ActorState → ℕ → Teller
teller_at actors place = teller_in (tellers_of actors) place

-- ---- what a settle tells

-- the finished full syncs that weren't told
abbrev pub left_by : Teller → List SyncDone
left_by t = drop t.told t.store.done

mark_head : (told : ℕ) (store : Option StoreState) (actors : List ActorState)
    → ((place : ℕ) → (get_or (marks_of actors) place no_mark).syncs ≡ left_by (teller_at actors place))
    → (place : ℕ) → (get_or (option_map_or (mark_of_store told) store [] ++ marks_of actors) place no_mark).syncs ≡ left_by (teller_in (tellers_by told store ++ tellers_of actors) place)
mark_head told None actors later place = later place
mark_head told (Some s) actors later zero = refl
mark_head told (Some s) actors later (suc place) = later place

-- a mark tells them
pub syncs_of_mark : (actors : List ActorState) (place : ℕ) → (get_or (marks_of actors) place no_mark).syncs ≡ left_by (teller_at actors place)
syncs_of_mark [] zero = refl
syncs_of_mark [] (suc place) = refl
syncs_of_mark (actor ∷ actors) place = mark_head actor.told (store_of actor.part) actors (syncs_of_mark actors) place

-- after a settle all are told
abbrev pub told_all : Teller → Teller
told_all t = record { told = length t.store.done; store = t.store }

settled_head : (store : Option StoreState) (told : ℕ) (rest after : List Teller) → ((place : ℕ) → teller_in after place ≡ told_all (teller_in rest place))
    → (place : ℕ) → teller_in (tellers_by (option_map_or (λ s. length s.done) store 0) store ++ after) place ≡ told_all (teller_in (tellers_by told store ++ rest) place)
settled_head None told rest after later place = later place
settled_head (Some s) told rest after later zero = refl
settled_head (Some s) told rest after later (suc place) = later place

settled_part : (lengths : List ℕ) (part : Part) (told : ℕ) (rest after : List Teller) → ((place : ℕ) → teller_in after place ≡ told_all (teller_in rest place))
    → (place : ℕ) → teller_in (tellers_by (finished_by part) (store_of (part_after_settle lengths part)) ++ after) place ≡ told_all (teller_in (tellers_by told (store_of part) ++ rest) place)
settled_part lengths Driver told rest after later place = later place
settled_part lengths (Desk d) told rest after later place = later place
settled_part lengths (Module m) told rest after later place = settled_head (store_in m) told rest after later place

pub settled_teller : (clock : ℕ) (lengths : List ℕ) (actors : List ActorState) (place : ℕ)
    → teller_at (map (actor_after_settle clock lengths) actors) place ≡ told_all (teller_at actors place)
settled_teller clock lengths [] zero = refl
settled_teller clock lengths [] (suc place) = refl
settled_teller clock lengths (actor ∷ actors) place =
    settled_part lengths actor.part actor.told (tellers_of actors) (tellers_of (map (actor_after_settle clock lengths) actors)) (settled_teller clock lengths actors) place

-- answers change no store
tellers_without : (actors : List ActorState) (n : ℕ) → tellers_of (set actors n (actor_without_question (actor_at actors n))) ≡ tellers_of actors
tellers_without [] n = refl
tellers_without (actor ∷ actors) zero = ap (λ store. tellers_by actor.told store ++ tellers_of actors) (store_without actor.part)
tellers_without (actor ∷ actors) (suc n) = ap (λ tellers. tellers_by actor.told (store_of actor.part) ++ tellers) (tellers_without actors n)

tellers_give : (g : Giving) (number : ℕ) → tellers_of (give g number).actors ≡ tellers_of g.actors
unfolding give
tellers_give g number = tellers_without g.actors number

pub tellers_give_all : (g : Giving) (numbers : List ℕ) → tellers_of (give_all g numbers).actors ≡ tellers_of g.actors
tellers_give_all g [] = refl
tellers_give_all g (number ∷ numbers) = tellers_give_all (give g number) numbers ∙ tellers_give g number

-- ---- another actor in the place of one

module _ (R : Teller → Teller → Type 0) (same : (t : Teller) → R t t) where
  -- the first actor becomes another
  set_head : (told later : ℕ) (store after : Option StoreState) (rest : List Teller) → AllZip R (tellers_by told store) (tellers_by later after)
      → (place : ℕ) → R (teller_in (tellers_by told store ++ rest) place) (teller_in (tellers_by later after ++ rest) place)
  set_head told later None None rest f place = same (teller_in rest place)
  set_head told later None (Some t) rest f place = absurd f
  set_head told later (Some s) None rest f place = absurd f
  set_head told later (Some s) (Some t) rest f zero = f.0
  set_head told later (Some s) (Some t) rest f (suc place) = same (teller_in rest place)

  -- one behind the first does
  set_later : (told : ℕ) (store : Option StoreState) (rest after : List Teller) → ((place : ℕ) → R (teller_in rest place) (teller_in after place))
      → (place : ℕ) → R (teller_in (tellers_by told store ++ rest) place) (teller_in (tellers_by told store ++ after) place)
  set_later told None rest after others place = others place
  set_later told (Some s) rest after others zero = same (record { told = told; store = s })
  set_later told (Some s) rest after others (suc place) = others place

  pub set_teller : (actors : List ActorState) (n : ℕ) (after : ActorState) → n < length actors
      → AllZip R (tellers_by (actor_at actors n).told (store_of (actor_at actors n).part)) (tellers_by after.told (store_of after.part))
      → (place : ℕ) → R (teller_at actors place) (teller_at (set actors n after) place)
  set_teller [] n after within f place = absurd (omega (arith, within))
  set_teller (actor ∷ actors) zero after within f place = set_head actor.told after.told (store_of actor.part) (store_of after.part) (tellers_of actors) f place
  set_teller (actor ∷ actors) (suc n) after within f place =
      set_later actor.told (store_of actor.part) (tellers_of actors) (tellers_of (set actors n after)) (set_teller actors n after (omega (arith, within)) f) place
