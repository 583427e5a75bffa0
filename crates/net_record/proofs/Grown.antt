-- Journals only grow in a run, so that what a settle tells of them stays true.
use Rattle.std.proofs.Common.{◌≡◌, ℕ, zero, suc, ◌+◌, ◌<◌, List, [], ◌∷◌, ◌++◌, Option, Some, None, length, map, get_or, set, take, refl, sym, ap, ◌∙◌, subst, arith, take_at, Bool}
use Rattle.std.specs.Prelude.{slice_get}
use Rattle.or_base.specs.declared.entry.JournalEntry.{JournalEntry}
use Rattle.std.specs.Prelude.{option_map, option_to_list}
use Rattle.std.specs.Option.{option_map_or}
use Rattle.or_base.specs.declared.item.Stamped.{Stamped}
use Rattle.or_actor.specs.declared.output.Output.{Output}
use Rattle.or_actor.specs.Steps.{TurnMade}
use Rattle.kv_store.specs.Growth.{IsFront}
use Rattle.kv_store.specs.Store.{StoreState}
use Rattle.kv_store.proofs.Growth.{front_same, front_then}
use Rattle.net_record.specs.declared.part.Part.{Part}
use Rattle.net_record.specs.declared.part.Part.TheVariants.{Driver, Desk, Module}
use Rattle.net_record.specs.declared.actor.ActorState.{ActorState}
use Rattle.net_record.specs.Actors.{no_actor, actor_at, store_of, part_step, made_by, actor_after, entry_counts, part_after_settle, actor_after_settle, actors_after_settle, part_without_question, actor_without_question}
use Rattle.net_record.specs.Answers.{Giving, give, give_all, giving_of}
use Rattle.net_record.specs.World.{WorldState, waiting, turn, turn_of, turn_by, reader_of, issue, settle, greatest_clock, mark_of_store, marks_of}
use Rattle.net_record.specs.Records.{journal_of, journals_of}
use Rattle.net_record.specs.Fronts.{fronts}
use Rattle.net_record.proofs.KindsGrow.{Grows, part_grows}
use Rattle.net_record.proofs.Found.{there}

-- ---- lists of journals

-- each of the first journals is the front of the second in its place
abbrev pub AllFronts : List (List JournalEntry) → List (List JournalEntry) → Type 0
AllFronts [] [] = Unit {0}
AllFronts [] (k ∷ ks) = ⊥
AllFronts (j ∷ js) [] = ⊥
AllFronts (j ∷ js) (k ∷ ks) = IsFront j k × AllFronts js ks

pub fronts_same : (js : List (List JournalEntry)) → AllFronts js js
fronts_same [] = tt
fronts_same (j ∷ js) = (front_same j, fronts_same js)

pub fronts_then : (js ks ls : List (List JournalEntry)) → AllFronts js ks → AllFronts ks ls → AllFronts js ls
fronts_then [] [] ls f g = g
fronts_then [] (k ∷ ks) ls f g = absurd f
fronts_then (j ∷ js) [] ls f g = absurd f
fronts_then (j ∷ js) (k ∷ ks) [] f g = absurd g
fronts_then (j ∷ js) (k ∷ ks) (l ∷ ls) f g = (front_then j k l f.0 g.0, fronts_then js ks ls f.1 g.1)

fronts_join : (js ks ms ns : List (List JournalEntry)) → AllFronts js ks → AllFronts ms ns → AllFronts (js ++ ms) (ks ++ ns)
fronts_join [] [] ms ns f g = g
fronts_join [] (k ∷ ks) ms ns f g = absurd f
fronts_join (j ∷ js) [] ms ns f g = absurd f
fronts_join (j ∷ js) (k ∷ ks) ms ns f g = (f.0, fronts_join js ks ms ns f.1 g)

fronts_equal : (js ks : List (List JournalEntry)) → ks ≡ js → AllFronts js ks
fronts_equal js ks e = subst (AllFronts js) (sym e) (fronts_same js)

-- ---- one turn

-- the journals of the one world are fronts of those of the other
abbrev pub Grow : WorldState → WorldState → Type 0
Grow w v = AllFronts (journals_of w.actors) (journals_of v.actors)

pub grow_then : (w v u : WorldState) → Grow w v → Grow v u → Grow w u
grow_then w v u = fronts_then (journals_of w.actors) (journals_of v.actors) (journals_of u.actors)

grow_same : (w : WorldState) → Grow w w
grow_same w = fronts_same (journals_of w.actors)

all_grow : (s t : Option StoreState) → Grows s t → AllFronts (option_to_list (option_map (λ s. s.journal) s)) (option_to_list (option_map (λ s. s.journal) t))
all_grow None None g = tt
all_grow None (Some t) g = absurd g
all_grow (Some s) None g = absurd g
all_grow (Some s) (Some t) g = (g, tt)

-- another actor in the place of one
grow_set : (actors : List ActorState) (n : ℕ) (after : ActorState) → n < length actors
    → AllFronts (journal_of (get_or actors n no_actor).part) (journal_of after.part) → AllFronts (journals_of actors) (journals_of (set actors n after))
grow_set [] n after within f = absurd (omega (arith, within))
grow_set (actor ∷ actors) zero after within f =
    fronts_join (journal_of actor.part) (journal_of after.part) (journals_of actors) (journals_of actors) f (fronts_same (journals_of actors))
grow_set (actor ∷ actors) (suc n) after within f =
    fronts_join (journal_of actor.part) (journal_of actor.part) (journals_of actors) (journals_of (set actors n after))
    (fronts_same (journal_of actor.part)) (grow_set actors n after (omega (arith, within)) f)

grow_actor : (actors : List ActorState) (reader : ℕ) (actor : ActorState) (m : TurnMade) → slice_get actors reader ≡ Some actor
    → AllFronts (journals_of actors) (journals_of (set actors reader (actor_after actor m)))
unfolding actor_after
grow_actor actors reader actor m e =
    let is = there actors reader actor e in
    let grows = all_grow (store_of actor.part) (store_of (part_step actor.part m.lane m.taken.item m.at).0) (part_grows actor.part m.lane m.taken.item m.at) in
    grow_set actors reader (actor_after actor m) is.0
    (subst (λ (a : ActorState). AllFronts (journal_of a.part) (journal_of (part_step actor.part m.lane m.taken.item m.at).0)) (sym is.1) grows)

grow_of : (w : WorldState) (reader : ℕ) (others : List Stamped) (actor : ActorState) (m : TurnMade) → slice_get w.actors reader ≡ Some actor
    → Grow w (turn_of w reader others actor m)
unfolding turn_of
grow_of w reader others actor m e = grow_actor w.actors reader actor m e

grow_by : (w : WorldState) (lane at reader : ℕ) (items : List Stamped) (actor : Option ActorState) → slice_get w.actors reader ≡ actor → Grow w (turn_by w lane at reader items actor)
grow_by w lane at reader [] actor e = grow_same w
grow_by w lane at reader (s ∷ others) None e = grow_same w
grow_by w lane at reader (s ∷ others) (Some actor) e = grow_of w reader others actor (made_by w.actors actor lane at s) e

pub grow_turn : (w : WorldState) (lane at : ℕ) → Grow w (turn w lane at)
unfolding turn
grow_turn w lane at =
    let reader = reader_of (slice_get w.wires lane) in
    grow_by w lane at reader (waiting w lane) (slice_get w.actors reader) refl

-- ---- settles

store_settled : (lengths : List ℕ) (part : Part) → store_of (part_after_settle lengths part) ≡ store_of part
store_settled lengths Driver = refl
store_settled lengths (Desk d) = refl
store_settled lengths (Module m) = refl

journals_settled : (clock : ℕ) (lengths : List ℕ) (actors : List ActorState) → journals_of (map (actor_after_settle clock lengths) actors) ≡ journals_of actors
journals_settled clock lengths [] = refl
journals_settled clock lengths (actor ∷ actors) =
    ap (λ s. option_to_list (option_map (λ (s : StoreState). s.journal) s) ++ journals_of (map (actor_after_settle clock lengths) actors)) (store_settled lengths actor.part)
    ∙ ap (λ js. journal_of actor.part ++ js) (journals_settled clock lengths actors)

pub store_without : (part : Part) → store_of (part_without_question part) ≡ store_of part
store_without Driver = refl
store_without (Desk d) = refl
store_without (Module m) = refl

journals_without : (actors : List ActorState) (n : ℕ) → journals_of (set actors n (actor_without_question (actor_at actors n))) ≡ journals_of actors
journals_without [] n = refl
journals_without (actor ∷ actors) zero = ap (λ s. option_to_list (option_map (λ (s : StoreState). s.journal) s) ++ journals_of actors) (store_without actor.part)
journals_without (actor ∷ actors) (suc n) = ap (λ js. journal_of actor.part ++ js) (journals_without actors n)

journals_give : (g : Giving) (number : ℕ) → journals_of (give g number).actors ≡ journals_of g.actors
unfolding give
journals_give g number = journals_without g.actors number

journals_give_all : (g : Giving) (numbers : List ℕ) → journals_of (give_all g numbers).actors ≡ journals_of g.actors
journals_give_all g [] = refl
journals_give_all g (number ∷ numbers) = journals_give_all (give g number) numbers ∙ journals_give g number

pub grow_settle : (moment : ℕ) (asked : List ℕ) (shows : Bool) (w : WorldState) → Grow w (settle moment asked shows w)
unfolding settle
grow_settle moment asked shows w =
    let g = giving_of w.actors asked in
    let clock = greatest_clock w.actors + 1 in
    fronts_equal (journals_of w.actors) (journals_of (actors_after_settle clock g.actors))
    (journals_settled clock (entry_counts g.actors) g.actors ∙ journals_give_all (record { actors = w.actors; answers = [] }) asked)

pub grow_issue : (w : WorldState) (issues : List Output) → Grow w (issue w issues)
unfolding issue
grow_issue w issues = grow_same w

-- ---- what settles tell

abbrev pub Tell : List ActorState → Type 0
Tell actors = (journals : List (List JournalEntry)) → AllFronts (journals_of actors) journals → journals_of actors ≡ fronts (marks_of actors) journals

tell_actor : (store : Option StoreState) (told : ℕ) (actors : List ActorState) → Tell actors → (journals : List (List JournalEntry))
    → AllFronts (option_to_list (option_map (λ s. s.journal) store) ++ journals_of actors) journals
    → option_to_list (option_map (λ s. s.journal) store) ++ journals_of actors ≡ fronts (option_map_or (mark_of_store told) store [] ++ marks_of actors) journals
tell_actor None told actors others journals f = others journals f
tell_actor (Some s) told actors others [] f = absurd f
tell_actor (Some s) told actors others (whole ∷ journals) f =
    let front = f.0 in
    let first : take (length s.journal) whole ≡ s.journal = ap (take (length s.journal)) front.is ∙ take_at s.journal front.more (length s.journal) refl in
    rw (first, ← others journals f.1) refl

pub tell : (actors : List ActorState) → Tell actors
tell [] [] f = refl
tell [] (whole ∷ journals) f = absurd f
tell (actor ∷ actors) journals f = tell_actor (store_of actor.part) actor.told actors (tell actors) journals f
