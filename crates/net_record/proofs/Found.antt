-- What a desk found last in a view is no more than the entries that are there, so that the greatest number in its range is in it.
-- It holds of any list of actors, whatever the order of a node's modules is.
use Rattle.std.proofs.Common.{◌≡◌, ℕ, zero, suc, ◌+◌, ◌<◌, ◌≤◌, inl, inr, List, [], ◌∷◌, Option, Some, None, length, map, get_or, set, refl, sym, ap, ◌∙◌, subst, arith, get_or-set_same, get_or-set_other, Bool}
use Rattle.std.specs.Prelude.{slice_get}
use Rattle.std.proofs.lemmas.Bool.{cases_lt, cases_eq}
use Rattle.std.proofs.lemmas.List.{set_past}
use Rattle.std.specs.Option.{option_map_or}
use Rattle.or_base.specs.declared.asked.Asked.{Asked}
use Rattle.or_base.specs.declared.asked.Asked.TheVariants.{Key, Prefix}
use Rattle.or_base.specs.declared.item.Item.{Item}
use Rattle.or_base.specs.declared.item.Stamped.{Stamped}
use Rattle.or_base.specs.declared.kind.Kind.{Kind}
use Rattle.or_actor.specs.declared.output.Output.{Output}
use Rattle.or_actor.specs.Steps.{TurnMade}
use Rattle.net_record.specs.declared.role.NodeModule.TheVariants.{Desk as DeskRole}
use Rattle.net_record.specs.declared.role.Role.{Role}
use Rattle.net_record.specs.declared.role.Role.TheVariants.{Driver as DriverRole, Node, Link as LinkRole}
use Rattle.net_record.specs.declared.part.Part.{Part}
use Rattle.net_record.specs.declared.part.Part.TheVariants.{Driver, Desk, Module}
use Rattle.net_record.specs.declared.actor.ActorState.{ActorState}
use Rattle.net_record.specs.declared.desk.View.{View}
use Rattle.net_record.specs.Desk.{DeskState, asked_in, with_question, desk_after}
use Rattle.net_record.specs.Actors.{no_actor, actor_at, new_part, new_actor, desk_of, entries_of, view_asked, range_in, no_range, range_for, part_step, actor_after, made_by, entry_counts, part_after_settle, actor_after_settle, actors_after_settle}
use Rattle.net_record.specs.Answers.{giving_of}
use Rattle.net_record.specs.World.{WorldState, waiting, turn, turn_of, turn_by, reader_of, range, range_by, issue, settle, greatest_clock}
use Rattle.net_record.proofs.KindsGrow.{part_longer}

-- how many entries an actor has
abbrev pub entries_at : List ActorState → ℕ → ℕ
entries_at actors number = length (entries_of (actor_at actors number).part)

-- what was found last in a view is no more than the entries of the actor that it is of
abbrev pub IsViewWithin : List ActorState → View → Type 0
IsViewWithin actors v = v.last ≤ entries_at actors v.owner

-- so it is of both views of a desk, if it is one
abbrev pub FoundWithin : List ActorState → Option DeskState → Type 0
FoundWithin actors None = Unit {0}
FoundWithin actors (Some d) = IsViewWithin actors d.store × IsViewWithin actors d.decision

-- no desk among these actors found more than is there
abbrev pub DesksFind : List ActorState → Type 0
DesksFind actors = (number : ℕ) → FoundWithin actors (desk_of (actor_at actors number).part)

-- journals that are no shorter
within_longer : (actors after : List ActorState) (desk : Option DeskState) → ((number : ℕ) → entries_at actors number ≤ entries_at after number)
    → FoundWithin actors desk → FoundWithin after desk
within_longer actors after None longer h = tt
within_longer actors after (Some d) longer h = (omega (arith, h.0, longer d.store.owner), omega (arith, h.1, longer d.decision.owner))

-- another actor in the place of one
pub set_longer : (actors : List ActorState) (n : ℕ) (after : ActorState) → entries_at actors n ≤ length (entries_of after.part)
    → (number : ℕ) → entries_at actors number ≤ entries_at (set actors n after) number
set_longer actors n after longer number =
    elim (cases_eq number n) [
      | inl is ↦
          elim (cases_lt n (length actors)) [
            | inl within ↦ omega (
              arith,
              longer,
              ap (λ m. entries_at actors m) is,
              ap (λ m. entries_at (set actors n after) m) is,
              ap (λ (a : ActorState). length (entries_of a.part)) (get_or-set_same actors n after no_actor within),
            )
            | inr past ↦ omega (arith, ap (λ others. entries_at others number) (set_past actors n after past))
          ]
      | inr other ↦ omega (arith, ap (λ (a : ActorState). length (entries_of a.part)) (get_or-set_other actors n number after no_actor other))
    ]

find_set : (actors : List ActorState) (n : ℕ) (after : ActorState) → DesksFind actors → n < length actors → FoundWithin actors (desk_of after.part)
    → entries_at actors n ≤ length (entries_of after.part) → DesksFind (set actors n after)
find_set actors n after h within last longer number =
    let more = within_longer actors (set actors n after) (desk_of (actor_at (set actors n after) number).part) (set_longer actors n after longer) in
    elim (cases_eq number n) [
      | inl is ↦
          let here = ap (λ m. actor_at (set actors n after) m) is ∙ get_or-set_same actors n after no_actor within in
          more (subst (λ (a : ActorState). FoundWithin actors (desk_of a.part)) (sym here) last)
      | inr other ↦
          more (subst (λ (a : ActorState). FoundWithin actors (desk_of a.part)) (sym (get_or-set_other actors n number after no_actor other)) (h number))
    ]

-- ---- one turn

found_asked : (actors : List ActorState) (d : DeskState) (asked : Option Asked) (at : ℕ) → FoundWithin actors (Some d)
    → at ≤ (option_map_or (range_in actors) (view_asked (Some d) asked) no_range).most → FoundWithin actors (Some (with_question d asked at))
found_asked actors d None at last within = last
found_asked actors d (Some (Key key)) at last within = (within, last.1)
found_asked actors d (Some (Prefix prefix)) at last within = (last.0, within)

found_after : (actors : List ActorState) (part : Part) (lane : ℕ) (item : Item) (at : ℕ) → FoundWithin actors (desk_of part) → at ≤ (range_for actors part item).most
    → FoundWithin actors (desk_of (part_step part lane item at).0)
unfolding part_step range_for desk_after
found_after actors Driver lane item at last within = tt
found_after actors (Desk d) lane item at last within = found_asked actors d (asked_in item) at last within
found_after actors (Module m) lane item at last within = tt

-- an actor that is there
pub there : (actors : List ActorState) (n : ℕ) (actor : ActorState) → slice_get actors n ≡ Some actor → (n < length actors) × (get_or actors n no_actor ≡ actor)
there [] zero actor e = cc e
there [] (suc n) actor e = cc e
there (a ∷ actors) zero actor e = (omega arith, cc e)
there (a ∷ actors) (suc n) actor e = let h = there actors n actor e in (omega (arith, h.0), h.1)

find_actor : (actors : List ActorState) (reader : ℕ) (actor : ActorState) (m : TurnMade) → slice_get actors reader ≡ Some actor → DesksFind actors
    → m.at ≤ (range_for actors actor.part m.taken.item).most → DesksFind (set actors reader (actor_after actor m))
unfolding actor_after
find_actor actors reader actor m e h within =
    let is = there actors reader actor e in
    let last = subst (λ (a : ActorState). FoundWithin actors (desk_of a.part)) is.1 (h reader) in
    find_set actors reader (actor_after actor m) h is.0
    (found_after actors actor.part m.lane m.taken.item m.at last within)
    (omega (arith, ap (λ (a : ActorState). length (entries_of a.part)) is.1, part_longer actor.part m.lane m.taken.item m.at))

find_of : (w : WorldState) (reader : ℕ) (others : List Stamped) (actor : ActorState) (m : TurnMade) → slice_get w.actors reader ≡ Some actor → DesksFind w.actors
    → m.at ≤ (range_for w.actors actor.part m.taken.item).most → DesksFind (turn_of w reader others actor m).actors
unfolding turn_of
find_of w reader others actor m e h within = find_actor w.actors reader actor m e h within

find_by : (w : WorldState) (lane at reader : ℕ) (items : List Stamped) (actor : Option ActorState) → slice_get w.actors reader ≡ actor → DesksFind w.actors
    → at ≤ (range_by w.actors items actor).most → DesksFind (turn_by w lane at reader items actor).actors
find_by w lane at reader [] actor e h within = h
find_by w lane at reader (s ∷ others) None e h within = h
find_by w lane at reader (s ∷ others) (Some actor) e h within = find_of w reader others actor (made_by w.actors actor lane at s) e h within

-- a turn that finds no more than it may
pub find_turn : (w : WorldState) (lane at : ℕ) → DesksFind w.actors → at ≤ (range w lane).most → DesksFind (turn w lane at).actors
unfolding turn range
find_turn w lane at h within =
    let reader = reader_of (slice_get w.wires lane) in
    find_by w lane at reader (waiting w lane) (slice_get w.actors reader) refl h within

range_fair : (actors : List ActorState) (desk : Option DeskState) (asked : Option Asked) → FoundWithin actors desk
    → (option_map_or (range_in actors) (view_asked desk asked) no_range).least ≤ (option_map_or (range_in actors) (view_asked desk asked) no_range).most
range_fair actors None asked last = omega arith
range_fair actors (Some d) None last = omega arith
range_fair actors (Some d) (Some (Key key)) last = last.0
range_fair actors (Some d) (Some (Prefix prefix)) last = last.1

range_by_fair : (actors : List ActorState) (reader : ℕ) (items : List Stamped) (actor : Option ActorState) → slice_get actors reader ≡ actor → DesksFind actors
    → (range_by actors items actor).least ≤ (range_by actors items actor).most
unfolding range_for
range_by_fair actors reader [] actor e h = omega arith
range_by_fair actors reader (s ∷ others) None e h = omega arith
range_by_fair actors reader (s ∷ others) (Some actor) e h =
    let is = there actors reader actor e in
    range_fair actors (desk_of actor.part) (asked_in s.item) (subst (λ (a : ActorState). FoundWithin actors (desk_of a.part)) is.1 (h reader))

-- the range of a turn isn't empty
pub range_holds : (w : WorldState) (lane : ℕ) → DesksFind w.actors → (range w lane).least ≤ (range w lane).most
unfolding range
range_holds w lane h =
    let reader = reader_of (slice_get w.wires lane) in
    range_by_fair w.actors reader (waiting w lane) (slice_get w.actors reader) refl h

-- ---- the start, issues and settles

new_within : (actors : List ActorState) (kind : Kind) (role : Role) → FoundWithin actors (desk_of (new_part kind role))
new_within actors kind DriverRole = tt
new_within actors kind (Node DeskRole node setup) = (omega arith, omega arith)
new_within actors kind (Node _ node setup) = tt
new_within actors kind (LinkRole link a b) = tt

starts_within : (actors : List ActorState) (kind : Kind) (all : List Role) (number : ℕ) → FoundWithin actors (desk_of (actor_at (map (new_actor kind) all) number).part)
starts_within actors kind [] zero = tt
starts_within actors kind [] (suc number) = tt
starts_within actors kind (role ∷ all) zero = new_within actors kind role
starts_within actors kind (role ∷ all) (suc number) = starts_within actors kind all number

pub find_start : (kind : Kind) (all : List Role) → DesksFind (map (new_actor kind) all)
find_start kind all = starts_within (map (new_actor kind) all) kind all

pub find_issue : (w : WorldState) (issues : List Output) → DesksFind w.actors → DesksFind (issue w issues).actors
unfolding issue
find_issue w issues h = h

pub entries_settled : (lengths : List ℕ) (part : Part) → entries_of (part_after_settle lengths part) ≡ entries_of part
entries_settled lengths Driver = refl
entries_settled lengths (Desk d) = refl
entries_settled lengths (Module m) = refl

-- how many entries an actor has, among all of them
pub length_at : (actors : List ActorState) (number : ℕ) → get_or (entry_counts actors) number 0 ≡ entries_at actors number
length_at [] zero = refl
length_at [] (suc number) = refl
length_at (actor ∷ actors) zero = refl
length_at (actor ∷ actors) (suc number) = length_at actors number

-- actors have as many entries after a settle
pub settled_long : (clock : ℕ) (lengths : List ℕ) (actors : List ActorState) (number : ℕ) → entries_at (map (actor_after_settle clock lengths) actors) number ≡ entries_at actors number
settled_long clock lengths [] zero = refl
settled_long clock lengths [] (suc number) = refl
settled_long clock lengths (actor ∷ actors) zero = ap length (entries_settled lengths actor.part)
settled_long clock lengths (actor ∷ actors) (suc number) = settled_long clock lengths actors number

part_within : (after : List ActorState) (lengths : List ℕ) (part : Part) → ((number : ℕ) → get_or lengths number 0 ≤ entries_at after number)
    → FoundWithin after (desk_of (part_after_settle lengths part))
part_within after lengths Driver most = tt
part_within after lengths (Desk d) most = (most d.store.owner, most d.decision.owner)
part_within after lengths (Module m) most = tt

each_within : (after : List ActorState) (clock : ℕ) (lengths : List ℕ) (actors : List ActorState) → ((number : ℕ) → get_or lengths number 0 ≤ entries_at after number)
    → (number : ℕ) → FoundWithin after (desk_of (actor_at (map (actor_after_settle clock lengths) actors) number).part)
each_within after clock lengths [] most zero = tt
each_within after clock lengths [] most (suc number) = tt
each_within after clock lengths (actor ∷ actors) most zero = part_within after lengths actor.part most
each_within after clock lengths (actor ∷ actors) most (suc number) = each_within after clock lengths actors most number

find_settled : (clock : ℕ) (actors : List ActorState) → DesksFind (actors_after_settle clock actors)
find_settled clock actors =
    each_within (actors_after_settle clock actors) clock (entry_counts actors) actors
    (λ number. omega (arith, length_at actors number, settled_long clock (entry_counts actors) actors number))

pub find_settle : (moment : ℕ) (asked : List ℕ) (shows : Bool) (w : WorldState) → DesksFind (settle moment asked shows w).actors
unfolding settle
find_settle moment asked shows w = find_settled (greatest_clock w.actors + 1) (giving_of w.actors asked).actors
