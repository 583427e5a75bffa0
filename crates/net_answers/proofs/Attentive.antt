-- At every moment of a phase a desk has seen what the settle before told and no more than its store has, its open questions found
-- no more than there was, and it has no more of them than the phase asks. So it is under any legal schedule.
use Rattle.std.proofs.Common.{◌≡◌, ℕ, zero, suc, ◌+◌, ◌≤◌, inl, inr, List, [], ◌∷◌, ◌++◌, Bool, true, false, Option, Some, None, length, map, get_or, set, refl, sym, ap, ◌∙◌, subst, arith, get_or-set_same, get_or-set_other}
use Rattle.std.specs.Prelude.{slice_get, is_some, All, option_map}
use Rattle.std.specs.Option.{option_map_or}
use Rattle.std.specs.List.{flat_map, enumerate_from}
use Rattle.std.proofs.lemmas.Bool.{cases_eq, eq-eqb}
use Rattle.std.proofs.lemmas.List.{length_push}
use Rattle.std.proofs.lemmas.List.Elements.{All-append, All-nil, All-cons}
use Rattle.or_base.specs.declared.asked.Asked.{Asked}
use Rattle.or_base.specs.declared.asked.Asked.TheVariants.{Key, Prefix}
use Rattle.or_base.specs.declared.item.Item.{Item}
use Rattle.or_base.specs.declared.item.Item.TheVariants.{Ask, Get}
use Rattle.or_base.specs.declared.prefix.Prefix.{Prefix as PrefixType}
use Rattle.or_base.specs.declared.item.Stamped.{Stamped}
use Rattle.or_base.specs.declared.kind.Kind.{Kind}
use Rattle.or_actor.specs.declared.output.Output.{Output}
use Rattle.or_actor.specs.declared.output.Output.TheVariants.{To}
use Rattle.or_actor.specs.Steps.{TurnMade}
use Rattle.net_laboratory.specs.Scenario.{Laboratory}
use Rattle.net_record.specs.declared.wire.Wire.{Wire}
use Rattle.net_record.specs.declared.role.NodeModule.TheVariants.{Desk as DeskRole}
use Rattle.net_record.specs.declared.role.Role.{Role}
use Rattle.net_record.specs.declared.role.Role.TheVariants.{Driver as DriverRole, Node, Link as LinkRole}
use Rattle.net_record.specs.declared.part.Part.{Part}
use Rattle.net_record.specs.declared.part.Part.TheVariants.{Driver, Desk, Module}
use Rattle.net_record.specs.declared.actor.ActorState.{ActorState}
use Rattle.net_record.specs.declared.desk.Question.{Question}
use Rattle.net_record.specs.declared.record.NodeMark.{NodeMark}
use Rattle.net_record.specs.Roles.{modules_of, node_roles, link_role, roles}
use Rattle.net_record.specs.Wires.{wires}
use Rattle.net_record.specs.Kinds.{module_step}
use Rattle.net_record.specs.Desk.{DeskState, new_desk, asked_in, with_question, desk_after}
use Rattle.net_record.specs.Actors.{Range, no_actor, actor_at, new_part, new_actor, desk_of, entries_of, view_asked, range_in, no_range, range_for, part_step, actor_after, outputs_of, made_by}
use Rattle.net_record.specs.Answers.{asked_if, desks_asked}
use Rattle.net_record.specs.World.{WorldState, start, waiting, turn, turn_of, turn_by, reader_of, range, range_by, issue, driver_clock, deliver}
use Rattle.net_record.specs.Marks.{entries_told}
use Rattle.net_record.proofs.KindsGrow.{part_longer}
use Rattle.net_record.proofs.Found.{entries_at, set_longer, there}
use Rattle.net_record.proofs.Drained.{none_wait}
use Rattle.net_record.proofs.Standing.{Standing, node_and_store, is_driver, standings, no_standing, stay_of}
use Rattle.net_record.proofs.Places.{how_many, stores_before, standings_at_start, standings-new, standing_here, desk_here}
use Rattle.net_answers.specs.Answered.{asks_for_routes}
use Rattle.net_answers.proofs.Awaiting.{passing_on, passing_waiting, passing_waiting-drained, passing_waiting-taken, passing_waiting-sent, how_often, number_if, numbers_by, passing_waiting-issued}

-- ---- one desk

abbrev pub is_question : Item → Bool
is_question item = is_some (asked_in item)

abbrev pub is_ask : Item → Bool
is_ask (Ask prefix) = true
is_ask _ = false

-- the number of the actor that has what a desk is asked, where these are its node's store and Decision
abbrev pub owner_for : ℕ → ℕ → Asked → ℕ
owner_for store decision (Key key) = store
owner_for store decision (Prefix prefix) = decision

-- A question that no settle has answered, to a desk of a node whose store and Decision have these numbers: when it was asked the
-- desk had seen what the settle before told, and no more than the store has; the question found no more than was there, and no
-- less than was seen where nobody asks for routes.
pub record IsOpen (asks : Bool) (told : ℕ) (actors : List ActorState) (store decision : ℕ) (q : Question) : Type 0 where
  pub seen : told ≤ q.seen
  pub known : q.seen ≤ entries_at actors store
  pub within : q.at ≤ entries_at actors (owner_for store decision q.asked)
  pub found : asks ≡ false → q.seen ≤ q.at

-- A desk among these actors, where the settle before told so much of each store, so many questions wait for the desk,
-- and so many are asked of it in the phase. Where nobody asks for routes, what it found last of the store is the most that it has seen.
pub record IsAttentive (asks : Bool) (told : ℕ → ℕ) (actors : List ActorState) (waits asked : ℕ) (d : DeskState) : Type 0 where
  pub least : told d.store.owner ≤ d.seen
  pub most : d.seen ≤ entries_at actors d.store.owner
  pub questions : All (IsOpen asks (told d.store.owner) actors d.store.owner d.decision.owner) d.questions
  pub few : length d.questions + waits ≤ asked
  pub last : asks ≡ false → d.store.last ≡ d.seen

-- actors have no fewer entries
abbrev pub HaveMore : List ActorState → List ActorState → Type 0
HaveMore actors after = (number : ℕ) → entries_at actors number ≤ entries_at after number

open_longer : (asks : Bool) (told : ℕ) (actors after : List ActorState) (store decision : ℕ) (qs : List Question) → HaveMore actors after
    → All (IsOpen asks told actors store decision) qs → All (IsOpen asks told after store decision) qs
open_longer asks told actors after store decision qs longer are k q within =
    let is = are k q within in
    record {
      seen = is.seen;
      known = omega (arith, is.known, longer store);
      within = omega (arith, is.within, longer (owner_for store decision q.asked));
      found = is.found;
    }

attentive_longer : (asks : Bool) (told : ℕ → ℕ) (actors after : List ActorState) (waits fewer asked : ℕ) (d : DeskState) → HaveMore actors after → fewer ≤ waits
    → IsAttentive asks told actors waits asked d → IsAttentive asks told after fewer asked d
attentive_longer asks told actors after waits fewer asked d longer less is = record {
  least = is.least;
  most = omega (arith, is.most, longer d.store.owner);
  questions = open_longer asks (told d.store.owner) actors after d.store.owner d.decision.owner d.questions longer is.questions;
  few = omega (arith, is.few, less);
  last = is.last;
}

-- a number is one of these
abbrev pub IsWithin : Range → ℕ → Type 0
IsWithin range at = (range.least ≤ at) × (at ≤ range.most)

-- one question more, for which it found so many entries
more_questions : (asks : Bool) (told : ℕ → ℕ) (actors after : List ActorState) (waits asked at : ℕ) (d : DeskState) (question : Asked)
    → HaveMore actors after → at ≤ entries_at actors (owner_for d.store.owner d.decision.owner question) → (asks ≡ false → d.seen ≤ at)
    → IsAttentive asks told actors waits asked d
    → All (IsOpen asks (told d.store.owner) after d.store.owner d.decision.owner) (d.questions ++ record { asked = question; at = at; seen = d.seen } ∷ [])
more_questions asks told actors after waits asked at d question longer most found is =
    let store = d.store.owner in
    let decision = d.decision.owner in
    let q : Question = record { asked = question; at = at; seen = d.seen } in
    let P = IsOpen asks (told store) after store decision in
    let here : P q = record {
      seen = is.least;
      known = omega (arith, is.most, longer store);
      within = omega (arith, most, longer (owner_for store decision question));
      found = found;
    } in
    All-append P d.questions (q ∷ []) (open_longer asks (told store) actors after store decision d.questions longer is.questions) (All-cons P q [] here (All-nil P))

-- a desk that is asked finds no less than it found last, and no more than there is; a Decision has no more than its store
attentive_question : (asks : Bool) (told : ℕ → ℕ) (actors after : List ActorState) (waits fewer asked at : ℕ) (d : DeskState) (question : Option Asked)
    → HaveMore actors after → entries_at actors d.decision.owner ≤ entries_at actors d.store.owner
    → IsWithin (option_map_or (range_in actors) (view_asked (Some d) question) no_range) at → fewer + how_many (is_some question ∷ []) ≤ waits
    → (asks ≡ false → (prefix : PrefixType) → question ≡ Some (Prefix prefix) → ⊥)
    → IsAttentive asks told actors waits asked d → IsAttentive asks told after fewer asked (with_question d question at)
attentive_question asks told actors after waits fewer asked at d None longer follows found less none is =
    attentive_longer asks told actors after waits fewer asked d longer (omega (arith, less)) is
attentive_question asks told actors after waits fewer asked at d (Some (Key key)) longer follows found less none is =
    let fair : asks ≡ false → d.seen ≤ at = λ unasked. omega (arith, is.last unasked, found.0) in
    record {
      least = omega (arith, is.least);
      most = omega (arith, is.most, longer d.store.owner, found.1);
      questions = more_questions asks told actors after waits asked at d (Key key) longer found.1 fair is;
      few = omega (arith, is.few, less, length_push d.questions (record { asked = Key key; at = at; seen = d.seen }));
      last = λ unasked. omega (arith, fair unasked);
    }
attentive_question asks told actors after waits fewer asked at d (Some (Prefix prefix)) longer follows found less none is = record {
  least = omega (arith, is.least);
  most = omega (arith, is.most, longer d.store.owner, found.1, follows);
  questions = more_questions asks told actors after waits asked at d (Prefix prefix) longer found.1 (λ unasked. absurd (none unasked prefix refl)) is;
  few = omega (arith, is.few, less, length_push d.questions (record { asked = Prefix prefix; at = at; seen = d.seen }));
  last = λ unasked. absurd (none unasked prefix refl);
}

-- ---- a world

-- what marks tell of the store with this number
abbrev pub told_of_store : Laboratory → List NodeMark → ℕ → ℕ
told_of_store lab marks store = entries_told marks (stores_before (standings_at_start (roles lab)) store)

-- the Decision of which a desk has a view has no more entries than the store of which it has one
abbrev pub DecisionsFollow : List ActorState → Type 0
DecisionsFollow actors =
    (number : ℕ) (d : DeskState) → desk_of (actor_at actors number).part ≡ Some d → entries_at actors d.decision.owner ≤ entries_at actors d.store.owner

-- each desk of a laboratory's world, behind a settle with these marks and in a phase in which these desks are asked
pub record Attends (lab : Laboratory) (marks : List NodeMark) (asked : List ℕ) (w : WorldState) : Type 0 where
  pub wired : w.wires ≡ wires (roles lab)
  pub stand : standings w.actors ≡ standings_at_start (roles lab)
  pub desks : (number : ℕ) (d : DeskState) → desk_of (actor_at w.actors number).part ≡ Some d
      → IsAttentive (asks_for_routes lab) (told_of_store lab marks) w.actors (passing_waiting is_question number w.lanes w.wires) (how_often number asked) d
  pub none : asks_for_routes lab ≡ false → (number : ℕ) (d : DeskState) → desk_of (actor_at w.actors number).part ≡ Some d
      → passing_waiting is_ask number w.lanes w.wires ≡ 0

-- ---- a turn

-- a desk after a turn was one before it
desk_before : (part : Part) (lane : ℕ) (item : Item) (at : ℕ) (d : DeskState) → desk_of (part_step part lane item at).0 ≡ Some d
    → (e : DeskState) × (desk_of part ≡ Some e) × (with_question e (asked_in item) at ≡ d)
unfolding part_step desk_after
desk_before Driver lane item at d e = cc e
desk_before (Desk f) lane item at d e = (f, refl, cc e)
desk_before (Module m) lane item at d e = cc e

-- whoever takes its turn sends nothing to a desk
sent_by : (test : Item → Bool) (lab : Laboratory) (ws : List Wire) (number reader stamp lane at : ℕ) (item : Item) (lanes : List (List Stamped)) (desk : List ℕ × ℕ) (part : Part)
    → ws ≡ wires (roles lab) → (get_or (standings_at_start (roles lab)) number no_standing).desk ≡ Some desk
    → (get_or (standings_at_start (roles lab)) reader no_standing).driver ≡ is_driver part
    → passing_waiting test number (deliver ws reader stamp lanes (part_step part lane item at).1) ws ≤ passing_waiting test number lanes ws
unfolding part_step
sent_by test lab ws number reader stamp lane at item lanes desk Driver wired is driver = omega arith
sent_by test lab ws number reader stamp lane at item lanes desk (Desk d) wired is driver = omega arith
sent_by test lab ws number reader stamp lane at item lanes desk (Module m) wired is driver =
    subst (λ vs. passing_waiting test number (deliver vs reader stamp lanes (module_step m lane item).1) vs ≤ passing_waiting test number lanes vs) (sym wired)
    (passing_waiting-sent test (roles lab) number reader stamp lanes (module_step m lane item).1 desk is driver)

-- what waits for a desk after a turn, with what was taken, is no more than before
waits_after : (test : Item → Bool) (lab : Laboratory) (w : WorldState) (reader : ℕ) (others : List Stamped) (actor : ActorState) (m : TurnMade) (number : ℕ) (desk : List ℕ × ℕ)
    → w.wires ≡ wires (roles lab) → standings w.actors ≡ standings_at_start (roles lab) → slice_get w.actors reader ≡ Some actor → waiting w m.lane ≡ m.taken ∷ others
    → reader ≡ reader_of (slice_get w.wires m.lane) → (get_or (standings_at_start (roles lab)) number no_standing).desk ≡ Some desk
    → passing_waiting test number (turn_of w reader others actor m).lanes (turn_of w reader others actor m).wires + passing_on test number reader (m.taken ∷ []) ≤ passing_waiting test number w.lanes w.wires
unfolding turn_of outputs_of
waits_after test lab w reader others actor m number desk wired stand e front reads is =
    let driver =
    ap (λ s. s.driver) (standing_here w.actors (standings_at_start (roles lab)) reader stand)
    ∙ ap (λ (a : ActorState). is_driver a.part) (there w.actors reader actor e).1 in
    omega (
      arith,
      passing_waiting-taken test number w.lanes w.wires m.lane m.taken others front,
      sent_by test lab w.wires number reader m.stamp m.lane m.at m.taken.item (set w.lanes m.lane others) desk actor.part wired is driver,
      ap (λ r. passing_on test number r (m.taken ∷ [])) reads,
    )

own_item : (test : Item → Bool) (number : ℕ) (s : Stamped) → passing_on test number number (s ∷ []) ≡ how_many (test s.item ∷ [])
own_item test number s = rw (eq-eqb number number refl) refl

-- an actor that took its turn has no fewer entries
more_after : (actors : List ActorState) (reader : ℕ) (actor : ActorState) (m : TurnMade) → slice_get actors reader ≡ Some actor
    → HaveMore actors (set actors reader (actor_after actor m))
unfolding actor_after
more_after actors reader actor m e =
    let here = there actors reader actor e in
    set_longer actors reader (actor_after actor m)
    (omega (arith, ap (λ (a : ActorState). length (entries_of a.part)) here.1, part_longer actor.part m.lane m.taken.item m.at))

-- an item that asks for no route is no question for one
no_prefix : (item : Item) → how_many (is_ask item ∷ []) ≤ 0 → (prefix : PrefixType) → asked_in item ≡ Some (Prefix prefix) → ⊥
no_prefix (Ask p) none prefix e = absurd (omega (arith, none))
no_prefix (Get key) none prefix e = cc e
no_prefix _ none prefix e = cc e

-- where no question for a route waits for an actor, it takes none
asks_none : (lab : Laboratory) (marks : List NodeMark) (asked : List ℕ) (w : WorldState) (number reader : ℕ) (m : TurnMade) (others : List Stamped) (d : DeskState)
    → Attends lab marks asked w → waiting w m.lane ≡ m.taken ∷ others → reader ≡ reader_of (slice_get w.wires m.lane) → number ≡ reader
    → desk_of (actor_at w.actors number).part ≡ Some d
    → asks_for_routes lab ≡ false → (prefix : PrefixType) → asked_in m.taken.item ≡ Some (Prefix prefix) → ⊥
asks_none lab marks asked w number reader m others d h front reads same is unasked prefix e =
    let taken = passing_waiting-taken is_ask number w.lanes w.wires m.lane m.taken others front in
    let none = h.none unasked number d is in
    let mine = ap (λ n. passing_on is_ask number n (m.taken ∷ [])) (sym (same ∙ reads)) ∙ own_item is_ask number m.taken in
    no_prefix m.taken.item (omega (arith, taken, none, mine)) prefix e

attend_desk : (lab : Laboratory) (marks : List NodeMark) (asked : List ℕ) (w : WorldState) (reader : ℕ) (others : List Stamped) (actor : ActorState) (m : TurnMade)
    → Attends lab marks asked w → DecisionsFollow w.actors → slice_get w.actors reader ≡ Some actor → waiting w m.lane ≡ m.taken ∷ others
    → reader ≡ reader_of (slice_get w.wires m.lane) → IsWithin (range_for w.actors actor.part m.taken.item) m.at
    → (number : ℕ) (d : DeskState) → desk_of (actor_at (set w.actors reader (actor_after actor m)) number).part ≡ Some d
    → standings (set w.actors reader (actor_after actor m)) ≡ standings_at_start (roles lab)
    → IsAttentive (asks_for_routes lab) (told_of_store lab marks) (set w.actors reader (actor_after actor m))
    (passing_waiting is_question number (turn_of w reader others actor m).lanes (turn_of w reader others actor m).wires) (how_often number asked) d
unfolding actor_after range_for
attend_desk lab marks asked w reader others actor m h follow e front reads found number d is stand =
    let asks = asks_for_routes lab in
    let after = set w.actors reader (actor_after actor m) in
    let told = told_of_store lab marks in
    let here = there w.actors reader actor e in
    let waits = passing_waiting is_question number w.lanes w.wires in
    let fewer = passing_waiting is_question number (turn_of w reader others actor m).lanes (turn_of w reader others actor m).wires in
    let longer = more_after w.actors reader actor m e in
    let less = waits_after is_question lab w reader others actor m number (node_and_store d) h.wired h.stand e front reads
    (desk_here after (standings_at_start (roles lab)) number d stand is) in
    elim (cases_eq number reader) [
      | inl same ↦
          let mine = ap (λ n. actor_at after n) same ∙ get_or-set_same w.actors reader (actor_after actor m) no_actor here.0 in
          let was = desk_before actor.part m.lane m.taken.item m.at d (ap (λ (a : ActorState). desk_of a.part) (sym mine) ∙ is) in
          let there_is = ap (λ n. desk_of (actor_at w.actors n).part) same ∙ ap (λ (a : ActorState). desk_of a.part) here.1 ∙ was.1 in
          let old = h.desks number was.0 there_is in
          let within = subst (λ desk. IsWithin (option_map_or (range_in w.actors) (view_asked desk (asked_in m.taken.item)) no_range) m.at) was.1 found in
          let taken = ap (λ n. passing_on is_question number n (m.taken ∷ [])) (sym same) ∙ own_item is_question number m.taken in
          subst (IsAttentive asks told after fewer (how_often number asked)) was.2
          (attentive_question asks told w.actors after waits fewer (how_often number asked) m.at was.0 (asked_in m.taken.item) longer (follow number was.0 there_is) within
          (omega (arith, less, taken)) (asks_none lab marks asked w number reader m others was.0 h front reads same there_is) old)
      | inr other ↦
          let theirs = get_or-set_other w.actors reader number (actor_after actor m) no_actor other in
          attentive_longer asks told w.actors after waits fewer (how_often number asked) d longer (omega (arith, less))
          (h.desks number d (ap (λ (a : ActorState). desk_of a.part) (sym theirs) ∙ is))
    ]

-- a desk stands where one stood
desk_stood : (lab : Laboratory) (w : WorldState) (after : List ActorState) (number : ℕ) (d : DeskState) → standings w.actors ≡ standings_at_start (roles lab)
    → standings after ≡ standings_at_start (roles lab) → desk_of (actor_at after number).part ≡ Some d → (e : DeskState) × (desk_of (actor_at w.actors number).part ≡ Some e)
desk_stood lab w after number d stood stand is = here (desk_of (actor_at w.actors number).part) refl
  where
    here : (desk : Option DeskState) → desk_of (actor_at w.actors number).part ≡ desk → (e : DeskState) × (desk_of (actor_at w.actors number).part ≡ Some e)
    here (Some e) was = (e, was)
    here None was =
        absurd (cc (
        sym (desk_here after (standings_at_start (roles lab)) number d stand is)
        ∙ ap (λ (s : Standing). s.desk) (standing_here w.actors (standings_at_start (roles lab)) number stood)
        ∙ ap (option_map node_and_store) was
        ))

attend_of : (lab : Laboratory) (marks : List NodeMark) (asked : List ℕ) (w : WorldState) (reader : ℕ) (others : List Stamped) (actor : ActorState) (m : TurnMade)
    → Attends lab marks asked w → DecisionsFollow w.actors → slice_get w.actors reader ≡ Some actor → waiting w m.lane ≡ m.taken ∷ others
    → reader ≡ reader_of (slice_get w.wires m.lane) → IsWithin (range_for w.actors actor.part m.taken.item) m.at → Attends lab marks asked (turn_of w reader others actor m)
unfolding turn_of
attend_of lab marks asked w reader others actor m h follow e front reads found =
    let stand = stay_of w reader others actor m e ∙ h.stand in
    let after = set w.actors reader (actor_after actor m) in
    record {
      wired = h.wired;
      stand = stand;
      desks = λ number d is. attend_desk lab marks asked w reader others actor m h follow e front reads found number d is stand;
      none = λ unasked number d is.
          let was = desk_stood lab w after number d h.stand stand is in
          let less = waits_after is_ask lab w reader others actor m number (node_and_store d) h.wired h.stand e front reads
          (desk_here after (standings_at_start (roles lab)) number d stand is) in
          omega (arith, less, h.none unasked number was.0 was.1);
    }

attend_by : (lab : Laboratory) (marks : List NodeMark) (asked : List ℕ) (w : WorldState) (lane at reader : ℕ) (items : List Stamped) (actor : Option ActorState)
    → Attends lab marks asked w → DecisionsFollow w.actors → slice_get w.actors reader ≡ actor → waiting w lane ≡ items → reader ≡ reader_of (slice_get w.wires lane)
    → IsWithin (range_by w.actors items actor) at → Attends lab marks asked (turn_by w lane at reader items actor)
attend_by lab marks asked w lane at reader [] actor h follow e front reads found = h
attend_by lab marks asked w lane at reader (s ∷ others) None h follow e front reads found = h
attend_by lab marks asked w lane at reader (s ∷ others) (Some actor) h follow e front reads found =
    attend_of lab marks asked w reader others actor (made_by w.actors actor lane at s) h follow e front reads found

-- a turn that finds as many entries as it may
pub attend_turn : (lab : Laboratory) (marks : List NodeMark) (asked : List ℕ) (w : WorldState) (lane at : ℕ) → IsWithin (range w lane) at
    → DecisionsFollow w.actors → Attends lab marks asked w → Attends lab marks asked (turn w lane at)
unfolding turn range
attend_turn lab marks asked w lane at within follow h =
    let reader = reader_of (slice_get w.wires lane) in
    attend_by lab marks asked w lane at reader (waiting w lane) (slice_get w.actors reader) h follow refl refl refl within

-- ---- the start and issues

abbrev roles_after_driver : Laboratory → List Role
roles_after_driver lab = flat_map (node_roles (modules_of lab.kind) lab.links lab.ttl) (enumerate_from 0 lab.nodes) ++ map link_role (enumerate_from 0 lab.links)

number_asked : (number : ℕ) (asked : Option Asked) → asked_if number asked ≡ number_if number (is_some asked)
number_asked number None = refl
number_asked number (Some asked) = refl

-- the desks that are asked are those to which questions are sent
asked_numbers : (issues : List Output) → desks_asked issues ≡ numbers_by is_question issues
asked_numbers [] = refl
asked_numbers (To number item ∷ issues) =
    ap (λ ns. ns ++ desks_asked issues) (number_asked number (asked_in item)) ∙ ap (λ ns. number_if number (is_question item) ++ ns) (asked_numbers issues)

issued : (test : Item → Bool) (lab : Laboratory) (w : WorldState) (issues : List Output) (number : ℕ) → w.wires ≡ wires (roles lab)
    → passing_waiting test number (deliver w.wires 0 (driver_clock w.actors) w.lanes issues) w.wires
    ≤ passing_waiting test number w.lanes w.wires + how_often number (numbers_by test issues)
issued test lab w issues number wired =
    let clock = driver_clock w.actors in
    subst (λ ws. passing_waiting test number (deliver ws 0 clock w.lanes issues) ws ≤ passing_waiting test number w.lanes ws + how_often number (numbers_by test issues)) (sym wired)
    (passing_waiting-issued test (roles_after_driver lab) number clock w.lanes issues)

pub attend_issue : (lab : Laboratory) (marks : List NodeMark) (w : WorldState) (issues : List Output) → (asks_for_routes lab ≡ false → numbers_by is_ask issues ≡ [])
    → Attends lab marks [] w → Attends lab marks (desks_asked issues) (issue w issues)
unfolding issue
attend_issue lab marks w issues none h = record {
  wired = h.wired;
  stand = h.stand;
  desks = λ number d is.
      let old = h.desks number d is in
      let sent = issued is_question lab w issues number h.wired in
      record {
        least = old.least;
        most = old.most;
        questions = old.questions;
        few = omega (arith, old.few, sent, ap (how_often number) (asked_numbers issues));
        last = old.last;
      };
  none = λ unasked number d is. omega (arith, h.none unasked number d is, issued is_ask lab w issues number h.wired, ap (how_often number) (none unasked));
}

record IsNew (d : DeskState) : Type 0 where
  seen : d.seen ≡ 0
  last : d.store.last ≡ 0
  questions : d.questions ≡ []

starts_new : (kind : Kind) (role : Role) (d : DeskState) → desk_of (new_part kind role) ≡ Some d → IsNew d
starts_new kind DriverRole d e = cc e
starts_new kind (Node DeskRole node setup) d e =
    let same : new_desk node setup.store setup.decision ≡ d = cc e in
    subst IsNew same (record { seen = refl; last = refl; questions = refl })
starts_new kind (Node _ node setup) d e = cc e
starts_new kind (LinkRole link a b) d e = cc e

all_new : (kind : Kind) (all : List Role) (number : ℕ) (d : DeskState) → desk_of (actor_at (map (new_actor kind) all) number).part ≡ Some d → IsNew d
all_new kind [] number d e = cc e
all_new kind (role ∷ all) zero d e = starts_new kind role d e
all_new kind (role ∷ all) (suc number) d e = all_new kind all number d e

pub none_open : (P : Question → Type 0) (qs : List Question) → length qs ≤ 0 → All P qs
none_open P qs none k d within = absurd (omega (arith, none, within))

pub attend_start : (lab : Laboratory) → Attends lab [] [] (start lab)
attend_start lab = record {
  wired = refl;
  stand = standings-new lab.kind (roles lab);
  desks = λ number d is.
      let new = all_new lab.kind (roles lab) number d is in
      let none = ap length new.questions in
      let ws = wires (roles lab) in
      record {
        least = omega arith;
        most = omega (arith, new.seen);
        questions = none_open (IsOpen (asks_for_routes lab) 0 (map (new_actor lab.kind) (roles lab)) d.store.owner d.decision.owner) d.questions (omega (arith, none));
        few = omega (arith, none, passing_waiting-drained is_question number (start lab).lanes ws (none_wait (length ws)));
        last = λ unasked. new.last ∙ sym new.seen;
      };
  none = λ unasked number d is. passing_waiting-drained is_ask number (start lab).lanes (wires (roles lab)) (none_wait (length (wires (roles lab))));
}
