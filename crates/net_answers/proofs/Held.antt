-- The answers that a settle tells are what journals hold, or the routes from scratch over them. It answers each desk's open
-- questions by the entries that each found, and these stay the first of the journal. It leaves no question, so that the next phase
-- begins with none.
use Rattle.std.proofs.Common.{◌≡◌, ℕ, zero, suc, ◌+◌, ◌≤◌, inl, inr, List, [], ◌∷◌, ◌++◌, Bool, true, false, cond, Option, Some, None, length, map, get_or, set, take, refl, sym, ap, ◌∙◌, subst, arith, get_or-set_other, length-drop, append_assoc}
use Rattle.std.specs.Prelude.{slice_get, All, option_map, option_and_then, option_to_list, nat_lt}
use Rattle.std.proofs.lemmas.Bool.{cases_eq, eq-eqb, ne_eqb, le-ltb}
use Rattle.std.proofs.lemmas.List.{take-append-le}
use Rattle.std.proofs.lemmas.List.Elements.{All-append, All-nil, All-cons, All-drop}
use Rattle.std.proofs.lemmas.Option.{slice_get_within, get_or_from_slice_get}
use Rattle.std.proofs.Math.Seq.{map-set_same}
use Rattle.std.proofs.Math.ListN.{get_or-map}
use Rattle.or_base.specs.declared.asked.Asked.{Asked}
use Rattle.or_base.specs.declared.asked.Asked.TheVariants.{Key, Prefix}
use Rattle.or_base.specs.declared.asked.Told.{Told}
use Rattle.or_base.specs.declared.asked.Told.TheVariants.{Behind}
use Rattle.or_base.specs.declared.prefix.Prefix.{Prefix as PrefixType}
use Rattle.or_base.specs.declared.route.Route.{Route as RouteType}
use Rattle.or_base.specs.declared.value.KvValue.{KvValue}
use Rattle.or_base.specs.declared.entry.JournalEntry.{JournalEntry}
use Rattle.or_base.specs.Journal.{held_value}
use Rattle.kv_store.specs.Growth.{IsFront}
use Rattle.kv_store.proofs.Growth.{front_same, front_shorter}
use Rattle.decision_core.proofs.Empty.{none_at_first}
use Rattle.decision_core.specs.Decision.{DecisionState, route_at, route_told}
use Rattle.decision_core.specs.Scratch.{scratch}
use Rattle.ls_routes.specs.Routes.{route_to}
use Rattle.net_laboratory.specs.Scenario.{Laboratory}
use Rattle.net_record.specs.declared.kinds.AnyModule.TheVariants.{Decision}
use Rattle.net_record.specs.declared.part.Part.{Part}
use Rattle.net_record.specs.declared.part.Part.TheVariants.{Driver, Desk, Module}
use Rattle.net_record.specs.declared.actor.ActorState.{ActorState}
use Rattle.net_record.specs.declared.desk.Question.{Question}
use Rattle.net_record.specs.declared.record.AnswerDone.{AnswerDone}
use Rattle.net_record.specs.declared.record.NodeMark.{NodeMark}
use Rattle.net_record.specs.declared.record.SettleDone.{SettleDone}
use Rattle.net_record.specs.Roles.{roles, node_names}
use Rattle.net_record.specs.Desk.{DeskState, view_for, without_question, desk_after_settle}
use Rattle.net_record.specs.Actors.{no_actor, actor_at, desk_of, decision_of, entries_of, entry_counts, value_told, told_about, told_to, question_answer, part_after_settle, actor_after_settle, actors_after_settle, answer_of_desk, answer_of, part_without_question, actor_without_question}
use Rattle.net_record.specs.Answers.{Giving, give, give_all, giving_of}
use Rattle.net_record.specs.World.{WorldState, is_drained, settle, settle_done, greatest_clock, marks_of, nodes_told}
use Rattle.net_record.specs.Records.{journals_of}
use Rattle.net_record.specs.Marks.{entries_told}
use Rattle.net_answers.specs.Answered.{told_by, told_at, IsAnswered, is_behind, asks_for_routes}
use Rattle.net_record.proofs.Found.{entries_at, length_at, settled_long}
use Rattle.net_record.proofs.Grown.{AllFronts}
use Rattle.net_record.proofs.Standing.{node_and_store, standing_of, standings, stays_without, stay_settled}
use Rattle.net_record.proofs.Places.{stores_before, journal_placed, mark_placed, standings_at_start, IsServed, desk_served, desk_here, store_here}
use Rattle.net_record.proofs.Shown.{entries_shown}
use Rattle.net_answers.proofs.Awaiting.{passing_waiting, passing_waiting-drained, how_often}
use Rattle.net_answers.proofs.Attentive.{is_question, is_ask, owner_for, IsOpen, IsAttentive, told_of_store, DecisionsFollow, Attends, none_open}
use Rattle.net_answers.proofs.Followed.{IsFollowing, Follow}

-- ---- the answers of a settle

-- an answer is what the record's journals tell, and isn't behind where nobody asks for routes
abbrev pub AnswerHolds : Laboratory → List NodeMark → List NodeMark → List (List JournalEntry) → AnswerDone → Type 0
AnswerHolds lab before marks journals answer = IsAnswered (node_names lab) before marks journals answer × (asks_for_routes lab ≡ false → is_behind answer.told ≡ false)

value_not_behind : (held : Option KvValue) → is_behind (value_told held) ≡ false
value_not_behind None = refl
value_not_behind (Some value) = refl

route_not_behind : (route : Option RouteType) → is_behind (route_told route) ≡ false
route_not_behind None = refl
route_not_behind (Some route) = refl

told_not_behind : (node : List ℕ) (entries : List JournalEntry) (asked : Asked) → is_behind (told_by node entries asked) ≡ false
told_not_behind node entries (Key key) = value_not_behind (held_value entries key)
told_not_behind node entries (Prefix prefix) = route_not_behind (route_to (scratch node entries) prefix)

-- who found no less than was seen isn't behind
fair_not_behind : (node : List ℕ) (journal : List JournalEntry) (seen at : ℕ) (asked : Asked) → seen ≤ at → is_behind (told_at node journal seen at asked) ≡ false
fair_not_behind node journal seen at asked found = rw (le-ltb at seen found) (told_not_behind node (take at journal) asked)

front_at : (js ks : List (List JournalEntry)) (place : ℕ) → AllFronts js ks → IsFront (get_or js place []) (get_or ks place [])
front_at [] [] place f = front_same []
front_at [] (k ∷ ks) place f = absurd f
front_at (j ∷ js) [] place f = absurd f
front_at (j ∷ js) (k ∷ ks) zero f = f.0
front_at (j ∷ js) (k ∷ ks) (suc place) f = front_at js ks place f.1

-- the first entries of a journal are those of one that it is the front of
take-front : (front whole : List JournalEntry) (n : ℕ) → IsFront front whole → n ≤ length front → take n front ≡ take n whole
take-front front whole n is within = sym (ap (take n) is.is ∙ take-append-le n front is.more within)

-- what others ask of an actor: the Decision that it is, and its entries
abbrev pub asked_of : Part → Option DecisionState × List JournalEntry
asked_of part = (decision_of part, entries_of part)

taken_entries : (part : Part) (s : DecisionState) → decision_of part ≡ Some s → entries_of part ≡ s.taken
taken_entries Driver s e = cc e
taken_entries (Desk d) s e = cc e
taken_entries (Module (Decision t)) s e = cc e
taken_entries (Module _) s e = cc e

no_route : (node : List ℕ) (prefix : PrefixType) → route_to (scratch node []) prefix ≡ None
no_route node prefix = ap (λ table. route_to table prefix) (none_at_first node)

-- by a Decision of the node that found so many entries of what is the front of the whole journal
route_holds : (node : List ℕ) (whole : List JournalEntry) (part : Part) (at : ℕ) (prefix : PrefixType) (decision : Option DecisionState) → decision_of part ≡ decision
    → IsFront (entries_of part) whole → ((s : DecisionState) → decision ≡ Some s → s.me ≡ node) → (decision ≡ None → entries_of part ≡ []) → at ≤ length (entries_of part)
    → option_and_then (λ s. route_at s at prefix) decision ≡ route_to (scratch node (take at whole)) prefix
route_holds node whole part at prefix (Some s) e front me none within =
    let same = sym (ap (take at) (taken_entries part s e)) ∙ take-front (entries_of part) whole at front within in
    ap (λ es. route_to (scratch s.me es) prefix) same ∙ ap (λ n. route_to (scratch n (take at whole)) prefix) (me s refl)
route_holds node whole part at prefix None e front me none within =
    let nothing : at ≡ 0 = omega (arith, within, ap length (none refl)) in
    sym (ap (λ n. route_to (scratch node (take n whole)) prefix) nothing ∙ no_route node prefix)

front_then : (a b c : List JournalEntry) → IsFront a b → IsFront b c → IsFront a c
front_then a b c f g = record { more = f.more ++ g.more; is = g.is ∙ ap (λ es. es ++ g.more) f.is ∙ append_assoc a f.more g.more }

-- what is told about a question, where the journal of the desk's store is the front of a whole one
about_holds : (actors : List ActorState) (d : DeskState) (whole : List JournalEntry) (at : ℕ) (asked : Asked) → IsFollowing actors d
    → IsFront (entries_of (actor_at actors d.store.owner).part) whole → at ≤ entries_at actors (owner_for d.store.owner d.decision.owner asked)
    → told_about actors (view_for d asked) at asked ≡ told_by d.node (take at whole) asked
about_holds actors d whole at (Key key) follow front within =
    ap (λ es. value_told (held_value es key)) (take-front (entries_of (actor_at actors d.store.owner).part) whole at front within)
about_holds actors d whole at (Prefix prefix) follow front within =
    let part = (actor_at actors d.decision.owner).part in
    ap route_told
    (route_holds d.node whole part at prefix (decision_of part) refl
    (front_then (entries_of part) (entries_of (actor_at actors d.store.owner).part) whole follow.front front) follow.me follow.none within)

told_holds : (actors : List ActorState) (d : DeskState) (whole : List JournalEntry) (q : Question) → IsFollowing actors d
    → IsFront (entries_of (actor_at actors d.store.owner).part) whole → q.at ≤ entries_at actors (owner_for d.store.owner d.decision.owner q.asked)
    → told_to actors d q ≡ told_at d.node whole q.seen q.at q.asked
unfolding told_to
told_holds actors d whole q follow front within =
    ap (λ told. cond (nat_lt q.at q.seen) (Behind q.at) told) (about_holds actors d whole q.at q.asked follow front within)

-- what a settle in a world tells of a store, and what the record's journals have in its place
record StoreTold (lab : Laboratory) (w : WorldState) (marks : List NodeMark) (journals : List (List JournalEntry)) (d : DeskState) : Type 0 where
  pub served : IsServed (node_names lab) (standings_at_start (roles lab)) (node_and_store d)
  pub marked : told_of_store lab marks d.store.owner ≡ entries_at w.actors d.store.owner
  pub front : IsFront (entries_of (actor_at w.actors d.store.owner).part) (get_or journals (stores_before (standings_at_start (roles lab)) d.store.owner) [])

-- an actor that is a Decision has no more than the store that it follows
owner_within : (actors : List ActorState) (d : DeskState) (asked : Asked) → IsFollowing actors d
    → entries_at actors (owner_for d.store.owner d.decision.owner asked) ≤ entries_at actors d.store.owner
owner_within actors d (Key key) follow = omega arith
owner_within actors d (Prefix prefix) follow =
    front_shorter (entries_of (actor_at actors d.decision.owner).part) (entries_of (actor_at actors d.store.owner).part) follow.front

-- the answer of a desk to a question, where its store's journal is the front of the one in its place
question_holds : (lab : Laboratory) (before marks : List NodeMark) (w : WorldState) (journals : List (List JournalEntry)) (d : DeskState) (q : Question)
    → StoreTold lab w marks journals d → IsFollowing w.actors d
    → IsOpen (asks_for_routes lab) (told_of_store lab before d.store.owner) w.actors d.store.owner d.decision.owner q
    → AnswerHolds lab before marks journals (question_answer w.actors d q)
unfolding question_answer
question_holds lab before marks w journals d q told follow is =
    let place = stores_before (standings_at_start (roles lab)) d.store.owner in
    let whole = get_or journals place [] in
    let holds = told_holds w.actors d whole q follow told.front is.within in (
      record {
        place = place;
        node = told.served.1;
        seen = q.seen;
        since = is.seen;
        known = omega (arith, is.known, told.marked);
        at = q.at;
        within = omega (arith, is.within, owner_within w.actors d q.asked follow, told.marked);
        told = holds;
      },
      λ unasked. ap is_behind holds ∙ fair_not_behind d.node whole q.seen q.at q.asked (is.found unasked),
    )

abbrev asked_of_all : List ActorState → List (Option DecisionState × List JournalEntry)
asked_of_all actors = map (λ actor. asked_of actor.part) actors

same_asked : (actors after : List ActorState) → asked_of_all after ≡ asked_of_all actors → (number : ℕ) → asked_of (actor_at after number).part ≡ asked_of (actor_at actors number).part
same_asked actors after e number =
    sym (get_or-map (λ (a : ActorState). asked_of a.part) after number no_actor) ∙ ap (λ all. get_or all number (asked_of no_actor.part)) e
    ∙ get_or-map (λ (a : ActorState). asked_of a.part) actors number no_actor

-- so what is told to a question is the same
same_told : (actors after : List ActorState) (d : DeskState) (q : Question) → asked_of_all after ≡ asked_of_all actors → question_answer after d q ≡ question_answer actors d q
unfolding question_answer told_to
same_told actors after d q e = by_asked q.asked refl
  where
    by_asked : (asked : Asked) → q.asked ≡ asked → question_answer after d q ≡ question_answer actors d q
    by_asked (Key key) is =
        let same = ap (λ a. a.1) (same_asked actors after e d.store.owner) in
        rw is (ap (λ es. let one : AnswerDone = record { node = d.node; asked = Key key; told = cond (nat_lt q.at q.seen) (Behind q.at) (value_told (held_value (take q.at es) key)) } in one) same)
    by_asked (Prefix prefix) is =
        let same = ap (λ a. a.0) (same_asked actors after e d.decision.owner) in
        rw is (ap (λ (decision : Option DecisionState). let one : AnswerDone = record { node = d.node; asked = Prefix prefix; told = cond (nat_lt q.at q.seen) (Behind q.at) (route_told (option_and_then (λ s. route_at s q.at prefix) decision)) } in one) same)

-- a desk with so many questions at most, all of them open, which follows as it did
record IsGiving (lab : Laboratory) (before : List NodeMark) (w : WorldState) (left : ℕ) (d : DeskState) : Type 0 where
  pub open_ : All (IsOpen (asks_for_routes lab) (told_of_store lab before d.store.owner) w.actors d.store.owner d.decision.owner) d.questions
  pub few : length d.questions ≤ left
  pub follow : IsFollowing w.actors d

-- Desks that are giving answers, of which so many are still to come, in a world that settles.
record Gives (lab : Laboratory) (before marks : List NodeMark) (w : WorldState) (journals : List (List JournalEntry)) (left : List ℕ) (g : Giving) : Type 0 where
  pub stand : standings g.actors ≡ standings_at_start (roles lab)
  pub same : asked_of_all g.actors ≡ asked_of_all w.actors
  pub desks : (number : ℕ) (d : DeskState) → desk_of (actor_at g.actors number).part ≡ Some d → IsGiving lab before w (how_often number left) d
  pub answers : All (AnswerHolds lab before marks journals) g.answers

store_told : (lab : Laboratory) (w : WorldState) (shows : Bool) (journals : List (List JournalEntry)) (actors : List ActorState) (number : ℕ) (d : DeskState)
    → standings w.actors ≡ standings_at_start (roles lab) → AllFronts (journals_of w.actors) journals → standings actors ≡ standings_at_start (roles lab)
    → desk_of (actor_at actors number).part ≡ Some d → StoreTold lab w (nodes_told w.actors shows) journals d
store_told lab w shows journals actors number d stood fronts stand is =
    let all = standings_at_start (roles lab) in
    let served = desk_served lab number (node_and_store d) (desk_here actors all number d stand is) in
    let store = store_here w.actors all d.store.owner stood served.0 in
    let place = stores_before all d.store.owner in
    let here = sym (ap (λ ss. get_or (journals_of w.actors) (stores_before ss d.store.owner) []) (sym stood) ∙ journal_placed w.actors d.store.owner store) in
    record {
      served = served;
      marked = entries_shown w.actors shows place ∙ ap (λ ss. entries_told (marks_of w.actors) (stores_before ss d.store.owner)) (sym stood) ∙ mark_placed w.actors d.store.owner store;
      front = subst (λ js. IsFront js (get_or journals place [])) (sym here) (front_at (journals_of w.actors) journals place fronts);
    }

-- ---- one answer more

without_here : (actors : List ActorState) (number : ℕ)
    → actor_at (set actors number (actor_without_question (actor_at actors number))) number ≡ actor_without_question (actor_at actors number)
without_here [] number = refl
without_here (actor ∷ actors) zero = refl
without_here (actor ∷ actors) (suc number) = without_here actors number

asked_without : (part : Part) → asked_of (part_without_question part) ≡ asked_of part
asked_without Driver = refl
asked_without (Desk d) = refl
asked_without (Module m) = refl

desk_with : (part : Part) (d : DeskState) → desk_of (part_without_question part) ≡ Some d → (e : DeskState) × (desk_of part ≡ Some e) × (without_question e ≡ d)
desk_with Driver d e = cc e
desk_with (Desk f) d e = (f, refl, cc e)
desk_with (Module m) d e = cc e

-- the desk that answers has a question less, and so many are to come
fewer_open : (lab : Laboratory) (before : List NodeMark) (w : WorldState) (number : ℕ) (left : List ℕ) (d : DeskState)
    → IsGiving lab before w (how_often number (number ∷ left)) d → IsGiving lab before w (how_often number left) (without_question d)
fewer_open lab before w number left d is =
    let here : how_often number (number ∷ left) ≡ suc (how_often number left) = rw (eq-eqb number number refl) refl in
    let P = IsOpen (asks_for_routes lab) (told_of_store lab before d.store.owner) w.actors d.store.owner d.decision.owner in
    record {
      open_ = All-drop P 1 d.questions is.open_;
      few = omega (arith, is.few, here, length-drop 1 d.questions);
      follow = record { front = is.follow.front; me = is.follow.me; none = is.follow.none };
    }

first_answer_holds : (lab : Laboratory) (before : List NodeMark) (shows : Bool) (w : WorldState) (journals : List (List JournalEntry)) (left : List ℕ) (g : Giving) (number : ℕ) (desk : Option DeskState)
    → Gives lab before (nodes_told w.actors shows) w journals left g → standings w.actors ≡ standings_at_start (roles lab) → AllFronts (journals_of w.actors) journals
    → desk_of (actor_at g.actors number).part ≡ desk
    → All (AnswerHolds lab before (nodes_told w.actors shows) journals) (option_to_list (option_and_then (answer_of_desk g.actors) desk))
first_answer_holds lab before shows w journals left g number None h stood fronts is = All-nil (AnswerHolds lab before (nodes_told w.actors shows) journals)
first_answer_holds lab before shows w journals left g number (Some d) h stood fronts is = first_answer (slice_get d.questions 0) refl
  where
    first_answer : (question : Option Question) → slice_get d.questions 0 ≡ question
        → All (AnswerHolds lab before (nodes_told w.actors shows) journals) (option_to_list (option_map (question_answer g.actors d) question))
    first_answer None e = All-nil (AnswerHolds lab before (nodes_told w.actors shows) journals)
    first_answer (Some q) e =
        let marks = nodes_told w.actors shows in
        let told = store_told lab w shows journals g.actors number d stood fronts h.stand is in
        let giving = h.desks number d is in
        let here = get_or_from_slice_get d.questions 0 q q e in
        let question = subst (IsOpen (asks_for_routes lab) (told_of_store lab before d.store.owner) w.actors d.store.owner d.decision.owner) here
        (giving.open_ 0 q (slice_get_within d.questions 0 q e)) in
        let holds = question_holds lab before marks w journals d q told giving.follow question in
        All-cons (AnswerHolds lab before marks journals) (question_answer g.actors d q) []
        (subst (AnswerHolds lab before marks journals) (sym (same_told w.actors g.actors d q h.same)) holds)
        (All-nil (AnswerHolds lab before marks journals))

give_desk : (lab : Laboratory) (before marks : List NodeMark) (w : WorldState) (journals : List (List JournalEntry)) (left : List ℕ) (g : Giving) (number : ℕ)
    → Gives lab before marks w journals (number ∷ left) g → (other : ℕ) (d : DeskState)
    → desk_of (actor_at (set g.actors number (actor_without_question (actor_at g.actors number))) other).part ≡ Some d
    → IsGiving lab before w (how_often other left) d
give_desk lab before marks w journals left g number h other d is =
    let after = set g.actors number (actor_without_question (actor_at g.actors number)) in
    elim (cases_eq other number) [
      | inl same ↦
          let mine = ap (λ n. actor_at after n) same ∙ without_here g.actors number in
          let was = desk_with (actor_at g.actors number).part d (ap (λ (a : ActorState). desk_of a.part) (sym mine) ∙ is) in
          let fewer = fewer_open lab before w number left was.0 (h.desks number was.0 was.1) in
          subst (IsGiving lab before w (how_often other left)) was.2
          (subst (λ n. IsGiving lab before w (how_often n left) (without_question was.0)) (sym same) fewer)
      | inr another ↦
          let theirs = get_or-set_other g.actors number other (actor_without_question (actor_at g.actors number)) no_actor another in
          let old = h.desks other d (ap (λ (a : ActorState). desk_of a.part) (sym theirs) ∙ is) in
          let as_many : how_often other (number ∷ left) ≡ how_often other left = rw (ne_eqb number other (λ e. another (sym e))) refl in
          record { open_ = old.open_; few = omega (arith, old.few, as_many); follow = old.follow }
    ]

gives_one : (lab : Laboratory) (before : List NodeMark) (shows : Bool) (w : WorldState) (journals : List (List JournalEntry)) (left : List ℕ) (g : Giving) (number : ℕ)
    → standings w.actors ≡ standings_at_start (roles lab) → AllFronts (journals_of w.actors) journals → Gives lab before (nodes_told w.actors shows) w journals (number ∷ left) g
    → Gives lab before (nodes_told w.actors shows) w journals left (give g number)
unfolding give answer_of
gives_one lab before shows w journals left g number stood fronts h =
    let actor = actor_at g.actors number in
    let marks = nodes_told w.actors shows in
    record {
      stand = map-set_same (λ (a : ActorState). standing_of a.part) g.actors number (actor_without_question actor) no_actor (stays_without actor.part) ∙ h.stand;
      same = map-set_same (λ (a : ActorState). asked_of a.part) g.actors number (actor_without_question actor) no_actor (asked_without actor.part) ∙ h.same;
      desks = give_desk lab before marks w journals left g number h;
      answers =
          All-append (AnswerHolds lab before marks journals) g.answers (option_to_list (answer_of g.actors actor.part)) h.answers
          (first_answer_holds lab before shows w journals (number ∷ left) g number (desk_of actor.part) h stood fronts refl);
    }

gives_all : (lab : Laboratory) (before : List NodeMark) (shows : Bool) (w : WorldState) (journals : List (List JournalEntry)) (left : List ℕ) (g : Giving)
    → standings w.actors ≡ standings_at_start (roles lab) → AllFronts (journals_of w.actors) journals → Gives lab before (nodes_told w.actors shows) w journals left g
    → Gives lab before (nodes_told w.actors shows) w journals [] (give_all g left)
gives_all lab before shows w journals [] g stood fronts h = h
gives_all lab before shows w journals (number ∷ left) g stood fronts h =
    gives_all lab before shows w journals left (give g number) stood fronts (gives_one lab before shows w journals left g number stood fronts h)

gives_asked : (lab : Laboratory) (before : List NodeMark) (asked : List ℕ) (shows : Bool) (w : WorldState) (journals : List (List JournalEntry))
    → Follow w.actors → Attends lab before asked w → AllFronts (journals_of w.actors) journals
    → Gives lab before (nodes_told w.actors shows) w journals [] (giving_of w.actors asked)
gives_asked lab before asked shows w journals follow h fronts =
    gives_all lab before shows w journals asked (record { actors = w.actors; answers = [] }) h.stand fronts
    (record {
      stand = h.stand;
      same = refl;
      desks = λ number d is.
          let old = h.desks number d is in
          record { open_ = old.questions; few = omega (arith, old.few); follow = follow number d is };
      answers = All-nil (AnswerHolds lab before (nodes_told w.actors shows) journals);
    })

-- ---- a settle

settled_part : (clock : ℕ) (counts : List ℕ) (actors : List ActorState) (number : ℕ)
    → (actor_at (map (actor_after_settle clock counts) actors) number).part ≡ part_after_settle counts (actor_at actors number).part
settled_part clock counts [] number = refl
settled_part clock counts (actor ∷ actors) zero = refl
settled_part clock counts (actor ∷ actors) (suc number) = settled_part clock counts actors number

desk_settled : (counts : List ℕ) (part : Part) (d : DeskState) → desk_of (part_after_settle counts part) ≡ Some d
    → (e : DeskState) × (desk_of part ≡ Some e) × (desk_after_settle counts e ≡ d)
desk_settled counts Driver d e = cc e
desk_settled counts (Desk f) d e = (f, refl, cc e)
desk_settled counts (Module m) d e = cc e

-- a settle and its answers
pub record Settles (lab : Laboratory) (before : List NodeMark) (w after : WorldState) (journals : List (List JournalEntry)) : Type 0 where
  pub settle : SettleDone
  pub is : after.settles ≡ w.settles ++ settle ∷ []
  pub answers : All (AnswerHolds lab before settle.nodes journals) settle.answers
  pub attends : Attends lab settle.nodes [] after

attend_settled : (lab : Laboratory) (before : List NodeMark) (shows : Bool) (w : WorldState) (journals : List (List JournalEntry)) (g : Giving) (clock number : ℕ) (d : DeskState)
    → standings w.actors ≡ standings_at_start (roles lab) → AllFronts (journals_of w.actors) journals → Gives lab before (nodes_told w.actors shows) w journals [] g → is_drained w ≡ true
    → desk_of (actor_at (actors_after_settle clock g.actors) number).part ≡ Some d
    → IsAttentive (asks_for_routes lab) (told_of_store lab (nodes_told w.actors shows)) (actors_after_settle clock g.actors) (passing_waiting is_question number w.lanes w.wires) (how_often number []) d
attend_settled lab before shows w journals g clock number d stood fronts h drained is =
    let after = actors_after_settle clock g.actors in
    let marks = nodes_told w.actors shows in
    let counts = entry_counts g.actors in
    let was = desk_settled counts (actor_at g.actors number).part d (ap desk_of (sym (settled_part clock counts g.actors number)) ∙ is) in
    let told = store_told lab w shows journals g.actors number was.0 stood fronts h.stand was.1 in
    let old = h.desks number was.0 was.1 in
    let store = was.0.store.owner in
    let seen = length_at g.actors store in
    let long = settled_long clock counts g.actors store in
    let same = ap (λ (a : Option DecisionState × List JournalEntry). length a.1) (same_asked w.actors g.actors h.same store) in
    subst (IsAttentive (asks_for_routes lab) (told_of_store lab marks) after (passing_waiting is_question number w.lanes w.wires) (how_often number [])) was.2
    (record {
      least = omega (arith, told.marked, seen, same);
      most = omega (arith, seen, long);
      questions = none_open (IsOpen (asks_for_routes lab) (told_of_store lab marks store) after store was.0.decision.owner) was.0.questions (omega (arith, old.few));
      few = omega (arith, old.few, passing_waiting-drained is_question number w.lanes w.wires drained);
      last = λ unasked. refl;
    })

pub settle_answers : (lab : Laboratory) (before : List NodeMark) (moment : ℕ) (asked : List ℕ) (shows : Bool) (w : WorldState) (journals : List (List JournalEntry))
    → Follow w.actors → Attends lab before asked w → AllFronts (journals_of w.actors) journals → is_drained w ≡ true → Settles lab before w (settle moment asked shows w) journals
unfolding settle
settle_answers lab before moment asked shows w journals follow h fronts drained =
    let g = giving_of w.actors asked in
    let clock = greatest_clock w.actors + 1 in
    let gives = gives_asked lab before asked shows w journals follow h fronts in
    record {
      settle = settle_done moment (length w.turns) w.actors shows g.answers;
      is = refl;
      answers = gives.answers;
      attends = record {
        wired = h.wired;
        stand = stay_settled clock (entry_counts g.actors) g.actors ∙ gives.stand;
        desks = λ number d is. attend_settled lab before shows w journals g clock number d h.stand fronts gives drained is;
        none = λ unasked number d is. passing_waiting-drained is_ask number w.lanes w.wires drained;
      };
    }
