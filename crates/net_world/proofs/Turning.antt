-- A turn, an issue and a settle, from what their parts made.
use Rattle.std.proofs.Common.{◌≡◌, ℕ, ◌+◌, ◌<◌, List, [], ◌∷◌, ◌++◌, Some, None, Bool, true, false, ◌&&◌, not, length, get_or, set, drop, slice_get, refl, sym, ◌∙◌, ap}
use Rattle.std.proofs.lemmas.Option.{slice_get-get_or}
use Rattle.or_base.specs.declared.item.Item.{Item}
use Rattle.or_base.specs.declared.item.Stamped.{Stamped}
use Rattle.or_base.specs.TurnDone.{TurnDone}
use Rattle.or_actor.specs.declared.output.Output.{Output}
use Rattle.net_record.specs.declared.wire.Wire.{Wire}
use Rattle.net_record.specs.declared.actor.ActorState.{ActorState}
use Rattle.net_record.specs.declared.record.NodeMark.{NodeMark}
use Rattle.net_record.specs.declared.record.SettleDone.{SettleDone}
use Rattle.net_record.specs.declared.record.AnswerDone.{AnswerDone}
use Rattle.net_record.specs.Actors.{no_actor, actor_at, Range, range_for, is_in_range, made_by, outputs_of, actors_after_settle}
use Rattle.net_record.specs.Answers.{giving_of}
use Rattle.net_record.specs.World.{WorldState, turn, turn_of, turn_by, reader_of, range, range_by, waiting, is_empty, deliver, driver_clock, greatest_clock, nodes_told, issue, settle}
use Rattle.net_record.specs.Rounds.{longest}
use Rattle.net_world.specs.Acting.{made_from, actors_after}
use Rattle.net_world.specs.Replaying.{may_find}

turn_none : (w : WorldState) (lane at : ℕ) → waiting w lane ≡ [] → turn w lane at ≡ w
unfolding turn
turn_none w lane at e = rw e refl

nothing_waits : (items : List Stamped) → is_empty items ≡ true → items ≡ []
nothing_waits [] h = refl
nothing_waits (s ∷ others) h = cc

-- no item waits on the lane
pub turn_empty : (w : WorldState) (lane at : ℕ) → is_empty (waiting w lane) ≡ true → turn w lane at ≡ w
turn_empty w lane at h = turn_none w lane at (nothing_waits (waiting w lane) h)

-- ---- a turn

turn_some : (w : WorldState) (lane at reader : ℕ) (s : Stamped) (others : List Stamped) (actor : ActorState)
    → reader_of (slice_get w.wires lane) ≡ reader → waiting w lane ≡ s ∷ others → slice_get w.actors reader ≡ Some actor
    → turn w lane at ≡ turn_of w reader others actor (made_by w.actors actor lane at s)
unfolding turn
turn_some w lane at reader s others actor e h k =
    ap (λ r. turn_by w lane at r (get_or w.lanes lane []) (slice_get w.actors r)) e
    ∙ ap (λ items. turn_by w lane at reader items (slice_get w.actors reader)) h
    ∙ ap (λ a. turn_by w lane at reader (s ∷ others) a) k

-- the reader of a lane that is there
reads_of : (w : WorldState) (lane reader : ℕ) (d : Wire) → lane < length w.wires → reader ≡ (get_or w.wires lane d).reader → reader_of (slice_get w.wires lane) ≡ reader
reads_of w lane reader d there reads = ap reader_of (slice_get-get_or w.wires lane d there) ∙ sym reads

-- an item was taken
pub turn_is_made : (w : WorldState) (lane at reader : ℕ) (d : Wire) (s : Stamped) (others : List Stamped) (stamp : ℕ) (outputs : List Output)
    (item : Item) (actors : List ActorState) (left lanes : List (List Stamped)) (turns : List TurnDone)
    → lane < length w.wires → reader ≡ (get_or w.wires lane d).reader → waiting w lane ≡ s ∷ others → reader < length w.actors
    → item ≡ s.item → actors ≡ actors_after w.actors reader (made_from w.actors reader lane at s) → stamp ≡ (made_from w.actors reader lane at s).stamp
    → outputs ≡ outputs_of (actor_at w.actors reader) (made_from w.actors reader lane at s)
    → left ≡ set w.lanes lane others → lanes ≡ deliver w.wires reader stamp left outputs
    → turns ≡ w.turns ++ record { lane = lane; at = at; stamp = stamp; item = item } ∷ []
    → record { wires = w.wires; lanes = lanes; actors = actors; turns = turns; settles = w.settles } ≡ turn w lane at
unfolding turn_of
turn_is_made w lane at reader d s others stamp outputs item actors left lanes turns there reads e acts copied became stamped sent taken put done =
    sym
    (turn_some w lane at reader s others (get_or w.actors reader no_actor) (reads_of w lane reader d there reads) e (slice_get-get_or w.actors reader no_actor acts)
    ∙ rw (done, put, taken, copied, sent, became, stamped) refl)

-- ---- the greatest length that a turn may find

nothing_first : (items : List Stamped) → None ≡ slice_get items 0 → items ≡ []
nothing_first [] e = refl
nothing_first (s ∷ others) e = cc e

some_first : (items : List Stamped) (s : Stamped) → Some s ≡ slice_get items 0 → items ≡ s ∷ drop 1 items
some_first [] s e = cc e
some_first (first ∷ others) s e = cc e

range_none : (w : WorldState) (lane : ℕ) → waiting w lane ≡ [] → (range w lane).most ≡ 0
unfolding range
range_none w lane e =
    ap (λ items. (range_by w.actors items (slice_get w.actors (reader_of (slice_get w.wires lane)))).most) e

-- no item waits on the lane
pub longest_none : (w : WorldState) (lane : ℕ) → None ≡ slice_get (waiting w lane) 0 → 0 ≡ longest w lane
longest_none w lane e = sym (range_none w lane (nothing_first (waiting w lane) e))

range_is : (w : WorldState) (lane reader : ℕ) (s : Stamped) (others : List Stamped) (actor : ActorState)
    → reader_of (slice_get w.wires lane) ≡ reader → waiting w lane ≡ s ∷ others → slice_get w.actors reader ≡ Some actor
    → range w lane ≡ range_for w.actors actor.part s.item
unfolding range
range_is w lane reader s others actor e h k =
    ap (λ r. range_by w.actors (get_or w.lanes lane []) (slice_get w.actors r)) e
    ∙ ap (λ items. range_by w.actors items (slice_get w.actors reader)) h
    ∙ ap (λ a. range_by w.actors (s ∷ others) a) k

-- this item waits longest
pub longest_made : (w : WorldState) (lane reader : ℕ) (d : Wire) (s : Stamped) (most : ℕ)
    → lane < length w.wires → reader ≡ (get_or w.wires lane d).reader → Some s ≡ slice_get (waiting w lane) 0 → reader < length w.actors
    → most ≡ (range_for w.actors (actor_at w.actors reader).part s.item).most
    → most ≡ longest w lane
longest_made w lane reader d s most there reads first acts is =
    is
    ∙ sym
    (ap (λ (r : Range). r.most)
    (range_is w lane reader s (drop 1 (waiting w lane)) (get_or w.actors reader no_actor) (reads_of w lane reader d there reads)
    (some_first (waiting w lane) s first) (slice_get-get_or w.actors reader no_actor acts)))

-- ---- a length that a turn may find

none_empty : (items : List Stamped) → None ≡ slice_get items 0 → is_empty items ≡ true
none_empty [] e = refl
none_empty (s ∷ others) e = cc e

-- no item waits on the lane
pub found_none : (w : WorldState) (lane at : ℕ) → None ≡ slice_get (waiting w lane) 0 → false ≡ may_find w lane at
found_none w lane at e = rw (none_empty (waiting w lane) e) refl

some_waits : (items : List Stamped) (s : Stamped) → Some s ≡ slice_get items 0 → is_empty items ≡ false
some_waits [] s e = cc e
some_waits (first ∷ others) s e = refl

-- this item waits longest
pub found_made : (w : WorldState) (lane at reader : ℕ) (d : Wire) (s : Stamped) {found : Bool}
    → lane < length w.wires → reader ≡ (get_or w.wires lane d).reader → Some s ≡ slice_get (waiting w lane) 0 → reader < length w.actors
    → found ≡ is_in_range (range_for w.actors (actor_at w.actors reader).part s.item) at
    → found ≡ may_find w lane at
found_made w lane at reader d s there reads first acts is =
    let same : range w lane ≡ range_for w.actors (actor_at w.actors reader).part s.item =
    range_is w lane reader s (drop 1 (waiting w lane)) (get_or w.actors reader no_actor) (reads_of w lane reader d there reads)
    (some_first (waiting w lane) s first) (slice_get-get_or w.actors reader no_actor acts) in
    is ∙ ap (λ r. is_in_range r at) (sym same) ∙ ap (λ e. not e && is_in_range (range w lane) at) (sym (some_waits (waiting w lane) s first))

-- items were issued
pub issue_is_made : (w : WorldState) (stamp : ℕ) (issues : List Output) (lanes : List (List Stamped)) → stamp ≡ driver_clock w.actors → lanes ≡ deliver w.wires 0 stamp w.lanes issues
    → record { wires = w.wires; lanes = lanes; actors = w.actors; turns = w.turns; settles = w.settles } ≡ issue w issues
unfolding issue
issue_is_made w stamp issues lanes is put = rw (put, is) refl

-- a settle was done
pub settle_is_made : (w : WorldState) (moment clock : ℕ) (asked : List ℕ) (shows : Bool) (nodes : List NodeMark) (giving actors : List ActorState) (answers : List AnswerDone) (settles : List SettleDone)
    → clock ≡ greatest_clock w.actors + 1 → nodes ≡ nodes_told w.actors shows
    → record { actors = giving; answers = answers } ≡ giving_of w.actors asked → actors ≡ actors_after_settle clock giving
    → settles ≡ w.settles ++ record { turns = length w.turns; moment = moment; nodes = nodes; answers = answers } ∷ []
    → record { wires = w.wires; lanes = w.lanes; actors = actors; turns = w.turns; settles = settles } ≡ settle moment asked shows w
unfolding settle
settle_is_made w moment clock asked shows nodes giving actors answers settles is marked gave set_to done =
    rw (done, set_to, marked, is, ← gave) refl
