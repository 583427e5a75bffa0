-- The clocks and stamps of actors after a turn of one of them.
use Rattle.std.proofs.Common.{◌≡◌, ℕ, zero, suc, ◌+◌, ◌-◌, ◌<◌, ◌≤◌, ◌^◌, inl, inr, List, Option, Some, None, length, get_or, set, replicate, refl, sym, ap, ◌∙◌, subst, arith, length-set}
use Rattle.std.specs.Prelude.{All}
use Rattle.std.proofs.lemmas.Bool.{cases_lt}
use Rattle.std.proofs.lemmas.List.{get_or_past, get_or_read}
use Rattle.std.proofs.lemmas.List.Elements.{All-nil, All-append, All-set, All-get_or, All-same, All-weaker, All-replicate}
use Rattle.std.specs.Option.{option_map_or}
use Rattle.or_base.specs.declared.asked.Asked.{Asked}
use Rattle.or_base.specs.declared.item.Item.{Item}
use Rattle.or_base.specs.declared.item.Stamped.{Stamped}
use Rattle.or_actor.specs.declared.output.Output.{Output}
use Rattle.or_actor.specs.Steps.{TurnMade, turn_made, next_stamp}
use Rattle.net_record.specs.declared.part.Part.{Part}
use Rattle.net_record.specs.declared.actor.ActorState.{ActorState}
use Rattle.net_record.specs.Desk.{DeskState, asked_in, view_for}
use Rattle.net_record.specs.Actors.{no_actor, actor_at, desk_of, entries_of, made_at, made_in, view_asked, made_for, part_step, actor_after, outputs_of}
use Rattle.net_world.specs.Sound.{IsAtMost, IsClockedBelow, StayClocked}
use Rattle.net_world.specs.Acting.{made_from, actors_after}
use Rattle.net_world.proofs.Clocked.{clocked_same}

-- what is at most a bound is at most a greater one
pub stamps_weaker : (m n : ℕ) (stamps : List ℕ) → m ≤ n → All (IsAtMost m) stamps → All (IsAtMost n) stamps
stamps_weaker m n stamps h = All-weaker (IsAtMost m) (IsAtMost n) (λ stamp most. omega (arith, most, h)) stamps

pub clocks_weaker : (m n : ℕ) (actors : List ActorState) → m ≤ n → All (IsClockedBelow m) actors → All (IsClockedBelow n) actors
clocks_weaker m n actors h =
    All-weaker (IsClockedBelow m) (IsClockedBelow n) (λ actor below. (omega (arith, below.0, h), stamps_weaker m n actor.made h below.1)) actors

-- ---- what a desk finds was made by a turn that is done

stamps_below : (most : ℕ) (actors : List ActorState) (n : ℕ) → All (IsClockedBelow most) actors → All (IsAtMost most) (actor_at actors n).made
stamps_below most actors n all =
    elim (cases_lt n (length actors)) [
      | inl within ↦ (All-get_or (IsClockedBelow most) actors n no_actor within all).1
      | inr past ↦ subst (λ (a : ActorState). All (IsAtMost most) a.made) (sym (get_or_past actors n no_actor past)) (All-nil (IsAtMost most))
    ]

stamp_below : (most : ℕ) (stamps : List ℕ) (n : ℕ) → All (IsAtMost most) stamps → get_or stamps n 0 ≤ most
stamp_below most stamps n all =
    elim (cases_lt n (length stamps)) [
      | inl within ↦ All-get_or (IsAtMost most) stamps n 0 within all
      | inr past ↦ omega (arith, get_or_past stamps n 0 past)
    ]

made_below : (most : ℕ) (stamps : List ℕ) (at : ℕ) → All (IsAtMost most) stamps → made_at stamps at ≤ most
made_below most stamps zero all = omega arith
made_below most stamps (suc n) all = stamp_below most stamps n all

in_below : (most : ℕ) (actors : List ActorState) (desk : Option DeskState) (asked : Option Asked) (at : ℕ) → All (IsClockedBelow most) actors
    → option_map_or (made_in actors at) (view_asked desk asked) 0 ≤ most
in_below most actors None asked at all = omega arith
in_below most actors (Some d) None at all = omega arith
in_below most actors (Some d) (Some asked) at all =
    let owner = (view_for d asked).owner in
    made_below most (actor_at actors owner).made at (stamps_below most actors owner all)

found_below : (most : ℕ) (actors : List ActorState) (part : Part) (item : Item) (at : ℕ) → All (IsClockedBelow most) actors → made_for actors part item at ≤ most
unfolding made_for
found_below most actors part item at all = in_below most actors (desk_of part) (asked_in item) at all

-- ---- a turn

pub length-after : (actors : List ActorState) (number : ℕ) (m : TurnMade) → length (actors_after actors number m) ≡ length actors
length-after actors number m = length-set actors number (actor_after (actor_at actors number) m)

-- its stamp
pub stamp_most : (most : ℕ) (actors : List ActorState) (number lane at : ℕ) (s : Stamped) → number < length actors → s.stamp ≤ most → All (IsClockedBelow most) actors
    → (made_from actors number lane at s).stamp ≤ most + 1
stamp_most most actors number lane at s there taken all =
    omega (
      arith,
      taken,
      (All-get_or (IsClockedBelow most) actors number no_actor there all).0,
      found_below most actors (actor_at actors number).part s.item at all,
    )

clock_after : (before : ActorState) (m : TurnMade) → (actor_after before m).clock ≡ m.stamp
unfolding actor_after
clock_after before m = refl

made_after : (most : ℕ) (before : ActorState) (m : TurnMade) → All (IsAtMost most) before.made → m.stamp ≤ most → All (IsAtMost most) (actor_after before m).made
unfolding actor_after
made_after most before m all h =
    let after = (part_step before.part m.lane m.taken.item m.at).0 in
    let count = length (entries_of after) - length (entries_of before.part) in
    All-append (IsAtMost most) before.made (replicate count m.stamp) all (All-replicate (IsAtMost most) count m.stamp h)

-- the clocks and stamps after it
pub clocks_after : (most : ℕ) (actors : List ActorState) (number : ℕ) (m : TurnMade) → m.stamp ≤ most + 1 → All (IsClockedBelow most) actors
    → All (IsClockedBelow (most + 1)) (actors_after actors number m)
clocks_after most actors number m stamp all =
    let before = actor_at actors number in
    let older = stamps_weaker most (most + 1) before.made (omega arith) (stamps_below most actors number all) in
    All-set (IsClockedBelow (most + 1)) actors number (actor_after before m)
    (omega (arith, clock_after before m, stamp), made_after (most + 1) before m older stamp)
    (clocks_weaker most (most + 1) actors (omega arith) all)

-- ---- what a turn asks

pub clock_fits : (actors : List ActorState) (number : ℕ) (actor : ActorState) → All (IsClockedBelow (2 ^ 64 - 2)) actors → number < length actors → actor ≡ get_or actors number actor → actor.clock + 1 < 2 ^ 64
clock_fits actors number actor all there at =
    let same = get_or_read actors number actor there at no_actor in
    omega (arith, ap (λ (a : ActorState). a.clock) same, (All-get_or (IsClockedBelow (2 ^ 64 - 2)) actors number no_actor there all).0)

pub found_fits : (actors : List ActorState) (part : Part) (item : Item) (at found : ℕ) → All (IsClockedBelow (2 ^ 64 - 2)) actors → found ≡ made_for actors part item at → found + 1 < 2 ^ 64
found_fits actors part item at found all is = omega (arith, is, found_below (2 ^ 64 - 2) actors part item at all)

-- what it makes, for the actor that is there
is_made : (actors : List ActorState) (number lane at found : ℕ) (reader actor : ActorState) (s : Stamped) → number < length actors → reader ≡ get_or actors number reader → actor ≡ get_or actors number actor
    → found ≡ made_for actors reader.part s.item at → turn_made actor.clock lane at s found ≡ made_from actors number lane at s
is_made actors number lane at found reader actor s there read is looked =
    let same = get_or_read actors number actor there is no_actor in
    let also = get_or_read actors number reader there read no_actor in
    ap (λ (a : ActorState). turn_made a.clock lane at s found) same
    ∙ ap (turn_made (actor_at actors number).clock lane at s) (looked ∙ ap (λ (a : ActorState). made_for actors a.part s.item at) also)

pub made_state : (actors after : List ActorState) (number lane at found : ℕ) (reader actor changed : ActorState) (s : Stamped) → number < length actors → reader ≡ get_or actors number reader
    → actor ≡ get_or actors number actor → found ≡ made_for actors reader.part s.item at → changed ≡ actor_after actor (turn_made actor.clock lane at s found) → after ≡ set actors number changed
    → after ≡ actors_after actors number (made_from actors number lane at s)
made_state actors after number lane at found reader actor changed s there read is looked became put =
    let same = get_or_read actors number actor there is no_actor in
    put ∙ ap (set actors number)
    (became ∙ ap (actor_after actor) (is_made actors number lane at found reader actor s there read is looked) ∙ ap (λ a. actor_after a (made_from actors number lane at s)) same)

pub made_stamp : (actors : List ActorState) (number lane at found stamp : ℕ) (reader actor : ActorState) (s : Stamped) → number < length actors → reader ≡ get_or actors number reader
    → actor ≡ get_or actors number actor → found ≡ made_for actors reader.part s.item at → stamp ≡ next_stamp s.stamp actor.clock found
    → stamp ≡ (made_from actors number lane at s).stamp
made_stamp actors number lane at found stamp reader actor s there read is looked stamped =
    stamped ∙ ap (λ (m : TurnMade). m.stamp) (is_made actors number lane at found reader actor s there read is looked)

pub made_outputs : (actors : List ActorState) (number lane at found : ℕ) (outputs : List Output) (reader actor : ActorState) (s : Stamped) → number < length actors → reader ≡ get_or actors number reader
    → actor ≡ get_or actors number actor → found ≡ made_for actors reader.part s.item at → outputs ≡ outputs_of actor (turn_made actor.clock lane at s found)
    → outputs ≡ outputs_of (actor_at actors number) (made_from actors number lane at s)
made_outputs actors number lane at found outputs reader actor s there read is looked sent =
    let same = get_or_read actors number actor there is no_actor in
    sent ∙ ap (outputs_of actor) (is_made actors number lane at found reader actor s there read is looked) ∙ ap (λ a. outputs_of a (made_from actors number lane at s)) same

-- a turn that ran out of memory
pub clocked_kept : (actors after : List ActorState) (number : ℕ) (actor changed : ActorState) → number < length actors → actor ≡ get_or actors number actor
    → changed.clock ≡ actor.clock → changed.made ≡ actor.made → after ≡ set actors number changed → StayClocked actors after
clocked_kept actors after number actor changed there is clock made put =
    let same = get_or_read actors number actor there is no_actor in
    record {
      len = ap length put ∙ length-set actors number changed;
      clocks = λ most all.
          let below = All-get_or (IsClockedBelow most) actors number no_actor there all in
          All-same (IsClockedBelow most) after (set actors number changed) put
          (All-set (IsClockedBelow most) actors number changed
          (omega (arith, below.0, clock, ap (λ (a : ActorState). a.clock) same), subst (λ ns. All (IsAtMost most) ns) (sym (made ∙ ap (λ (a : ActorState). a.made) same)) below.1) all);
    }

pub ruleset acting = (clock_fits, found_fits, made_state, made_stamp, made_outputs, clocked_kept, clocked_same)
