-- Actors that give their answers keep their clocks and stamps.
use Rattle.std.proofs.Common.{◌≡◌, ℕ, ◌+◌, ◌<◌, ◌≤◌, inl, inr, List, ◌∷◌, None, length, get_or, set, drop, sym, ap, ◌∙◌, length-set}
use Rattle.std.specs.Prelude.{All, option_and_then}
use Rattle.std.proofs.lemmas.Bool.{cases_lt}
use Rattle.std.proofs.lemmas.List.{set_past, get_or_past, at_drop_more}
use Rattle.std.proofs.lemmas.List.Elements.{All-set, All-get_or, All-same}
use Rattle.net_record.specs.declared.actor.ActorState.{ActorState}
use Rattle.net_record.specs.declared.record.AnswerDone.{AnswerDone}
use Rattle.net_record.specs.Actors.{no_actor, actor_at, desk_of, answer_of_desk, answer_of, actor_without_question}
use Rattle.net_record.specs.Answers.{Giving, give, give_all}
use Rattle.net_world.specs.Sound.{IsClockedBelow, StayClocked}

-- an actor that isn't there answers nothing
pub no_answer : (actors : List ActorState) (number : ℕ) → length actors ≤ number → None ≡ answer_of actors (actor_at actors number).part
unfolding answer_of
no_answer actors number past = ap (λ (a : ActorState). option_and_then (answer_of_desk actors) (desk_of a.part)) (sym (get_or_past actors number no_actor past))

pub nothing_forgotten : (actors : List ActorState) (number : ℕ) → length actors ≤ number → actors ≡ set actors number (actor_without_question (actor_at actors number))
nothing_forgotten actors number past = sym (set_past actors number (actor_without_question (actor_at actors number)) past)

pub ruleset nobody = (no_answer, nothing_forgotten)

-- nothing is given
pub clocked_same : (before after : List ActorState) → after ≡ before → StayClocked before after
clocked_same before after e = record { len = ap length e; clocks = λ most all. All-same (IsClockedBelow most) after before e all }

-- one after the other
pub clocked_then : (first second third : List ActorState) → StayClocked first second → StayClocked second third → StayClocked first third
clocked_then first second third f g = record { len = g.len ∙ f.len; clocks = λ most all. g.clocks most (f.clocks most all) }

clocked_set : (most number : ℕ) (actors : List ActorState) → All (IsClockedBelow most) actors → All (IsClockedBelow most) (set actors number (actor_without_question (actor_at actors number)))
clocked_set most number actors all =
    elim (cases_lt number (length actors)) [
      | inl within ↦
          All-set (IsClockedBelow most) actors number (actor_without_question (actor_at actors number)) (All-get_or (IsClockedBelow most) actors number no_actor within all) all
      | inr past ↦
          All-same (IsClockedBelow most) (set actors number (actor_without_question (actor_at actors number))) actors
          (set_past actors number (actor_without_question (actor_at actors number)) past) all
    ]

-- an answer is given
pub clocked_without : (before after : List ActorState) (number : ℕ) → after ≡ set before number (actor_without_question (actor_at before number)) → StayClocked before after
clocked_without before after number e = record {
  len = ap length e ∙ length-set before number (actor_without_question (actor_at before number));
  clocks = λ most all. All-same (IsClockedBelow most) after (set before number (actor_without_question (actor_at before number))) e (clocked_set most number before all);
}

-- one more of those that give an answer
pub given_more : (actors later : List ActorState) (answers more : List AnswerDone) (numbers : List ℕ) (i number : ℕ) (all : Giving) → i < length numbers → number ≡ get_or numbers i number
    → record { actors = later; answers = more } ≡ give (record { actors = actors; answers = answers }) number
    → give_all (record { actors = actors; answers = answers }) (drop i numbers) ≡ all
    → give_all (record { actors = later; answers = more }) (drop (i + 1) numbers) ≡ all
given_more actors later answers more numbers i number all within is gave so_far =
    let g : Giving = record { actors = actors; answers = answers } in
    ap (λ h. give_all h (drop (i + 1) numbers)) gave
    ∙ ap (λ n. give_all g (n ∷ drop (i + 1) numbers)) is
    ∙ sym (at_drop_more (give_all g) numbers i number within)
    ∙ so_far

pub ruleset clocked = (clocked_same, clocked_then, clocked_without, given_more)
