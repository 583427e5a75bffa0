-- Lanes stay sound where sound items are put on them.
use Rattle.std.proofs.Common.{◌≡◌, ℕ, inl, inr, List, [], ◌∷◌, ◌++◌, Option, Some, None, length, get_or, set, true}
use Rattle.std.specs.Prelude.{All}
use Rattle.std.proofs.lemmas.Bool.{cases_lt}
use Rattle.std.proofs.lemmas.List.{set_past}
use Rattle.std.proofs.lemmas.List.Elements.{All-set, All-push, All-get_or, All-same}
use Rattle.or_base.specs.declared.item.Stamped.{Stamped}
use Rattle.or_actor.specs.Fits.{has_small_link}
use Rattle.net_record.specs.World.{put}
use Rattle.net_world.specs.Sound.{IsSoundItem, IsSoundLane, StaySound}

-- nothing is put
pub stay_same : (stamp : ℕ) (before after : List (List Stamped)) → after ≡ before → StaySound stamp before after
stay_same stamp before after e = record { sound = λ most h all. All-same (IsSoundLane most) after before e all }

-- one after the other
pub stay_then : (stamp : ℕ) (first second third : List (List Stamped)) → StaySound stamp first second → StaySound stamp second third → StaySound stamp first third
stay_then stamp first second third f g = record { sound = λ most h all. g.sound most h (f.sound most h all) }

stay_set : (most lane : ℕ) (lanes : List (List Stamped)) (s : Stamped) → IsSoundItem most s → All (IsSoundLane most) lanes
    → All (IsSoundLane most) (set lanes lane (get_or lanes lane [] ++ s ∷ []))
stay_set most lane lanes s sound all =
    elim (cases_lt lane (length lanes)) [
      | inl within ↦
          All-set (IsSoundLane most) lanes lane (get_or lanes lane [] ++ s ∷ [])
          (All-push (IsSoundItem most) (get_or lanes lane []) s (All-get_or (IsSoundLane most) lanes lane [] within all) sound) all
      | inr past ↦
          All-same (IsSoundLane most) (set lanes lane (get_or lanes lane [] ++ s ∷ [])) lanes (set_past lanes lane (get_or lanes lane [] ++ s ∷ []) past) all
    ]

put_sound : (most : ℕ) (lane : Option ℕ) (lanes : List (List Stamped)) (s : Stamped) → IsSoundItem most s → All (IsSoundLane most) lanes → All (IsSoundLane most) (put lanes lane s)
put_sound most None lanes s sound all = all
put_sound most (Some lane) lanes s sound all = stay_set most lane lanes s sound all

-- an item is put, or none
pub stay_put : (lane : Option ℕ) (before after : List (List Stamped)) (s : Stamped) → after ≡ put before lane s → has_small_link s.item ≡ true → StaySound s.stamp before after
stay_put lane before after s e small = record {
  sound = λ most h all. All-same (IsSoundLane most) after (put before lane s) e (put_sound most lane before s (h, small) all);
}

pub ruleset staying = (stay_same, stay_then, stay_put)
