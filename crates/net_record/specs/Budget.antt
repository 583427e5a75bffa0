-- How much a run may do.
use Rattle.std.specs.Prelude.{ℕ, List, Bool, ◌&&◌, ◌||◌, ◌^◌, not, nat_lt, nat_le, length}
use Rattle.or_base.specs.TurnDone.{TurnDone}
use Rattle.net_laboratory.specs.Limits.{most_turns}
use Rattle.net_record.specs.declared.record.SettleDone.{SettleDone}
use Rattle.net_record.specs.Weight.{weight_of}
use Rattle.net_record.specs.World.{WorldState, is_drained}

-- what a run has done weighs at most so much
abbrev pub most_weight : ℕ
most_weight = 2 ^ 30

-- what was done weighs too much
unfoldable pub is_too_heavy : List TurnDone → List SettleDone → Bool
is_too_heavy turns settles = nat_lt most_weight (weight_of turns settles)

-- no further turn may be done
abbrev pub has_spent_turns : List TurnDone → Bool
has_spent_turns turns = nat_le most_turns (length turns)

-- The budget is exceeded: what was done weighs too much, or an item waits and no further turn may be done.
unfoldable pub is_over : WorldState → Bool
is_over w = is_too_heavy w.turns w.settles || (has_spent_turns w.turns && not (is_drained w))
