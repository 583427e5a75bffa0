-- Lines that say the same turn wherever they stand.
use Rattle.std.specs.Prelude.{◌≡◌, ℕ, List, length, Bool, true, not, ◌&&◌, nat_lt, Some, is_some, Ok}
use Rattle.std.specs.HashMap.{HashMap, get_by}
use Rattle.std.specs.Str.{bytes_eq}
use denote.Ref.{Bor}
use Rattle.net_laboratory.specs.Limits.{most_turns}
use Rattle.net_laboratory.specs.declared.schedule.Turn.{Turn}
use Rattle.net_scenario.specs.declared.statement.Statement.TheVariants as says
use Rattle.net_scenario.specs.Faults.{Line, is_late}
use Rattle.net_scenario.specs.Language.{line_step}
use Rattle.net_scenario.specs.Seen.{Seen, with_line}

-- a turn line may stand here
abbrev pub takes_turn : Seen → Bool → Line → Bool
takes_turn seen turns line = turns && is_some seen.kind && nat_lt (length seen.turns) most_turns && not (is_late line)

-- a line of this text adds the turn, wherever a turn line may stand
pub record SaysTurn (text : List ℕ) (turn : Turn) : Type 0 where
  pub adds : (seen : Seen) (turns : Bool) (line : Line) → line.text ≡ text → takes_turn seen turns line ≡ true → line_step seen turns line ≡ Ok (with_line seen (says.Turn turn))

-- each text in the table says the turn that stands beside it
abbrev pub AreTurnLines : {S : Type 0} → HashMap (Bor (List ℕ)) Turn S → Type 0
AreTurnLines lines = (text : List ℕ) (turn : Turn) → get_by (λ k. bytes_eq text k.now) lines ≡ Some turn → SaysTurn text turn
