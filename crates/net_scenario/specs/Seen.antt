-- What the lines so far say.
use Rattle.std.specs.Prelude.{ℕ, List, [], ◌∷◌, ◌++◌, Bool, true, false, ◌&&◌, ◌||◌, nat_le, nat_lt, length, Option, Some, None, is_some, is_none, unwrap_or, if◌then◌else◌}
use Rattle.or_base.specs.declared.kind.Kind.{Kind}
use Rattle.or_base.specs.declared.kind.Kind.TheVariants as kind
use Rattle.net_laboratory.specs.Limits.{most_turns}
use Rattle.net_laboratory.specs.declared.declared.NodeDecl.{NodeDecl}
use Rattle.net_laboratory.specs.declared.declared.LinkDecl.{LinkDecl}
use Rattle.net_laboratory.specs.declared.command.Command.{Command}
use Rattle.net_laboratory.specs.declared.schedule.Turn.{Turn}
use Rattle.net_laboratory.specs.declared.schedule.Schedule.{Schedule}
use Rattle.net_scenario.specs.declared.statement.Statement.{Statement}
use Rattle.net_scenario.specs.declared.statement.Statement.TheVariants as says
use Rattle.net_laboratory.specs.Scenario.{Laboratory}
use Rattle.net_laboratory.specs.Amounts.{ends_in_settle}
use Rattle.net_laboratory.specs.Sound.{Declarations, are_admitted, admits_node, admits_link, admits_command, is_lifetime, default_settle}

pub record Seen : Type 0 where
  pub kind : Option Kind
  pub ttl : Option ℕ
  pub nodes : List NodeDecl
  pub links : List LinkDecl
  pub commands : List Command
  pub turns : List Turn

-- before the first line
abbrev pub nothing_seen : Seen
nothing_seen = record { kind = None; ttl = None; nodes = []; links = []; commands = []; turns = [] }

abbrev pub kind_in : Seen → Kind
kind_in seen = unwrap_or seen.kind kind.Stores

abbrev pub declared_by : Seen → Declarations
declared_by seen = record { kind = kind_in seen; nodes = seen.nodes; links = seen.links }

abbrev pub has_none : {X : Type 0} → List X → Bool
has_none [] = true
has_none (x ∷ xs) = false

-- what is seen with one more line
unfoldable pub with_line : Seen → Statement → Seen
with_line seen (says.Lab kind ttl) = record seen { kind = Some kind; ttl = ttl }
with_line seen (says.Node node) = record seen { nodes = seen.nodes ++ node ∷ [] }
with_line seen (says.Link link) = record seen { links = seen.links ++ link ∷ [] }
with_line seen (says.Command command) = record seen { commands = seen.commands ++ command ∷ [] }
with_line seen (says.Turn turn) = record seen { turns = seen.turns ++ turn ∷ [] }

-- the line may stand behind those before it
unfoldable pub admits : Seen → Statement → Bool
admits seen (says.Lab kind ttl) = is_none seen.kind && is_lifetime ttl
admits seen (says.Node node) = is_some seen.kind && has_none seen.commands && admits_node seen.nodes node
admits seen (says.Link link) = is_some seen.kind && has_none seen.commands && admits_link seen.nodes seen.links link
admits seen (says.Command command) = is_some seen.kind && admits_command (declared_by seen) seen.commands command
admits seen (says.Turn turn) = is_some seen.kind && nat_lt (length seen.turns) most_turns

-- nothing stands before the line of the laboratory
abbrev pub is_opened : Seen → Bool
is_opened seen = is_some seen.kind || (has_none seen.nodes && has_none seen.links && has_none seen.commands && has_none seen.turns)

-- each line may stand behind those before it
unfoldable pub is_sound_so_far : Seen → Bool
is_sound_so_far seen =
    is_opened seen && is_lifetime seen.ttl && are_admitted admits_node [] seen.nodes
    && are_admitted (admits_link seen.nodes) [] seen.links && are_admitted (admits_command (declared_by seen)) [] seen.commands
    && nat_le (length seen.turns) most_turns

-- the commands, with a settle at their end
abbrev pub with_last_settle : List Command → List Command
with_last_settle commands = if ends_in_settle commands then commands else commands ++ default_settle ∷ []

-- the turns, where there are turn lines
abbrev pub schedule_given : List Turn → Option Schedule
schedule_given turns = if has_none turns then None else Some (record { turns = turns })

-- the scenario that all lines say
unfoldable pub scenario_in : Seen → Laboratory
scenario_in seen =
    record { kind = kind_in seen; ttl = seen.ttl; nodes = seen.nodes; links = seen.links; commands = with_last_settle seen.commands; turns = schedule_given seen.turns }
