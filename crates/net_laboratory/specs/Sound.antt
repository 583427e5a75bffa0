-- What makes a scenario sound: each node, link and command may stand behind those before it.
use Rattle.std.specs.Prelude.{ℕ, ◌+◌, List, [], ◌∷◌, ◌++◌, Bool, true, false, ◌&&◌, ◌||◌, ◌==◌, not, nat_le, nat_lt, length, Option}
use Rattle.std.specs.Str.{bytes_eq}
use Rattle.std.specs.List.{list_all, count_by}
use Rattle.std.specs.Option.{option_map_or}
use Rattle.or_base.specs.Limits.{most_value_bytes, most_lifetime, most_metric, most_preference, is_between, is_node_name, is_interface_name, is_key, is_valid_pair}
use Rattle.or_base.specs.declared.act.Act.{Act}
use Rattle.or_base.specs.declared.act.Act.TheVariants as act
use Rattle.or_base.specs.declared.database.PrefixEntry.{PrefixEntry}
use Rattle.or_base.specs.declared.kind.Kind.{Kind}
use Rattle.or_base.specs.declared.kind.Kind.TheVariants as kind
use Rattle.net_laboratory.specs.declared.show.Show.TheVariants as show
use Rattle.net_laboratory.specs.declared.declared.NodeDecl.{NodeDecl}
use Rattle.net_laboratory.specs.declared.declared.LinkDecl.{LinkDecl}
use Rattle.net_laboratory.specs.declared.command.Command.{Command}
use Rattle.net_laboratory.specs.declared.command.Command.TheVariants.{Settle, Tick, Set, Own, Disown, Sync, Restart, Up, Down, Script, Get, Drain, LinkDrain, Metric, Advertise, Withdraw, Aggregate, Ask}
use Rattle.net_laboratory.specs.Limits.{most_nodes, most_failing_calls, last_failing_call, most_links, most_links_of_node, most_delay, most_acts, most_rounds, default_rounds, most_moment, most_aggregated_routes, most_settles, most_lines, most_turns}
use Rattle.net_laboratory.specs.Scenario.{Laboratory, is_declared, is_end, is_interface, is_end_of}
use Rattle.net_laboratory.specs.Amounts.{claims_of, keys_in, has_key_room, owners_in, has_other_owner, is_record_key, offers_in, has_offer_room, is_settle, settles_in, ends_in_settle, last_tick, is_later}

-- ---- declarations

-- so many nodes at most, with distinct names
unfoldable pub admits_node : List NodeDecl → NodeDecl → Bool
admits_node before node =
    nat_lt (length before) most_nodes && is_node_name node.name && not (is_declared before node.name)
    && nat_le (length node.faults) most_failing_calls && list_all (is_between 1 last_failing_call) node.faults

abbrev pub is_metric : ℕ → Bool
is_metric n = is_between 1 most_metric n

-- So many links at most, and at each node, between two different declared nodes; no interface stands twice at one node.
unfoldable pub admits_link : List NodeDecl → List LinkDecl → LinkDecl → Bool
admits_link nodes before link =
    nat_lt (length before) most_links
    && is_declared nodes link.a && is_declared nodes link.b && not (bytes_eq link.a link.b)
    && is_interface_name link.aif && is_interface_name link.bif && is_metric link.am && is_metric link.bm
    && not (is_interface before link.a link.aif) && not (is_interface before link.b link.bif)
    && nat_lt (count_by (is_end link.a) before) most_links_of_node && nat_lt (count_by (is_end link.b) before) most_links_of_node

-- ---- commands

-- what is declared before the first command
pub record Declarations : Type 0 where
  pub kind : Kind
  pub nodes : List NodeDecl
  pub links : List LinkDecl

abbrev pub is_lifetime : Option ℕ → Bool
is_lifetime ttl = option_map_or (is_between 1 most_lifetime) ttl true

abbrev pub is_value : List ℕ → Bool
is_value value = nat_le (length value) most_value_bytes

abbrev pub is_act : Act → Bool
is_act (act.Late n) = is_between 1 most_delay n
is_act _ = true

abbrev pub are_acts : List Act → Bool
are_acts acts = is_between 1 most_acts (length acts) && list_all is_act acts

abbrev pub is_preference : ℕ → Bool
is_preference n = nat_le n most_preference

abbrev pub is_entry : PrefixEntry → Bool
is_entry e = is_preference e.path && is_preference e.source && is_preference e.distance

-- the command names declared nodes and links, and its numbers and texts are within their limits
unfoldable pub has_sound_fields : Declarations → Command → Bool
has_sound_fields d (Settle rounds show) = is_between 1 most_rounds rounds
has_sound_fields d (Tick to) = nat_le to most_moment
has_sound_fields d (Set node pair) = is_declared d.nodes node && is_valid_pair pair
has_sound_fields d (Own node key value ttl) = is_declared d.nodes node && is_key key && is_value value && is_lifetime ttl
has_sound_fields d (Disown node key) = is_declared d.nodes node && is_key key
has_sound_fields d (Sync node link) = is_declared d.nodes node && is_end_of d.links node link
has_sound_fields d (Restart node) = is_declared d.nodes node
has_sound_fields d (Up link) = nat_lt link (length d.links)
has_sound_fields d (Down link) = nat_lt link (length d.links)
has_sound_fields d (Script link from acts) = is_declared d.nodes from && is_end_of d.links from link && are_acts acts
has_sound_fields d (Get node key) = is_declared d.nodes node && is_key key
has_sound_fields d (Drain node on) = is_declared d.nodes node
has_sound_fields d (LinkDrain node link on) = is_declared d.nodes node && is_end_of d.links node link
has_sound_fields d (Metric node link metric) = is_declared d.nodes node && is_end_of d.links node link && is_metric metric
has_sound_fields d (Advertise node entry) = is_declared d.nodes node && is_entry entry
has_sound_fields d (Withdraw node prefix) = is_declared d.nodes node
has_sound_fields d (Aggregate node prefix min) = is_declared d.nodes node && is_between 1 most_aggregated_routes min
has_sound_fields d (Ask node prefix) = is_declared d.nodes node

-- a command of routing, which only full laboratories have
abbrev pub is_routing_command : Command → Bool
is_routing_command (Settle rounds show) = false
is_routing_command (Tick to) = false
is_routing_command (Set node pair) = false
is_routing_command (Own node key value ttl) = false
is_routing_command (Disown node key) = false
is_routing_command (Sync node link) = false
is_routing_command (Restart node) = false
is_routing_command (Up link) = false
is_routing_command (Down link) = false
is_routing_command (Script link from acts) = false
is_routing_command (Get node key) = false
is_routing_command (Drain node on) = true
is_routing_command (LinkDrain node link on) = true
is_routing_command (Metric node link metric) = true
is_routing_command (Advertise node entry) = true
is_routing_command (Withdraw node prefix) = true
is_routing_command (Aggregate node prefix min) = true
is_routing_command (Ask node prefix) = true

-- the kind of laboratory has the command
abbrev pub belongs : Kind → Command → Bool
belongs kind.Full c = true
belongs kind.Stores c = not (is_routing_command c)

-- ticks rise
abbrev pub is_in_time : List Command → Command → Bool
is_in_time before c = option_map_or (is_later (last_tick before)) (claims_of c).moment true

-- no key has two owners
abbrev pub has_one_owner : Declarations → List Command → Command → Bool
has_one_owner d before c =
    option_map_or (λ o. not (has_other_owner (owners_in before) o.key o.node) && not (is_record_key d.kind d.nodes o.key)) (claims_of c).owner true

-- neither settles, nor keys, nor prefixes of a node are too many
abbrev pub has_room : Declarations → List Command → Command → Bool
has_room d before c =
    (not (is_settle c) || nat_lt (settles_in before) most_settles)
    && option_map_or (has_key_room (keys_in d.kind d.nodes before)) (claims_of c).key true
    && option_map_or (λ o. has_offer_room (offers_in before) o.node o.prefix) (claims_of c).prefix true

-- how many lines there are before the next command: that of the laboratory, those of nodes and links, and the commands
abbrev pub lines_before : List NodeDecl → List LinkDecl → List Command → ℕ
lines_before nodes links before = 1 + (length nodes + (length links + length before))

unfoldable pub admits_command : Declarations → List Command → Command → Bool
admits_command d before c =
    has_sound_fields d c && belongs d.kind c && is_in_time before c && has_one_owner d before c && has_room d before c
    && nat_lt (lines_before d.nodes d.links before) most_lines

-- ---- the whole

-- each may stand behind those before it
abbrev pub are_admitted : {X : Type 0} → (List X → X → Bool) → List X → List X → Bool
are_admitted admits before [] = true
are_admitted admits before (x ∷ xs) = admits before x && are_admitted admits (before ++ x ∷ []) xs

-- the settle with defaults that stands at the end where the last command isn't a settle; no limit counts it
abbrev pub default_settle : Command
default_settle = Settle default_rounds show.Both

abbrev pub is_default_settle : List Command → Command → Bool
is_default_settle before (Settle rounds show.Both) = rounds == default_rounds && not (ends_in_settle before)
is_default_settle before _ = false

-- the commands, of which the last is a settle
abbrev pub end_in_settle : Declarations → List Command → List Command → Bool
end_in_settle d before [] = false
end_in_settle d before (c ∷ []) = is_settle c && (admits_command d before c || is_default_settle before c)
end_in_settle d before (c ∷ next ∷ commands) = admits_command d before c && end_in_settle d (before ++ c ∷ []) (next ∷ commands)

abbrev pub declared_in : Laboratory → Declarations
declared_in lab = record { kind = lab.kind; nodes = lab.nodes; links = lab.links }

-- The declarations and commands of a scenario keep all limits, in order, and its last command is a settle.
unfoldable pub is_sound : Laboratory → Bool
is_sound lab =
    is_lifetime lab.ttl && are_admitted admits_node [] lab.nodes && are_admitted (admits_link lab.nodes) [] lab.links
    && end_in_settle (declared_in lab) [] lab.commands
    && option_map_or (λ given. is_between 1 most_turns (length given.turns)) lab.turns true
