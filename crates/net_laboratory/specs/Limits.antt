-- The limits of a scenario, beside those of names, keys, values, metrics and preferences.
use Rattle.std.specs.Prelude.{ℕ, ◌-◌, ◌^◌}
use Rattle.or_base.specs.Limits.{most_adjacencies, most_prefix_entries}

-- ---- bytes and lines

abbrev pub most_scenario_bytes : ℕ
most_scenario_bytes = 33554432

-- of a line without its LF
abbrev pub most_line_bytes : ℕ
most_line_bytes = 65536

-- lines that aren't turns
abbrev pub most_lines : ℕ
most_lines = 10000

-- turns of a run, and turn lines
abbrev pub most_turns : ℕ
most_turns = 500000

-- ---- declarations

abbrev pub most_nodes : ℕ
most_nodes = 64

-- how many calls on the forwarding agent of a node may fail, and the greatest number of one
abbrev pub most_failing_calls : ℕ
most_failing_calls = 64

abbrev pub last_failing_call : ℕ
last_failing_call = 500000

abbrev pub most_links : ℕ
most_links = 256

-- as many as a link record has adjacencies
abbrev pub most_links_of_node : ℕ
most_links_of_node = most_adjacencies

-- ---- commands

-- distinct keys: of records, and of set and own commands
abbrev pub most_keys : ℕ
most_keys = 512

-- distinct prefixes that a node advertises or aggregates: as many as a prefix record has entries
abbrev pub most_prefixes_of_node : ℕ
most_prefixes_of_node = most_prefix_entries

abbrev pub most_settles : ℕ
most_settles = 1000

-- rounds of a settle, from 1
abbrev pub most_rounds : ℕ
most_rounds = 100000

-- milliseconds
abbrev pub most_moment : ℕ
most_moment = 2 ^ 40

-- acts of a script, from 1
abbrev pub most_acts : ℕ
most_acts = 256

-- for how many further messages an act holds one back, from 1
abbrev pub most_delay : ℕ
most_delay = 9

-- the routes that an aggregate waits for, from 1
abbrev pub most_aggregated_routes : ℕ
most_aggregated_routes = 1000

-- ---- defaults

abbrev pub default_rounds : ℕ
default_rounds = 1000

abbrev pub default_metric : ℕ
default_metric = 1

abbrev pub default_path : ℕ
default_path = 1000

abbrev pub default_source : ℕ
default_source = 100

abbrev pub default_distance : ℕ
default_distance = 0

-- ---- turns

-- the lane that a turn line names
abbrev pub most_lane : ℕ
most_lane = 2 ^ 32 - 1

-- the length that it says
abbrev pub most_length : ℕ
most_length = 2 ^ 64 - 1
