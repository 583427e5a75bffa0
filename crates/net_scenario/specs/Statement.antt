-- What a line without faults says. Each reading is total: of a faulty line it isn't used.
use Rattle.std.specs.Prelude.{ℕ, ◌%◌, ◌^◌, List, codes, false, unwrap_or, refl}
use Rattle.serde_json.specs.Data.{Data}
use Rattle.or_base.specs.declared.database.PrefixEntry.{PrefixEntry}
use Rattle.or_base.specs.declared.prefix.Prefix.{Prefix}
use Rattle.or_base.specs.declared.value.Pair.{Pair}
use Rattle.net_fields.specs.declared.word.Word.{Word}
use Rattle.net_fields.specs.declared.word.Word.TheVariants as word
use Rattle.net_fields.specs.Members.{text_at, text_or, number_at, number_or, flag_at, kind_at, show_at, prefix_at, value_at, numbers_at, acts_at}
use Rattle.net_laboratory.specs.Limits.{default_rounds, default_metric, default_path, default_source, default_distance}
use Rattle.net_laboratory.specs.declared.declared.LinkDecl.{LinkDecl}
use Rattle.net_laboratory.specs.declared.command.Command.TheVariants.{Settle, Tick, Set, Own, Disown, Sync, Restart, Up, Down, Script, Get, Drain, LinkDrain, Metric, Advertise, Withdraw, Aggregate, Ask}
use Rattle.net_scenario.specs.declared.statement.Statement.{Statement}
use Rattle.net_scenario.specs.declared.statement.Statement.TheVariants as says
use Rattle.net_scenario.specs.Conditions.{interface_a, interface_b}

-- a number of 32 bits
abbrev pub small_or : List ℕ → ℕ → Data → ℕ
small_or name default d = number_or name default d % 2 ^ 32

abbrev pub link_at : Data → ℕ
link_at d = small_or (codes "link") 0 d

abbrev pub node_named : Data → List ℕ
node_named d = text_at (codes "node") d

abbrev pub key_at : Data → List ℕ
key_at d = text_at (codes "key") d

-- the prefix of all IPv4 addresses, which stands where a faulty line says none
abbrev pub any_prefix : Prefix
any_prefix = record { v6 = false; bits = 0; len = 0; sound = refl }

abbrev pub prefix_or_any : Data → Prefix
prefix_or_any d = unwrap_or (prefix_at (codes "prefix") d) any_prefix

unfoldable pub link_of : Data → LinkDecl
link_of d = record {
  a = text_at (codes "a") d;
  aif = interface_a d;
  am = small_or (codes "am") default_metric d;
  b = text_at (codes "b") d;
  bif = interface_b d;
  bm = small_or (codes "bm") default_metric d;
}

-- the originator of a value: by default the node
abbrev pub originator_at : Data → List ℕ
originator_at d = text_or (codes "originator") (node_named d) d

unfoldable pub pair_of : Data → Pair
pair_of d = record {
  key = key_at d;
  value = record {
    version = number_or (codes "version") 0 d;
    originator = originator_at d;
    value = value_at d;
    ttl = number_at (codes "ttl") d;
    ttl_version = number_or (codes "ttlv") 0 d;
  };
}

unfoldable pub prefix_entry_of : Data → PrefixEntry
prefix_entry_of d = record {
  prefix = prefix_or_any d;
  path = small_or (codes "path") default_path d;
  source = small_or (codes "source") default_source d;
  distance = small_or (codes "distance") default_distance d;
}

-- what a line says, command by command
unfoldable pub statement_of : Word → Data → Statement
statement_of word.Lab d = says.Lab (kind_at (codes "kind") d) (number_at (codes "ttl") d)
statement_of word.Node d = says.Node (record { name = text_at (codes "name") d; faults = numbers_at (codes "faults") d })
statement_of word.Link d = says.Link (link_of d)
statement_of word.Turn d = says.Turn (record { lane = small_or (codes "lane") 0 d; at = number_or (codes "at") 0 d })
statement_of word.Settle d = says.Command (Settle (number_or (codes "rounds") default_rounds d) (show_at (codes "show") d))
statement_of word.Tick d = says.Command (Tick (number_or (codes "to") 0 d))
statement_of word.Set d = says.Command (Set (node_named d) (pair_of d))
statement_of word.Own d = says.Command (Own (node_named d) (key_at d) (value_at d) (number_at (codes "ttl") d))
statement_of word.Disown d = says.Command (Disown (node_named d) (key_at d))
statement_of word.Sync d = says.Command (Sync (node_named d) (link_at d))
statement_of word.Restart d = says.Command (Restart (node_named d))
statement_of word.Up d = says.Command (Up (link_at d))
statement_of word.Down d = says.Command (Down (link_at d))
statement_of word.Script d = says.Command (Script (link_at d) (text_at (codes "from") d) (acts_at (codes "acts") d))
statement_of word.Get d = says.Command (Get (node_named d) (key_at d))
statement_of word.Drain d = says.Command (Drain (node_named d) (flag_at (codes "on") d))
statement_of word.LinkDrain d = says.Command (LinkDrain (node_named d) (link_at d) (flag_at (codes "on") d))
statement_of word.Metric d = says.Command (Metric (node_named d) (link_at d) (small_or (codes "metric") 0 d))
statement_of word.Advertise d = says.Command (Advertise (node_named d) (prefix_entry_of d))
statement_of word.Withdraw d = says.Command (Withdraw (node_named d) (prefix_or_any d))
statement_of word.Aggregate d = says.Command (Aggregate (node_named d) (prefix_or_any d) (small_or (codes "min") 0 d))
statement_of word.Ask d = says.Command (Ask (node_named d) (prefix_or_any d))
