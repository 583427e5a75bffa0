-- The fields of each command, with what each takes.
use Rattle.std.specs.Prelude.{ℕ, List, [], ◌∷◌, codes, Bool, true, false}
use Rattle.or_base.specs.Limits.{most_node_name_bytes, most_interface_name_bytes, most_version, most_ttl_version, most_lifetime, most_metric, most_preference}
use Rattle.net_laboratory.specs.Limits.{most_failing_calls, last_failing_call, most_rounds, most_moment, most_aggregated_routes, most_lane, most_length}
use Rattle.net_fields.specs.declared.word.Word.{Word}
use Rattle.net_fields.specs.declared.word.Word.TheVariants.{Lab, Node, Link, Settle, Tick, Set, Own, Disown, Sync, Restart, Up, Down, Script, Get, Drain, LinkDrain, Metric, Advertise, Withdraw, Aggregate, Ask, Turn}
use Rattle.net_fields.specs.declared.form.Form.{Form}
use Rattle.net_fields.specs.declared.form.Form.TheVariants as form
use Rattle.net_fields.specs.declared.field.Field.{Field}

-- a field of a command: its name, whether it must be there, and what it takes
pub record Entry : Type 0 where
  pub name : List ℕ
  pub is_needed : Bool
  pub form : Form

abbrev pub field_entry : Field → Entry
field_entry f = record { name = f.name.now; is_needed = f.is_needed; form = f.form }

abbrev pub needed_field : List ℕ → Form → Entry
needed_field name f = record { name = name; is_needed = true; form = f }

abbrev pub optional_field : List ℕ → Form → Entry
optional_field name f = record { name = name; is_needed = false; form = f }

-- ---- the ranges of numbers

abbrev pub metric : Form
metric = form.Number 1 most_metric

-- what selection compares
abbrev pub preference : Form
preference = form.Number 0 most_preference

-- milliseconds
abbrev pub lifetime : Form
lifetime = form.Number 1 most_lifetime

-- ---- the fields of each command beside `do`

abbrev pub own_fields : Word → List Entry
own_fields Lab = needed_field (codes "kind") form.Kind ∷ optional_field (codes "ttl") lifetime ∷ []
own_fields Node = needed_field (codes "name") (form.Name most_node_name_bytes) ∷ optional_field (codes "faults") (form.Numbers most_failing_calls 1 last_failing_call) ∷ []
own_fields Link =
    needed_field (codes "a") form.Node ∷ needed_field (codes "b") form.Node ∷ optional_field (codes "aif") (form.Name most_interface_name_bytes) ∷ optional_field (codes "bif") (form.Name most_interface_name_bytes)
    ∷ optional_field (codes "am") metric ∷ optional_field (codes "bm") metric ∷ []
own_fields Settle = optional_field (codes "rounds") (form.Number 1 most_rounds) ∷ optional_field (codes "show") form.Show ∷ []
own_fields Tick = needed_field (codes "to") (form.Number 0 most_moment) ∷ []
own_fields Set =
    needed_field (codes "node") form.Node ∷ needed_field (codes "key") form.Key ∷ needed_field (codes "version") (form.Number 1 most_version)
    ∷ optional_field (codes "hex") form.Hex ∷ optional_field (codes "text") form.Text ∷ optional_field (codes "originator") (form.Name most_node_name_bytes)
    ∷ optional_field (codes "ttl") lifetime ∷ optional_field (codes "ttlv") (form.Number 0 most_ttl_version) ∷ []
own_fields Own =
    needed_field (codes "node") form.Node ∷ needed_field (codes "key") form.Key ∷ optional_field (codes "hex") form.Hex ∷ optional_field (codes "text") form.Text
    ∷ optional_field (codes "ttl") lifetime ∷ []
own_fields Disown = needed_field (codes "node") form.Node ∷ needed_field (codes "key") form.Key ∷ []
own_fields Sync = needed_field (codes "node") form.Node ∷ needed_field (codes "link") form.Link ∷ []
own_fields Restart = needed_field (codes "node") form.Node ∷ []
own_fields Up = needed_field (codes "link") form.Link ∷ []
own_fields Down = needed_field (codes "link") form.Link ∷ []
own_fields Script = needed_field (codes "link") form.Link ∷ needed_field (codes "from") form.Node ∷ needed_field (codes "acts") form.Acts ∷ []
own_fields Get = needed_field (codes "node") form.Node ∷ needed_field (codes "key") form.Key ∷ []
own_fields Drain = needed_field (codes "node") form.Node ∷ needed_field (codes "on") form.Flag ∷ []
own_fields LinkDrain = needed_field (codes "node") form.Node ∷ needed_field (codes "link") form.Link ∷ needed_field (codes "on") form.Flag ∷ []
own_fields Metric = needed_field (codes "node") form.Node ∷ needed_field (codes "link") form.Link ∷ needed_field (codes "metric") metric ∷ []
own_fields Advertise =
    needed_field (codes "node") form.Node ∷ needed_field (codes "prefix") form.Prefix ∷ optional_field (codes "path") preference
    ∷ optional_field (codes "source") preference ∷ optional_field (codes "distance") preference ∷ []
own_fields Withdraw = needed_field (codes "node") form.Node ∷ needed_field (codes "prefix") form.Prefix ∷ []
own_fields Aggregate = needed_field (codes "node") form.Node ∷ needed_field (codes "prefix") form.Prefix ∷ needed_field (codes "min") (form.Number 1 most_aggregated_routes) ∷ []
own_fields Ask = needed_field (codes "node") form.Node ∷ needed_field (codes "prefix") form.Prefix ∷ []
own_fields Turn = needed_field (codes "lane") (form.Number 0 most_lane) ∷ needed_field (codes "at") (form.Number 0 most_length) ∷ []

-- the fields of each command
unfoldable pub fields_of : Word → List Entry
fields_of word = needed_field (codes "do") form.Text ∷ own_fields word
