-- The draft of a scenario as what its lines say, and its counts as what those amount to.
use Rattle.std.specs.Prelude.{◌≡◌, ℕ, List, map, true}
use Rattle.net_scenario.specs.declared.draft.Draft.{Draft}
use Rattle.net_laboratory.specs.declared.declared.NodeDecl.{NodeDecl}
use Rattle.net_scenario.specs.declared.line.LineRead.{LineRead}
use Rattle.net_scenario.specs.Faults.{Line}
use Rattle.net_laboratory.specs.Amounts.{keys_in, owners_in, offers_in, settles_in, ends_in_settle, last_tick}
use Rattle.net_scenario.specs.Seen.{Seen, kind_in, is_sound_so_far}

abbrev pub seen_in : Draft → Seen
seen_in d = record { kind = d.kind; ttl = d.ttl; nodes = d.nodes.items; links = d.links.items; commands = d.commands.items; turns = d.turns.items }

-- a line as it is read
abbrev pub line_at : LineRead → Line
line_at line = record { text = line.text.now; number = line.number; end = line.end }

abbrev pub names_of : List NodeDecl → List (List ℕ)
names_of nodes = map (λ node. node.name) nodes

pub record IsTallied (d : Draft) : Type 0 where
  pub names : d.names ≡ names_of d.nodes.items
  pub keys : d.tally.keys ≡ keys_in (kind_in (seen_in d)) d.nodes.items d.commands.items
  pub owners : d.tally.owners.items ≡ owners_in d.commands.items
  pub offers : d.tally.offers.items ≡ offers_in d.commands.items
  pub settles : d.tally.settles ≡ settles_in d.commands.items
  pub is_settled : d.tally.is_settled ≡ ends_in_settle d.commands.items
  pub moment : d.tally.moment ≡ last_tick d.commands.items
  pub sound : is_sound_so_far (seen_in d) ≡ true
