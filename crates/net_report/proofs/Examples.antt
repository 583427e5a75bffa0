-- The definitions on small cases, as the report's format states them.
use Rattle.std.proofs.Common.{◌≡◌, ℕ, ◌+◌, ◌*◌, ◌^◌, List, [], ◌∷◌, ◌++◌, true, false, Some, None, refl}
use Rattle.std.specs.Prelude.{codes}
use Rattle.std.specs.Fmt.{digits}
use Rattle.or_base.specs.declared.asked.Asked.TheVariants as asked
use Rattle.or_base.specs.declared.asked.Told.TheVariants as told
use Rattle.or_base.specs.declared.entry.JournalEntry.{JournalEntry}
use Rattle.or_base.specs.declared.entry.JournalEntry.TheVariants.{Merged}
use Rattle.or_base.specs.declared.item.Item.TheVariants.{Restart}
use Rattle.or_base.specs.TurnDone.{TurnDone}
use Rattle.or_base.specs.declared.kind.Kind.{Kind}
use Rattle.or_base.specs.declared.kind.Kind.TheVariants as kind
use Rattle.or_base.specs.declared.origin.Origin.TheVariants.{Local}
use Rattle.or_base.specs.declared.route.Route.{Route}
use Rattle.or_base.specs.declared.value.KvValue.{KvValue}
use Rattle.hex.specs.Hex.{encode_with}
use Rattle.or_prefix.specs.Printing.{v4_text, prefix_text}
use Rattle.net_laboratory.specs.declared.show.Show.{Show}
use Rattle.net_laboratory.specs.declared.show.Show.TheVariants as show
use Rattle.net_laboratory.specs.declared.command.Command.TheVariants.{Settle, Tick}
use Rattle.net_laboratory.specs.Scenario.{Laboratory}
use Rattle.net_record.specs.declared.record.NodeMark.{NodeMark}
use Rattle.net_record.specs.declared.record.Record.{Record}
use Rattle.net_record.specs.declared.record.SettleDone.{SettleDone}
use Rattle.net_report.specs.Report.{settle_line, store_line, hex_text, left_text, key_line, sync_line, store_text, route_line, routes_line, fib_line, node_routes_text, answer_line, shown_text, turn_line, settle_text, report, phase_text, value_text}
use Rattle.net_report.specs.Summary.{declared_text, held_text, summary}

-- no bytes
pub hex_text-none : hex_text [] ≡ codes "-"
hex_text-none = refl

-- a value that lives for ever
pub left_text-for_ever : left_text None 5 9 ≡ codes "-"
left_text-for_ever = refl

-- of 10 ms from moment 5, 6 are left at moment 9
pub left_text-some : left_text (Some 10) 5 9 ≡ codes "6"
unfolding digits
left_text-some = refl

-- ---- a node with a route and a finished full sync, of which three questions were asked

abbrev route : Route
route = record {
  prefix = record { v6 = false; bits = 10 * 2 ^ 24 + 4 * 2 ^ 16; len = 16; sound = refl };
  cost = 2;
  hops = codes "if-b" ∷ codes "if-c" ∷ [];
}

abbrev value : KvValue
value = record { version = 1; originator = codes "a"; value = 1 ∷ []; ttl = None; ttl_version = 0 }

abbrev journal : List JournalEntry
journal = Merged (record { key = codes "x"; value = value }) 0 Local ∷ []

abbrev mark : NodeMark
mark = record {
  entries = 1;
  stale = 0;
  syncs = record { link = 0; peer = codes "b"; session = 2; a0 = 1; b0 = 0; withheld = 0 } ∷ [];
  routes = route ∷ [];
  fib_dirty = false;
  fib_routes = 1;
}

abbrev settle : SettleDone
settle = record {
  turns = 0;
  moment = 0;
  nodes = mark ∷ [];
  answers =
      record { node = codes "a"; asked = asked.Prefix route.prefix; told = told.Route route }
      ∷ record { node = codes "a"; asked = asked.Key (codes "x"); told = told.Value value }
      ∷ record { node = codes "a"; asked = asked.Key (codes "y"); told = told.Nothing } ∷ [];
}

abbrev done : Record
done = record { turns = []; journals = journal ∷ []; settles = settle ∷ []; marks = 0 ∷ [] }

abbrev laboratory : Kind → Show → Laboratory
laboratory k s = record {
  kind = k;
  ttl = None;
  nodes = record { name = codes "a"; faults = [] } ∷ [];
  links = [];
  commands = Settle 100 s ∷ [];
  turns = None;
}

abbrev answers : List ℕ
answers = codes "settle 1 moment 0\nask a 10.4.0.0/16 route 2 if-b,if-c\nget a x value 1 a 01 0\nget a y none\n"

abbrev store : List ℕ
store = codes "store a entries 1 stale 0\nkey x 1 a 01 0 -\nsync 0 2 1 0 0\n"

abbrev routes : List ℕ
routes = codes "routes a\nroute 10.4.0.0/16 2 if-b,if-c\nfib clean 1\n"

-- all that a settle can show
pub report-both : report done (laboratory kind.Full show.Both) false ≡ answers ++ store ++ routes ++ codes "end\n"
unfolding report phase_text settle_text settle_line store_text store_line key_line sync_line routes_line route_line fib_line node_routes_text answer_line shown_text prefix_text v4_text encode_with digits value_text
report-both = refl

-- stores have no routes to show
pub report-stores : report done (laboratory kind.Stores show.Both) false ≡ answers ++ store ++ codes "end\n"
unfolding report phase_text settle_text settle_line store_text store_line key_line sync_line answer_line shown_text prefix_text v4_text encode_with digits value_text
report-stores = refl

-- routes alone
pub report-routes : report done (laboratory kind.Full show.Routes) false ≡ answers ++ routes ++ codes "end\n"
unfolding report phase_text settle_text settle_line routes_line route_line fib_line node_routes_text answer_line shown_text prefix_text v4_text encode_with digits value_text
report-routes = refl

-- a key and a route, of a laboratory that isn't a grid
pub summary-one_node : summary done (laboratory kind.Full show.Nothing) 2 ≡ codes "grid 2 nodes 1 links 0 keys 1 routes 1\n"
unfolding summary declared_text held_text digits
summary-one_node = refl

-- the agent lacks some of 12 routes
pub fib_line-dirty : fib_line (record { entries = 0; stale = 0; syncs = []; routes = []; fib_dirty = true; fib_routes = 12 }) ≡ codes "fib dirty 12\n"
unfolding fib_line digits
fib_line-dirty = refl

-- a desk that found fewer entries than it had seen
pub answer_line-behind : answer_line (record { node = codes "b"; asked = asked.Key (codes "x"); told = told.Behind 3 }) ≡ codes "get b x behind 3\n"
unfolding answer_line digits value_text
answer_line-behind = refl

-- ---- two phases with a turn each, and nothing shown

abbrev turn : ℕ → ℕ → TurnDone
turn lane at = record { lane = lane; at = at; stamp = 9; item = Restart }

abbrev phases : Record
phases = record {
  turns = turn 0 0 ∷ turn 2 1 ∷ [];
  journals = [] ∷ [];
  settles =
      record { turns = 1; moment = 0; nodes = []; answers = [] }
      ∷ record { turns = 2; moment = 30; nodes = []; answers = [] } ∷ [];
  marks = 1 ∷ 2 ∷ [];
}

abbrev two_phases : Laboratory
two_phases = record {
  kind = kind.Stores;
  ttl = None;
  nodes = record { name = codes "a"; faults = [] } ∷ [];
  links = [];
  commands = Settle 100 show.Nothing ∷ Tick 30 ∷ Settle 100 show.Nothing ∷ [];
  turns = None;
}

-- the turns of a phase stand before its settle
pub report-trace : report phases two_phases true
    ≡ codes "{\"do\":\"turn\",\"lane\":0,\"at\":0}\nsettle 1 moment 0\n{\"do\":\"turn\",\"lane\":2,\"at\":1}\nsettle 2 moment 30\nend\n"
unfolding report phase_text settle_text settle_line shown_text turn_line digits
report-trace = refl

pub report-no_trace : report phases two_phases false ≡ codes "settle 1 moment 0\nsettle 2 moment 30\nend\n"
unfolding report phase_text settle_text settle_line shown_text digits
report-no_trace = refl
