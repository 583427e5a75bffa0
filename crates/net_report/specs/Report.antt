-- The text of what was done in a laboratory.
use Rattle.std.specs.Prelude.{ℕ, ◌+◌, ◌-◌, List, [], ◌∷◌, ◌++◌, map, Option, Some, None, codes, take, drop, Bool, true, false, if◌then◌else◌}
use Rattle.std.specs.List.{flat_map, filter_map, zip, enumerate_from}
use Rattle.std.specs.Fmt.{decimal}
use Rattle.hex.specs.Hex.{encode_lower}
use Rattle.or_base.specs.declared.asked.Asked.{Asked}
use Rattle.or_base.specs.declared.asked.Asked.TheVariants as asked
use Rattle.or_base.specs.declared.asked.Told.{Told}
use Rattle.or_base.specs.declared.asked.Told.TheVariants as told
use Rattle.or_base.specs.declared.entry.JournalEntry.{JournalEntry}
use Rattle.or_base.specs.TurnDone.{TurnDone}
use Rattle.or_base.specs.declared.kind.Kind.{Kind}
use Rattle.or_base.specs.declared.kind.Kind.TheVariants as kind
use Rattle.or_base.specs.declared.prefix.Prefix.{Prefix}
use Rattle.or_base.specs.declared.route.Route.{Route}
use Rattle.or_base.specs.declared.session.SyncDone.{SyncDone}
use Rattle.or_base.specs.declared.value.KvValue.{KvValue}
use Rattle.or_base.specs.Journal.{holds, held_keys}
use Rattle.or_prefix.specs.Printing.{prefix_text}
use Rattle.net_laboratory.specs.declared.show.Show.{Show}
use Rattle.net_laboratory.specs.declared.show.Show.TheVariants as show
use Rattle.net_laboratory.specs.declared.declared.NodeDecl.{NodeDecl}
use Rattle.net_laboratory.specs.declared.command.Command.{Command}
use Rattle.net_laboratory.specs.declared.command.Command.TheVariants.{Settle}
use Rattle.net_laboratory.specs.Scenario.{Laboratory}
use Rattle.net_record.specs.Phases.{shows_routes}
use Rattle.net_record.specs.declared.record.AnswerDone.{AnswerDone}
use Rattle.net_record.specs.declared.record.NodeMark.{NodeMark}
use Rattle.net_record.specs.declared.record.SettleDone.{SettleDone}
use Rattle.net_record.specs.declared.record.Record.{Record}

-- a line is ended by LF
abbrev pub line : List ℕ → List ℕ
line text = text ++ 10 ∷ []

-- `settle <k> moment <moment>`
unfoldable pub settle_line : ℕ → ℕ → List ℕ
settle_line k moment = line (codes "settle " ++ decimal k ++ codes " moment " ++ decimal moment)

-- `store <node> entries <journal length> stale <count>`
unfoldable pub store_line : List ℕ → NodeMark → List ℕ
store_line node mark =
    line (codes "store " ++ node ++ codes " entries " ++ decimal mark.entries ++ codes " stale " ++ decimal mark.stale)

-- value bytes in lower case hex, `-` where there are none
abbrev pub hex_text : List ℕ → List ℕ
hex_text [] = codes "-"
hex_text (b ∷ bytes) = encode_lower (b ∷ bytes)

-- what is left of a lifetime, in milliseconds, `-` where the value lives for ever
abbrev pub left_text : Option ℕ → ℕ → ℕ → List ℕ
left_text None merged_at moment = codes "-"
left_text (Some ttl) merged_at moment = decimal (merged_at + ttl - moment)

-- `<version> <originator> <hex> <ttl version>`
unfoldable pub value_text : KvValue → List ℕ
value_text v = decimal v.version ++ codes " " ++ v.originator ++ codes " " ++ hex_text v.value ++ codes " " ++ decimal v.ttl_version

-- `key <key> <value> <left>`
unfoldable pub key_line : List ℕ → KvValue → ℕ → ℕ → List ℕ
key_line key v merged_at moment = line (codes "key " ++ key ++ codes " " ++ value_text v ++ codes " " ++ left_text v.ttl merged_at moment)

-- the line of a key, where something is held under it
abbrev pub held_line : List ℕ → Option (KvValue × ℕ) → ℕ → List ℕ
held_line key None moment = []
held_line key (Some held) moment = key_line key held.0 held.1 moment

-- a line for each key that a journal holds, in byte order
abbrev pub held_lines : List JournalEntry → ℕ → List ℕ
held_lines journal moment = flat_map (λ key. held_line key (holds journal key) moment) (held_keys journal)

-- `sync <link> <session> <a0> <b0> <withheld>`
unfoldable pub sync_line : SyncDone → List ℕ
sync_line s =
    line (codes "sync " ++ decimal s.link ++ codes " " ++ decimal s.session ++ codes " " ++ decimal s.a0 ++ codes " " ++ decimal s.b0
    ++ codes " " ++ decimal s.withheld)

-- a node's store at a settle: what the first entries of its journal hold, as many as it had then, and the full syncs that
-- it started and that were finished in the phase
unfoldable pub store_text : List ℕ → List JournalEntry → NodeMark → ℕ → List ℕ
store_text node journal mark moment =
    store_line node mark ++ held_lines (take mark.entries journal) moment ++ flat_map sync_line mark.syncs

-- the stores of the nodes, in order
abbrev pub stores_text : List NodeDecl → List (List JournalEntry) → List NodeMark → ℕ → List ℕ
stores_text [] journals marks moment = []
stores_text (node ∷ nodes) [] marks moment = []
stores_text (node ∷ nodes) (journal ∷ journals) [] moment = []
stores_text (node ∷ nodes) (journal ∷ journals) (mark ∷ marks) moment =
    store_text node.name journal mark moment ++ stores_text nodes journals marks moment

-- ---- routes

-- texts joined by commas
abbrev pub with_commas : List (List ℕ) → List ℕ
with_commas [] = []
with_commas (text ∷ []) = text
with_commas (text ∷ next ∷ texts) = text ++ codes "," ++ with_commas (next ∷ texts)

abbrev pub text_of_prefix : Prefix → List ℕ
text_of_prefix p = prefix_text p.v6 p.bits p.len

-- `<cost> <hops>`
abbrev pub cost_and_hops : Route → List ℕ
cost_and_hops r = decimal r.cost ++ codes " " ++ with_commas r.hops

-- `route <prefix> <cost> <hops>`
unfoldable pub route_line : Route → List ℕ
route_line r = line (codes "route " ++ text_of_prefix r.prefix ++ codes " " ++ cost_and_hops r)

-- `routes <node>`
unfoldable pub routes_line : List ℕ → List ℕ
routes_line node = line (codes "routes " ++ node)

abbrev pub fib_word : Bool → List ℕ
fib_word true = codes "fib dirty "
fib_word false = codes "fib clean "

-- `fib clean <n>` or `fib dirty <n>`: the agent lacks some of the routes or none, and has so many
unfoldable pub fib_line : NodeMark → List ℕ
fib_line mark = line (fib_word mark.fib_dirty ++ decimal mark.fib_routes)

-- a node's routes at a settle
unfoldable pub node_routes_text : List ℕ → NodeMark → List ℕ
node_routes_text node mark = routes_line node ++ flat_map route_line mark.routes ++ fib_line mark

-- the routes of the nodes, in order
abbrev pub routes_text : List NodeDecl → List NodeMark → List ℕ
routes_text [] marks = []
routes_text (node ∷ nodes) [] = []
routes_text (node ∷ nodes) (mark ∷ marks) = node_routes_text node.name mark ++ routes_text nodes marks

-- ---- answers

-- `get <node> <key>` or `ask <node> <prefix>`
abbrev pub question_text : List ℕ → Asked → List ℕ
question_text node (asked.Key key) = codes "get " ++ node ++ codes " " ++ key
question_text node (asked.Prefix prefix) = codes "ask " ++ node ++ codes " " ++ text_of_prefix prefix

-- `value <value>`, `route <cost> <hops>`, `none` or `behind <at>`
abbrev pub told_text : Told → List ℕ
told_text (told.Value v) = codes " value " ++ value_text v
told_text (told.Route r) = codes " route " ++ cost_and_hops r
told_text told.Nothing = codes " none"
told_text (told.Behind at) = codes " behind " ++ decimal at

-- a question with its answer
unfoldable pub answer_line : AnswerDone → List ℕ
answer_line a = line (question_text a.node a.asked ++ told_text a.told)

-- ---- settles

abbrev pub shows_stores : Show → Bool
shows_stores show.Both = true
shows_stores show.Stores = true
shows_stores show.Routes = false
shows_stores show.Nothing = false

-- stores have no routes to show
abbrev pub prints_routes : Kind → Show → Bool
prints_routes kind.Stores s = false
prints_routes kind.Full s = shows_routes s

-- what a settle shows besides its line and the answers
unfoldable pub shown_text : Kind → Show → List NodeDecl → List (List JournalEntry) → SettleDone → List ℕ
shown_text kind s nodes journals settle =
    (if shows_stores s then stores_text nodes journals settle.nodes settle.moment else [])
    ++ (if prints_routes kind s then routes_text nodes settle.nodes else [])

-- `{"do":"turn","lane":<lane>,"at":<at>}`
unfoldable pub turn_line : TurnDone → List ℕ
turn_line t = line (codes "{\"do\":\"turn\",\"lane\":" ++ decimal t.lane ++ codes ",\"at\":" ++ decimal t.at ++ codes "}")

-- turns, where a trace is wanted
abbrev pub trace_text : Bool → List TurnDone → List ℕ
trace_text false turns = []
trace_text true turns = flat_map turn_line turns

-- a settle with its number
unfoldable pub settle_text : ℕ → Kind → Show → List NodeDecl → List (List JournalEntry) → SettleDone → List ℕ
settle_text k kind s nodes journals settle =
    settle_line k settle.moment ++ flat_map answer_line settle.answers ++ shown_text kind s nodes journals settle

-- what a command shows of its settle, if it is one
abbrev pub settle_show : Command → Option Show
settle_show (Settle rounds s) = Some s
settle_show _ = None

-- A settle that was done, with what it shows and how many turns were done before its phase.
pub record Shown : Type 0 where
  pub show : Show
  pub before : ℕ
  pub settle : SettleDone

abbrev pub shown_of : Show × (ℕ × SettleDone) → Shown
shown_of parts = record { show = parts.0; before = parts.1.0; settle = parts.1.1 }

-- Settles that were done, each with what it shows and with the turns done before its phase: so many for the first, and for each later
-- one as many as at the settle before.
abbrev pub shown_after : ℕ → List Show → List SettleDone → List Shown
shown_after before shows settles = map shown_of (zip shows (zip (before ∷ map (λ settle. settle.turns) settles) settles))

-- the turns of the phase of a settle
abbrev pub turns_of_phase : List TurnDone → ℕ → ℕ → List TurnDone
turns_of_phase turns before at_settle = drop before (take at_settle turns)

-- a settle with its number, behind the turns of its phase where a trace is wanted
unfoldable pub phase_text : Record → Laboratory → Bool → ℕ × Shown → List ℕ
phase_text done lab trace numbered =
    let shown = numbered.1 in
    trace_text trace (turns_of_phase done.turns shown.before shown.settle.turns)
    ++ settle_text numbered.0 lab.kind shown.show lab.nodes done.journals shown.settle

-- the settles, numbered from 1, in the order of the commands
abbrev pub settles_text : Record → Laboratory → Bool → List ℕ
settles_text done lab trace = flat_map (phase_text done lab trace) (enumerate_from 1 (shown_after 0 (filter_map settle_show lab.commands) done.settles))

-- the report of what was done in a laboratory, with a trace or without
unfoldable pub report : Record → Laboratory → Bool → List ℕ
report done lab trace = settles_text done lab trace ++ line (codes "end")
