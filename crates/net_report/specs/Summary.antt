-- What a run of a grid came to, as one line.
use Rattle.std.specs.Prelude.{ℕ, ◌+◌, ◌-◌, List, [], ◌∷◌, ◌++◌, Option, codes, length, take, slice_get}
use Rattle.std.specs.Fmt.{decimal}
use Rattle.std.specs.List.{sum_by}
use Rattle.std.specs.Option.{option_map_or}
use Rattle.or_base.specs.declared.entry.JournalEntry.{JournalEntry}
use Rattle.or_base.specs.Journal.{held_keys}
use Rattle.net_laboratory.specs.Scenario.{Laboratory}
use Rattle.net_record.specs.declared.record.NodeMark.{NodeMark}
use Rattle.net_record.specs.declared.record.SettleDone.{SettleDone}
use Rattle.net_record.specs.declared.record.Record.{Record}
use Rattle.net_report.specs.Report.{line}

-- the last settle, if one was done
abbrev pub last_settle : List SettleDone → Option SettleDone
last_settle settles = slice_get settles (length settles - 1)

-- the nodes at the last settle
abbrev pub last_marks : List SettleDone → List NodeMark
last_marks settles = option_map_or (λ settle. settle.nodes) (last_settle settles) []

-- how many keys a store holds at a settle: the first entries of its journal hold them, as many as it had then
abbrev pub keys_of_store : List JournalEntry → NodeMark → ℕ
keys_of_store journal mark = length (held_keys (take mark.entries journal))

-- how many keys the stores hold, each counted for itself
abbrev pub keys_of_stores : List (List JournalEntry) → List NodeMark → ℕ
keys_of_stores [] marks = 0
keys_of_stores (journal ∷ journals) [] = 0
keys_of_stores (journal ∷ journals) (mark ∷ marks) = keys_of_store journal mark + keys_of_stores journals marks

-- how many routes the nodes have
abbrev pub routes_of_nodes : List NodeMark → ℕ
routes_of_nodes marks = sum_by (λ mark. length mark.routes) marks

-- `grid <n> nodes <nodes> links <links>`
unfoldable pub declared_text : Laboratory → ℕ → List ℕ
declared_text lab size = codes "grid " ++ decimal size ++ codes " nodes " ++ decimal (length lab.nodes) ++ codes " links " ++ decimal (length lab.links)

-- ` keys <held keys> routes <routes>`
unfoldable pub held_text : Record → List ℕ
held_text done =
    let marks = last_marks done.settles in
    codes " keys " ++ decimal (keys_of_stores done.journals marks) ++ codes " routes " ++ decimal (routes_of_nodes marks)

-- the line of a run of a grid of this size, of which each settle holds the routes
unfoldable pub summary : Record → Laboratory → ℕ → List ℕ
summary done lab size = line (declared_text lab size ++ held_text done)
