-- Changes of arcs that touch no least walk, and so leave a table as it is.
use Rattle.std.specs.Prelude.{◌≡◌, ℕ, ◌+◌, List, Option, Some, None, option_map, Bool, true, false, ◌&&◌, nat_lt}
use Rattle.std.specs.List.{list_all}
use Rattle.ls_graph.specs.declared.arc.Arc.{Arc}
use Rattle.ls_graph.specs.declared.change.LinkChange.{LinkChange}
use Rattle.ls_graph.specs.Changes.{AreChanges}
use Rattle.ls_spf.specs.declared.table.PathRow.{PathRow}
use Rattle.ls_spf.specs.Table.{AreArcs, IsRight, row_of}

-- the cost of a node, among rows by name; none without a row
abbrev pub cost_of : List (List ℕ × PathRow) → List ℕ → Option ℕ
cost_of rows node = option_map (λ r. r.cost) (row_of rows node)

-- an arc of this metric from a node of the one cost to a node of the other is the last of no least walk: no walk reaches its
-- start, or other walks reach its end for less
abbrev pub is_slack_between : Option ℕ → ℕ → Option ℕ → Bool
is_slack_between None metric end = true
is_slack_between (Some start) metric None = false
is_slack_between (Some start) metric (Some end) = nat_lt end (start + metric)

-- the arc would be the last of no least walk if it had this metric, or isn't there
abbrev pub is_slack_at : List (List ℕ × PathRow) → Arc → Option ℕ → Bool
is_slack_at rows a None = true
is_slack_at rows a (Some metric) = is_slack_between (cost_of rows a.from) metric (cost_of rows a.to)

-- the changed arc is the last of no least walk, before or after
abbrev pub is_slack_change : List (List ℕ × PathRow) → LinkChange → Bool
is_slack_change rows c = is_slack_at rows c.arc c.old && is_slack_at rows c.arc c.new

-- a table that is right for some arcs is right for others too where all that changes between them is slack
abbrev pub SlackChangesKeepRight : Type 0
SlackChangesKeepRight =
    (before after : List Arc) (me : List ℕ) (rows : List (List ℕ × PathRow)) (changes : List LinkChange) → AreArcs before → AreArcs after → IsRight before me rows
    → AreChanges before after changes → list_all (is_slack_change rows) changes ≡ true → IsRight after me rows
