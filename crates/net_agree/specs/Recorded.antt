-- When the stores of a record agree at its settles.
use Rattle.std.specs.Prelude.{◌≡◌, ℕ, List, [], ◌∷◌, ◌++◌, map, take, slice_index_or, IsTrue}
use Rattle.std.specs.List.{enumerate_from}
use Rattle.kv_agree.specs.Traced.{new_traced, traced_after}
use Rattle.kv_agree.specs.Joined.{StoreSeen, QuietlyAgree, AgreeAfterOneRound}
use Rattle.net_laboratory.specs.Scenario.{Laboratory}
use Rattle.net_laboratory.specs.Sound.{is_sound}
use Rattle.net_record.specs.declared.record.SettleDone.{SettleDone}
use Rattle.net_record.specs.declared.record.Record.{Record}
use Rattle.net_record.specs.Roles.{roles, modules_of, store_number}
use Rattle.net_record.specs.Wires.{wires}
use Rattle.net_record.specs.Marks.{no_mark}
use Rattle.net_record.specs.Roles.{node_names}
use Rattle.net_record.specs.Syncs.{syncs_told}
use Rattle.net_record.specs.Reached.{IsOfARun}
use Rattle.net_agree.specs.Lifted.{items_taken}

-- The store of the node in this place as a settle tells of it, behind the settles before: the first entries of its journal, as many as the settle
-- tells of, with their makers by the turns until then, and the full syncs that were told as finished.
abbrev pub store_recorded : Laboratory → Record → List SettleDone → SettleDone → ℕ → StoreSeen
store_recorded lab done before settle place =
    let name = slice_index_or (node_names lab) place [] in
    record {
      name = name;
      journal = take (slice_index_or settle.nodes place no_mark).entries (slice_index_or done.journals place []);
      makers =
          (traced_after (new_traced lab.kind name) (items_taken (wires (roles lab)) (store_number (modules_of lab.kind) place) (take settle.turns done.turns))).makers;
      syncs = syncs_told place (before ++ settle ∷ []);
    }

-- the stores of all nodes, in their order
abbrev pub stores_recorded : Laboratory → Record → List SettleDone → SettleDone → List StoreSeen
stores_recorded lab done before settle = map (λ node. store_recorded lab done before settle node.0) (enumerate_from 0 lab.nodes)

-- At every settle of the record the stores of each joined part agree, and so do two after one round.
pub record RecordAgrees (lab : Laboratory) (done : Record) : Type 0 where
  pub quiet : (before later : List SettleDone) (settle : SettleDone) → done.settles ≡ before ++ settle ∷ later → QuietlyAgree (stores_recorded lab done before settle)
  pub one_round : (before later : List SettleDone) (settle : SettleDone) → done.settles ≡ before ++ settle ∷ later → AgreeAfterOneRound (stores_recorded lab done before settle)

-- So it is of every record of every run.
abbrev pub RecordsAgree : Type 0
RecordsAgree = (lab : Laboratory) (done : Record) → IsTrue (is_sound lab) → IsOfARun lab done → RecordAgrees lab done
