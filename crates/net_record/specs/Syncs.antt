-- The full syncs that settles tell of as finished.
use Rattle.std.specs.Prelude.{ℕ, List, slice_index_or}
use Rattle.std.specs.List.{flat_map}
use Rattle.or_base.specs.declared.session.SyncDone.{SyncDone}
use Rattle.net_record.specs.declared.record.SettleDone.{SettleDone}
use Rattle.net_record.specs.Marks.{no_mark}

-- the full syncs that settles tell of the node in this place
abbrev pub syncs_told : ℕ → List SettleDone → List SyncDone
syncs_told place settles = flat_map (λ settle. (slice_index_or settle.nodes place no_mark).syncs) settles
