-- What a settle tells of the node in a place.
use Rattle.std.specs.Prelude.{ℕ, List, [], slice_index_or, false}
use Rattle.net_record.specs.declared.record.NodeMark.{NodeMark}

-- the mark of a node of which a settle tells nothing
abbrev pub no_mark : NodeMark
no_mark = record { entries = 0; stale = 0; syncs = []; routes = []; fib_dirty = false; fib_routes = 0 }

-- how many entries marks tell of for the node in this place
abbrev pub entries_told : List NodeMark → ℕ → ℕ
entries_told marks place = (slice_index_or marks place no_mark).entries
