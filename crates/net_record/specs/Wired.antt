use Rattle.std.specs.Prelude.{◌≡◌, ℕ, ◌<◌, length, All}
use Rattle.net_record.specs.declared.wire.Wire.{Wire}
use Rattle.net_record.specs.World.{WorldState}

-- the writer and the reader of the lane are among the first n actors
pub record JoinsBelow (n : ℕ) (wire : Wire) : Type 0 where
  pub writer : wire.writer < n
  pub reader : wire.reader < n

-- each lane has its items, and its ends are actors
pub record IsWired (w : WorldState) : Type 0 where
  pub as_many : length w.lanes ≡ length w.wires
  pub ends : All (JoinsBelow (length w.actors)) w.wires
