use Rattle.std.proofs.Common.{◌≡◌, ℕ, ◌<◌, ◌^◌, take, get_or}
use Rattle.net_record.specs.Actors.{entry_counts}
use Rattle.net_world.proofs.clocks.entry_counts.Given as goal

-- the counts so far
abbrev pub invariant-loop-actor : goal.invariant-loop-actor
invariant-loop-actor l = record {
  counts : l.counts.items ≡ entry_counts (take l.actor-index l.actors);
  small : (n : ℕ) → get_or l.counts.items n 0 < 2 ^ 63;
}
