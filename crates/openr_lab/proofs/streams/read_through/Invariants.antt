use Rattle.std.proofs.Common.{◌≡◌, ◌-◌, ◌<◌, ◌≤◌, length, vec_len}
use Rattle.openr_lab.specs.Streams.{read_limit}
use Rattle.openr_lab.proofs.Steps.{ReadSoFar}
use Rattle.openr_lab.proofs.streams.read_through.Given as goal

-- no read failed so far, and the bytes so far are from the front of what was left
abbrev pub invariant-loop-bytes : goal.invariant-loop-bytes
invariant-loop-bytes g l = record {
  faults : g.S.Source.faults l.source ≡ g.S.Source.faults l.fn.source;
  within : vec_len l.bytes ≤ read_limit;
  room : 0 < length l.buffer;
  so_far : ReadSoFar (g.S.Source.left l.fn.source) (g.S.Source.left l.source) l.bytes.items;
}

abbrev pub decreases-loop-bytes : goal.decreases-loop-bytes
decreases-loop-bytes g l = read_limit - vec_len l.bytes
