use Rattle.std.proofs.Common.{◌≡◌, ◌-◌, ◌≤◌, length, take}
use Rattle.openr_lab.specs.Streams.{WroteWhole}
use Rattle.openr_lab.proofs.streams.write_all.Given as goal

-- no write failed so far, and a front of the text was taken
abbrev pub invariant-loop-written : goal.invariant-loop-written
invariant-loop-written g l = record {
  faults : g.K.Sink.faults l.sink ≡ g.K.Sink.faults l.fn.sink;
  within : l.written ≤ length l.text;
  front : WroteWhole (g.K.Sink.taken l.fn.sink) (g.K.Sink.taken l.sink) (take l.written l.text);
}

abbrev pub decreases-loop-written : goal.decreases-loop-written
decreases-loop-written g l = length l.text - l.written
