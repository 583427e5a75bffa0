use Rattle.std.proofs.Common.{◌≡◌, take, drop}
use Rattle.or_prefix.specs.Reading.{around_double}
use Rattle.or_prefix.proofs.Doubles.{in_front}
use Rattle.or_prefix.proofs.pieces.cut_double.Given as goal

-- what is left gives what all of it gives
abbrev pub invariant-loop-place : goal.invariant-loop-place
invariant-loop-place l = in_front (take l.place l.text) (around_double (drop l.place l.text)) ≡ around_double l.text
