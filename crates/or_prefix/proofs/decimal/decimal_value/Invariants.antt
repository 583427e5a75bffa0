use Rattle.std.proofs.Common.{◌≡◌, ◌<◌, ◌^◌, take}
use Rattle.or_prefix.specs.Reading.{decimal_value}
use Rattle.or_prefix.proofs.decimal.decimal_value.Given as goal

-- the value of the digits so far
abbrev pub invariant-loop-digit : goal.invariant-loop-digit
invariant-loop-digit l = record { value : l.value ≡ decimal_value (take l.digit-index l.digits); bound : l.value < 10 ^ l.digit-index }
