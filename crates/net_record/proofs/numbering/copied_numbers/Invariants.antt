use Rattle.std.proofs.Common.{◌≡◌, ◌++◌, drop}
use Rattle.net_record.proofs.numbering.copied_numbers.Given as goal

-- the numbers so far, and those that are left
abbrev pub invariant-loop-number : goal.invariant-loop-number
invariant-loop-number l = l.copies.items ++ drop l.number-index l.numbers ≡ l.numbers
