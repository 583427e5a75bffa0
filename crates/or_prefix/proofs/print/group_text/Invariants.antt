use Rattle.std.proofs.Common.{◌≡◌, ◌++◌, drop, string_bytes}
use Rattle.or_prefix.specs.Printing.{group_text}
use Rattle.or_prefix.proofs.Runs.{text_behind}
use Rattle.or_prefix.proofs.print.group_text.Given as goal

-- what is left gives what all of it gives
abbrev pub invariant-loop-group : goal.invariant-loop-group
invariant-loop-group l = string_bytes l.out ++ text_behind (drop l.group-index l.others) ≡ string_bytes l.fn.out ++ group_text l.groups
