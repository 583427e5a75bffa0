use Rattle.std.proofs.Common.{◌≡◌, ◌++◌, drop}
use Rattle.kv_flood.proofs.message.passed_with.Given as goal

-- the names so far and those that are left are all that the flood has passed
abbrev pub invariant-loop-name : goal.invariant-loop-name
invariant-loop-name l = l.names.items ++ drop l.name-index l.passed ≡ l.passed
