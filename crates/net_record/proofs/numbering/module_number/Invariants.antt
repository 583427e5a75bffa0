use Rattle.std.proofs.Common.{◌≡◌, ◌+◌, drop}
use Rattle.net_record.specs.Roles.{first_place, is_module}
use Rattle.net_record.proofs.numbering.module_number.Given as goal

-- the first is among those that are left
abbrev pub invariant-loop-number : goal.invariant-loop-number
invariant-loop-number l = l.number + first_place (is_module l.module_ l.name) (drop l.number l.all) ≡ first_place (is_module l.module_ l.name) l.all
