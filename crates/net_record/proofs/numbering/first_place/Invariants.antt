use Rattle.std.proofs.Common.{◌≡◌, ◌+◌, drop}
use Rattle.net_record.specs.Roles.{first_place, is_same_module}
use Rattle.net_record.proofs.numbering.first_place.Given as goal

-- the first is among those that are left
abbrev pub invariant-loop-place : goal.invariant-loop-place
invariant-loop-place l = l.place + first_place (is_same_module l.searched) (drop l.place l.modules) ≡ first_place (is_same_module l.searched) l.modules
