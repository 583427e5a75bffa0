use Rattle.std.proofs.Common.{◌≡◌, ◌+◌, drop}
use Rattle.net_record.specs.Roles.{first_place, is_link_numbered}
use Rattle.net_record.proofs.numbering.link_number.Given as goal

-- the first is among those that are left
abbrev pub invariant-loop-number : goal.invariant-loop-number
invariant-loop-number l = l.number + first_place (is_link_numbered l.link) (drop l.number l.all) ≡ first_place (is_link_numbered l.link) l.all
