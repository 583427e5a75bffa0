use Rattle.std.proofs.Common.{◌≡◌, ◌+◌, ◌++◌, drop, map, vec_len}
use Rattle.std.specs.Prelude.{All}
use Rattle.std.specs.List.{enumerate_from}
use Rattle.net_record.specs.Roles.{link_role}
use Rattle.net_record.specs.Small.{HasSmallNumber}
use Rattle.net_record.proofs.numbering.add_links.Given as goal

-- the links so far and those that are left
abbrev pub invariant-loop-number : goal.invariant-loop-number
invariant-loop-number l = record {
  added : l.all.items ++ map link_role (enumerate_from l.number (drop l.number l.links)) ≡ l.fn.all.items ++ map link_role (enumerate_from 0 l.links);
  len : vec_len l.all ≡ vec_len l.fn.all + l.number;
  small : All HasSmallNumber l.fn.all.items → All HasSmallNumber l.all.items;
}
