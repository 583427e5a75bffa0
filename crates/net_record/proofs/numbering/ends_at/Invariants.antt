use Rattle.std.proofs.Common.{◌≡◌, ◌<◌, ◌++◌, drop}
use Rattle.std.specs.Prelude.{All}
use Rattle.std.specs.List.{flat_map, enumerate_from}
use Rattle.or_actor.specs.declared.link_end.LinkEnd.{LinkEnd}
use Rattle.or_actor.specs.Fits.{link_number_end}
use Rattle.net_record.specs.Roles.{end_at, ends_at}
use Rattle.net_record.proofs.numbering.ends_at.Given as goal

-- the ends so far and those of the links that are left
abbrev pub invariant-loop-number : goal.invariant-loop-number
invariant-loop-number l = record {
  ends : l.ends.items ++ flat_map (end_at l.name) (enumerate_from l.number (drop l.number l.links)) ≡ ends_at l.links l.name;
  small : All (λ (end : LinkEnd). end.link < link_number_end) l.ends.items;
}
