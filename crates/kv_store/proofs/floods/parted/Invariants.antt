use Rattle.std.proofs.Common.{◌≡◌, ◌++◌}
use Rattle.kv_store.specs.Origins.{begun_keys, other_keys}
use Rattle.kv_store.proofs.floods.parted.Given as goal

-- what is parted and what is left of the map are all its keys
pub record Parted (l : goal.Live-loop-key) : Type 0 where
  pub own : l.own.items ++ begun_keys l.key-iterator ≡ begun_keys l.fn.origins.entries
  pub relayed : l.relayed.items ++ other_keys l.key-iterator ≡ other_keys l.fn.origins.entries

abbrev pub invariant-loop-key : goal.invariant-loop-key
invariant-loop-key l = Parted l
