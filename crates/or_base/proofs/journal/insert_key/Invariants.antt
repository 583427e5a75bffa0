use Rattle.std.proofs.Common.{◌≡◌, ◌++◌, take, drop}
use Rattle.std.specs.BTreeSet.{insert_key}
use Rattle.or_base.specs.Order.{bytes_cmp}
use Rattle.or_base.proofs.journal.insert_key.Given as goal

-- the key's place isn't among the keys that were passed
abbrev pub invariant-loop-place : goal.invariant-loop-place
invariant-loop-place l = take l.place l.keys.items ++ insert_key bytes_cmp (drop l.place l.keys.items) l.key ≡ insert_key bytes_cmp l.fn.keys.items l.key
