use Rattle.std.proofs.Common.{◌≡◌, ◌++◌, ◌<◌, ◌^◌}
use Rattle.std.specs.Prelude.{All}
use Rattle.std.specs.Map.{keys_of}
use Rattle.kv_store.specs.Store.{start_each}
use Rattle.kv_store.proofs.answers.start_each.Given as goal

-- what is started so far and what is left come to the whole; the links that are left have small numbers
abbrev pub invariant-loop-link : goal.invariant-loop-link
invariant-loop-link l = record {
  running : (start_each l.me l.table l.sessions l.link-iterator).0 ≡ (start_each l.me l.table l.fn.sessions l.peers.entries).0;
  sent : l.out ++ (start_each l.me l.table l.sessions l.link-iterator).1 ≡ l.fn.out ++ (start_each l.me l.table l.fn.sessions l.peers.entries).1;
  small : All (λ link. link < 2 ^ 31) (keys_of l.link-iterator);
}
