-- The floods of a turn, as the code holds what they are made of.
use Rattle.std.specs.Prelude.{ℕ, List}
use Rattle.or_actor.specs.declared.output.Output.{Output}
use Rattle.kv_store.specs.declared.floods.Floods.{Floods}
use Rattle.kv_store.specs.Store.{floods_to}

-- the floods to a peer
abbrev pub flooded_to : Floods → ℕ × List ℕ → List Output
flooded_to f peer = floods_to f.me.now f.passed.now f.relayed f.own peer
