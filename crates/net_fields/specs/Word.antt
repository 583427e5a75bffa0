-- The commands of the scenario language, by their names.
use Rattle.std.specs.Prelude.{ℕ, List, codes, Bool, true, false, Option, Some, None, if◌then◌else◌}
use Rattle.std.specs.Str.{bytes_eq}
use Rattle.net_fields.specs.declared.word.Word.{Word}
use Rattle.net_fields.specs.declared.word.Word.TheVariants.{Lab, Node, Link, Settle, Tick, Set, Own, Disown, Sync, Restart, Up, Down, Script, Get, Drain, LinkDrain, Metric, Advertise, Withdraw, Aggregate, Ask, Turn}

-- the command of this name
unfoldable pub word_of : List ℕ → Option Word
word_of name =
    if bytes_eq name (codes "lab") then Some Lab
    else if bytes_eq name (codes "node") then Some Node
    else if bytes_eq name (codes "link") then Some Link
    else if bytes_eq name (codes "settle") then Some Settle
    else if bytes_eq name (codes "tick") then Some Tick
    else if bytes_eq name (codes "set") then Some Set
    else if bytes_eq name (codes "own") then Some Own
    else if bytes_eq name (codes "disown") then Some Disown
    else if bytes_eq name (codes "sync") then Some Sync
    else if bytes_eq name (codes "restart") then Some Restart
    else if bytes_eq name (codes "up") then Some Up
    else if bytes_eq name (codes "down") then Some Down
    else if bytes_eq name (codes "script") then Some Script
    else if bytes_eq name (codes "get") then Some Get
    else if bytes_eq name (codes "drain") then Some Drain
    else if bytes_eq name (codes "linkdrain") then Some LinkDrain
    else if bytes_eq name (codes "metric") then Some Metric
    else if bytes_eq name (codes "advertise") then Some Advertise
    else if bytes_eq name (codes "withdraw") then Some Withdraw
    else if bytes_eq name (codes "aggregate") then Some Aggregate
    else if bytes_eq name (codes "ask") then Some Ask
    else if bytes_eq name (codes "turn") then Some Turn
    else None

-- the command belongs to full laboratories
abbrev pub is_for_full : Word → Bool
is_for_full Lab = false
is_for_full Node = false
is_for_full Link = false
is_for_full Settle = false
is_for_full Tick = false
is_for_full Set = false
is_for_full Own = false
is_for_full Disown = false
is_for_full Sync = false
is_for_full Restart = false
is_for_full Up = false
is_for_full Down = false
is_for_full Script = false
is_for_full Get = false
is_for_full Drain = true
is_for_full LinkDrain = true
is_for_full Metric = true
is_for_full Advertise = true
is_for_full Withdraw = true
is_for_full Aggregate = true
is_for_full Ask = true
is_for_full Turn = false
