-- Sources and sinks in memory: which of their calls fail, and how many bytes a sink takes.
use Rattle.std.specs.Prelude.{ℕ, ◌+◌, ◌==◌, List, Bool}
use Rattle.std.specs.List.{list_any}
use Rattle.or_base.specs.Counting.{saturate}

-- how many bytes a sink in memory takes, 32 MiB
abbrev pub sink_bytes : ℕ
sink_bytes = 33554432

-- the number of the call that follows so many; the count of calls saturates
abbrev pub next_call : ℕ → ℕ
next_call calls = saturate (calls + 1)

-- the call with this number is one of those that fail
abbrev pub is_listed : ℕ → List ℕ → Bool
is_listed call failing = list_any (λ n. n == call) failing
