-- Which keys a table loses at a moment.
use Rattle.std.specs.Prelude.{ℕ, ◌+◌, List, ◌++◌, Bool, false, Option, option_and_then, option_map, map, ◌==◌}
use Rattle.std.specs.List.{filter, flat_map, range_with_len}
use Rattle.std.specs.Option.{option_map_or}
use Rattle.or_base.specs.declared.entry.JournalEntry.{JournalEntry}
use Rattle.or_base.specs.declared.entry.JournalEntry.TheVariants.{Expired}
use Rattle.or_base.specs.Journal.{holds, held_keys}

-- the moment at which a key is lost, if it is held with a lifetime
abbrev pub deadline_of : List JournalEntry → List ℕ → Option ℕ
deadline_of journal key = option_and_then (λ held. option_map (λ ttl. held.1 + ttl) held.0.ttl) (holds journal key)

-- the deadline is this moment
abbrev pub is_due_at : ℕ → Option ℕ → Bool
is_due_at moment deadline = option_map_or (λ d. d == moment) deadline false

-- the keys that are lost at this moment, in byte order
abbrev pub keys_lost_at : List JournalEntry → ℕ → List (List ℕ)
keys_lost_at journal moment = filter (λ key. is_due_at moment (deadline_of journal key)) (held_keys journal)

-- the keys that are lost up to a moment: those of moment 0, of moment 1 and so on
unfoldable pub keys_lost : List JournalEntry → ℕ → List (List ℕ)
keys_lost journal now = flat_map (keys_lost_at journal) (range_with_len 0 (now + 1))

-- the journal after the keys that are due at a moment are lost
abbrev pub expire : List JournalEntry → ℕ → List JournalEntry
expire journal now = journal ++ map (λ key. Expired key now) (keys_lost journal now)
