-- Keys with their deadlines: a list of pairs in byte order of keys, each key once.
use Rattle.std.specs.Prelude.{◌≡◌, ℕ, ◌+◌, List, [], ◌∷◌, Option, Bool, false, map, nat_le, nat_lt, ◌==◌, if◌then◌else◌}
use Rattle.std.specs.Option.{option_map_or}
use Rattle.std.specs.List.{filter, flat_map, range_with_len, list_any}
use Rattle.std.specs.List.Sorted.{IsStrictlySortedBy}
use Rattle.std.specs.Map.{keys_of, lookup, remove_entry}
use Rattle.std.specs.BTreeMap.{insert_entry, is_at}
use Rattle.std.specs.Ordering.{nat_cmp, ordering_then}
use Rattle.std.specs.declared.cmp.Ordering.{Ordering}
use Rattle.or_base.specs.Order.{bytes_cmp}

-- the keys are in byte order, each once
abbrev pub AreInKeyOrder : List (List ℕ × ℕ) → Type 0
AreInKeyOrder deadlines = IsStrictlySortedBy bytes_cmp (keys_of deadlines)

-- the deadline of a key, if it has one
abbrev pub deadline_in : List (List ℕ × ℕ) → List ℕ → Option ℕ
deadline_in deadlines key = lookup (is_at (bytes_cmp key)) deadlines

-- the key's one deadline is this one
abbrev pub with_deadline : List (List ℕ × ℕ) → List ℕ → ℕ → List (List ℕ × ℕ)
with_deadline deadlines key deadline = insert_entry bytes_cmp deadlines key deadline

-- the key has no deadline
abbrev pub without_deadline : List (List ℕ × ℕ) → List ℕ → List (List ℕ × ℕ)
without_deadline deadlines key = remove_entry (is_at (bytes_cmp key)) deadlines

-- the keys with this deadline, in byte order
abbrev pub keys_at : List (List ℕ × ℕ) → ℕ → List (List ℕ)
keys_at deadlines moment = map (λ entry. entry.0) (filter (λ entry. entry.1 == moment) deadlines)

-- the keys that are due up to a moment: those of moment 0, of moment 1 and so on
unfoldable pub due : List (List ℕ × ℕ) → ℕ → List (List ℕ)
due deadlines now = flat_map (keys_at deadlines) (range_with_len 0 (now + 1))

-- the deadlines that are left once those are taken
abbrev pub after_due : List (List ℕ × ℕ) → ℕ → List (List ℕ × ℕ)
after_due deadlines now = filter (λ entry. nat_lt now entry.1) deadlines

-- ---- the same keys in the order in which they are due

-- a deadline with its key is compared by deadline, then by key
abbrev pub timer_cmp : ℕ × List ℕ → ℕ × List ℕ → Ordering
timer_cmp timer other = ordering_then (nat_cmp timer.0 other.0) (bytes_cmp timer.1 other.1)

-- the key has this deadline
abbrev pub is_timer_of : List (List ℕ × ℕ) → ℕ × List ℕ → Bool
is_timer_of deadlines timer = option_map_or (λ deadline. deadline == timer.0) (deadline_in deadlines timer.1) false

-- the timers are the deadlines with their keys, in order
pub record AreTimersOf (deadlines : List (List ℕ × ℕ)) (timers : List (ℕ × List ℕ)) : Type 0 where
  pub keys_ordered : AreInKeyOrder deadlines
  pub timers_ordered : IsStrictlySortedBy timer_cmp timers
  pub same : (timer : ℕ × List ℕ) → list_any (is_at (timer_cmp timer)) timers ≡ is_timer_of deadlines timer

-- the keys of the timers up to a moment, of timers in order
abbrev pub keys_until : ℕ → List (ℕ × List ℕ) → List (List ℕ)
keys_until now [] = []
keys_until now (timer ∷ timers) = if nat_le timer.0 now then timer.1 ∷ keys_until now timers else []
