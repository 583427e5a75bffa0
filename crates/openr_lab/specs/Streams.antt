use Rattle.std.specs.Prelude.{◌≡◌, ◌⊎◌, ℕ, ◌+◌, ◌≤◌, List, [], ◌++◌, length, take, Option, Some, None}
use Rattle.net_laboratory.specs.Limits.{most_scenario_bytes}

-- how many bytes are read at most: one more than the greatest scenario has, so that a greater one shows
abbrev pub read_limit : ℕ
read_limit = most_scenario_bytes + 1

-- The bytes were read from the front of what was left before, and the rest is left after: nothing, or the reading
-- stopped at the limit. A source that doesn't tell goes on not telling.
abbrev pub ReadWhole : ℕ → Option (List ℕ) → Option (List ℕ) → List ℕ → Type 0
ReadWhole limit None after bytes = after ≡ None
ReadWhole limit (Some left) after bytes =
    (rest : List ℕ) × (after ≡ Some rest) × (bytes ++ rest ≡ left) × ((rest ≡ []) ⊎ (length bytes ≡ limit))

-- The whole text was put behind what was taken before. A sink that doesn't tell goes on not telling.
abbrev pub WroteWhole : Option (List ℕ) → Option (List ℕ) → List ℕ → Type 0
WroteWhole None after text = after ≡ None
WroteWhole (Some taken) after text = after ≡ Some (taken ++ text)

-- the same, of a front of the text
abbrev pub WroteFront : Option (List ℕ) → Option (List ℕ) → List ℕ → Type 0
WroteFront None after text = after ≡ None
WroteFront (Some taken) after text = (n : ℕ) × (n ≤ length text) × (after ≡ Some (taken ++ take n text))
