use Rattle.std.specs.Prelude.{◌≡◌, ℕ, ◌<◌, ◌≤◌, List, [], ◌++◌, length, take, drop, Option, Some, None}

-- A read moved so many bytes from the front of what was left into the front of the buffer. It moved none into a
-- buffer that isn't empty only where nothing was left. A source that doesn't tell goes on not telling.
abbrev pub ReadsFront : Option (List ℕ) → Option (List ℕ) → ℕ → List ℕ → Type 0
ReadsFront None after count buffer = after ≡ None
ReadsFront (Some left) after count buffer =
    (after ≡ Some (drop count left)) × (count ≤ length left) × (take count buffer ≡ take count left) × (0 < length buffer → count ≡ 0 → left ≡ [])

-- A write put so many bytes from the front of the buffer behind what was taken.
abbrev pub WritesFront : Option (List ℕ) → Option (List ℕ) → ℕ → List ℕ → Type 0
WritesFront None after count buffer = after ≡ None
WritesFront (Some taken) after count buffer = after ≡ Some (taken ++ take count buffer)
