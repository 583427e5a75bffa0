-- To whom a store floods, and what.
use Rattle.std.specs.Prelude.{ℕ, List, [], ◌∷◌, ◌++◌, Option, Some, None, Bool, ◌&&◌, not}
use Rattle.std.specs.Str.{bytes_eq}
use Rattle.or_base.specs.declared.value.Pair.{Pair}
use Rattle.or_base.specs.declared.entry.JournalEntry.{JournalEntry}
use Rattle.or_base.specs.declared.message.Msg.{Msg}
use Rattle.or_base.specs.declared.message.Msg.TheVariants.{Flood}
use Rattle.or_base.specs.Names.{is_among}
use Rattle.kv_table.specs.Sending.{sent_pairs}

-- a flood goes to a peer that it hasn't passed
abbrev pub is_target : List ℕ → List ℕ → List (List ℕ) → Bool
is_target me peer passed = not (bytes_eq peer me) && not (is_among peer passed)

-- a flood of pairs that has passed these nodes and passes this one; none without pairs
abbrev pub flood_of : List (List ℕ) → List ℕ → List Pair → Option Msg
flood_of passed me [] = None
flood_of passed me (pair ∷ pairs) = Some (Flood (passed ++ me ∷ []) (pair ∷ pairs))

-- the flood of keys at a moment
unfoldable pub flood_message : List JournalEntry → ℕ → List (List ℕ) → List (List ℕ) → List ℕ → Option Msg
flood_message journal now keys passed me = flood_of passed me (sent_pairs journal now keys)
