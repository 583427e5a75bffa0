-- A record that a module of a node has its node's store own: the store is handed its text where that differs from the text handed last.
use Rattle.std.specs.Prelude.{ℕ, List, [], ◌∷◌, Option, Some, None, Bool, not, if◌then◌else◌}
use Rattle.std.specs.Str.{bytes_eq}
use Rattle.or_base.specs.declared.item.Item.TheVariants.{Persist}
use Rattle.or_actor.specs.Ports.{store_port}
use Rattle.or_actor.specs.declared.output.Output.{Output}
use Rattle.or_actor.specs.declared.output.Output.TheVariants.{To}
use Rattle.own_record.specs.declared.own_record.OwnRecord.{OwnRecord}

-- a record of which nothing was handed over
abbrev pub unsent : List ℕ → Option ℕ → OwnRecord
unsent key ttl = record { key = key; ttl = ttl; last = None }

-- The store has to be handed this text: it is another than the last, or the first, and then only of a record that says something.
abbrev pub is_due : Option (List ℕ) → List ℕ → Bool → Bool
is_due None text is_empty = not is_empty
is_due (Some last) text is_empty = not (bytes_eq text last)

-- the record once its text is this
abbrev pub with_text : OwnRecord → List ℕ → Bool → OwnRecord
with_text own text is_empty = if is_due own.last text is_empty then record own { last = Some text } else own

-- and what the store is told
abbrev pub handed_over : OwnRecord → List ℕ → Bool → List Output
handed_over own text is_empty = if is_due own.last text is_empty then To store_port (Persist own.key text own.ttl) ∷ [] else []
