-- Both ends of each lane are actors.
use Rattle.std.proofs.Common.{◌≡◌, ℕ, ◌+◌, ◌<◌, ◌≤◌, List, [], ◌∷◌, Bool, true, false, cond, length, sym, subst, arith}
use Rattle.std.specs.Prelude.{All}
use Rattle.std.specs.List.{flat_map, enumerate_from}
use Rattle.std.proofs.lemmas.List.Elements.{All-append, All-nil, All-cons}
use Rattle.net_record.specs.declared.role.Role.{Role}
use Rattle.net_record.specs.declared.wire.Wire.{Wire}
use Rattle.net_record.specs.Wired.{JoinsBelow}
use Rattle.net_record.specs.Wires.{has_items_for, port_of, wire_between, wires_to, wires}

joined_if : (n writer reader : ℕ) (from to : Role) (joined : Bool) → writer < n → reader < n
    → All (JoinsBelow n) (cond joined (record { writer = writer; port = port_of from to reader; reader = reader } ∷ []) [])
joined_if n writer reader from to true h k =
    All-cons (JoinsBelow n) (record { writer = writer; port = port_of from to reader; reader = reader }) [] (record { writer = h; reader = k }) (All-nil (JoinsBelow n))
joined_if n writer reader from to false h k = All-nil (JoinsBelow n)

ends_to : (n reader : ℕ) (to : Role) (writer : ℕ) (froms : List Role) → reader < n → writer + length froms ≤ n
    → All (JoinsBelow n) (flat_map (wire_between (reader, to)) (enumerate_from writer froms))
ends_to n reader to writer [] h k = All-nil (JoinsBelow n)
ends_to n reader to writer (from ∷ froms) h k =
    All-append (JoinsBelow n) (wire_between (reader, to) (writer, from)) (flat_map (wire_between (reader, to)) (enumerate_from (writer + 1) froms))
    (joined_if n writer reader from to (has_items_for from to) (omega (arith, k)) h) (ends_to n reader to (writer + 1) froms h (omega (arith, k)))

ends_among : (all : List Role) (reader : ℕ) (tos : List Role) → reader + length tos ≤ length all
    → All (JoinsBelow (length all)) (flat_map (wires_to all) (enumerate_from reader tos))
ends_among all reader [] k = All-nil (JoinsBelow (length all))
ends_among all reader (to ∷ tos) k =
    All-append (JoinsBelow (length all)) (wires_to all (reader, to)) (flat_map (wires_to all) (enumerate_from (reader + 1) tos))
    (ends_to (length all) reader to 0 all (omega (arith, k)) (omega arith)) (ends_among all (reader + 1) tos (omega (arith, k)))

pub ends_of_wires : (all : List Role) → All (JoinsBelow (length all)) (wires all)
ends_of_wires all = ends_among all 0 all (omega arith)

-- the same of lanes that are these
pub ends_of_lanes : (lanes : List Wire) (all : List Role) → lanes ≡ wires all → All (JoinsBelow (length all)) lanes
ends_of_lanes lanes all e = subst (All (JoinsBelow (length all))) (sym e) (ends_of_wires all)
