-- The lanes of each writer by its ports: a port map, beside the list of lanes, so that no put goes through all of them.
use Rattle.std.specs.Prelude.{◌≡◌, ℕ, List, [], ◌∷◌, Option, Some, None, ◌==◌, if◌then◌else◌, slice_index_or}
use Rattle.std.specs.List.{flat_map, enumerate_from}
use Rattle.net_record.specs.declared.wire.Wire.{Wire}
use Rattle.net_record.specs.declared.ports.Port.{Port}

-- the port of a lane, if it is one of the writer
abbrev pub port_if : ℕ → Wire → ℕ → List Port
port_if number wire writer = if wire.writer == writer then record { port = wire.port; lane = number } ∷ [] else []

-- the ports of a writer among lanes, each of which is given with its number
abbrev pub ports_among : List (ℕ × Wire) → ℕ → List Port
ports_among lanes writer = flat_map (λ lane. port_if lane.0 lane.1 writer) lanes

abbrev pub ports_of : List Wire → ℕ → List Port
ports_of wires writer = ports_among (enumerate_from 0 wires) writer

-- the lane of a port, if there is one
abbrev pub lane_at_port : List Port → ℕ → Option ℕ
lane_at_port [] port = None
lane_at_port (p ∷ ports) port = if p.port == port then Some p.lane else lane_at_port ports port

-- the same with one port more, where the others have this lane or none
abbrev pub lane_with : Option ℕ → Port → ℕ → Option ℕ
lane_with (Some lane) p port = Some lane
lane_with None p port = if p.port == port then Some p.lane else None

-- the ports of each writer, by its number
abbrev pub ArePortsOf : List Wire → List (List Port) → Type 0
ArePortsOf wires ports = (writer : ℕ) → slice_index_or ports writer [] ≡ ports_of wires writer
