-- The lane of a writer's port, found among the ports of that writer alone.
use Rattle.std.proofs.Common.{◌≡◌, ℕ, zero, suc, ◌+◌, ◌<◌, ◌≤◌, inl, inr, List, [], ◌∷◌, ◌++◌, Option, Bool, true, false, cond, ◌&&◌, ◌==◌, Some, None, length, get_or, set, take, refl, sym, ap, ◌∙◌, arith, append_assoc}
use Rattle.std.proofs.lemmas.Bool.{cases_eq, eq-eqb, ne_eqb}
use Rattle.std.proofs.lemmas.List.{get_or-set_same, get_or-set_other, get_or_past, append-nil, length-take-le, take_more}
use Rattle.std.specs.List.{enumerate_from, position_from}
use Rattle.net_record.specs.declared.wire.Wire.{Wire}
use Rattle.net_record.specs.Wires.{is_port, lane_of}
use Rattle.net_record.specs.declared.ports.Port.{Port}
use Rattle.net_record.specs.Ports.{port_if, ports_among, lane_at_port, lane_with, ArePortsOf}

-- ---- finding a lane

-- one lane more, of the writer or of another
lane_of_one : (own : Bool) (p : Port) (rest : List Port) (port : ℕ) (other : Option ℕ) → lane_at_port rest port ≡ other
    → lane_at_port (cond own (p ∷ []) [] ++ rest) port ≡ cond (own && (p.port == port)) (Some p.lane) other
lane_of_one true p rest port other e = ap (λ o. cond (p.port == port) (Some p.lane) o) e
lane_of_one false p rest port other e = e

pub lane_of_ports : (number : ℕ) (wires : List Wire) (writer port : ℕ) → lane_at_port (ports_among (enumerate_from number wires) writer) port ≡ position_from (is_port writer port) number wires
lane_of_ports number [] writer port = refl
lane_of_ports number (wire ∷ wires) writer port =
    lane_of_one (wire.writer == writer) (record { port = wire.port; lane = number }) (ports_among (enumerate_from (number + 1) wires) writer) port (position_from (is_port writer port) (number + 1) wires)
    (lane_of_ports (number + 1) wires writer port)

-- the ports of a writer that has a place
pub lane_found : (wires : List Wire) (ports : List (List Port)) (writer port : ℕ) (own : List Port) (lane : Option ℕ) → ArePortsOf wires ports
    → own ≡ get_or ports writer [] → lane ≡ lane_at_port own port → lane ≡ lane_of wires writer port
lane_found wires ports writer port own lane are is found =
    found ∙ ap (λ os. lane_at_port os port) (is ∙ are writer) ∙ lane_of_ports 0 wires writer port

-- a writer that has none has no lanes
pub lane_missing : (wires : List Wire) (ports : List (List Port)) (writer port : ℕ) → ArePortsOf wires ports → length ports ≤ writer → None ≡ lane_of wires writer port
lane_missing wires ports writer port are past =
    ap (λ os. lane_at_port os port) (sym (get_or_past ports writer [] past) ∙ are writer) ∙ lane_of_ports 0 wires writer port

-- the lane of a port among one port more
lane_after : (ports : List Port) (p : Port) (port : ℕ) → lane_at_port (ports ++ p ∷ []) port ≡ lane_with (lane_at_port ports port) p port
lane_after [] p port = refl
lane_after (q ∷ ports) p port = by_test (q.port == port) (lane_after ports p port) where
  by_test : (here : Bool) → lane_at_port (ports ++ p ∷ []) port ≡ lane_with (lane_at_port ports port) p port
      → cond here (Some q.lane) (lane_at_port (ports ++ p ∷ []) port) ≡ lane_with (cond here (Some q.lane) (lane_at_port ports port)) p port
  by_test true later = refl
  by_test false later = later

pub lane_more : (ports after : List Port) (p : Port) (before lanes : ℕ → Option ℕ) → after ≡ ports ++ p ∷ [] → ((port : ℕ) → before port ≡ lane_at_port ports port)
    → ((port : ℕ) → lanes port ≡ lane_with (before port) p port) → (port : ℕ) → lanes port ≡ lane_at_port after port
lane_more ports after p before lanes is index added port =
    added port ∙ ap (λ lane. lane_with lane p port) (index port) ∙ sym (lane_after ports p port) ∙ ap (λ ps. lane_at_port ps port) (sym is)

-- ---- what a writer's ports are, one lane after another

pub get_or-place : (ports : List (List Port)) (writer : ℕ) → get_or (ports ++ [] ∷ []) writer [] ≡ get_or ports writer []
get_or-place [] zero = refl
get_or-place [] (suc writer) = refl
get_or-place (own ∷ ports) zero = refl
get_or-place (own ∷ ports) (suc writer) = get_or-place ports writer

-- one more place, which is empty
pub place_more : (before ports after : List (List Port)) → ((writer : ℕ) → get_or ports writer [] ≡ get_or before writer []) → after ≡ ports ++ [] ∷ []
    → (writer : ℕ) → get_or after writer [] ≡ get_or before writer []
place_more before ports after same e writer = ap (λ ps. get_or ps writer []) e ∙ get_or-place ports writer ∙ same writer

own_port : (number : ℕ) (wire : Wire) (writer : ℕ) → wire.writer ≡ writer → port_if number wire writer ≡ record { port = wire.port; lane = number } ∷ []
own_port number wire writer e = rw (eq-eqb wire.writer writer e) refl

no_port : (number : ℕ) (wire : Wire) (writer : ℕ) → (wire.writer ≡ writer → ⊥) → port_if number wire writer ≡ []
no_port number wire writer n = rw (ne_eqb wire.writer writer n) refl

-- a port is added to those of its writer
pub port_added : (before ports after : List (List Port)) (own : List Port) (number : ℕ) (wire : Wire) → wire.writer < length ports
    → ((writer : ℕ) → get_or ports writer [] ≡ get_or before writer []) → own ≡ get_or ports wire.writer [] ++ record { port = wire.port; lane = number } ∷ []
    → after ≡ set ports wire.writer own
    → (writer : ℕ) → get_or after writer [] ≡ get_or before writer [] ++ port_if number wire writer
port_added before ports after own number wire there same added e writer =
    elim (cases_eq wire.writer writer) [
      | inl is ↦
          ap (λ ps. get_or ps writer []) e ∙ ap (λ n. get_or (set ports wire.writer own) n []) (sym is) ∙ get_or-set_same ports wire.writer own [] there ∙ added
          ∙ ap (λ os. os ++ record { port = wire.port; lane = number } ∷ []) (ap (λ n. get_or ports n []) is ∙ same writer)
          ∙ ap (λ os. get_or before writer [] ++ os) (sym (own_port number wire writer is))
      | inr other ↦
          ap (λ ps. get_or ps writer []) e ∙ get_or-set_other ports wire.writer writer own [] (λ h. other (sym h)) ∙ same writer
          ∙ sym (append-nil (get_or before writer [])) ∙ ap (λ os. get_or before writer [] ++ os) (sym (no_port number wire writer other))
    ]

ports_of-push : (number : ℕ) (wires : List Wire) (wire : Wire) (writer : ℕ)
    → ports_among (enumerate_from number (wires ++ wire ∷ [])) writer ≡ ports_among (enumerate_from number wires) writer ++ port_if (number + length wires) wire writer
ports_of-push number [] wire writer =
    let e : number ≡ number + 0 = omega arith in
    append-nil (port_if number wire writer) ∙ ap (λ n. port_if n wire writer) e
ports_of-push number (w ∷ wires) wire writer =
    let e : number + 1 + length wires ≡ number + length (w ∷ wires) = omega arith in
    ap (λ os. port_if number w writer ++ os) (ports_of-push (number + 1) wires wire writer ∙ ap (λ n. ports_among (enumerate_from (number + 1) wires) writer ++ port_if n wire writer) e)
    ∙ sym (append_assoc (port_if number w writer) (ports_among (enumerate_from (number + 1) wires) writer) (port_if (number + length (w ∷ wires)) wire writer))

-- the ports of each writer among one lane more
pub ports_more : (wires : List Wire) (i : ℕ) (d : Wire) (before after : List (List Port)) → i < length wires → ArePortsOf (take i wires) before
    → ((writer : ℕ) → get_or after writer [] ≡ get_or before writer [] ++ port_if i (get_or wires i d) writer)
    → ArePortsOf (take (i + 1) wires) after
ports_more wires i d before after within are added writer =
    let n : 0 + length (take i wires) ≡ i = omega (arith, length-take-le i wires (omega arith)) in
    let wire = get_or wires i d in
    added writer ∙ ap (λ os. os ++ port_if i wire writer) (are writer)
    ∙ ap (λ m. ports_among (enumerate_from 0 (take i wires)) writer ++ port_if m wire writer) (sym n)
    ∙ sym (ports_of-push 0 (take i wires) wire writer)
    ∙ ap (λ ws. ports_among (enumerate_from 0 ws) writer) (sym (take_more wires i d within))

pub ruleset finding = (lane_found, lane_missing)
