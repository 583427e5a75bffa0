-- The lanes of a laboratory, and which of them a writer names by a port.
use Rattle.std.proofs.Common.{◌≡◌, ℕ, zero, suc, ◌+◌, List, [], ◌∷◌, Bool, true, false, cond, ◌&&◌, ◌==◌, Option, Some, None, get_or, refl, sym, ap, ◌∙◌, subst, arith, zero-add}
use Rattle.std.specs.Prelude.{slice_get, All}
use Rattle.std.specs.List.{flat_map, enumerate_from, position_from}
use Rattle.std.specs.Str.{bytes_eq}
use Rattle.std.proofs.lemmas.Bool.{eqb-true, and_parts}
use Rattle.std.proofs.lemmas.List.Elements.{All-append, All-nil, All-cons}
use Rattle.std.proofs.lemmas.Option.{slice_get_within, get_or_from_slice_get}
use Rattle.std.proofs.Math.ListN.{get_or-map}
use Rattle.net_record.specs.declared.role.NodeModule.{NodeModule}
use Rattle.net_record.specs.declared.role.NodeModule.TheVariants.{Spark as SparkRole, Desk as DeskRole}
use Rattle.net_record.specs.declared.role.Role.{Role}
use Rattle.net_record.specs.declared.role.Role.TheVariants.{Driver as DriverRole, Node, Link as LinkRole}
use Rattle.net_record.specs.declared.wire.Wire.{Wire}
use Rattle.net_record.specs.Wires.{has_items_within, has_items_for, port_of, wire_between, wires_to, wires, is_port, lane_of}
use Rattle.net_record.proofs.Standing.{no_standing}
use Rattle.net_record.proofs.Places.{standing_at_start, standings_at_start}

-- ---- the lanes among roles

abbrev pub role_at : List Role → ℕ → Role
role_at all number = get_or all number DriverRole

-- a lane among these roles
pub record IsLane (all : List Role) (wire : Wire) : Type 0 where
  pub has : has_items_for (role_at all wire.writer) (role_at all wire.reader) ≡ true
  pub port : wire.port ≡ port_of (role_at all wire.writer) (role_at all wire.reader) wire.reader

lane_if : (all : List Role) (writer reader : ℕ) (from to : Role) (joined : Bool) → has_items_for from to ≡ joined → role_at all writer ≡ from → role_at all reader ≡ to
    → All (IsLane all) (cond joined (record { writer = writer; port = port_of from to reader; reader = reader } ∷ []) [])
lane_if all writer reader from to true e f t =
    All-cons (IsLane all) (record { writer = writer; port = port_of from to reader; reader = reader }) []
    (record {
      has = ap (λ r. has_items_for r (role_at all reader)) f ∙ ap (has_items_for from) t ∙ e;
      port = sym (ap (λ r. port_of r (role_at all reader) reader) f ∙ ap (λ r. port_of from r reader) t);
    })
    (All-nil (IsLane all))
lane_if all writer reader from to false e f t = All-nil (IsLane all)

-- these are the roles from a number on
abbrev AreRolesFrom : List Role → ℕ → List Role → Type 0
AreRolesFrom all number some = (i : ℕ) → role_at all (number + i) ≡ role_at some i

role_first : (all : List Role) (number : ℕ) (role : Role) (others : List Role) → AreRolesFrom all number (role ∷ others) → role_at all number ≡ role
role_first all number role others are =
    let here : number ≡ number + 0 = omega arith in
    ap (role_at all) here ∙ are 0

roles_next : (all : List Role) (number : ℕ) (role : Role) (others : List Role) → AreRolesFrom all number (role ∷ others) → AreRolesFrom all (number + 1) others
roles_next all number role others are i =
    let next : number + 1 + i ≡ number + suc i = omega arith in
    ap (role_at all) next ∙ are (suc i)

lanes_to : (all : List Role) (reader : ℕ) (to : Role) (writer : ℕ) (froms : List Role) → role_at all reader ≡ to → AreRolesFrom all writer froms
    → All (IsLane all) (flat_map (wire_between (reader, to)) (enumerate_from writer froms))
lanes_to all reader to writer [] t are = All-nil (IsLane all)
lanes_to all reader to writer (from ∷ froms) t are =
    All-append (IsLane all) (wire_between (reader, to) (writer, from)) (flat_map (wire_between (reader, to)) (enumerate_from (writer + 1) froms))
    (lane_if all writer reader from to (has_items_for from to) refl (role_first all writer from froms are) t)
    (lanes_to all reader to (writer + 1) froms t (roles_next all writer from froms are))

roles_whole : (all : List Role) → AreRolesFrom all 0 all
roles_whole all i = ap (role_at all) (zero-add i)

lanes_from : (all : List Role) (reader : ℕ) (tos : List Role) → AreRolesFrom all reader tos → All (IsLane all) (flat_map (wires_to all) (enumerate_from reader tos))
lanes_from all reader [] are = All-nil (IsLane all)
lanes_from all reader (to ∷ tos) are =
    All-append (IsLane all) (wires_to all (reader, to)) (flat_map (wires_to all) (enumerate_from (reader + 1) tos))
    (lanes_to all reader to 0 all (role_first all reader to tos are) (roles_whole all))
    (lanes_from all (reader + 1) tos (roles_next all reader to tos are))

pub are_lanes : (all : List Role) → All (IsLane all) (wires all)
are_lanes all = lanes_from all 0 all (roles_whole all)

pub lane_at : (all : List Role) (lane : ℕ) (wire : Wire) → slice_get (wires all) lane ≡ Some wire → IsLane all wire
lane_at all lane wire e =
    subst (IsLane all) (get_or_from_slice_get (wires all) lane wire wire e) (are_lanes all lane wire (slice_get_within (wires all) lane wire e))

not_true : (b : Bool) → b && false ≡ true → ⊥
not_true true e = cc e
not_true false e = cc e

-- no module of a node has items for its desk
none_for_desk : (m : NodeModule) → has_items_within m DeskRole ≡ false
none_for_desk SparkRole = refl
none_for_desk _ = refl

-- whoever has items for a desk is the driver
from_driver : (from to : Role) (desk : List ℕ × ℕ) → has_items_for from to ≡ true → (standing_at_start to).desk ≡ Some desk → (standing_at_start from).driver ≡ true
from_driver DriverRole to desk h e = refl
from_driver (Node m node setup) DriverRole desk h e = cc h
from_driver (Node m node setup) (Node DeskRole name their_setup) desk h e =
    absurd (not_true (bytes_eq node name) (ap (λ b. bytes_eq node name && b) (sym (none_for_desk m)) ∙ h))
from_driver (Node m node setup) (Node _ name their_setup) desk h e = cc e
from_driver (Node m node setup) (LinkRole link a b) desk h e = cc e
from_driver (LinkRole link a b) DriverRole desk h e = cc h
from_driver (LinkRole link a b) (Node DeskRole name their_setup) desk h e = cc h
from_driver (LinkRole link a b) (Node _ name their_setup) desk h e = cc e
from_driver (LinkRole link a b) (LinkRole other c d) desk h e = cc h

pub standing_of_role : (all : List Role) (number : ℕ) → get_or (standings_at_start all) number no_standing ≡ standing_at_start (role_at all number)
standing_of_role all number = get_or-map standing_at_start all number DriverRole

-- the writer of a lane to a desk is the driver
pub driver_asks : (all : List Role) (lane : ℕ) (wire : Wire) (desk : List ℕ × ℕ) → slice_get (wires all) lane ≡ Some wire
    → (get_or (standings_at_start all) wire.reader no_standing).desk ≡ Some desk → (get_or (standings_at_start all) wire.writer no_standing).driver ≡ true
driver_asks all lane wire desk e is =
    ap (λ s. s.driver) (standing_of_role all wire.writer)
    ∙ from_driver (role_at all wire.writer) (role_at all wire.reader) desk (lane_at all lane wire e).has
    (ap (λ s. s.desk) (sym (standing_of_role all wire.reader)) ∙ is)

-- the first actor, which is the driver, names the lane to an actor by that actor's number
pub driver_names : (others : List Role) (lane : ℕ) (wire : Wire) → slice_get (wires (DriverRole ∷ others)) lane ≡ Some wire → wire.writer ≡ 0 → wire.port ≡ wire.reader
driver_names others lane wire e first =
    let all = DriverRole ∷ others in
    (lane_at all lane wire e).port ∙ ap (λ n. port_of (role_at all n) (role_at all wire.reader) wire.reader) first

-- ---- the lane of a port

record IsFoundAt (test : Wire → Bool) (first : ℕ) (wires : List Wire) (lane : ℕ) : Type 0 where
  pub place : ℕ
  pub is : lane ≡ first + place
  pub wire : Wire
  pub stands : slice_get wires place ≡ Some wire
  pub passes : test wire ≡ true

position_found_if : (test : Wire → Bool) (first : ℕ) (wire : Wire) (wires : List Wire) (lane : ℕ) (passes : Bool) → test wire ≡ passes
    → cond passes (Some first) (position_from test (first + 1) wires) ≡ Some lane → (position_from test (first + 1) wires ≡ Some lane → IsFoundAt test (first + 1) wires lane)
    → IsFoundAt test first (wire ∷ wires) lane
position_found_if test first wire wires lane true p e others =
    let here : first ≡ lane = cc e in
    record { place = 0; is = omega (arith, here); wire = wire; stands = refl; passes = p }
position_found_if test first wire wires lane false p e others =
    let found = others e in
    record { place = suc found.place; is = omega (arith, found.is); wire = found.wire; stands = found.stands; passes = found.passes }

position_found : (test : Wire → Bool) (first : ℕ) (wires : List Wire) (lane : ℕ) → position_from test first wires ≡ Some lane → IsFoundAt test first wires lane
position_found test first [] lane e = cc e
position_found test first (wire ∷ wires) lane e = position_found_if test first wire wires lane (test wire) refl e (position_found test (first + 1) wires lane)

-- the lane that a writer names by a port
pub record IsNamed (wires : List Wire) (writer port lane : ℕ) : Type 0 where
  pub wire : Wire
  pub stands : slice_get wires lane ≡ Some wire
  pub writes : wire.writer ≡ writer
  pub names : wire.port ≡ port

pub named_lane : (wires : List Wire) (writer port lane : ℕ) → lane_of wires writer port ≡ Some lane → IsNamed wires writer port lane
named_lane wires writer port lane e =
    let is = position_found (is_port writer port) 0 wires lane e in
    let parts = and_parts (is.wire.writer == writer) (is.wire.port == port) is.passes in
    let here : lane ≡ is.place = omega (arith, is.is) in
    record {
      wire = is.wire;
      stands = ap (slice_get wires) here ∙ is.stands;
      writes = eqb-true is.wire.writer writer parts.0;
      names = eqb-true is.wire.port port parts.1;
    }
