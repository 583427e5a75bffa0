-- A lane joins two actors of which the one has items for the other, and what is put on it was sent to its port.
use Rattle.std.proofs.Common.{◌≡◌, ℕ, suc, ◌+◌, inl, inr, ◌⊎◌, List, [], ◌∷◌, ◌++◌, Option, Some, None, Bool, true, false, cond, length, get_or, set, refl, sym, ap, ◌∙◌, subst, arith, get_or-set_same, get_or-set_other}
use Rattle.std.specs.Prelude.{slice_get, ◌==◌, All}
use Rattle.std.specs.List.{Contains, flat_map, enumerate_from, position_from}
use Rattle.std.proofs.lemmas.Bool.{cases_eq, cases_lt, and_parts, eqb-true}
use Rattle.std.proofs.lemmas.List.{set_past}
use Rattle.std.proofs.lemmas.List.Elements.{All-append, All-nil, All-cons, All-get_or, Contains-push_cases}
use Rattle.std.proofs.lemmas.Option.{none-some, same_Some, slice_get_within, get_or_from_slice_get}
use Rattle.or_base.specs.declared.item.Item.{Item}
use Rattle.or_base.specs.declared.item.Stamped.{Stamped}
use Rattle.or_base.proofs.Members.{Contains-first, Contains-later}
use Rattle.or_actor.specs.declared.output.Output.{Output}
use Rattle.or_actor.specs.declared.output.Output.TheVariants.{To}
use Rattle.net_record.specs.declared.role.Role.{Role}
use Rattle.net_record.specs.declared.wire.Wire.{Wire}
use Rattle.net_record.specs.Wires.{has_items_for, port_of, wire_between, wires_to, wires, is_port, lane_of}
use Rattle.net_record.specs.World.{put, deliver}

-- ---- what a lane is

-- the lane is named by its writer's port for its reader, for which the writer has items
pub record IsLane (all : List Role) (wire : Wire) : Type 0 where
  pub from : Role
  pub to : Role
  pub writer : slice_get all wire.writer ≡ Some from
  pub reader : slice_get all wire.reader ≡ Some to
  pub joined : has_items_for from to ≡ true
  pub port : wire.port ≡ port_of from to wire.reader

lane_if : (all : List Role) (writer reader : ℕ) (from to : Role) (joined : Bool) → slice_get all writer ≡ Some from → slice_get all reader ≡ Some to → has_items_for from to ≡ joined
    → All (IsLane all) (cond joined (record { writer = writer; port = port_of from to reader; reader = reader } ∷ []) [])
lane_if all writer reader from to true at_writer at_reader joined =
    All-cons (IsLane all) (record { writer = writer; port = port_of from to reader; reader = reader }) []
    (record { from = from; to = to; writer = at_writer; reader = at_reader; joined = joined; port = refl }) (All-nil (IsLane all))
lane_if all writer reader from to false at_writer at_reader joined = All-nil (IsLane all)

-- these roles are those from a number on
abbrev StandFrom : List Role → ℕ → List Role → Type 0
StandFrom all first roles = (i : ℕ) → slice_get all (first + i) ≡ slice_get roles i

stand_first : (all : List Role) (first : ℕ) (role : Role) (roles : List Role) → StandFrom all first (role ∷ roles) → slice_get all first ≡ Some role
stand_first all first role roles stand =
    let here : first ≡ first + 0 = omega arith in
    ap (slice_get all) here ∙ stand 0

stand_next : (all : List Role) (first : ℕ) (role : Role) (roles : List Role) → StandFrom all first (role ∷ roles) → StandFrom all (first + 1) roles
stand_next all first role roles stand i =
    let next : first + 1 + i ≡ first + suc i = omega arith in
    ap (slice_get all) next ∙ stand (suc i)

stand_all : (all : List Role) → StandFrom all 0 all
stand_all all i =
    let same : 0 + i ≡ i = omega arith in
    ap (slice_get all) same

lanes_to : (all : List Role) (reader : ℕ) (to : Role) (writer : ℕ) (froms : List Role) → slice_get all reader ≡ Some to → StandFrom all writer froms
    → All (IsLane all) (flat_map (wire_between (reader, to)) (enumerate_from writer froms))
lanes_to all reader to writer [] at_reader stand = All-nil (IsLane all)
lanes_to all reader to writer (from ∷ froms) at_reader stand =
    All-append (IsLane all) (wire_between (reader, to) (writer, from)) (flat_map (wire_between (reader, to)) (enumerate_from (writer + 1) froms))
    (lane_if all writer reader from to (has_items_for from to) (stand_first all writer from froms stand) at_reader refl)
    (lanes_to all reader to (writer + 1) froms at_reader (stand_next all writer from froms stand))

lanes_among : (all : List Role) (reader : ℕ) (tos : List Role) → StandFrom all reader tos → All (IsLane all) (flat_map (wires_to all) (enumerate_from reader tos))
lanes_among all reader [] stand = All-nil (IsLane all)
lanes_among all reader (to ∷ tos) stand =
    All-append (IsLane all) (wires_to all (reader, to)) (flat_map (wires_to all) (enumerate_from (reader + 1) tos))
    (lanes_to all reader to 0 all (stand_first all reader to tos stand) (stand_all all))
    (lanes_among all (reader + 1) tos (stand_next all reader to tos stand))

lanes_are : (all : List Role) → All (IsLane all) (wires all)
lanes_are all = lanes_among all 0 all (stand_all all)

-- each lane of a list that is these
pub lane_is : (all : List Role) (lanes : List Wire) (lane : ℕ) (wire : Wire) → lanes ≡ wires all → slice_get lanes lane ≡ Some wire → IsLane all wire
lane_is all lanes lane wire same there =
    let among : slice_get (wires all) lane ≡ Some wire = ap (λ ws. slice_get ws lane) (sym same) ∙ there in
    subst (IsLane all) (get_or_from_slice_get (wires all) lane wire wire among)
    (All-get_or (IsLane all) (wires all) lane wire (slice_get_within (wires all) lane wire among) (lanes_are all))

-- ---- the lane of a port

-- the place that was found
record IsFound {X : Type 0} (test : X → Bool) (first : ℕ) (xs : List X) (place : ℕ) : Type 0 where
  pub index : ℕ
  pub found : X
  pub at : place ≡ first + index
  pub there : slice_get xs index ≡ Some found
  pub passes : test found ≡ true

position_is : {X : Type 0} (test : X → Bool) (first : ℕ) (xs : List X) (place : ℕ) → position_from test first xs ≡ Some place → IsFound test first xs place
position_is test first [] place is = absurd (none-some place is)
position_is {X = X} test first (x ∷ xs) place is = by_test (λ same. position_is test (first + 1) xs place same) (test x) refl is where
  later : IsFound test (first + 1) xs place → IsFound test first (x ∷ xs) place
  later f = record { index = suc f.index; found = f.found; at = omega (arith, f.at); there = f.there; passes = f.passes }

  by_test : (position_from test (first + 1) xs ≡ Some place → IsFound test (first + 1) xs place)
      → (answer : Bool) → test x ≡ answer → cond answer (Some first) (position_from test (first + 1) xs) ≡ Some place → IsFound test first (x ∷ xs) place
  by_test rest true passes same =
      let here : first ≡ place = cc in
      record { index = 0; found = x; at = omega (arith, here); there = refl; passes = passes }
  by_test rest false passes same = later (rest same)

-- a lane that a port names is its writer's, by that port
pub port_is : (lanes : List Wire) (writer port lane : ℕ) (wire : Wire) → lane_of lanes writer port ≡ Some lane → slice_get lanes lane ≡ Some wire → (wire.writer ≡ writer) × (wire.port ≡ port)
port_is lanes writer port lane wire named there =
    let f = position_is (is_port writer port) 0 lanes lane named in
    let at : lane ≡ f.index = omega (arith, f.at) in
    let same : f.found ≡ wire = same_Some f.found wire (sym f.there ∙ ap (slice_get lanes) (sym at) ∙ there) in
    let both = and_parts (wire.writer == writer) (wire.port == port) (subst (λ w. is_port writer port w ≡ true) same f.passes) in
    (eqb-true wire.writer writer both.0, eqb-true wire.port port both.1)

-- ---- what waits after a delivery

put_here : (lanes : List (List Stamped)) (lane : ℕ) (new s : Stamped) → Contains (get_or (set lanes lane (get_or lanes lane [] ++ new ∷ [])) lane []) s
    → Contains (get_or lanes lane []) s ⊎ (new ≡ s)
put_here lanes lane new s among =
    elim (cases_lt lane (length lanes)) [
      | inl within ↦
          Contains-push_cases (get_or lanes lane []) new s
          (subst (λ items. Contains items s) (get_or-set_same lanes lane (get_or lanes lane [] ++ new ∷ []) [] within) among)
      | inr past ↦ inl (subst (λ ls. Contains (get_or ls lane []) s) (set_past lanes lane (get_or lanes lane [] ++ new ∷ []) past) among)
    ]

put_is : (lanes : List (List Stamped)) (to : Option ℕ) (new : Stamped) (lane : ℕ) (s : Stamped) → Contains (get_or (put lanes to new) lane []) s
    → Contains (get_or lanes lane []) s ⊎ ((to ≡ Some lane) × (new ≡ s))
put_is lanes None new lane s among = inl among
put_is lanes (Some to) new lane s among =
    elim (cases_eq lane to) [
      | inl same ↦
          elim (put_here lanes lane new s (subst (λ n. Contains (get_or (set lanes n (get_or lanes n [] ++ new ∷ [])) lane []) s) (sym same) among)) [
            | inl before ↦ inl before
            | inr is ↦ inr (ap Some (sym same), is)
          ]
      | inr other ↦ inl (subst (λ items. Contains items s) (get_or-set_other lanes to lane (get_or lanes to [] ++ new ∷ []) [] other) among)
    ]

-- the item is one of the outputs, and the lane is that of its port
pub record IsDelivered (lanes : List Wire) (writer : ℕ) (outputs : List Output) (lane : ℕ) (item : Item) : Type 0 where
  pub port : ℕ
  pub among : Contains outputs (To port item)
  pub on : lane_of lanes writer port ≡ Some lane

pub delivered_is : (wires : List Wire) (writer stamp : ℕ) (lanes : List (List Stamped)) (outputs : List Output) (lane : ℕ) (s : Stamped)
    → Contains (get_or (deliver wires writer stamp lanes outputs) lane []) s → Contains (get_or lanes lane []) s ⊎ IsDelivered wires writer outputs lane s.item
delivered_is wires writer stamp lanes [] lane s among = inl among
delivered_is wires writer stamp lanes (To port item ∷ outputs) lane s among =
    let new : Stamped = record { stamp = stamp; item = item } in
    elim (delivered_is wires writer stamp (put lanes (lane_of wires writer port) new) outputs lane s among) [
      | inl put_before ↦
          elim (put_is lanes (lane_of wires writer port) new lane s put_before) [
            | inl before ↦ inl before
            | inr is ↦ inr (record { port = port; among = subst (λ (i : Stamped). Contains (To port item ∷ outputs) (To port i.item)) is.1 (Contains-first (To port item) outputs); on = is.0 })
          ]
      | inr sent ↦ inr (record { port = sent.port; among = Contains-later (To port item) outputs (To sent.port s.item) sent.among; on = sent.on })
    ]
