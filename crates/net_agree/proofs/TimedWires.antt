-- An actor reads from the driver by one lane, and the driver puts items on its own lanes alone.
use Rattle.std.proofs.Common.{◌≡◌, ◌≢◌, ℕ, zero, suc, ◌+◌, ◌<◌, ◌≤◌, inl, inr, List, [], ◌∷◌, ◌++◌, Option, Some, None, Bool, true, false, cond, ◌&&◌, ◌==◌, refl, ap, ◌∙◌, arith}
use Rattle.std.specs.Prelude.{slice_get}
use Rattle.std.specs.List.{flat_map, enumerate_from, position_from}
use Rattle.std.proofs.lemmas.Bool.{cases_lt, eq-eqb, eqb-true, ne_eqb, and_parts}
use Rattle.net_record.specs.declared.role.Role.{Role}
use Rattle.net_record.specs.declared.wire.Wire.{Wire}
use Rattle.net_record.specs.Wires.{has_items_for, port_of, wire_between, wires_to, wires, is_port, lane_of}
use Rattle.net_record.specs.World.{reader_of}

-- the driver writes the lane
abbrev pub is_driven : Option Wire → Bool
is_driven None = false
is_driven (Some wire) = wire.writer == 0

-- ---- one lane from the driver

-- the lane is one from the driver to this actor
abbrev is_driven_to : ℕ → Wire → Bool
is_driven_to reader wire = (wire.writer == 0) && (wire.reader == reader)

abbrev counted : Bool → ℕ
counted test = cond test 1 0

-- how many of these are
abbrev driven_to : ℕ → List Wire → ℕ
driven_to reader [] = 0
driven_to reader (wire ∷ wires) = counted (is_driven_to reader wire) + driven_to reader wires

driven-append : (reader : ℕ) (xs ys : List Wire) → driven_to reader (xs ++ ys) ≡ driven_to reader xs + driven_to reader ys
driven-append reader [] ys = omega arith
driven-append reader (x ∷ xs) ys = omega (arith, driven-append reader xs ys)

-- the lane between two actors counts where the one is the driver and the other is this
one_if : (joined first second : Bool) (wire : Wire) (reader : ℕ) → is_driven_to reader wire ≡ first && second
    → (driven_to reader (cond joined (wire ∷ []) []) ≤ counted first) × (driven_to reader (cond joined (wire ∷ []) []) ≤ counted second)
one_if false first second wire reader e = (omega arith, omega arith)
one_if true true true wire reader e = rw e (omega arith, omega arith)
one_if true true false wire reader e = rw e (omega arith, omega arith)
one_if true false true wire reader e = rw e (omega arith, omega arith)
one_if true false false wire reader e = rw e (omega arith, omega arith)

one_between : (reader to from : ℕ) (role other : Role)
    → (driven_to reader (wire_between (to, role) (from, other)) ≤ counted (from == 0)) × (driven_to reader (wire_between (to, role) (from, other)) ≤ counted (to == reader))
one_between reader to from role other =
    one_if (has_items_for other role) (from == 0) (to == reader) (record { writer = from; port = port_of other role to; reader = to }) reader refl

none_from_others : (reader to : ℕ) (role : Role) (from : ℕ) (others : List Role) → 0 < from → driven_to reader (flat_map (wire_between (to, role)) (enumerate_from from others)) ≡ 0
none_from_others reader to role from [] later = refl
none_from_others reader to role from (other ∷ others) later =
    let apart = ap counted (ne_eqb from 0 (λ e. absurd (omega (arith, later, e)))) in
    omega (
      arith,
      apart,
      (one_between reader to from role other).0,
      none_from_others reader to role (from + 1) others (omega arith),
      driven-append reader (wire_between (to, role) (from, other)) (flat_map (wire_between (to, role)) (enumerate_from (from + 1) others)),
    )

one_to : (reader to : ℕ) (role : Role) (all : List Role)
    → driven_to reader (flat_map (wire_between (to, role)) (enumerate_from 0 all)) ≤ 1
one_to reader to role [] = omega arith
one_to reader to role (other ∷ others) =
    omega (
      arith,
      (one_between reader to 0 role other).0,
      none_from_others reader to role 1 others (omega arith),
      driven-append reader (wire_between (to, role) (0, other)) (flat_map (wire_between (to, role)) (enumerate_from 1 others)),
    )

none_to : (reader to : ℕ) (role : Role) (from : ℕ) (others : List Role) → to ≢ reader → driven_to reader (flat_map (wire_between (to, role)) (enumerate_from from others)) ≡ 0
none_to reader to role from [] other = refl
none_to reader to role from (first ∷ others) other =
    let apart = ap counted (ne_eqb to reader other) in
    omega (
      arith,
      apart,
      (one_between reader to from role first).1,
      none_to reader to role (from + 1) others other,
      driven-append reader (wire_between (to, role) (from, first)) (flat_map (wire_between (to, role)) (enumerate_from (from + 1) others)),
    )

none_past : (reader : ℕ) (all : List Role) (to : ℕ) (tos : List Role) → reader < to → driven_to reader (flat_map (wires_to all) (enumerate_from to tos)) ≡ 0
none_past reader all to [] past = refl
none_past reader all to (role ∷ tos) past =
    omega (
      arith,
      none_to reader to role 0 all (λ e. absurd (omega (arith, past, e))),
      none_past reader all (to + 1) tos (omega (arith, past)),
      driven-append reader (wires_to all (to, role)) (flat_map (wires_to all) (enumerate_from (to + 1) tos)),
    )

one_among : (reader : ℕ) (all : List Role) (to : ℕ) (tos : List Role) → driven_to reader (flat_map (wires_to all) (enumerate_from to tos)) ≤ 1
one_among reader all to [] = omega arith
one_among reader all to (role ∷ tos) =
    let long = driven-append reader (wires_to all (to, role)) (flat_map (wires_to all) (enumerate_from (to + 1) tos)) in
    elim (cases_lt reader (to + 1)) [
      | inl past ↦ omega (arith, long, one_to reader to role all, none_past reader all (to + 1) tos past)
      | inr before ↦ omega (arith, long, none_to reader to role 0 all (λ e. absurd (omega (arith, before, e))), one_among reader all (to + 1) tos)
    ]

-- a lane from the driver to an actor
abbrev IsFromDriver : Option Wire → ℕ → Type 0
IsFromDriver lane reader = (is_driven lane ≡ true) × (reader_of lane ≡ reader)

counts : (reader : ℕ) (wire : Wire) → IsFromDriver (Some wire) reader → is_driven_to reader wire ≡ true
counts reader wire h = rw (h.0, eq-eqb wire.reader reader h.1) refl

some_driven : (reader : ℕ) (lanes : List Wire) (i : ℕ) → IsFromDriver (slice_get lanes i) reader → 1 ≤ driven_to reader lanes
some_driven reader [] zero h = absurd (cc h.0)
some_driven reader [] (suc i) h = absurd (cc h.0)
some_driven reader (wire ∷ lanes) zero h = omega (arith, ap counted (counts reader wire h))
some_driven reader (wire ∷ lanes) (suc i) h = omega (arith, some_driven reader lanes i h)

two_driven : (reader : ℕ) (lanes : List Wire) (i j : ℕ) → i < j → IsFromDriver (slice_get lanes i) reader → IsFromDriver (slice_get lanes j) reader → 2 ≤ driven_to reader lanes
two_driven reader [] i zero before h k = absurd (cc k.0)
two_driven reader [] i (suc j) before h k = absurd (cc k.0)
two_driven reader (wire ∷ lanes) i zero before h k = absurd (omega (arith, before))
two_driven reader (wire ∷ lanes) zero (suc j) before h k = omega (arith, ap counted (counts reader wire h), some_driven reader lanes j k)
two_driven reader (wire ∷ lanes) (suc i) (suc j) before h k = omega (arith, two_driven reader lanes i j (omega (arith, before)) h k)

-- no other lane than this one is from the driver to the same actor
pub one_from_driver : (all : List Role) (i j : ℕ) → i ≢ j → reader_of (slice_get (wires all) i) ≡ reader_of (slice_get (wires all) j)
    → is_driven (slice_get (wires all) i) ≡ true → is_driven (slice_get (wires all) j) ≡ true → ⊥
one_from_driver all i j other same h k =
    let reader = reader_of (slice_get (wires all) j) in
    let few = one_among reader all 0 all in
    elim (cases_lt i j) [
      | inl before ↦ omega (arith, few, two_driven reader (wires all) i j before (h, same) (k, refl))
      | inr after ↦ omega (arith, few, two_driven reader (wires all) j i (later i j other after) (k, refl) (h, same))
    ]
  where
    later : (i j : ℕ) → i ≢ j → j ≤ i → j < i
    later i j other after = elim (cases_lt j i) [
      | inl h ↦ h
      | inr k ↦ absurd (other (omega (arith, after, k)))
    ]

-- ---- the lane of a port

-- the lane has this number among those from the first on, and passes the test
record IsPlaced (test : Wire → Bool) (first : ℕ) (wires : List Wire) (lane : ℕ) : Type 0 where
  pub place : ℕ
  pub is : lane ≡ first + place
  pub wire : Wire
  pub stands : slice_get wires place ≡ Some wire
  pub passes : test wire ≡ true

placed_if : (test : Wire → Bool) (first : ℕ) (wire : Wire) (wires : List Wire) (lane : ℕ) (passes : Bool) → test wire ≡ passes
    → cond passes (Some first) (position_from test (first + 1) wires) ≡ Some lane → (position_from test (first + 1) wires ≡ Some lane → IsPlaced test (first + 1) wires lane)
    → IsPlaced test first (wire ∷ wires) lane
placed_if test first wire wires lane true p e others =
    let here : first ≡ lane = cc e in
    record { place = 0; is = omega (arith, here); wire = wire; stands = refl; passes = p }
placed_if test first wire wires lane false p e others =
    let found = others e in
    record { place = suc found.place; is = omega (arith, found.is); wire = found.wire; stands = found.stands; passes = found.passes }

placed : (test : Wire → Bool) (first : ℕ) (wires : List Wire) (lane : ℕ) → position_from test first wires ≡ Some lane → IsPlaced test first wires lane
placed test first [] lane e = cc e
placed test first (wire ∷ wires) lane e = placed_if test first wire wires lane (test wire) refl e (placed test (first + 1) wires lane)

-- the lane of a port is the writer's
pub is_writers : (wires : List Wire) (writer port lane : ℕ) → lane_of wires writer port ≡ Some lane → is_driven (slice_get wires lane) ≡ (writer == 0)
is_writers wires writer port lane e =
    let is = placed (is_port writer port) 0 wires lane e in
    let parts = and_parts (is.wire.writer == writer) (is.wire.port == port) is.passes in
    let here : lane ≡ is.place = omega (arith, is.is) in
    ap is_driven (ap (slice_get wires) here ∙ is.stands) ∙ ap (λ n. n == 0) (eqb-true is.wire.writer writer parts.0)
