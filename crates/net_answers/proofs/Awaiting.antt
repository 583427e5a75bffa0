-- The items that wait on the lanes to a desk and pass a test, as to be questions or to ask for routes. The driver alone has a lane to
-- a desk, so turns only take them away.
use Rattle.std.proofs.Common.{◌≡◌, ℕ, zero, suc, ◌+◌, ◌≤◌, List, [], ◌∷◌, ◌++◌, Bool, true, false, cond, ◌==◌, Option, Some, None, map, get_or, set, refl, sym, ap, ◌∙◌, subst, arith, true≢false}
use Rattle.std.specs.Prelude.{slice_get}
use Rattle.std.specs.List.{list_all, flat_map}
use Rattle.std.proofs.lemmas.Bool.{ne_eqb, and_parts}
use Rattle.std.proofs.lemmas.List.{map-append}
use Rattle.or_base.specs.declared.item.Item.{Item}
use Rattle.or_base.specs.declared.item.Stamped.{Stamped}
use Rattle.or_actor.specs.declared.output.Output.{Output}
use Rattle.or_actor.specs.declared.output.Output.TheVariants.{To}
use Rattle.net_record.specs.declared.role.Role.{Role}
use Rattle.net_record.specs.declared.role.Role.TheVariants.{Driver as DriverRole}
use Rattle.net_record.specs.declared.wire.Wire.{Wire}
use Rattle.net_record.specs.Wires.{wires, lane_of}
use Rattle.net_record.specs.World.{put, deliver, reader_of, is_empty}
use Rattle.net_record.proofs.Standing.{no_standing}
use Rattle.net_record.proofs.Places.{how_many, how_many-append, standings_at_start}
use Rattle.net_answers.proofs.LanesNamed.{driver_asks, driver_names, IsNamed, named_lane}

-- how many of these numbers are this one
abbrev pub how_often : ℕ → List ℕ → ℕ
how_often number numbers = how_many (map (λ n. n == number) numbers)

pub how_often-append : (number : ℕ) (some more : List ℕ) → how_often number (some ++ more) ≡ how_often number some + how_often number more
how_often-append number some more =
    ap how_many (map-append (λ n. n == number) some more) ∙ how_many-append (map (λ n. n == number) some) (map (λ n. n == number) more)

-- the actor with this number, if the test is passed
abbrev pub number_if : ℕ → Bool → List ℕ
number_if number passes = cond passes (number ∷ []) []

-- the numbers of the actors to which the driver sends what passes a test, in order
abbrev pub numbers_by : (Item → Bool) → List Output → List ℕ
numbers_by test [] = []
numbers_by test (To number item ∷ outputs) = number_if number (test item) ++ numbers_by test outputs

module _ (test : Item → Bool) where
  -- ---- how many wait

  abbrev pub passes : Stamped → Bool
  passes s = test s.item

  -- how many of the items on a lane pass it, where its reader is the actor with this number
  abbrev pub passing_on : ℕ → ℕ → List Stamped → ℕ
  passing_on number reader items = cond (reader == number) (how_many (map passes items)) 0

  -- how many of all that wait on lanes
  abbrev pub passing_waiting : ℕ → List (List Stamped) → List Wire → ℕ
  passing_waiting number [] wires = 0
  passing_waiting number (items ∷ lanes) [] = passing_on number 0 items + passing_waiting number lanes []
  passing_waiting number (items ∷ lanes) (wire ∷ wires) = passing_on number wire.reader items + passing_waiting number lanes wires

  on_append : (own : Bool) (some more : List Stamped) → cond own (how_many (map passes (some ++ more))) 0 ≡ cond own (how_many (map passes some)) 0 + cond own (how_many (map passes more)) 0
  on_append true some more = ap how_many (map-append passes some more) ∙ how_many-append (map passes some) (map passes more)
  on_append false some more = omega arith

  passing_on-append : (number reader : ℕ) (some more : List Stamped) → passing_on number reader (some ++ more) ≡ passing_on number reader some + passing_on number reader more
  passing_on-append number reader some more = on_append (reader == number) some more

  on_none : (own : Bool) → cond own (how_many (map passes [])) 0 ≡ 0
  on_none true = refl
  on_none false = refl

  passing_on-none : (number reader : ℕ) → passing_on number reader [] ≡ 0
  passing_on-none number reader = on_none (reader == number)

  -- other items on one of the lanes
  passing_waiting-set : (number : ℕ) (lanes : List (List Stamped)) (wires : List Wire) (lane : ℕ) (items : List Stamped)
      → passing_waiting number (set lanes lane items) wires + passing_on number (reader_of (slice_get wires lane)) (get_or lanes lane [])
      ≤ passing_waiting number lanes wires + passing_on number (reader_of (slice_get wires lane)) items
  passing_waiting-set number [] wires lane items = omega (arith, passing_on-none number (reader_of (slice_get wires lane)))
  passing_waiting-set number (here ∷ lanes) [] zero items = omega arith
  passing_waiting-set number (here ∷ lanes) (wire ∷ wires) zero items = omega arith
  passing_waiting-set number (here ∷ lanes) [] (suc lane) items = omega (arith, passing_waiting-set number lanes [] lane items)
  passing_waiting-set number (here ∷ lanes) (wire ∷ wires) (suc lane) items = omega (arith, passing_waiting-set number lanes wires lane items)

  none_waiting : (number reader : ℕ) (items : List Stamped) → is_empty items ≡ true → passing_on number reader items ≡ 0
  none_waiting number reader [] e = passing_on-none number reader
  none_waiting number reader (s ∷ others) e = cc e

  -- where no item waits
  pub passing_waiting-drained : (number : ℕ) (lanes : List (List Stamped)) (wires : List Wire) → list_all is_empty lanes ≡ true → passing_waiting number lanes wires ≡ 0
  passing_waiting-drained number [] wires e = refl
  passing_waiting-drained number (items ∷ lanes) [] e =
      let parts = and_parts (is_empty items) (list_all is_empty lanes) e in
      omega (arith, none_waiting number 0 items parts.0, passing_waiting-drained number lanes [] parts.1)
  passing_waiting-drained number (items ∷ lanes) (wire ∷ wires) e =
      let parts = and_parts (is_empty items) (list_all is_empty lanes) e in
      omega (arith, none_waiting number wire.reader items parts.0, passing_waiting-drained number lanes wires parts.1)

  -- the front item of a lane is taken
  pub passing_waiting-taken : (number : ℕ) (lanes : List (List Stamped)) (wires : List Wire) (lane : ℕ) (s : Stamped) (others : List Stamped) → get_or lanes lane [] ≡ s ∷ others
      → passing_waiting number (set lanes lane others) wires + passing_on number (reader_of (slice_get wires lane)) (s ∷ []) ≤ passing_waiting number lanes wires
  passing_waiting-taken number lanes wires lane s others e =
      let reader = reader_of (slice_get wires lane) in
      omega (arith, passing_waiting-set number lanes wires lane others, ap (passing_on number reader) e, passing_on-append number reader (s ∷ []) others)

  -- an item is put on a lane
  passing_waiting-put : (number : ℕ) (lanes : List (List Stamped)) (wires : List Wire) (lane : ℕ) (s : Stamped)
      → passing_waiting number (put lanes (Some lane) s) wires ≤ passing_waiting number lanes wires + passing_on number (reader_of (slice_get wires lane)) (s ∷ [])
  passing_waiting-put number lanes wires lane s =
      let reader = reader_of (slice_get wires lane) in
      omega (
        arith,
        passing_waiting-set number lanes wires lane (get_or lanes lane [] ++ s ∷ []),
        passing_on-append number reader (get_or lanes lane []) (s ∷ []),
      )

  -- ---- items that are put on lanes

  on_other : (number reader : ℕ) (items : List Stamped) → (reader ≡ number → ⊥) → passing_on number reader items ≡ 0
  on_other number reader items other = rw (ne_eqb reader number other) refl

  -- of a writer that has no lane to the actor
  abbrev NeverReaches : List Wire → ℕ → ℕ → Type 0
  NeverReaches wires writer number = (port lane : ℕ) → lane_of wires writer port ≡ Some lane → reader_of (slice_get wires lane) ≡ number → ⊥

  passing_waiting-put_other : (number : ℕ) (lanes : List (List Stamped)) (wires : List Wire) (lane : Option ℕ) (s : Stamped)
      → ((l : ℕ) → lane ≡ Some l → reader_of (slice_get wires l) ≡ number → ⊥) → passing_waiting number (put lanes lane s) wires ≤ passing_waiting number lanes wires
  passing_waiting-put_other number lanes wires None s other = omega arith
  passing_waiting-put_other number lanes wires (Some lane) s other =
      omega (arith, passing_waiting-put number lanes wires lane s, on_other number (reader_of (slice_get wires lane)) (s ∷ []) (other lane refl))

  passing_waiting-deliver_other : (number : ℕ) (wires : List Wire) (writer stamp : ℕ) (lanes : List (List Stamped)) (outputs : List Output) → NeverReaches wires writer number
      → passing_waiting number (deliver wires writer stamp lanes outputs) wires ≤ passing_waiting number lanes wires
  passing_waiting-deliver_other number wires writer stamp lanes [] never = omega arith
  passing_waiting-deliver_other number wires writer stamp lanes (To port item ∷ outputs) never =
      let s : Stamped = record { stamp = stamp; item = item } in
      let lane = lane_of wires writer port in
      omega (
        arith,
        passing_waiting-put_other number lanes wires lane s (never port),
        passing_waiting-deliver_other number wires writer stamp (put lanes lane s) outputs never,
      )

  read_by : (wires : List Wire) (writer port lane : ℕ) (is : IsNamed wires writer port lane) → reader_of (slice_get wires lane) ≡ is.wire.reader
  read_by wires writer port lane is = ap reader_of is.stands

  -- whoever isn't the driver reaches no desk
  pub passing_waiting-sent : (all : List Role) (number writer stamp : ℕ) (lanes : List (List Stamped)) (outputs : List Output) (desk : List ℕ × ℕ)
      → (get_or (standings_at_start all) number no_standing).desk ≡ Some desk → (get_or (standings_at_start all) writer no_standing).driver ≡ false
      → passing_waiting number (deliver (wires all) writer stamp lanes outputs) (wires all) ≤ passing_waiting number lanes (wires all)
  passing_waiting-sent all number writer stamp lanes outputs desk is other =
      let ws = wires all in
      let never : NeverReaches ws writer number = λ port lane e reads.
      let named = named_lane ws writer port lane e in
      let reader = sym (read_by ws writer port lane named) ∙ reads in
      let driver = driver_asks all lane named.wire desk named.stands (ap (λ n. (get_or (standings_at_start all) n no_standing).desk) reader ∙ is) in
      true≢false (sym driver ∙ ap (λ n. (get_or (standings_at_start all) n no_standing).driver) named.writes ∙ other) in
      passing_waiting-deliver_other number ws writer stamp lanes outputs never

  -- ---- what the driver asks

  own_counts : (own : Bool) → cond own (how_many (true ∷ [])) 0 ≡ how_many (own ∷ [])
  own_counts true = refl
  own_counts false = refl

  none_counts : (own : Bool) → cond own (how_many (false ∷ [])) 0 ≡ 0
  none_counts true = refl
  none_counts false = refl

  one_counts : (number port : ℕ) (one : Bool) → cond (port == number) (how_many (one ∷ [])) 0 ≡ how_often number (number_if port one)
  one_counts number port false = none_counts (port == number)
  one_counts number port true = own_counts (port == number)

  passing_waiting-put_asked : (number : ℕ) (lanes : List (List Stamped)) (wires : List Wire) (port : ℕ) (lane : Option ℕ) (s : Stamped)
      → ((l : ℕ) → lane ≡ Some l → reader_of (slice_get wires l) ≡ port)
      → passing_waiting number (put lanes lane s) wires ≤ passing_waiting number lanes wires + how_often number (number_if port (test s.item))
  passing_waiting-put_asked number lanes wires port None s reads = omega arith
  passing_waiting-put_asked number lanes wires port (Some lane) s reads =
      omega (
        arith,
        passing_waiting-put number lanes wires lane s,
        ap (λ r. passing_on number r (s ∷ [])) (reads lane refl),
        one_counts number port (test s.item),
      )

  -- the lanes of this writer have its ports as their readers
  abbrev NamesReaders : List Wire → ℕ → Type 0
  NamesReaders wires writer = (port lane : ℕ) → lane_of wires writer port ≡ Some lane → reader_of (slice_get wires lane) ≡ port

  passing_waiting-deliver_asked : (number : ℕ) (wires : List Wire) (writer stamp : ℕ) (lanes : List (List Stamped)) (outputs : List Output) → NamesReaders wires writer
      → passing_waiting number (deliver wires writer stamp lanes outputs) wires ≤ passing_waiting number lanes wires + how_often number (numbers_by test outputs)
  passing_waiting-deliver_asked number wires writer stamp lanes [] reads = omega arith
  passing_waiting-deliver_asked number wires writer stamp lanes (To port item ∷ outputs) reads =
      let s : Stamped = record { stamp = stamp; item = item } in
      let lane = lane_of wires writer port in
      omega (
        arith,
        passing_waiting-put_asked number lanes wires port lane s (reads port),
        passing_waiting-deliver_asked number wires writer stamp (put lanes lane s) outputs reads,
        how_often-append number (number_if port (test item)) (numbers_by test outputs),
      )

  -- of what the driver sends, no more wait for an actor than it is sent
  pub passing_waiting-issued : (others : List Role) (number stamp : ℕ) (lanes : List (List Stamped)) (outputs : List Output)
      → passing_waiting number (deliver (wires (DriverRole ∷ others)) 0 stamp lanes outputs) (wires (DriverRole ∷ others))
      ≤ passing_waiting number lanes (wires (DriverRole ∷ others)) + how_often number (numbers_by test outputs)
  passing_waiting-issued others number stamp lanes outputs =
      let ws = wires (DriverRole ∷ others) in
      let reads : NamesReaders ws 0 = λ port lane e.
      let named = named_lane ws 0 port lane e in
      read_by ws 0 port lane named ∙ sym (driver_names others lane named.wire named.stands named.writes) ∙ named.names in
      passing_waiting-deliver_asked number ws 0 stamp lanes outputs reads
