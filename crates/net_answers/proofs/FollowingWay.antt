-- The entries that wait on the lane to a Decision: what its store sends is appended to them, and nobody else sends any. Items wait only
-- on lanes that their writers name by a port.
use Rattle.std.proofs.Common.{◌≡◌, ℕ, zero, suc, ◌<◌, inl, inr, List, [], ◌∷◌, ◌++◌, Option, Some, None, length, get_or, set, replicate, refl, sym, ap, ◌∙◌, subst, arith, append_assoc, append-nil, get_or-set_same, get_or-set_other}
use Rattle.std.specs.Prelude.{slice_get}
use Rattle.std.specs.List.{Contains, flat_map}
use Rattle.std.proofs.lemmas.Bool.{cases_eq, cases_lt}
use Rattle.std.proofs.lemmas.List.{set_past}
use Rattle.std.proofs.lemmas.List.Concat.{flat_map-append}
use Rattle.or_base.specs.declared.entry.JournalEntry.{JournalEntry}
use Rattle.or_base.specs.declared.item.Item.{Item}
use Rattle.or_base.specs.declared.item.Stamped.{Stamped}
use Rattle.or_base.proofs.Members.{Contains-later}
use Rattle.or_actor.specs.declared.output.Output.{Output}
use Rattle.or_actor.specs.declared.output.Output.TheVariants.{To}
use Rattle.or_actor.specs.Ports.{decision_port}
use Rattle.net_record.specs.declared.wire.Wire.{Wire}
use Rattle.net_record.specs.Wires.{lane_of}
use Rattle.net_record.specs.World.{put, deliver}
use Rattle.net_record.proofs.Delivered.{length-put}
use Rattle.net_agree.proofs.RoutedLanes.{port_is, IsDelivered, delivered_is}
use Rattle.net_answers.proofs.FollowingSends.{entry_in, entry_by, entries_by, entry_by_port, entry_by_other}

abbrev pub entry_of_item : Stamped → List JournalEntry
entry_of_item s = entry_in s.item

-- the entries that these items bring, in order
abbrev pub entries_on : List Stamped → List JournalEntry
entries_on items = flat_map entry_of_item items

-- ---- a lane that the writer doesn't name

put_other : (lanes : List (List Stamped)) (to : Option ℕ) (s : Stamped) (lane : ℕ) → (to ≡ Some lane → ⊥) → get_or (put lanes to s) lane [] ≡ get_or lanes lane []
put_other lanes None s lane other = refl
put_other lanes (Some to) s lane other = get_or-set_other lanes to lane (get_or lanes to [] ++ s ∷ []) [] (λ same. other (ap Some (sym same)))

pub way_other : (wires : List Wire) (writer stamp : ℕ) (lanes : List (List Stamped)) (outputs : List Output) (lane : ℕ) → ((port : ℕ) → lane_of wires writer port ≡ Some lane → ⊥)
    → get_or (deliver wires writer stamp lanes outputs) lane [] ≡ get_or lanes lane []
way_other wires writer stamp lanes [] lane never = refl
way_other wires writer stamp lanes (To port item ∷ outputs) lane never =
    let s : Stamped = record { stamp = stamp; item = item } in
    let to = lane_of wires writer port in
    way_other wires writer stamp (put lanes to s) outputs lane never ∙ put_other lanes to s lane (never port)

-- ---- the lane that it names by the port of Decision

one_more : (lanes : List (List Stamped)) (lane : ℕ) (s : Stamped) → lane < length lanes
    → entries_on (get_or (put lanes (Some lane) s) lane []) ≡ entries_on (get_or lanes lane []) ++ entry_in s.item
one_more lanes lane s within =
    let before = get_or lanes lane [] in
    ap entries_on (get_or-set_same lanes lane (before ++ s ∷ []) [] within)
    ∙ flat_map-append entry_of_item before (s ∷ [])
    ∙ ap (λ es. entries_on before ++ es) (append-nil (entry_in s.item))

module _ (wires : List Wire) (writer stamp lane : ℕ) (named : lane_of wires writer decision_port ≡ Some lane) (only : (port : ℕ) → lane_of wires writer port ≡ Some lane → port ≡ decision_port) where
  put_by : (lanes : List (List Stamped)) (port : ℕ) (item : Item) → lane < length lanes
      → entries_on (get_or (put lanes (lane_of wires writer port) (record { stamp = stamp; item = item })) lane [])
      ≡ entries_on (get_or lanes lane []) ++ entry_by decision_port (To port item)
  put_by lanes port item within =
      let s : Stamped = record { stamp = stamp; item = item } in
      let before = entries_on (get_or lanes lane []) in
      elim (cases_eq port decision_port) [
        | inl same ↦
            let to = ap (lane_of wires writer) same ∙ named in
            let brings = ap (λ p. entry_by decision_port (To p item)) same ∙ entry_by_port decision_port item in
            ap (λ t. entries_on (get_or (put lanes t s) lane [])) to ∙ one_more lanes lane s within ∙ ap (λ es. before ++ es) (sym brings)
        | inr other ↦
            let none = entry_by_other decision_port port item other in
            ap entries_on (put_other lanes (lane_of wires writer port) s lane (λ to. other (only port to)))
            ∙ sym (append-nil before) ∙ ap (λ es. before ++ es) (sym none)
      ]

  pub way_own : (lanes : List (List Stamped)) (outputs : List Output) → lane < length lanes
      → entries_on (get_or (deliver wires writer stamp lanes outputs) lane []) ≡ entries_on (get_or lanes lane []) ++ entries_by decision_port outputs
  way_own lanes [] within = sym (append-nil (entries_on (get_or lanes lane [])))
  way_own lanes (To port item ∷ outputs) within =
      let s : Stamped = record { stamp = stamp; item = item } in
      let to = lane_of wires writer port in
      let long = length-put lanes to s in
      way_own (put lanes to s) outputs (omega (arith, within, long))
      ∙ ap (λ es. es ++ entries_by decision_port outputs) (put_by lanes port item within)
      ∙ append_assoc (entries_on (get_or lanes lane [])) (entry_by decision_port (To port item)) (entries_by decision_port outputs)

-- ---- lanes with a name

-- where an item waits, the lane's writer names the lane by its port
abbrev pub AreNamed : List Wire → List (List Stamped) → Type 0
AreNamed wires lanes = (lane : ℕ) (wire : Wire) (s : Stamped) → slice_get wires lane ≡ Some wire → Contains (get_or lanes lane []) s → lane_of wires wire.writer wire.port ≡ Some lane

pub named_deliver : (wires : List Wire) (writer stamp : ℕ) (lanes : List (List Stamped)) (outputs : List Output) → AreNamed wires lanes → AreNamed wires (deliver wires writer stamp lanes outputs)
named_deliver wires writer stamp lanes outputs named lane wire s there among =
    elim (delivered_is wires writer stamp lanes outputs lane s among) [
      | inl before ↦ named lane wire s there before
      | inr sent ↦ by_port sent
    ] where
      by_port : IsDelivered wires writer outputs lane s.item → lane_of wires wire.writer wire.port ≡ Some lane
      by_port sent =
          let is = port_is wires writer sent.port lane wire sent.on there in
          ap (λ n. lane_of wires n wire.port) is.0 ∙ ap (lane_of wires writer) is.1 ∙ sent.on

-- what waits once the front item of a lane is taken waited before
still_waits : (lanes : List (List Stamped)) (from : ℕ) (s : Stamped) (others : List Stamped) (lane : ℕ) (t : Stamped) → get_or lanes from [] ≡ s ∷ others
    → Contains (get_or (set lanes from others) lane []) t → Contains (get_or lanes lane []) t
still_waits lanes from s others lane t front among =
    elim (cases_eq lane from) [
      | inl same ↦ elim (cases_lt from (length lanes)) [
        | inl within ↦
            let here : get_or (set lanes from others) lane [] ≡ others = ap (λ n. get_or (set lanes from others) n []) same ∙ get_or-set_same lanes from others [] within in
            let was : s ∷ others ≡ get_or lanes lane [] = sym front ∙ ap (λ n. get_or lanes n []) (sym same) in
            subst (λ items. Contains items t) was (Contains-later s others t (subst (λ items. Contains items t) here among))
        | inr past ↦ subst (λ ls. Contains (get_or ls lane []) t) (set_past lanes from others past) among
      ]
      | inr other ↦ subst (λ items. Contains items t) (get_or-set_other lanes from lane others [] other) among
    ]

pub named_taken : (wires : List Wire) (lanes : List (List Stamped)) (from : ℕ) (s : Stamped) (others : List Stamped) → get_or lanes from [] ≡ s ∷ others → AreNamed wires lanes
    → AreNamed wires (set lanes from others)
named_taken wires lanes from s others front named lane wire t there among = named lane wire t there (still_waits lanes from s others lane t front among)

none_there : (n lane : ℕ) → get_or {A = List Stamped} (replicate n []) lane [] ≡ []
none_there zero lane = refl
none_there (suc n) zero = refl
none_there (suc n) (suc lane) = none_there n lane

-- before anything waits
pub way_start : (n lane : ℕ) → entries_on (get_or (replicate n []) lane []) ≡ []
way_start n lane = ap entries_on (none_there n lane)

pub named_start : (wires : List Wire) (n : ℕ) → AreNamed wires (replicate n [])
named_start wires n lane wire s there among = absurd (nothing (subst (λ items. Contains items s) (none_there n lane) among)) where
  nothing : Contains [] s → ⊥
  nothing none = omega (arith, none.1)
