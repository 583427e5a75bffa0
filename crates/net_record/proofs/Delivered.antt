-- Putting items on lanes takes none away.
use Rattle.std.proofs.Common.{◌≡◌, ℕ, ◌≤◌, inl, inr, List, [], ◌∷◌, ◌++◌, Option, Some, None, length, get_or, set, refl, ◌∙◌, ap, arith, length-set, get_or-set_same, get_or-set_other}
use Rattle.std.proofs.lemmas.Bool.{cases_lt, cases_eq}
use Rattle.std.proofs.lemmas.List.{set_past, length_push}
use Rattle.or_base.specs.declared.item.Stamped.{Stamped}
use Rattle.or_actor.specs.declared.output.Output.{Output}
use Rattle.or_actor.specs.declared.output.Output.TheVariants.{To}
use Rattle.net_record.specs.declared.wire.Wire.{Wire}
use Rattle.net_record.specs.Wires.{lane_of}
use Rattle.net_record.specs.World.{put, deliver}

pub length-put : (lanes : List (List Stamped)) (lane : Option ℕ) (s : Stamped) → length (put lanes lane s) ≡ length lanes
length-put lanes None s = refl
length-put lanes (Some lane) s = length-set lanes lane (get_or lanes lane [] ++ s ∷ [])

pub length-deliver : (wires : List Wire) (writer stamp : ℕ) (lanes : List (List Stamped)) (outputs : List Output) → length (deliver wires writer stamp lanes outputs) ≡ length lanes
length-deliver wires writer stamp lanes [] = refl
length-deliver wires writer stamp lanes (To port item ∷ outputs) =
    length-deliver wires writer stamp (put lanes (lane_of wires writer port) (record { stamp = stamp; item = item })) outputs
    ∙ length-put lanes (lane_of wires writer port) (record { stamp = stamp; item = item })

put_here : (lanes : List (List Stamped)) (lane : ℕ) (s : Stamped) → length (get_or lanes lane []) ≤ length (get_or (set lanes lane (get_or lanes lane [] ++ s ∷ [])) lane [])
put_here lanes lane s =
    elim (cases_lt lane (length lanes)) [
      | inl within ↦ omega (arith, ap length (get_or-set_same lanes lane (get_or lanes lane [] ++ s ∷ []) [] within), length_push (get_or lanes lane []) s)
      | inr past ↦ omega (arith, ap (λ ls. length (get_or ls lane [])) (set_past lanes lane (get_or lanes lane [] ++ s ∷ []) past))
    ]

-- as many items wait, or more
pub put_keeps : (lanes : List (List Stamped)) (to : Option ℕ) (s : Stamped) (lane : ℕ) → length (get_or lanes lane []) ≤ length (get_or (put lanes to s) lane [])
put_keeps lanes None s lane = omega arith
put_keeps lanes (Some to) s lane =
    elim (cases_eq lane to) [
      | inl same ↦ rw same (put_here lanes to s)
      | inr other ↦ omega (arith, ap length (get_or-set_other lanes to lane (get_or lanes to [] ++ s ∷ []) [] other))
    ]

pub deliver_keeps : (wires : List Wire) (writer stamp : ℕ) (lanes : List (List Stamped)) (outputs : List Output) (lane : ℕ)
    → length (get_or lanes lane []) ≤ length (get_or (deliver wires writer stamp lanes outputs) lane [])
deliver_keeps wires writer stamp lanes [] lane = omega arith
deliver_keeps wires writer stamp lanes (To port item ∷ outputs) lane =
    omega (
      arith,
      put_keeps lanes (lane_of wires writer port) (record { stamp = stamp; item = item }) lane,
      deliver_keeps wires writer stamp (put lanes (lane_of wires writer port) (record { stamp = stamp; item = item })) outputs lane,
    )
