-- What a store floods are floods.
use Rattle.std.proofs.Common.{◌≡◌, ℕ, List, [], ◌∷◌, Bool, true, false, cond, Option, Some, None, refl, subst}
use Rattle.std.specs.List.{flat_map}
use Rattle.or_base.specs.declared.value.Pair.{Pair}
use Rattle.or_base.specs.declared.entry.JournalEntry.{JournalEntry}
use Rattle.or_base.specs.declared.message.Msg.{Msg}
use Rattle.kv_table.specs.Sending.{sent_pairs}
use Rattle.kv_flood.specs.Flooding.{is_target, flood_of, flood_message}
use Rattle.kv_store.specs.Store.{message_on, relay_to, floods_to, floods, relayed_keys, own_keys}
use Rattle.kv_agree.proofs.PairedSent.{SendsOn, sends_nothing, sends_both, sends_message, sends_one, some_same, IsFlood, FloodsAreFloods}

-- a flood, if there is one
abbrev IsFloodIfAny : Option Msg → Type 0
IsFloodIfAny flood = (msg : Msg) → flood ≡ Some msg → IsFlood msg

flood_of_pairs : (passed : List (List ℕ)) (me : List ℕ) (pairs : List Pair) → IsFloodIfAny (flood_of passed me pairs)
flood_of_pairs passed me [] msg same = cc
flood_of_pairs passed me (pair ∷ pairs) msg same = subst IsFlood (some_same same) refl

flood_of_keys : (journal : List JournalEntry) (now : ℕ) (keys passed : List (List ℕ)) (me : List ℕ) → IsFloodIfAny (flood_message journal now keys passed me)
unfolding flood_message
flood_of_keys journal now keys passed me = flood_of_pairs passed me (sent_pairs journal now keys)

sends_relayed : (link : ℕ) (me : List ℕ) (passed : List (List ℕ)) (peer : ℕ × List ℕ) (relayed : Option Msg) → IsFloodIfAny relayed → SendsOn link me IsFlood (relay_to me passed peer relayed)
sends_relayed link me passed peer None is = sends_nothing link me IsFlood
sends_relayed link me passed peer (Some msg) is = by_test (is_target me peer.1 passed) where
  by_test : (test : Bool) → SendsOn link me IsFlood (cond test (message_on me peer.0 (Some msg)) [])
  by_test true = sends_one link peer.0 me IsFlood msg (λ here. is msg refl)
  by_test false = sends_nothing link me IsFlood

sends_flooded : (link : ℕ) (me : List ℕ) (passed : List (List ℕ)) (relayed own : Option Msg) (peers : List (ℕ × List ℕ)) → IsFloodIfAny relayed → IsFloodIfAny own
    → SendsOn link me IsFlood (flat_map (floods_to me passed relayed own) peers)
sends_flooded link me passed relayed own [] is_relayed is_own = sends_nothing link me IsFlood
sends_flooded link me passed relayed own (peer ∷ peers) is_relayed is_own =
    sends_both link me IsFlood (floods_to me passed relayed own peer) (flat_map (floods_to me passed relayed own) peers)
    (sends_both link me IsFlood (relay_to me passed peer relayed) (message_on me peer.0 own) (sends_relayed link me passed peer relayed is_relayed)
    (sends_message link peer.0 me IsFlood own (λ msg here same. is_own msg same)))
    (sends_flooded link me passed relayed own peers is_relayed is_own)

pub floods_are_floods : FloodsAreFloods
unfolding floods
floods_are_floods link s entries passed =
    sends_flooded link s.me passed (flood_message s.journal s.moment (relayed_keys entries) passed s.me) (flood_message s.journal s.moment (own_keys entries) [] s.me) s.peers
    (flood_of_keys s.journal s.moment (relayed_keys entries) passed s.me) (flood_of_keys s.journal s.moment (own_keys entries) [] s.me)
