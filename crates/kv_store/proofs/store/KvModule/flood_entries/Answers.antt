use Rattle.std.proofs.Common.{◌≡◌, ◌++◌, [], ℕ, ◌-◌, List, take, drop, length, sym, ap, ◌∙◌}
use Rattle.std.proofs.Math.Seq.{take-length}
use Rattle.std.proofs.lemmas.List.{length-drop}
use Rattle.kv_flood.specs.Flooding.{flood_message}
use Rattle.kv_store.specs.Store.{StoreState, relayed_keys, own_keys}
use Rattle.kv_store.proofs.Peers.{floods_made}
use Rattle.kv_store.proofs.store.KvModule.flood_entries.Goals as goal

pub returns : goal.returns
returns c =
    let i = c.self.inside in
    let s : StoreState = record {
      kind = i.kind;
      me = i.me;
      journal = i.table;
      moment = i.moment;
      owned = i.owned;
      peers = i.peers.entries;
      sessions = i.sessions;
      stale = i.stale;
      done = i.done.items;
    } in
    let all = c.journal.result.now in
    let new : take (length all - c.args.entries) (drop c.args.entries all) ≡ drop c.args.entries i.table =
    ap (λ n. take n (drop c.args.entries all)) (sym (length-drop c.args.entries all)) ∙ take-length (drop c.args.entries all)
    ∙ ap (drop c.args.entries) c.journal.ensures.entries in
    let keys_relayed = c.as_slice.ensures.value ∙ c.in_ok-own.ensures.relayed ∙ ap relayed_keys new in
    let keys_own = c.as_slice-2.ensures.value ∙ c.in_ok-own.ensures.own ∙ ap own_keys new in
    let relayed = c.in_ok-flood_message.ensures ∙ ap (λ (ks : List (List ℕ)). flood_message i.table i.moment ks c.args.passed.now i.me) keys_relayed in
    let own = c.in_ok-flood_message-2.ensures ∙ ap (λ (ks : List (List ℕ)). flood_message i.table i.moment ks [] i.me) keys_own in
    rw (← c.self.view_is)
    (c.in_ok-send.ensures ∙ ap (λ os. c.args.out.now ++ os)
    (floods_made s (drop c.args.entries i.table) c.args.passed.now c.in_ok-flood_message.field-0 c.in_ok-flood_message-2.field-0 relayed own))
