-- A turn, from what its parts made.
use Rattle.std.proofs.Common.{◌≡◌, ℕ, ◌<◌, ◌^◌, List, ◌++◌, true, drop, length, refl, ◌∙◌, ap, append_assoc}
use Rattle.std.specs.Prelude.{All}
use Rattle.std.specs.Map.{keys_of}
use Rattle.or_base.specs.declared.item.Item.{Item}
use Rattle.or_actor.specs.declared.output.Output.{Output}
use Rattle.or_actor.specs.Fits.{has_small_link, have_small_links}
use Rattle.kv_store.specs.declared.response.Response.{Response}
use Rattle.kv_store.specs.Store.{StoreState, item_change, persisted_by, with_own_written, store_after_item, entries_since, respond, floods, entries_told, store_step}
use Rattle.kv_store.proofs.Peers.{small_both, have_small_links-floods, have_small_links-told, small_peers}
use Rattle.kv_store.proofs.Responding.{small_response, is_on_small_link-item}

-- the store after it has responded
abbrev pub after_response : StoreState → Response → StoreState
after_response s response = record s { sessions = (respond s response).0 }

-- what is sent after the response doesn't depend on full syncs
abbrev sent_then : StoreState → ℕ → List (List ℕ) → List Output
sent_then now entries passed = floods now (drop entries now.journal) passed ++ entries_told now.kind (drop entries now.journal)

sent_same : (s now : StoreState) (item : Item) (response : Response) (passed : List (List ℕ))
    → response ≡ (item_change s item).response → passed ≡ (item_change s item).passed → now ≡ after_response (store_after_item s item) response
    → (respond (store_after_item s item) response).1 ++ sent_then now (length s.journal) passed ≡ (store_step s item).1
unfolding store_step floods
sent_same s now item response passed d p e = rw (e, d, p) refl

-- the store after the item and after what the node wrote then
pub turn_written : (s taken written : StoreState) (item : Item) (persisted : List (List ℕ)) → taken ≡ (item_change s item).store → persisted ≡ persisted_by item
    → written ≡ with_own_written taken persisted (drop (length s.journal) taken.journal) → written ≡ store_after_item s item
turn_written s taken written item persisted t p w = w ∙ rw (t, p) refl

pub turn_sent : (s written now : StoreState) (item : Item) (response : Response) (passed : List (List ℕ)) (out mid flooded after : List Output)
    → written ≡ store_after_item s item → response ≡ (item_change s item).response → passed ≡ (item_change s item).passed → now ≡ after_response written response
    → mid ≡ out ++ (respond written response).1 → flooded ≡ mid ++ floods now (drop (length s.journal) now.journal) passed
    → after ≡ flooded ++ entries_told now.kind (drop (length s.journal) now.journal) → after ≡ out ++ (store_step s item).1
turn_sent s written now item response passed out mid flooded after t d p e responded flood told =
    let is : now ≡ after_response (store_after_item s item) response = e ∙ ap (λ u. after_response u response) t in
    let floods_now = floods now (drop (length s.journal) now.journal) passed in
    let told_now = entries_told now.kind (drop (length s.journal) now.journal) in
    told ∙ ap (λ os. os ++ told_now) flood ∙ append_assoc mid floods_now told_now
    ∙ ap (λ os. os ++ (floods_now ++ told_now)) (responded ∙ ap (λ u. out ++ (respond u response).1) t)
    ∙ append_assoc out (respond (store_after_item s item) response).1 (floods_now ++ told_now)
    ∙ ap (λ os. out ++ os) (sent_same s now item response passed d p is)

-- the links of peers and of the item have small numbers, and so have those of all that is sent
pub small_step : (s : StoreState) (item : Item) → All (λ link. link < 2 ^ 31) (keys_of s.peers) → has_small_link item ≡ true → have_small_links (store_step s item).1 ≡ true
unfolding store_step
small_step s item peers small =
    let change = item_change s item in
    let after = store_after_item s item in
    let entries = entries_since s after in
    let all : All (λ link. link < 2 ^ 31) (keys_of after.peers) = small_peers s item peers small in
    small_both (respond after change.response).1 (floods after entries change.passed ++ entries_told after.kind entries)
    (small_response after change.response all (is_on_small_link-item s item small))
    (small_both (floods after entries change.passed) (entries_told after.kind entries) (have_small_links-floods after entries change.passed all)
    (have_small_links-told after.kind entries))

pub ruleset turn = (turn_written, turn_sent, small_step)
