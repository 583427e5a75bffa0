-- Floods to the peers of a store, whose links have small numbers.
use Rattle.std.proofs.Common.{◌≡◌, ℕ, ◌<◌, ◌^◌, List, [], ◌∷◌, ◌++◌, Option, Some, None, Result, Ok, Err, Bool, true, false, ◌&&◌, if◌then◌else◌, refl, sym, ◌∙◌, ap, append_assoc, arith, drop, length}
use Rattle.std.specs.Prelude.{All}
use Rattle.std.specs.List.{flat_map}
use Rattle.std.specs.Map.{keys_of, remove_entry}
use Rattle.std.specs.Ordering.{nat_cmp}
use Rattle.std.specs.BTreeMap.{insert_entry, is_at}
use Rattle.std.proofs.Math.Seq.{drop-length}
use Rattle.std.proofs.lemmas.List.{append-nil}
use Rattle.std.proofs.lemmas.List.Elements.{All-head, All-tail, All-same}
use Rattle.std.proofs.lemmas.List.Folds.{list_all-append}
use Rattle.std.proofs.lemmas.Bool.{ltb-true}
use Rattle.std.proofs.lemmas.Bool.Decides.{nat_tests}
use Rattle.std.proofs.lemmas.Map.Views.{All-keys-insert_entry, All-map-remove_entry}
use Rattle.or_base.specs.declared.entry.JournalEntry.{JournalEntry}
use Rattle.or_base.specs.Names.{is_among}
use Rattle.or_base.specs.declared.item.Item.{Item}
use Rattle.or_base.specs.declared.item.Item.TheVariants.{PeerUp, PeerDown, Net}
use Rattle.or_base.specs.declared.message.Msg.{Msg}
use Rattle.or_base.specs.declared.message.Msg.TheVariants.{Flood, Reply, Ack}
use Rattle.or_base.specs.declared.origin.Origin.TheVariants as origin
use Rattle.kv_sync.specs.declared.session.Session.{Session}
use Rattle.kv_sync.specs.declared.session.Stale.{Stale}
use Rattle.kv_sync.specs.declared.session.SyncPhase.TheVariants.{Dumped, Pushed}
use Rattle.kv_sync.specs.Sessions.{current}
use Rattle.or_actor.specs.declared.output.Output.{Output}
use Rattle.or_actor.specs.Fits.{has_small_link, sends_small_link, have_small_links}
use Rattle.or_base.specs.declared.kind.Kind.{Kind}
use Rattle.or_base.specs.declared.kind.Kind.TheVariants.{Stores, Full}
use Rattle.kv_flood.specs.Flooding.{is_target, flood_message}
use Rattle.kv_store.specs.Store.{StoreState, store_after_offers, store_after_reply, store_after_ack, message_change, item_change, message_on, relay_to, floods_to, relayed_keys, own_keys, floods, entries_told}

-- ---- what floods name

pub small_message : (me : List ℕ) (link : ℕ) (msg : Option Msg) → link < 2 ^ 31 → have_small_links (message_on me link msg) ≡ true
small_message me link None small = refl
small_message me link (Some msg) small = grind (arith, nat_tests)

small_if : (test : Bool) (outputs : List Output) → have_small_links outputs ≡ true → have_small_links (if test then outputs else []) ≡ true
small_if true outputs small = small
small_if false outputs small = refl

pub small_both : (xs ys : List Output) → have_small_links xs ≡ true → have_small_links ys ≡ true → have_small_links (xs ++ ys) ≡ true
small_both xs ys hx hy =
    list_all-append sends_small_link xs ys ∙ ap (λ b. b && have_small_links ys) hx ∙ hy

small_relay : (me : List ℕ) (passed : List (List ℕ)) (relayed : Option Msg) (peer : ℕ × List ℕ) → peer.0 < 2 ^ 31 → have_small_links (relay_to me passed peer relayed) ≡ true
small_relay me passed None peer small = refl
small_relay me passed (Some msg) peer small =
    small_if (is_target me peer.1 passed) (message_on me peer.0 (Some msg)) (small_message me peer.0 (Some msg) small)

small_to : (me : List ℕ) (passed : List (List ℕ)) (relayed own : Option Msg) (peer : ℕ × List ℕ) → peer.0 < 2 ^ 31 → have_small_links (floods_to me passed relayed own peer) ≡ true
small_to me passed relayed own peer small =
    small_both (relay_to me passed peer relayed) (message_on me peer.0 own) (small_relay me passed relayed peer small) (small_message me peer.0 own small)

small_all : (me : List ℕ) (passed : List (List ℕ)) (relayed own : Option Msg) (peers : List (ℕ × List ℕ)) → All (λ link. link < 2 ^ 31) (keys_of peers)
    → have_small_links (flat_map (floods_to me passed relayed own) peers) ≡ true
small_all me passed relayed own [] h = refl
small_all me passed relayed own (p ∷ peers) h =
    small_both (floods_to me passed relayed own p) (flat_map (floods_to me passed relayed own) peers)
    (small_to me passed relayed own p (All-head (λ link. link < 2 ^ 31) p.0 (keys_of peers) h))
    (small_all me passed relayed own peers (All-tail (λ link. link < 2 ^ 31) p.0 (keys_of peers) h))

-- floods to peers on links with small numbers name such links
pub have_small_links-floods : (s : StoreState) (entries : List JournalEntry) (passed : List (List ℕ)) → All (λ link. link < 2 ^ 31) (keys_of s.peers)
    → have_small_links (floods s entries passed) ≡ true
unfolding floods
have_small_links-floods s entries passed h =
    small_all s.me passed (flood_message s.journal s.moment (relayed_keys entries) passed s.me) (flood_message s.journal s.moment (own_keys entries) [] s.me) s.peers h

-- what Decision is told names no link
pub have_small_links-told : (kind : Kind) (entries : List JournalEntry) → have_small_links (entries_told kind entries) ≡ true
have_small_links-told Stores entries = refl
have_small_links-told Full [] = refl
have_small_links-told Full (entry ∷ entries) = have_small_links-told Full entries

-- the floods of a turn, from their two messages
pub floods_made : (s : StoreState) (entries : List JournalEntry) (passed : List (List ℕ)) (relayed own : Option Msg)
    → relayed ≡ flood_message s.journal s.moment (relayed_keys entries) passed s.me → own ≡ flood_message s.journal s.moment (own_keys entries) [] s.me
    → flat_map (floods_to s.me passed relayed own) s.peers ≡ floods s entries passed
unfolding floods
floods_made s entries passed relayed own r o = rw (r, o) refl

no_floods : (me : List ℕ) (passed : List (List ℕ)) (peers : List (ℕ × List ℕ)) → flat_map (floods_to me passed None None) peers ≡ []
no_floods me passed [] = refl
no_floods me passed (peer ∷ peers) = no_floods me passed peers

-- a turn that appended nothing floods nothing
pub nothing_flooded : (s : StoreState) (entries : ℕ) (passed : List (List ℕ)) (out : List Output) → length s.journal ≡ entries
    → out ≡ out ++ floods s (drop entries s.journal) passed
unfolding floods own_keys relayed_keys flood_message
nothing_flooded s entries passed out e =
    let none : floods s (drop entries s.journal) passed ≡ [] = rw (sym e, drop-length s.journal) (no_floods s.me passed s.peers) in
    sym (ap (λ os. out ++ os) none ∙ append-nil out)

-- ---- the peers

-- the links of the other peers
pub small_rest : (p : ℕ × List ℕ) (left rest : List (ℕ × List ℕ)) → left ≡ p ∷ rest → All (λ link. link < 2 ^ 31) (keys_of left) → All (λ link. link < 2 ^ 31) (keys_of rest)
small_rest p left rest e h = All-tail (λ link. link < 2 ^ 31) p.0 (keys_of rest) (rw e at h)

-- the link of this peer
pub small_first : (p : ℕ × List ℕ) (left rest : List (ℕ × List ℕ)) → left ≡ p ∷ rest → All (λ link. link < 2 ^ 31) (keys_of left) → p.0 < 2 ^ 31
small_first p left rest e h = All-head (λ link. link < 2 ^ 31) p.0 (keys_of rest) (rw e at h)

-- one peer more
pub small_with : (link : ℕ) (peer : List ℕ) (peers after : List (ℕ × List ℕ)) → after ≡ insert_entry nat_cmp peers link peer
    → All (λ l. l < 2 ^ 31) (keys_of peers) → link < 2 ^ 31 → All (λ l. l < 2 ^ 31) (keys_of after)
small_with link peer peers after e h small =
    All-same (λ l. l < 2 ^ 31) (keys_of after) (keys_of (insert_entry nat_cmp peers link peer)) (ap keys_of e)
    (All-keys-insert_entry nat_cmp link peer (λ l. l < 2 ^ 31) peers h small)

-- one peer less
pub small_without : (link : ℕ) (peers after : List (ℕ × List ℕ)) → after ≡ remove_entry (is_at (nat_cmp link)) peers
    → All (λ l. l < 2 ^ 31) (keys_of peers) → All (λ l. l < 2 ^ 31) (keys_of after)
small_without link peers after e h =
    All-same (λ l. l < 2 ^ 31) (keys_of after) (keys_of (remove_entry (is_at (nat_cmp link)) peers)) (ap keys_of e)
    (All-map-remove_entry (is_at (nat_cmp link)) (λ p. p.0) (λ l. l < 2 ^ 31) peers h)

-- those of a store that has taken an item
message_peers : (s : StoreState) (link : ℕ) (from : List ℕ) (msg : Msg) → s.peers ≡ (message_change s link from msg).store.peers
message_peers s link from (Flood passed pairs) = flood_peers (is_among s.me passed) where
  flood_peers : (test : Bool) → s.peers ≡ (if test then s else store_after_offers s pairs origin.Flood).peers
  flood_peers true = refl
  flood_peers false = refl
message_peers s link from (Reply session b0 pairs wanted withheld) = reply_peers (current s.sessions link session Dumped) where
  reply_peers : (running : Result Session Stale) → s.peers ≡ (store_after_reply s link b0 pairs withheld running).peers
  reply_peers (Ok session) = refl
  reply_peers (Err stale) = refl
message_peers s link from (Ack session) = ack_peers (current s.sessions link session Pushed) where
  ack_peers : (running : Result Session Stale) → s.peers ≡ (store_after_ack s link running).peers
  ack_peers (Ok session) = refl
  ack_peers (Err stale) = refl
message_peers s link from _ = refl

pub small_peers : (s : StoreState) (item : Item) → All (λ l. l < 2 ^ 31) (keys_of s.peers) → has_small_link item ≡ true → All (λ l. l < 2 ^ 31) (keys_of (item_change s item).store.peers)
unfolding item_change
small_peers s (PeerUp link peer) all small = small_with link peer s.peers (insert_entry nat_cmp s.peers link peer) refl all (ltb-true link (2 ^ 31) small)
small_peers s (PeerDown link) all small = small_without link s.peers (remove_entry (is_at (nat_cmp link)) s.peers) refl all
small_peers s (Net link from msg) all small =
    All-same (λ l. l < 2 ^ 31) (keys_of (message_change s link from msg).store.peers) (keys_of s.peers) (ap keys_of (sym (message_peers s link from msg))) all
small_peers s _ all small = all

-- one peer's floods more
pub flooded_more : (to : ℕ × List ℕ → List Output) (p : ℕ × List ℕ) (left rest : List (ℕ × List ℕ)) (out after all : List Output)
    → left ≡ p ∷ rest → after ≡ out ++ to p → out ++ flat_map to left ≡ all → after ++ flat_map to rest ≡ all
flooded_more to p left rest out after all e sent h =
    ap (λ xs. xs ++ flat_map to rest) sent ∙ append_assoc out (to p) (flat_map to rest)
    ∙ sym (ap (λ ps. out ++ flat_map to ps) e) ∙ h
