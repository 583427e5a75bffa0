-- A link makes nothing up.
use Rattle.std.proofs.Common.{◌≡◌, ℕ, List, [], ◌∷◌, ◌++◌, Bool, true, false, Option, Some, None, map, if◌then◌else◌, ◌⊎◌, inl, inr, refl, sym, ◌∙◌, ap, subst, arith}
use Rattle.std.specs.Str.{bytes_eq}
use Rattle.std.specs.List.{All, Contains}
use Rattle.std.proofs.lemmas.List.Elements.{All-nil, All-cons, All-append, All-map, All-weaker, All-contains, All-contains_itself, Contains-append_left, Contains-append_right, Contains-append_cases}
use Rattle.std.proofs.lemmas.Slice.Eq.{bytes_eq-Decides}
use Rattle.or_base.specs.declared.act.Act.{Act}
use Rattle.or_base.specs.declared.item.Item.{Item}
use Rattle.or_base.specs.declared.item.Item.TheVariants.{Up, Down, Script, Tick, Net, PeerUp}
use Rattle.or_base.specs.declared.kind.Kind.{Kind}
use Rattle.or_base.specs.declared.kind.Kind.TheVariants.{Stores, Full}
use Rattle.or_base.specs.declared.message.Msg.{Msg}
use Rattle.or_actor.specs.declared.output.Output.{Output}
use Rattle.or_actor.specs.declared.output.Output.TheVariants.{To}
use Rattle.net_link.specs.declared.end.End.{End}
use Rattle.net_link.specs.declared.end.End.TheVariants.{A, B}
use Rattle.net_link.specs.End.{other_end}
use Rattle.net_link.specs.Link.{Direction, LinkState, direction_after, forwards, held_messages, with_acts, node_at, direction_from, with_direction, end_of, message_to, up_told, down_told, up_to, down_to, carry_step, script_step, without_held_messages, held_from, link_step}
use Rattle.net_link.specs.Flow.{held_of, Brings, WasThere, IsAcross, IsPeerAcross, LinksMakeNothingUp}
use Rattle.net_link.proofs.Came.{Came, held_came, forwards_came}
use Rattle.net_link.proofs.Plain.{node_found}

-- ---- what is held back of a node, by ends

-- the direction of an end's messages held it back, or the item brings it of the node there
abbrev CameFrom : LinkState → Item → End → Msg → Type 0
CameFrom s item end msg = Contains (held_messages (direction_from s end)) msg ⊎ Brings item (node_at s end) msg

same_bytes : (node : List ℕ) → bytes_eq node node ≡ true
same_bytes node = (bytes_eq-Decides node node).1 refl

held_if : (test : Bool) (msgs : List Msg) (msg : Msg) → test ≡ true → Contains msgs msg → Contains (if test then msgs else []) msg
held_if true msgs msg same held = held
held_if false msgs msg same held = cc

held_there : (s : LinkState) (end : End) (msg : Msg) → Contains (held_messages (direction_from s end)) msg → Contains (held_of s (node_at s end)) msg
held_there s A msg held =
    Contains-append_left (if bytes_eq s.a s.a then held_messages s.from_a else []) (if bytes_eq s.b s.a then held_messages s.from_b else []) msg
    (held_if (bytes_eq s.a s.a) (held_messages s.from_a) msg (same_bytes s.a) held)
held_there s B msg held =
    Contains-append_right (if bytes_eq s.a s.b then held_messages s.from_a else []) (if bytes_eq s.b s.b then held_messages s.from_b else []) msg
    (held_if (bytes_eq s.b s.b) (held_messages s.from_b) msg (same_bytes s.b) held)

was_there : (s : LinkState) (item : Item) (end : End) (msg : Msg) → CameFrom s item end msg → WasThere s item (node_at s end) msg
was_there s item end msg (inl held) = inl (held_there s end msg held)
was_there s item end msg (inr brought) = inr brought

-- the end whose direction holds the message of the node back
record IsHeldFrom (s : LinkState) (node : List ℕ) (msg : Msg) : Type 0 where
  pub end : End
  pub at : node_at s end ≡ node
  pub held : Contains (held_messages (direction_from s end)) msg

from_if : (s : LinkState) (node : List ℕ) (msg : Msg) (end : End) (test : Bool) → bytes_eq (node_at s end) node ≡ test
    → Contains (if test then held_messages (direction_from s end) else []) msg → IsHeldFrom s node msg
from_if s node msg end true same held = record { end = end; at = (bytes_eq-Decides (node_at s end) node).0 same; held = held }
from_if s node msg end false same (k, within, at) = absurd (omega arith)

held_from_end : (s : LinkState) (node : List ℕ) (msg : Msg) → Contains (held_of s node) msg → IsHeldFrom s node msg
held_from_end s node msg held =
    elim (Contains-append_cases (if bytes_eq s.a node then held_messages s.from_a else []) (if bytes_eq s.b node then held_messages s.from_b else []) msg held) [
      | inl by_a ↦ from_if s node msg A (bytes_eq s.a node) refl by_a
      | inr by_b ↦ from_if s node msg B (bytes_eq s.b node) refl by_b
    ]

-- ---- a turn

-- what the law says of one output, as a condition on it: so whole lists of outputs meet it by the lemmas on `All`
abbrev IsSent : LinkState → Item → Output → Type 0
IsSent s item (To port (Net link node msg)) = (link ≡ s.link) × IsAcross s port node msg × WasThere s item node msg
IsSent s item (To port (PeerUp link peer)) = (link ≡ s.link) × IsPeerAcross s port peer
IsSent s item (To port _) = Unit {0}

-- what the law says of a turn, by ends
record IsFair (s : LinkState) (item : Item) (turn : LinkState × List Output) : Type 0 where
  pub kind : turn.0.kind ≡ s.kind
  pub link : turn.0.link ≡ s.link
  pub a : turn.0.a ≡ s.a
  pub b : turn.0.b ≡ s.b
  pub from_a : All (CameFrom s item A) (held_messages turn.0.from_a)
  pub from_b : All (CameFrom s item B) (held_messages turn.0.from_b)
  pub sent : All (IsSent s item) turn.1

stays_held : (s : LinkState) (item : Item) (end : End) → All (CameFrom s item end) (held_messages (direction_from s end))
stays_held s item end =
    All-weaker (Contains (held_messages (direction_from s end))) (CameFrom s item end) (λ msg held. inl held) (held_messages (direction_from s end))
    (All-contains_itself (held_messages (direction_from s end)))

sent_across : (s : LinkState) (item : Item) (from : End) (msg : Msg) → CameFrom s item from msg → IsSent s item (message_to s (other_end from) msg)
sent_across s item A msg came = (refl, record { end = B; to = refl; from = refl }, was_there s item A msg came)
sent_across s item B msg came = (refl, record { end = A; to = refl; from = refl }, was_there s item B msg came)

all_across : (s : LinkState) (item : Item) (from : End) (msgs : List Msg) → All (CameFrom s item from) msgs → All (IsSent s item) (map (message_to s (other_end from)) msgs)
all_across s item from msgs came =
    All-map (IsSent s item) (message_to s (other_end from)) msgs
    (All-weaker (CameFrom s item from) (λ msg. IsSent s item (message_to s (other_end from) msg)) (sent_across s item from) msgs came)

both_sent : (s : LinkState) (item : Item) (x y : Output) → IsSent s item x → IsSent s item y → All (IsSent s item) (x ∷ y ∷ [])
both_sent s item x y here there = All-cons (IsSent s item) x (y ∷ []) here (All-cons (IsSent s item) y [] there (All-nil (IsSent s item)))

up_across : (s : LinkState) (item : Item) (end : End) (kind : Kind) → s.kind ≡ kind → IsSent s item (up_told kind s end)
up_across s item end Stores is = (refl, record { end = end; kind = is; to = refl; from = refl })
up_across s item end Full is = tt

down_across : (s : LinkState) (item : Item) (end : End) (kind : Kind) → IsSent s item (down_told kind s end)
down_across s item end Stores = tt
down_across s item end Full = tt

fair_if : (s : LinkState) (item : Item) (test : Bool) (t u : LinkState × List Output) → IsFair s item t → IsFair s item u → IsFair s item (if test then t else u)
fair_if s item true t u ft fu = ft
fair_if s item false t u ft fu = fu

fair_ignore : (s : LinkState) (item : Item) → IsFair s item (s, [])
fair_ignore s item = record { kind = refl; link = refl; a = refl; b = refl; from_a = stays_held s item A; from_b = stays_held s item B; sent = All-nil (IsSent s item) }

-- one direction is another now
fair_direction : (s : LinkState) (item : Item) (from : End) (d : Direction) (sent : List Output)
    → All (CameFrom s item from) (held_messages d) → All (IsSent s item) sent → IsFair s item (with_direction s from d, sent)
fair_direction s item A d sent held fair = record { kind = refl; link = refl; a = refl; b = refl; from_a = held; from_b = stays_held s item B; sent = fair }
fair_direction s item B d sent held fair = record { kind = refl; link = refl; a = refl; b = refl; from_a = stays_held s item A; from_b = held; sent = fair }

-- the message that came is brought of the node at its end
came_from_end : (s : LinkState) (link : ℕ) (node : List ℕ) (new : Msg) (from : End) → node_at s from ≡ node
    → (msg : Msg) → Came (direction_from s from) new msg → CameFrom s (Net link node new) from msg
came_from_end s link node new from at msg (inl held) = inl held
came_from_end s link node new from at msg (inr same) = inr (link, ap (λ n. Net link n new) (sym at) ∙ ap (Net link (node_at s from)) same)

fair_carry : (s : LinkState) (link : ℕ) (node : List ℕ) (new : Msg) (from : Option End) → end_of s node ≡ from → IsFair s (Net link node new) (carry_step s from new)
unfolding carry_step
fair_carry s link node new None found = fair_ignore s (Net link node new)
fair_carry s link node new (Some from) found =
    let item = Net link node new in
    let d = direction_from s from in
    let came = came_from_end s link node new from (node_found s node from found) in
    fair_direction s item from (direction_after d new) (map (message_to s (other_end from)) (forwards d new))
    (All-weaker (Came d new) (CameFrom s item from) came (held_messages (direction_after d new)) (held_came d new))
    (all_across s item from (forwards d new) (All-weaker (Came d new) (CameFrom s item from) came (forwards d new) (forwards_came d new)))

fair_script : (s : LinkState) (item : Item) (from : Option End) (acts : List Act) → IsFair s item (script_step s from acts, [])
unfolding script_step
fair_script s item None acts = fair_ignore s item
fair_script s item (Some from) acts = fair_direction s item from (with_acts (direction_from s from) acts) [] (stays_held s item from) (All-nil (IsSent s item))

-- nothing is held back any more
none_held : (s : LinkState) (item : Item) (t : LinkState) (sent : List Output)
    → t.kind ≡ s.kind → t.link ≡ s.link → t.a ≡ s.a → t.b ≡ s.b → t.from_a.held ≡ [] → t.from_b.held ≡ []
    → All (IsSent s item) sent → IsFair s item (t, sent)
none_held s item t sent kind link a b none_a none_b fair = record {
  kind = kind;
  link = link;
  a = a;
  b = b;
  from_a = subst (λ held. All (CameFrom s item A) (map (λ h. h.msg) held)) (sym none_a) (All-nil (CameFrom s item A));
  from_b = subst (λ held. All (CameFrom s item B) (map (λ h. h.msg) held)) (sym none_b) (All-nil (CameFrom s item B));
  sent = fair;
}

fair_up : (s : LinkState) → IsFair s Up (record s { is_up = true }, up_to s A ∷ up_to s B ∷ [])
fair_up s = record {
  kind = refl;
  link = refl;
  a = refl;
  b = refl;
  from_a = stays_held s Up A;
  from_b = stays_held s Up B;
  sent = both_sent s Up (up_to s A) (up_to s B) (up_across s Up A s.kind refl) (up_across s Up B s.kind refl);
}

fair_down : (s : LinkState) → IsFair s Down (record (without_held_messages s) { is_up = false }, down_to s A ∷ down_to s B ∷ [])
fair_down s =
    none_held s Down (record (without_held_messages s) { is_up = false }) (down_to s A ∷ down_to s B ∷ []) refl refl refl refl refl refl
    (both_sent s Down (down_to s A) (down_to s B) (down_across s Down A s.kind) (down_across s Down B s.kind))

fair_tick : (s : LinkState) (item : Item) → IsFair s item (without_held_messages s, held_from s A ++ held_from s B)
fair_tick s item =
    none_held s item (without_held_messages s) (held_from s A ++ held_from s B) refl refl refl refl refl refl
    (All-append (IsSent s item) (held_from s A) (held_from s B)
    (all_across s item A (held_messages s.from_a) (stays_held s item A)) (all_across s item B (held_messages s.from_b) (stays_held s item B)))

fair_step : (s : LinkState) (item : Item) → IsFair s item (link_step s item)
unfolding link_step
fair_step s Up = fair_if s Up s.is_up (s, []) _ (fair_ignore s Up) (fair_up s)
fair_step s Down = fair_if s Down s.is_up _ (s, []) (fair_down s) (fair_ignore s Down)
fair_step s (Script from acts) = fair_script s (Script from acts) (end_of s from) acts
fair_step s (Tick at) = fair_tick s (Tick at)
fair_step s (Net link from msg) =
    fair_if s (Net link from msg) s.is_up (carry_step s (end_of s from) msg) (s, []) (fair_carry s link from msg (end_of s from) refl) (fair_ignore s (Net link from msg))
fair_step s item = fair_ignore s item

-- ---- the law

same_node : (s t : LinkState) (end : End) → t.a ≡ s.a → t.b ≡ s.b → node_at t end ≡ node_at s end
same_node s t A a b = a
same_node s t B a b = b

held_fair : (s : LinkState) (item : Item) (t : LinkState) (end : End)
    → All (CameFrom s item A) (held_messages t.from_a) → All (CameFrom s item B) (held_messages t.from_b)
    → All (CameFrom s item end) (held_messages (direction_from t end))
held_fair s item t A from_a from_b = from_a
held_fair s item t B from_a from_b = from_b

was_held : (s : LinkState) (item : Item) (turn : LinkState × List Output) → IsFair s item turn
    → (node : List ℕ) (msg : Msg) → Contains (held_of turn.0 node) msg → WasThere s item node msg
was_held s item turn fair node msg held =
    let there = held_from_end turn.0 node msg held in
    let all = held_fair s item turn.0 there.end fair.from_a fair.from_b in
    let came = All-contains (CameFrom s item there.end) (held_messages (direction_from turn.0 there.end)) msg all there.held in
    subst (λ n. WasThere s item n msg) (sym (same_node s turn.0 there.end fair.a fair.b) ∙ there.at) (was_there s item there.end msg came)

pub links_make_nothing_up : LinksMakeNothingUp
links_make_nothing_up s item =
    let fair = fair_step s item in
    record {
      kind = fair.kind;
      link = fair.link;
      a = fair.a;
      b = fair.b;
      held = was_held s item (link_step s item) fair;
      sent = λ port link node msg sent. All-contains (IsSent s item) (link_step s item).1 (To port (Net link node msg)) fair.sent sent;
      told = λ port link peer sent. All-contains (IsSent s item) (link_step s item).1 (To port (PeerUp link peer)) fair.sent sent;
    }
