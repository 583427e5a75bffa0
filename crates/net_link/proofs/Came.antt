-- What a direction holds back and forwards, it held back before, or it is the message that came.
use Rattle.std.proofs.Common.{◌≡◌, List, [], ◌∷◌, Bool, not, map, ◌⊎◌, inl, inr, refl}
use Rattle.std.specs.List.{All, Contains, filter}
use Rattle.std.proofs.lemmas.List.Elements.{All-nil, All-cons, All-head, All-tail, All-append, All-map, All-filter, All-weaker, All-contains_itself}
use Rattle.or_base.specs.declared.act.Act.{Act}
use Rattle.or_base.specs.declared.act.Act.TheVariants.{Pass, Drop, Twice, Late}
use Rattle.or_base.specs.declared.message.Msg.{Msg}
use Rattle.net_link.specs.declared.held.HeldMsg.{HeldMsg}
use Rattle.net_link.specs.Link.{Direction, next_act, count_down, forwards_at_once, holds_back, is_due, held_after, direction_after, forwards, held_messages}

-- the message was held back, or it is the one that came
abbrev pub Came : Direction → Msg → Msg → Type 0
Came d new msg = Contains (held_messages d) msg ⊎ (new ≡ msg)

all_from_map : (P : Msg → Type 0) (held : List HeldMsg) → All P (map (λ h. h.msg) held) → All (λ h. P h.msg) held
all_from_map P [] all = All-nil (λ (h : HeldMsg). P h.msg)
all_from_map P (h ∷ held) all =
    All-cons (λ (h : HeldMsg). P h.msg) h held (All-head P h.msg (map (λ h. h.msg) held) all)
    (all_from_map P held (All-tail P h.msg (map (λ h. h.msg) held) all))

all_held : (d : Direction) (new : Msg) → All (λ h. Came d new h.msg) d.held
all_held d new =
    all_from_map (Came d new) d.held
    (All-weaker (Contains (held_messages d)) (Came d new) (λ msg held. inl held) (held_messages d) (All-contains_itself (held_messages d)))

all_holds_back : (P : Msg → Type 0) (act : Act) (new : Msg) → P new → All (λ h. P h.msg) (holds_back act new)
all_holds_back P Pass new p = All-nil (λ (h : HeldMsg). P h.msg)
all_holds_back P Drop new p = All-nil (λ (h : HeldMsg). P h.msg)
all_holds_back P Twice new p = All-nil (λ (h : HeldMsg). P h.msg)
all_holds_back P (Late n) new p = All-cons (λ (h : HeldMsg). P h.msg) (record { msg = new; count = n }) [] p (All-nil (λ (h : HeldMsg). P h.msg))

all_forwards_at_once : (P : Msg → Type 0) (act : Act) (new : Msg) → P new → All P (forwards_at_once act new)
all_forwards_at_once P Pass new p = All-cons P new [] p (All-nil P)
all_forwards_at_once P Drop new p = All-nil P
all_forwards_at_once P Twice new p = All-cons P new (new ∷ []) p (All-cons P new [] p (All-nil P))
all_forwards_at_once P (Late n) new p = All-nil P

all_held_after : (d : Direction) (new : Msg) → All (λ h. Came d new h.msg) (held_after d new)
all_held_after d new =
    All-append (λ (h : HeldMsg). Came d new h.msg) (map count_down d.held) (holds_back (next_act d.script).0 new)
    (All-map (λ (h : HeldMsg). Came d new h.msg) count_down d.held (all_held d new))
    (all_holds_back (Came d new) (next_act d.script).0 new (inr refl))

all_in_filter : (d : Direction) (new : Msg) (test : HeldMsg → Bool) → All (Came d new) (map (λ h. h.msg) (filter test (held_after d new)))
all_in_filter d new test =
    All-map (Came d new) (λ (h : HeldMsg). h.msg) (filter test (held_after d new))
    (All-filter test (λ (h : HeldMsg). Came d new h.msg) (held_after d new) (all_held_after d new))

pub held_came : (d : Direction) (new : Msg) → All (Came d new) (held_messages (direction_after d new))
unfolding direction_after
held_came d new = all_in_filter d new (λ h. not (is_due h))

pub forwards_came : (d : Direction) (new : Msg) → All (Came d new) (forwards d new)
unfolding forwards
forwards_came d new =
    All-append (Came d new) (forwards_at_once (next_act d.script).0 new) (map (λ (h : HeldMsg). h.msg) (filter is_due (held_after d new)))
    (all_forwards_at_once (Came d new) (next_act d.script).0 new (inr refl)) (all_in_filter d new is_due)
