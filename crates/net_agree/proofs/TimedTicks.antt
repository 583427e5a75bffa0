-- Items among which ticks don't go back, between two moments.
use Rattle.std.proofs.Common.{◌≡◌, ℕ, zero, suc, ◌<◌, ◌≤◌, List, [], ◌∷◌, ◌++◌, Option, Some, None, length, get_or, sym, ap, ◌∙◌, arith}
use Rattle.std.specs.Prelude.{unwrap_or, All, AllPairs}
use Rattle.or_base.specs.declared.item.Item.{Item}
use Rattle.or_base.specs.declared.item.Item.TheVariants.{Tick}
use Rattle.or_base.specs.declared.item.Stamped.{Stamped}
use Rattle.or_actor.specs.declared.output.Output.{Output}
use Rattle.or_actor.specs.declared.output.Output.TheVariants.{To}
use Rattle.net_agree.specs.Timed.{IsFrom, IsUntil, DoesNotGoBack, AreNoTicks}

-- the moment of a tick
abbrev pub tick_of : Item → Option ℕ
tick_of (Tick at) = Some at
tick_of _ = None

-- the moment after an item
abbrev pub moment_past : ℕ → Item → ℕ
moment_past moment item = unwrap_or (tick_of item) moment

-- ---- items

-- the ticks among these don't go back, and are between the two moments
abbrev pub AreBetween : ℕ → ℕ → List Stamped → Type 0
AreBetween from until [] = from ≤ until
AreBetween from until (s ∷ others) = (from ≤ moment_past from s.item) × AreBetween (moment_past from s.item) until others

-- no tick is among these
abbrev pub HaveNoTicks : List Stamped → Type 0
HaveNoTicks [] = Unit {0}
HaveNoTicks (s ∷ others) = (tick_of s.item ≡ None) × HaveNoTicks others

pub between_rises : (from until : ℕ) (items : List Stamped) → AreBetween from until items → from ≤ until
between_rises from until [] h = h
between_rises from until (s ∷ others) h = omega (arith, h.0, between_rises (moment_past from s.item) until others h.1)

past_later : (from until : ℕ) (tick : Option ℕ) → from ≤ until → until ≤ unwrap_or tick until → (from ≤ unwrap_or tick from) × (unwrap_or tick from ≤ unwrap_or tick until)
past_later from until None h k = (omega arith, h)
past_later from until (Some at) h k = (omega (arith, h, k), omega arith)

-- one item more
pub between_push : (from until : ℕ) (items : List Stamped) (s : Stamped) → AreBetween from until items → until ≤ moment_past until s.item
    → AreBetween from (moment_past until s.item) (items ++ s ∷ [])
between_push from until [] s h k = past_later from until (tick_of s.item) h k
between_push from until (first ∷ others) s h k = (h.0, between_push (moment_past from first.item) until others s h.1 k)

-- a later end
pub between_until : (from until later : ℕ) (items : List Stamped) → AreBetween from until items → until ≤ later → AreBetween from later items
between_until from until later [] h k = omega (arith, h, k)
between_until from until later (s ∷ others) h k = (h.0, between_until (moment_past from s.item) until later others h.1 k)

past_earlier : (earlier from : ℕ) (tick : Option ℕ) → earlier ≤ from → from ≤ unwrap_or tick from → (earlier ≤ unwrap_or tick earlier) × (unwrap_or tick earlier ≤ unwrap_or tick from)
past_earlier earlier from None h k = (omega arith, h)
past_earlier earlier from (Some at) h k = (omega (arith, h, k), omega arith)

-- an earlier beginning
pub between_from : (earlier from until : ℕ) (items : List Stamped) → AreBetween from until items → earlier ≤ from → AreBetween earlier until items
between_from earlier from until [] h k = omega (arith, h, k)
between_from earlier from until (s ∷ others) h k =
    let past = past_earlier earlier from (tick_of s.item) k h.0 in
    (past.0, between_from (moment_past earlier s.item) (moment_past from s.item) until others h.1 past.1)

none_first : (tick : Option ℕ) (from : ℕ) (P : ℕ → Type 0) → tick ≡ None → P from → (from ≤ unwrap_or tick from) × P (unwrap_or tick from)
none_first None from P e h = (omega arith, h)
none_first (Some at) from P e h = absurd (cc e)

-- without ticks any two moments do
pub between_none : (from until : ℕ) (items : List Stamped) → HaveNoTicks items → from ≤ until → AreBetween from until items
between_none from until [] h k = k
between_none from until (s ∷ others) h k = none_first (tick_of s.item) from (λ moment. AreBetween moment until others) h.0 (between_none from until others h.1 k)

pub none_push : (items : List Stamped) (s : Stamped) → HaveNoTicks items → tick_of s.item ≡ None → HaveNoTicks (items ++ s ∷ [])
none_push [] s h e = (e, tt)
none_push (first ∷ others) s h e = (h.0, none_push others s h.1 e)

-- ---- what is said of ticks

tick_first : (from : ℕ) (s : Stamped) (at : ℕ) → s.item ≡ Tick at → moment_past from s.item ≡ at
tick_first from s at e = ap (moment_past from) e

pub from_between : (from until : ℕ) (items : List Stamped) → AreBetween from until items → All (IsFrom from) items
from_between from until [] h k d within = absurd (omega (arith, within))
from_between from until (s ∷ others) h zero d within = λ at e. omega (arith, h.0, tick_first from s at e)
from_between from until (s ∷ others) h (suc k) d within = λ at e.
    omega (arith, h.0, from_between (moment_past from s.item) until others h.1 k d (omega (arith, within)) at e)

pub until_between : (from until : ℕ) (items : List Stamped) → AreBetween from until items → All (IsUntil until) items
until_between from until [] h k d within = absurd (omega (arith, within))
until_between from until (s ∷ others) h zero d within = λ at e.
    omega (arith, between_rises (moment_past from s.item) until others h.1, tick_first from s at e)
until_between from until (s ∷ others) h (suc k) d within = until_between (moment_past from s.item) until others h.1 k d (omega (arith, within))

pub in_order_between : (from until : ℕ) (items : List Stamped) → AreBetween from until items → AllPairs DoesNotGoBack items
in_order_between from until [] h i j d before within = absurd (omega (arith, within))
in_order_between from until (s ∷ others) h i zero d before within = absurd (omega (arith, before))
in_order_between from until (s ∷ others) h zero (suc j) d before within = λ at e later is.
    omega (arith, tick_first from s at e, from_between (moment_past from s.item) until others h.1 j d (omega (arith, within)) later is)
in_order_between from until (s ∷ others) h (suc i) (suc j) d before within =
    in_order_between (moment_past from s.item) until others h.1 i j d (omega (arith, before)) (omega (arith, within))

none_at : (items : List Stamped) → HaveNoTicks items → (k : ℕ) (s : Stamped) → k < length items → get_or items k s ≡ s → tick_of s.item ≡ None
none_at [] h k s within e = absurd (omega (arith, within))
none_at (first ∷ others) h zero s within e = ap (λ (t : Stamped). tick_of t.item) (sym e) ∙ h.0
none_at (first ∷ others) h (suc k) s within e = none_at others h.1 k s (omega (arith, within)) e

pub no_ticks : (items : List Stamped) → HaveNoTicks items → AreNoTicks items
no_ticks items h s among at e =
    let is : Some at ≡ None = ap tick_of (sym e) ∙ none_at items h among.0 s among.1 among.2 in
    cc is

-- ---- what is sent

-- the ticks that are sent don't go back, and are between the two moments
abbrev pub AreSentBetween : ℕ → ℕ → List Output → Type 0
AreSentBetween from until [] = from ≤ until
AreSentBetween from until (To port item ∷ outputs) = (from ≤ moment_past from item) × AreSentBetween (moment_past from item) until outputs

-- no tick is sent
abbrev pub SendNoTicks : List Output → Type 0
SendNoTicks [] = Unit {0}
SendNoTicks (To port item ∷ outputs) = (tick_of item ≡ None) × SendNoTicks outputs

pub sent_rises : (from until : ℕ) (outputs : List Output) → AreSentBetween from until outputs → from ≤ until
sent_rises from until [] h = h
sent_rises from until (To port item ∷ outputs) h = omega (arith, h.0, sent_rises (moment_past from item) until outputs h.1)

pub sent_from : (earlier from until : ℕ) (outputs : List Output) → AreSentBetween from until outputs → earlier ≤ from → AreSentBetween earlier until outputs
sent_from earlier from until [] h k = omega (arith, h, k)
sent_from earlier from until (To port item ∷ outputs) h k =
    let past = past_earlier earlier from (tick_of item) k h.0 in
    (past.0, sent_from (moment_past earlier item) (moment_past from item) until outputs h.1 past.1)

pub sent_then : (from middle until : ℕ) (outputs more : List Output) → AreSentBetween from middle outputs → AreSentBetween middle until more → AreSentBetween from until (outputs ++ more)
sent_then from middle until [] more h k = sent_from from middle until more k h
sent_then from middle until (To port item ∷ outputs) more h k = (h.0, sent_then (moment_past from item) middle until outputs more h.1 k)

pub sent_none : (moment : ℕ) (outputs : List Output) → SendNoTicks outputs → AreSentBetween moment moment outputs
sent_none moment [] h = omega arith
sent_none moment (To port item ∷ outputs) h = none_first (tick_of item) moment (λ past. AreSentBetween past moment outputs) h.0 (sent_none moment outputs h.1)

pub none_sent_then : (outputs more : List Output) → SendNoTicks outputs → SendNoTicks more → SendNoTicks (outputs ++ more)
none_sent_then [] more h k = k
none_sent_then (To port item ∷ outputs) more h k = (h.0, none_sent_then outputs more h.1 k)
