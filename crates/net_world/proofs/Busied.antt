-- The numbers of the lanes on which an item waits, kept beside the lanes, and a round that goes through these alone.
use Rattle.std.proofs.Common.{◌≡◌, ℕ, zero, suc, ◌+◌, ◌<◌, ◌≤◌, ◌↔◌, List, [], ◌∷◌, ◌++◌, Bool, true, false, cond, ◌==◌, length, map, get_or, set, replicate, refl, sym, ap, ◌∙◌, arith, length-set, append_assoc}
use Rattle.std.specs.Prelude.{All, IsTrue}
use Rattle.std.specs.List.{list_all, enumerate_from}
use Rattle.std.specs.Ordering.{nat_cmp}
use Rattle.std.specs.declared.cmp.Ordering.TheVariants.{Less, Equal, Greater}
use Rattle.std.specs.BTreeSet.{insert_key}
use Rattle.std.specs.BTreeMap.{is_at}
use Rattle.std.specs.Set.{remove_key}
use Rattle.std.proofs.lemmas.Bool.{false≢true, lt-ltb, le-ltb, eq-eqb, ne_eqb}
use Rattle.std.proofs.lemmas.List.{set-set}
use Rattle.std.proofs.lemmas.List.Elements.{All-nil, All-cons, All-head, All-tail, All-weaker}
use Rattle.or_base.specs.declared.item.Stamped.{Stamped}
use Rattle.net_record.specs.World.{WorldState, is_empty}
use Rattle.net_record.specs.Rounds.{turns_on, round}
use Rattle.net_record.proofs.Counted.{round_from}
use Rattle.net_world.specs.declared.lanes.Busy.{Busy}
use Rattle.net_world.specs.Busy.{busy_among, busy_at, busy_lanes, turns_on_each, AreBusy, with_busy, without_busy}

-- the numbers of the busy ones of lanes, of which the first has the number given
abbrev busy_from : ℕ → List (List Stamped) → List ℕ
busy_from number lanes = busy_among (enumerate_from number lanes)

-- ---- the order of numbers

cmp_less : (a b : ℕ) → a < b → nat_cmp a b ≡ Less
cmp_less a b h = rw (lt-ltb a b h) refl

cmp_equal : (a b : ℕ) → a ≡ b → nat_cmp a b ≡ Equal
cmp_equal a b h = rw (le-ltb a b (omega (arith, h)), eq-eqb a b h) refl

cmp_greater : (a b : ℕ) → b < a → nat_cmp a b ≡ Greater
cmp_greater a b h = rw (le-ltb a b (omega (arith, h)), ne_eqb a b (λ e. omega (arith, h, e))) refl

-- ---- numbers from one on

abbrev IsFrom : ℕ → ℕ → Type 0
IsFrom least n = least ≤ n

from_if : (least number : ℕ) (rest : List ℕ) (empty : Bool) → least ≤ number → All (IsFrom least) rest → All (IsFrom least) (cond empty rest (number ∷ rest))
from_if least number rest true h all = all
from_if least number rest false h all = All-cons (IsFrom least) number rest h all

busy_above : (number : ℕ) (lanes : List (List Stamped)) → All (IsFrom number) (busy_from number lanes)
busy_above number [] = All-nil (IsFrom number)
busy_above number (items ∷ lanes) =
    from_if number number (busy_from (number + 1) lanes) (is_empty items) (omega arith)
    (All-weaker (IsFrom (number + 1)) (IsFrom number) (λ n h. omega (arith, h)) (busy_from (number + 1) lanes) (busy_above (number + 1) lanes))

insert_first : (k : ℕ) (ks : List ℕ) → All (IsFrom (k + 1)) ks → insert_key nat_cmp ks k ≡ k ∷ ks
insert_first k [] all = refl
insert_first k (n ∷ ks) all = rw (cmp_less k n (omega (arith, All-head (IsFrom (k + 1)) n ks all))) refl

remove_absent : (k : ℕ) (ks : List ℕ) → All (IsFrom (k + 1)) ks → remove_key (is_at (nat_cmp k)) ks ≡ ks
remove_absent k [] all = refl
remove_absent k (n ∷ ks) all =
    rw (cmp_less k n (omega (arith, All-head (IsFrom (k + 1)) n ks all)))
    (ap (λ ns. n ∷ ns) (remove_absent k ks (All-tail (IsFrom (k + 1)) n ks all)))

-- ---- one lane changes

-- an item is put on a lane
insert_here : (number : ℕ) (rest : List ℕ) (empty : Bool) → All (IsFrom (number + 1)) rest → insert_key nat_cmp (cond empty rest (number ∷ rest)) number ≡ number ∷ rest
insert_here number rest true all = insert_first number rest all
insert_here number rest false all = rw (cmp_equal number number refl) refl

insert_behind : (number lane : ℕ) (rest after : List ℕ) (empty : Bool) → number < lane → insert_key nat_cmp rest lane ≡ after
    → insert_key nat_cmp (cond empty rest (number ∷ rest)) lane ≡ cond empty after (number ∷ after)
insert_behind number lane rest after true h e = e
insert_behind number lane rest after false h e = rw (cmp_greater lane number h) (ap (λ ns. number ∷ ns) e)

insert_from : (number : ℕ) (lanes : List (List Stamped)) (lane : ℕ) (items : List Stamped) → lane < length lanes → is_empty items ≡ false
    → insert_key nat_cmp (busy_from number lanes) (number + lane) ≡ busy_from number (set lanes lane items)
insert_from number [] lane items within waits = absurd (omega (arith, within))
insert_from number (x ∷ lanes) zero items within waits =
    let e : number + 0 ≡ number = omega arith in
    rw (e, waits) (insert_here number (busy_from (number + 1) lanes) (is_empty x) (busy_above (number + 1) lanes))
insert_from number (x ∷ lanes) (suc lane) items within waits =
    let e : number + suc lane ≡ number + 1 + lane = omega arith in
    rw e (insert_behind number (number + 1 + lane) (busy_from (number + 1) lanes) (busy_from (number + 1) (set lanes lane items)) (is_empty x) (omega arith)
    (insert_from (number + 1) lanes lane items (omega (arith, within)) waits))

pub busy_insert : (lanes after : List (List Stamped)) (busy busier : List ℕ) (lane : ℕ) (items : List Stamped) → AreBusy lanes busy → lane < length lanes → is_empty items ≡ false
    → busier ≡ insert_key nat_cmp busy lane → after ≡ set lanes lane items → AreBusy after busier
busy_insert lanes after busy busier lane items are within waits e h =
    e ∙ ap (λ ks. insert_key nat_cmp ks lane) are ∙ ap (λ n. insert_key nat_cmp (busy_from 0 lanes) n) (omega arith)
    ∙ insert_from 0 lanes lane items within waits ∙ ap (busy_from 0) (sym h)

-- a lane becomes empty
remove_here : (number : ℕ) (rest : List ℕ) (empty : Bool) → All (IsFrom (number + 1)) rest → remove_key (is_at (nat_cmp number)) (cond empty rest (number ∷ rest)) ≡ rest
remove_here number rest true all = remove_absent number rest all
remove_here number rest false all = rw (cmp_equal number number refl) refl

remove_behind : (number lane : ℕ) (rest after : List ℕ) (empty : Bool) → number < lane → remove_key (is_at (nat_cmp lane)) rest ≡ after
    → remove_key (is_at (nat_cmp lane)) (cond empty rest (number ∷ rest)) ≡ cond empty after (number ∷ after)
remove_behind number lane rest after true h e = e
remove_behind number lane rest after false h e = rw (cmp_greater lane number h) (ap (λ ns. number ∷ ns) e)

remove_from : (number : ℕ) (lanes : List (List Stamped)) (lane : ℕ) (items : List Stamped) → lane < length lanes → is_empty items ≡ true
    → remove_key (is_at (nat_cmp (number + lane))) (busy_from number lanes) ≡ busy_from number (set lanes lane items)
remove_from number [] lane items within none = absurd (omega (arith, within))
remove_from number (x ∷ lanes) zero items within none =
    let e : number + 0 ≡ number = omega arith in
    rw (e, none) (remove_here number (busy_from (number + 1) lanes) (is_empty x) (busy_above (number + 1) lanes))
remove_from number (x ∷ lanes) (suc lane) items within none =
    let e : number + suc lane ≡ number + 1 + lane = omega arith in
    rw e (remove_behind number (number + 1 + lane) (busy_from (number + 1) lanes) (busy_from (number + 1) (set lanes lane items)) (is_empty x) (omega arith)
    (remove_from (number + 1) lanes lane items (omega (arith, within)) none))

pub busy_remove : (lanes after : List (List Stamped)) (busy left : List ℕ) (lane : ℕ) (items : List Stamped) → AreBusy lanes busy → lane < length lanes → is_empty items ≡ true
    → left ≡ remove_key (is_at (nat_cmp lane)) busy → after ≡ set lanes lane items → AreBusy after left
busy_remove lanes after busy left lane items are within none e h =
    e ∙ ap (λ ks. remove_key (is_at (nat_cmp lane)) ks) are ∙ ap (λ n. remove_key (is_at (nat_cmp n)) (busy_from 0 lanes)) (omega arith)
    ∙ remove_from 0 lanes lane items within none ∙ ap (busy_from 0) (sym h)

-- a lane stays as empty as it was
same_from : (number : ℕ) (lanes : List (List Stamped)) (lane : ℕ) (items : List Stamped) → lane < length lanes → is_empty items ≡ is_empty (get_or lanes lane [])
    → busy_from number lanes ≡ busy_from number (set lanes lane items)
same_from number [] lane items within same = absurd (omega (arith, within))
same_from number (x ∷ lanes) zero items within same = ap (λ b. cond b (busy_from (number + 1) lanes) (number ∷ busy_from (number + 1) lanes)) (sym same)
same_from number (x ∷ lanes) (suc lane) items within same =
    ap (λ ns. cond (is_empty x) ns (number ∷ ns)) (same_from (number + 1) lanes lane items (omega (arith, within)) same)

pub busy_same : (lanes after : List (List Stamped)) (busy : List ℕ) (lane : ℕ) (items : List Stamped) → AreBusy lanes busy → lane < length lanes → is_empty items ≡ is_empty (get_or lanes lane [])
    → after ≡ set lanes lane items → AreBusy after busy
busy_same lanes after busy lane items are within same h = are ∙ same_from 0 lanes lane items within same ∙ ap (busy_from 0) (sym h)

-- an item was put on a lane
marked_by : (lanes after : List (List Stamped)) (busy busier : List ℕ) (lane : ℕ) (items : List Stamped) (empty : Bool) → AreBusy lanes busy → lane < length lanes → is_empty items ≡ false
    → is_empty (get_or lanes lane []) ≡ empty → busier ≡ with_busy empty lane busy → after ≡ set lanes lane items → AreBusy after busier
marked_by lanes after busy busier lane items true are within waits was e h = busy_insert lanes after busy busier lane items are within waits e h
marked_by lanes after busy busier lane items false are within waits was e h =
    e ∙ busy_same lanes after busy lane items are within (waits ∙ sym was) h

waits_behind : (items : List Stamped) (s : Stamped) → is_empty (items ++ s ∷ []) ≡ false
waits_behind [] s = refl
waits_behind (first ∷ items) s = refl

pub busy_put : (lanes after : List (List Stamped)) (busy busier : List ℕ) (lane : ℕ) (front now : List Stamped) (s : Stamped) (empty : Bool) → AreBusy lanes busy → lane < length lanes
    → front ≡ get_or lanes lane [] → now ≡ front ++ s ∷ [] → empty ≡ is_empty (get_or lanes lane []) → busier ≡ with_busy empty lane busy → after ≡ set lanes lane now → AreBusy after busier
busy_put lanes after busy busier lane front now s empty are within is put was e h =
    marked_by lanes after busy busier lane now empty are within (ap is_empty put ∙ waits_behind front s) (sym was) e h

-- an item was taken from a lane
pub busy_taken : (lanes after : List (List Stamped)) (busy left : List ℕ) (lane : ℕ) (items : List Stamped) (empty : Bool) → AreBusy lanes busy → lane < length lanes
    → is_empty (get_or lanes lane []) ≡ false → empty ≡ is_empty items → left ≡ without_busy empty lane busy → after ≡ set lanes lane items → AreBusy after left
busy_taken lanes after busy left lane items true are within waits is e h = busy_remove lanes after busy left lane items are within (sym is) e h
busy_taken lanes after busy left lane items false are within waits is e h = e ∙ busy_same lanes after busy lane items are within (sym is ∙ sym waits) h

-- an item could not be put on a lane
pub busy_back : (lanes after : List (List Stamped)) (busy busier left : List ℕ) (lane : ℕ) (items : List Stamped) (s : Stamped) (empty : Bool) → AreBusy lanes busy → lane < length lanes
    → items ≡ get_or lanes lane [] → empty ≡ is_empty (get_or lanes lane []) → busier ≡ with_busy empty lane busy → left ≡ without_busy empty lane busier → after ≡ set lanes lane items
    → AreBusy after left
busy_back lanes after busy busier left lane items s true are within is was e back h =
    busy_remove (set lanes lane (s ∷ [])) after busier left lane items
    (busy_insert lanes (set lanes lane (s ∷ [])) busy busier lane (s ∷ []) are within refl e refl)
    (omega (arith, within, length-set lanes lane (s ∷ []))) (ap is_empty is ∙ sym was) back (h ∙ sym (set-set lanes lane (s ∷ []) items))
busy_back lanes after busy busier left lane items s false are within is was e back h =
    back ∙ e ∙ busy_same lanes after busy lane items are within (ap is_empty is) h

-- ---- what the numbers tell

-- they are numbers of lanes
below_if : (most number : ℕ) (rest : List ℕ) (empty : Bool) → number < most → All (λ (n : ℕ). n < most) rest → All (λ (n : ℕ). n < most) (cond empty rest (number ∷ rest))
below_if most number rest true h all = all
below_if most number rest false h all = All-cons (λ (n : ℕ). n < most) number rest h all

below_from : (number most : ℕ) (lanes : List (List Stamped)) → number + length lanes ≤ most → All (λ (n : ℕ). n < most) (busy_from number lanes)
below_from number most [] h = All-nil (λ (n : ℕ). n < most)
below_from number most (items ∷ lanes) h =
    below_if most number (busy_from (number + 1) lanes) (is_empty items) (omega (arith, h)) (below_from (number + 1) most lanes (omega (arith, h)))

pub busy_below : (lanes : List (List Stamped)) (busy : List ℕ) → AreBusy lanes busy → All (λ (n : ℕ). n < length lanes) busy
busy_below lanes busy are = rw are (below_from 0 (length lanes) lanes (omega arith))

-- no item waits where there are none
no_busy : (number : ℕ) (lanes : List (List Stamped)) → (length (busy_from number lanes) == 0) ≡ list_all is_empty lanes
no_busy number [] = refl
no_busy number ([] ∷ lanes) = no_busy (number + 1) lanes
no_busy number ((s ∷ others) ∷ lanes) = ne_eqb (suc (length (busy_from (number + 1) lanes))) 0 (λ e. omega (arith, e))

zero_by : (result : Bool) (n : ℕ) → (IsTrue result ↔ (n ≡ 0)) → result ≡ (n == 0)
zero_by true n h = sym (eq-eqb n 0 (h.0 refl))
zero_by false n h = sym (ne_eqb n 0 (λ e. false≢true (h.1 e)))

pub empty_by : (lanes : List (List Stamped)) (busy : List ℕ) (result : Bool) → AreBusy lanes busy → (IsTrue result ↔ (length busy ≡ 0)) → result ≡ list_all is_empty lanes
empty_by lanes busy result are h =
    zero_by result (length busy) h ∙ ap (λ k. k == 0) (ap length are) ∙ no_busy 0 lanes

-- lanes on which no item waits have none
none_from : (number count : ℕ) → busy_from number (replicate count []) ≡ []
none_from number zero = refl
none_from number (suc count) = none_from (number + 1) count

pub busy_none : (count : ℕ) (lanes : List (List Stamped)) (busy : List ℕ) → lanes ≡ replicate count [] → busy ≡ [] → AreBusy lanes busy
busy_none count lanes busy e h = h ∙ sym (none_from 0 count) ∙ ap (busy_from 0) (sym e)

-- ---- a round

-- the lanes from one on, as they were when the round began
abbrev Follows : List (List Stamped) → ℕ → List (List Stamped) → Type 0
Follows lanes number left = (k : ℕ) → get_or left k [] ≡ get_or lanes (number + k) []

follows_next : (lanes : List (List Stamped)) (number : ℕ) (items : List Stamped) (left : List (List Stamped)) → Follows lanes number (items ∷ left) → Follows lanes (number + 1) left
follows_next lanes number items left follows k =
    let e : number + suc k ≡ number + 1 + k = omega arith in
    follows (suc k) ∙ ap (λ n. get_or lanes n []) e

-- no turn of a lane on which no item waits
idle : (w : WorldState) (lane : ℕ) (items : List Stamped) → is_empty items ≡ true → turns_on w lane (length items) ≡ w
idle w lane [] e = refl
idle w lane (s ∷ others) e = cc e

abbrev RoundOf : List (List Stamped) → ℕ → List (List Stamped) → Type 0
RoundOf lanes number left = (w : WorldState) → round_from w number (map length left) ≡ turns_on_each w (map (busy_at lanes) (busy_from number left))

round_lane : (lanes : List (List Stamped)) (number : ℕ) (items : List Stamped) (left : List (List Stamped)) (empty : Bool) → is_empty items ≡ empty → items ≡ get_or lanes number []
    → RoundOf lanes (number + 1) left → (w : WorldState)
    → round_from w number (length items ∷ map length left) ≡ turns_on_each w (map (busy_at lanes) (cond empty (busy_from (number + 1) left) (number ∷ busy_from (number + 1) left)))
round_lane lanes number items left true e is others w = ap (λ v. round_from v (number + 1) (map length left)) (idle w number items e) ∙ others w
round_lane lanes number items left false e is others w =
    others (turns_on w number (length items))
    ∙ ap (λ (xs : List Stamped). turns_on_each (turns_on w number (length xs)) (map (busy_at lanes) (busy_from (number + 1) left))) is

round_busy : (lanes : List (List Stamped)) (number : ℕ) (left : List (List Stamped)) → Follows lanes number left → RoundOf lanes number left
round_busy lanes number [] follows w = refl
round_busy lanes number (items ∷ left) follows w =
    let e : number + 0 ≡ number = omega arith in
    round_lane lanes number items left (is_empty items) refl (follows 0 ∙ ap (λ n. get_or lanes n []) e)
    (round_busy lanes (number + 1) left (follows_next lanes number items left follows)) w

-- a round goes through the lanes on which an item waits
pub rounded : (w after : WorldState) (found : List Busy) → found ≡ busy_lanes w.lanes → after ≡ turns_on_each w found → after ≡ round w
unfolding round
rounded w after found is e =
    e ∙ ap (turns_on_each w) is ∙ sym (round_busy w.lanes 0 w.lanes (λ k. ap (λ n. get_or w.lanes n []) (omega arith)) w)

pub ruleset marking = (busy_put, busy_taken, busy_back)

-- ---- gathering them

-- one more
pub busy_more : (lanes : List (List Stamped)) (lane : ℕ) (left rest : List ℕ) (found after all : List Busy)
    → left ≡ lane ∷ rest → after ≡ found ++ busy_at lanes lane ∷ [] → found ++ map (busy_at lanes) left ≡ all → after ++ map (busy_at lanes) rest ≡ all
busy_more lanes lane left rest found after all e put h =
    ap (λ bs. bs ++ map (busy_at lanes) rest) put ∙ append_assoc found (busy_at lanes lane ∷ []) (map (busy_at lanes) rest)
    ∙ sym (ap (λ ns. found ++ map (busy_at lanes) ns) e) ∙ h

-- it is there, as are the others
pub there_first : (most lane : ℕ) (left rest : List ℕ) → left ≡ lane ∷ rest → All (λ (n : ℕ). n < most) left → lane < most
there_first most lane left rest e h = All-head (λ (n : ℕ). n < most) lane rest (rw e at h)

pub there_rest : (most lane : ℕ) (left rest : List ℕ) → left ≡ lane ∷ rest → All (λ (n : ℕ). n < most) left → All (λ (n : ℕ). n < most) rest
there_rest most lane left rest e h = All-tail (λ (n : ℕ). n < most) lane rest (rw e at h)
