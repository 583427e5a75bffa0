-- The counts of aggregates stay right as routes come and go.
use Rattle.std.proofs.Common.{◌≡◌, ◌∙◌, ℕ, suc, ◌+◌, ◌-◌, ◌<◌, ◌≤◌, ◌^◌, List, [], ◌∷◌, ◌++◌, Bool, true, false, cond, length, map, fold, refl, sym, ap, subst, arith}
use Rattle.std.specs.Prelude.{not, ◌||◌, nat_le, min}
use Rattle.std.specs.BTreeMap.{is_at}
use Rattle.std.specs.BTreeSet.{insert_key}
use Rattle.std.specs.List.{filter, list_any}
use Rattle.std.specs.Ordering.{nat_cmp, bool_cmp, is_eq, match_ordering, ordering_then}
use Rattle.std.specs.Set.{remove_key}
use Rattle.std.specs.declared.cmp.Ordering.{Ordering}
use Rattle.std.specs.declared.cmp.Ordering.TheVariants.{Less, Equal, Greater}
use Rattle.std.proofs.lemmas.Map.Lookups.{exact_unsigned}
use Rattle.or_base.specs.Prefixes.{prefix_cmp, is_same_prefix}
use Rattle.or_base.specs.declared.database.PrefixEntry.{PrefixEntry}
use Rattle.or_base.specs.declared.prefix.Prefix.{Prefix}
use Rattle.prefix_manager.specs.declared.aggregate.CountedAggregate.{CountedAggregate}
use Rattle.prefix_manager.specs.Aggregates.{lies_in, count_within, without_aggregate, with_aggregate, is_in_force, with_covering, with_counted, told, IsCounted, AreCounted, counted_in, counted_over, counted_out}
use Rattle.prefix_manager.specs.PrefixManager.{advertised}

-- ---- prefixes that compare as equal lie in the same prefixes

exact_bool : (a b : Bool) → bool_cmp a b ≡ Equal → a ≡ b
exact_bool true true h = refl
exact_bool true false h = absurd cc
exact_bool false true h = absurd cc
exact_bool false false h = refl

first_equal : (a b : Ordering) → ordering_then a b ≡ Equal → a ≡ Equal
first_equal Less b h = h
first_equal Equal b h = refl
first_equal Greater b h = h

then_equal : (a b : Ordering) → ordering_then a b ≡ Equal → b ≡ Equal
then_equal Less b h = absurd cc
then_equal Equal b h = h
then_equal Greater b h = absurd cc

same_lies : (outer p q : Prefix) → p.v6 ≡ q.v6 → p.bits ≡ q.bits → p.len ≡ q.len → lies_in outer p ≡ lies_in outer q
unfolding lies_in
same_lies outer p q v6 bits len = rw (v6, bits, len) refl

equal_lies : (outer p q : Prefix) → prefix_cmp p q ≡ Equal → lies_in outer p ≡ lies_in outer q
equal_lies outer p q h =
    let v6 = exact_bool p.v6 q.v6 (first_equal (bool_cmp p.v6 q.v6) (ordering_then (nat_cmp p.bits q.bits) (nat_cmp p.len q.len)) h) in
    let more = then_equal (bool_cmp p.v6 q.v6) (ordering_then (nat_cmp p.bits q.bits) (nat_cmp p.len q.len)) h in
    let bits = exact_unsigned p.bits q.bits (first_equal (nat_cmp p.bits q.bits) (nat_cmp p.len q.len) more) in
    let len = exact_unsigned p.len q.len (then_equal (nat_cmp p.bits q.bits) (nat_cmp p.len q.len) more) in
    same_lies outer p q v6 bits len

-- ---- how many lie in a prefix

-- one that passes a test counts one
one_if : Bool → ℕ
one_if true = 1
one_if false = 0

count_first_if : (test : Bool) (x : Prefix) (xs : List Prefix) → length (cond test (x ∷ xs) xs) ≡ one_if test + length xs
unfolding one_if
count_first_if true x xs = omega arith
count_first_if false x xs = omega arith

count_first : (outer x : Prefix) (xs : List Prefix) → count_within (x ∷ xs) outer ≡ one_if (lies_in outer x) + count_within xs outer
count_first outer x xs = count_first_if (lies_in outer x) x (filter (lies_in outer) xs)

count_bound_if : (test : Bool) (a n : ℕ) → a ≤ n → one_if test + a ≤ n + 1
unfolding one_if
count_bound_if true a n h = omega (arith, h)
count_bound_if false a n h = omega (arith, h)

count_bound : (outer : Prefix) (xs : List Prefix) → count_within xs outer ≤ length xs
count_bound outer [] = omega arith
count_bound outer (x ∷ xs) =
    let first = count_first outer x xs in
    let more = count_bound_if (lies_in outer x) (count_within xs outer) (length xs) (count_bound outer xs) in
    omega (arith, first, more)

insert_if : (outer k x : Prefix) (xs after : List Prefix) (o : Ordering) → (is_eq o || list_any (is_at (prefix_cmp k)) xs) ≡ false
    → (list_any (is_at (prefix_cmp k)) xs ≡ false → count_within after outer ≡ one_if (lies_in outer k) + count_within xs outer)
    → count_within (match_ordering o (k ∷ x ∷ xs) (x ∷ xs) (x ∷ after)) outer ≡ one_if (lies_in outer k) + count_within (x ∷ xs) outer
insert_if outer k x xs after Less h rest = count_first outer k (x ∷ xs)
insert_if outer k x xs after Equal h rest = absurd cc
insert_if outer k x xs after Greater h rest =
    let a = count_first outer x after in
    let b = count_first outer x xs in
    let c = rest h in
    omega (arith, a, b, c)

-- a new one counts, if it lies there
count_inserted : (outer k : Prefix) (xs : List Prefix) → list_any (is_at (prefix_cmp k)) xs ≡ false
    → count_within (insert_key prefix_cmp xs k) outer ≡ one_if (lies_in outer k) + count_within xs outer
count_inserted outer k [] h = count_first outer k []
count_inserted outer k (x ∷ xs) h = insert_if outer k x xs (insert_key prefix_cmp xs k) (prefix_cmp k x) h (count_inserted outer k xs)

remove_if : (outer k x : Prefix) (xs after : List Prefix) (o : Ordering) → prefix_cmp k x ≡ o → (is_eq o || list_any (is_at (prefix_cmp k)) xs) ≡ true
    → (list_any (is_at (prefix_cmp k)) xs ≡ true → one_if (lies_in outer k) + count_within after outer ≡ count_within xs outer)
    → one_if (lies_in outer k) + count_within (cond (is_eq o) xs (x ∷ after)) outer ≡ count_within (x ∷ xs) outer
remove_if outer k x xs after Equal is h rest = ap (λ b. one_if b + count_within xs outer) (equal_lies outer k x is) ∙ sym (count_first outer x xs)
remove_if outer k x xs after Less is h rest =
    let a = count_first outer x after in
    let b = count_first outer x xs in
    let c = rest h in
    omega (arith, a, b, c)
remove_if outer k x xs after Greater is h rest =
    let a = count_first outer x after in
    let b = count_first outer x xs in
    let c = rest h in
    omega (arith, a, b, c)

-- one that goes counts no longer
count_removed : (outer k : Prefix) (xs : List Prefix) → list_any (is_at (prefix_cmp k)) xs ≡ true
    → one_if (lies_in outer k) + count_within (remove_key (is_at (prefix_cmp k)) xs) outer ≡ count_within xs outer
count_removed outer k [] h = absurd cc
count_removed outer k (x ∷ xs) h = remove_if outer k x xs (remove_key (is_at (prefix_cmp k)) xs) (prefix_cmp k x) refl h (count_removed outer k xs)

-- ---- a route that comes

one_counted_in : (before now bound : ℕ) (c : CountedAggregate) (test : Bool) → c.count ≡ before → now ≡ one_if test + before → now ≤ bound → bound < 2 ^ 63
    → (cond test (record c { count = min (c.count + 1) (2 ^ 64 - 1) }) c).count ≡ now
unfolding one_if
one_counted_in before now bound c true is more within small = omega (arith, is, more, within, small)
one_counted_in before now bound c false is more within small = omega (arith, is, more)

in_prefix : (k : Prefix) (c : CountedAggregate) (test : Bool) → (cond test (record c { count = min (c.count + 1) (2 ^ 64 - 1) }) c).prefix ≡ c.prefix
in_prefix k c true = refl
in_prefix k c false = refl

all_counted_in : (k : Prefix) (routed : List Prefix) (cs : List CountedAggregate) → list_any (is_at (prefix_cmp k)) routed ≡ false
    → length (insert_key prefix_cmp routed k) < 2 ^ 63 → AreCounted routed cs → AreCounted (insert_key prefix_cmp routed k) (map (counted_in k) cs)
all_counted_in k routed [] absent small all = tt
all_counted_in k routed (c ∷ cs) absent small all =
    let after = insert_key prefix_cmp routed k in (
      one_counted_in (count_within routed c.prefix) (count_within after c.prefix) (length after) c (lies_in c.prefix k) all.0
          (count_inserted c.prefix k routed absent) (count_bound c.prefix after) small
          ∙ ap (count_within after) (sym (in_prefix k c (lies_in c.prefix k))),
      all_counted_in k routed cs absent small all.1,
    )

pub counted_more : (k : Prefix) (routed after : List Prefix) (cs new : List CountedAggregate) → AreCounted routed cs
    → list_any (is_at (prefix_cmp k)) routed ≡ false → after ≡ insert_key prefix_cmp routed k → length after < 2 ^ 63
    → new ≡ map (counted_in k) cs → AreCounted after new
counted_more k routed after cs new all absent is small e =
    rw (is, e) (all_counted_in k routed cs absent (subst (λ xs. length xs < 2 ^ 63) is small) all)

told_in_if : (c : CountedAggregate) (test : Bool) → told (cond test (record c { count = min (c.count + 1) (2 ^ 64 - 1) }) c) ≡ told c
told_in_if c true = refl
told_in_if c false = refl

pub told_in : (k : Prefix) (cs : List CountedAggregate) → map told (map (counted_in k) cs) ≡ map told cs
told_in k [] = refl
told_in k (c ∷ cs) = rw (told_in_if c (lies_in c.prefix k), told_in k cs) refl

-- ---- a route that goes

one_counted_out : (before now : ℕ) (c : CountedAggregate) (test : Bool) → c.count ≡ before → one_if test + now ≡ before
    → (cond test (record c { count = c.count - 1 }) c).count ≡ now
unfolding one_if
one_counted_out before now c true is less = omega (arith, is, less)
one_counted_out before now c false is less = omega (arith, is, less)

out_prefix : (c : CountedAggregate) (test : Bool) → (cond test (record c { count = c.count - 1 }) c).prefix ≡ c.prefix
out_prefix c true = refl
out_prefix c false = refl

all_counted_out : (k : Prefix) (routed : List Prefix) (cs : List CountedAggregate) → list_any (is_at (prefix_cmp k)) routed ≡ true
    → AreCounted routed cs → AreCounted (remove_key (is_at (prefix_cmp k)) routed) (map (counted_out k) cs)
all_counted_out k routed [] there all = tt
all_counted_out k routed (c ∷ cs) there all =
    let after = remove_key (is_at (prefix_cmp k)) routed in (
      one_counted_out (count_within routed c.prefix) (count_within after c.prefix) c (lies_in c.prefix k) all.0 (count_removed c.prefix k routed there)
          ∙ ap (count_within after) (sym (out_prefix c (lies_in c.prefix k))),
      all_counted_out k routed cs there all.1,
    )

pub counted_less : (k : Prefix) (routed after : List Prefix) (cs new : List CountedAggregate) → AreCounted routed cs
    → list_any (is_at (prefix_cmp k)) routed ≡ true → after ≡ remove_key (is_at (prefix_cmp k)) routed
    → new ≡ map (counted_out k) cs → AreCounted after new
counted_less k routed after cs new all there is e = rw (is, e) (all_counted_out k routed cs there all)

told_out_if : (c : CountedAggregate) (test : Bool) → told (cond test (record c { count = c.count - 1 }) c) ≡ told c
told_out_if c true = refl
told_out_if c false = refl

pub told_out : (k : Prefix) (cs : List CountedAggregate) → map told (map (counted_out k) cs) ≡ map told cs
told_out k [] = refl
told_out k (c ∷ cs) = rw (told_out_if c (lies_in c.prefix k), told_out k cs) refl

-- ---- aggregates that come and go

kept_if : (routed : List Prefix) (c : CountedAggregate) (cs : List CountedAggregate) (test : Bool) → IsCounted routed c → AreCounted routed cs → AreCounted routed (cond test (c ∷ cs) cs)
kept_if routed c cs true first rest = (first, rest)
kept_if routed c cs false first rest = rest

-- those that are left are counted
pub counted_kept : (routed : List Prefix) (test : CountedAggregate → Bool) (cs : List CountedAggregate) → AreCounted routed cs → AreCounted routed (filter test cs)
counted_kept routed test [] all = tt
counted_kept routed test (c ∷ cs) all = kept_if routed c (filter test cs) (test c) all.0 (counted_kept routed test cs all.1)

told_kept_if : (c : CountedAggregate) (cs : List CountedAggregate) (rest : List (Prefix × ℕ)) (test : Bool) → map told cs ≡ rest
    → map told (cond test (c ∷ cs) cs) ≡ cond test (told c ∷ rest) rest
told_kept_if c cs rest true h = ap (λ ts. told c ∷ ts) h
told_kept_if c cs rest false h = h

pub told_kept : (prefix : Prefix) (cs : List CountedAggregate) → map told (filter (λ c. not (is_same_prefix c.prefix prefix)) cs) ≡ without_aggregate (map told cs) prefix
told_kept prefix [] = refl
told_kept prefix (c ∷ cs) =
    told_kept_if c (filter (λ d. not (is_same_prefix d.prefix prefix)) cs) (without_aggregate (map told cs) prefix) (not (is_same_prefix c.prefix prefix)) (told_kept prefix cs)

pub counted_pushed : (routed : List Prefix) (cs : List CountedAggregate) (c : CountedAggregate) → AreCounted routed cs → IsCounted routed c → AreCounted routed (cs ++ c ∷ [])
counted_pushed routed [] c all is = (is, tt)
counted_pushed routed (d ∷ cs) c all is = (all.0, counted_pushed routed cs c all.1 is)

told_pushed : (cs : List CountedAggregate) (c : CountedAggregate) → map told (cs ++ c ∷ []) ≡ map told cs ++ told c ∷ []
told_pushed [] c = refl
told_pushed (d ∷ cs) c = ap (λ ts. told d ∷ ts) (told_pushed cs c)

pub told_added : (cs kept after : List CountedAggregate) (c : CountedAggregate) (prefix : Prefix) (least : ℕ) → map told kept ≡ without_aggregate (map told cs) prefix
    → after ≡ kept ++ c ∷ [] → told c ≡ (prefix, least) → map told after ≡ with_aggregate (map told cs) prefix least
told_added cs kept after c prefix least left added is =
    ap (map told) added ∙ told_pushed kept c ∙ ap (λ ts. ts ++ told c ∷ []) left ∙ ap (λ t. without_aggregate (map told cs) prefix ++ t ∷ []) is

-- ---- what they advertise

-- by right counts the same are in force
covering : (routed : List Prefix) (entries : List (Prefix × PrefixEntry)) (cs : List CountedAggregate) → AreCounted routed cs
    → fold with_counted entries cs ≡ fold (λ es (g : Prefix × ℕ). with_covering es g.0 (is_in_force routed g)) entries (map told cs)
covering routed entries [] all = refl
covering routed entries (c ∷ cs) all =
    ap (λ n. fold with_counted (with_covering entries c.prefix (nat_le c.least n)) cs) all.0
    ∙ covering routed (with_covering entries c.prefix (is_in_force routed (told c))) cs all.1

pub advertised_by_counts : (routed : List Prefix) (entries shown : List (Prefix × PrefixEntry)) (cs : List CountedAggregate) → AreCounted routed cs
    → shown ≡ fold with_counted entries cs → shown ≡ advertised (record { entries = entries; aggregates = map told cs; routed = routed })
unfolding advertised
advertised_by_counts routed entries shown cs all is = is ∙ covering routed entries cs all

-- ---- an aggregate is counted for the first time

pub over_more : (c after all : CountedAggregate) (x : Prefix) (left rest : List Prefix) → left ≡ x ∷ rest → after ≡ counted_in x c
    → counted_over c left ≡ all → counted_over after rest ≡ all
over_more c after all x left rest is added before = ap (λ d. counted_over d rest) added ∙ ap (counted_over c) (sym is) ∙ before

one_over : (c : CountedAggregate) (test : Bool) → c.count < 2 ^ 63 → (cond test (record c { count = min (c.count + 1) (2 ^ 64 - 1) }) c).count ≡ one_if test + c.count
unfolding one_if
one_over c true small = omega (arith, small)
one_over c false small = omega arith

over_bound : (test : Bool) (a n : ℕ) → a + suc n < 2 ^ 63 → one_if test + a + n < 2 ^ 63
unfolding one_if
over_bound true a n h = omega (arith, h)
over_bound false a n h = omega (arith, h)

count_over : (c : CountedAggregate) (xs : List Prefix) → c.count + length xs < 2 ^ 63 → (counted_over c xs).count ≡ c.count + count_within xs c.prefix
count_over c [] small = omega arith
count_over c (x ∷ xs) small =
    let d = counted_in x c in
    let here = one_over c (lies_in c.prefix x) (omega (arith, small)) in
    let below = over_bound (lies_in c.prefix x) c.count (length xs) small in
    let rest = count_over d xs (rw here below) in
    let same = ap (count_within xs) (in_prefix x c (lies_in c.prefix x)) in
    let first = count_first c.prefix x xs in
    omega (arith, here, rest, same, first)

pub told_over : (c : CountedAggregate) (xs : List Prefix) → told (counted_over c xs) ≡ told c
told_over c [] = refl
told_over c (x ∷ xs) = told_over (counted_in x c) xs ∙ told_in_if c (lies_in c.prefix x)

pub counted_all : (prefix : Prefix) (least : ℕ) (xs : List Prefix) (c : CountedAggregate) → length xs < 2 ^ 63
    → c ≡ counted_over (record { prefix = prefix; least = least; count = 0 }) xs → IsCounted xs c
counted_all prefix least xs c small is =
    let all = told_over (record { prefix = prefix; least = least; count = 0 }) xs in
    let count = count_over (record { prefix = prefix; least = least; count = 0 }) xs (omega (arith, small)) in
    rw (is, ap (λ t. t.0) all) (count ∙ omega arith)

pub told_all : (prefix : Prefix) (least : ℕ) (xs : List Prefix) (c : CountedAggregate)
    → c ≡ counted_over (record { prefix = prefix; least = least; count = 0 }) xs → told c ≡ (prefix, least)
told_all prefix least xs c is = rw is (told_over (record { prefix = prefix; least = least; count = 0 }) xs)

-- what each change of the aggregates cites
pub ruleset counting_all = (counted_all, told_all)

pub ruleset counting_in = (counted_more, told_in)

pub ruleset counting_out = (counted_less, told_out)

pub ruleset aggregating = (counted_kept, counted_pushed, told_added)
