-- A step of a walk of two lists in byte order of keys, and what is left at the end of one of them.
use Rattle.std.proofs.Common.{◌≡◌, ◌==◌, ℕ, ◌<◌, ◌+◌, List, [], ◌∷◌, ◌++◌, length, map, get_or, Bool, true, false, cond, Option, Some, None, refl, sym, ◌∙◌, ap, arith, append_assoc}
use Rattle.std.specs.declared.cmp.Ordering.{Ordering}
use Rattle.std.specs.declared.cmp.Ordering.TheVariants.{Less, Equal, Greater}
use Rattle.std.specs.Ordering.{is_eq, is_le, is_ge, ordering_reverse}
use Rattle.std.specs.Str.{bytes_eq}
use Rattle.std.specs.List.{AllByRecursion}
use Rattle.std.specs.List.Sorted.{IsStrictlySortedBy}
use Rattle.std.proofs.lemmas.Bool.{eqb-true}
use Rattle.std.proofs.lemmas.Cmp.{nat_list_cmp_total}
use Rattle.std.proofs.lemmas.Map.Lookups.{exact_bytes}
use Rattle.std.proofs.lemmas.Map.Text.{is_eq-slice_cmp}
use Rattle.or_base.specs.Order.{bytes_cmp}
use Rattle.or_base.specs.declared.digest.DigestRow.{DigestRow}
use Rattle.kv_table.specs.declared.held.HeldRow.{HeldRow}
use Rattle.kv_sync.specs.Rows.{row_key, AreInOrder}
use Rattle.kv_sync.specs.Walk.{held_key, HaveTheirHashes, found_with, keys_where, is_better_row, is_wanted_row, better_among, wanted_among, passes_at, left_of}

-- the keys stand behind this one
abbrev pub AreAllAbove : List ℕ → List (List ℕ) → Type 0
AreAllAbove key keys = AllByRecursion (λ other. bytes_cmp key other ≡ Less) keys

pub differ_if : (o : Ordering) (key other : List ℕ) → bytes_cmp key other ≡ o → is_eq o ≡ false → bytes_eq key other ≡ false
differ_if o key other is apart = sym (is_eq-slice_cmp key other) ∙ ap is_eq is ∙ apart

above : (key other : List ℕ) → bytes_cmp key other ≡ Greater → bytes_cmp other key ≡ Less
above key other is = nat_list_cmp_total.antisymm other key ∙ ap ordering_reverse is

all_above : (low key : List ℕ) (keys : List (List ℕ)) → bytes_cmp low key ≡ Less → AreAllAbove key keys → AreAllAbove low keys
all_above low key [] less all = tt
all_above low key (other ∷ keys) less all = (nat_list_cmp_total.trans low key other less all.0, all_above low key keys less all.1)

none_above : {X : Type 0} (key_of : X → List ℕ) (xs : List X) (key : List ℕ) → AreAllAbove key (map key_of xs) → found_with key_of xs key ≡ None
none_above key_of [] key all = refl
none_above key_of (x ∷ xs) key all =
    let apart : bytes_eq (key_of x) key ≡ false =
    differ_if Greater (key_of x) key (nat_list_cmp_total.antisymm (key_of x) key ∙ ap ordering_reverse all.0) refl in
    ap (λ t. cond t (Some x) (found_with key_of xs key)) apart ∙ none_above key_of xs key all.1

-- ---- one step

-- an item whose key is below all of these is found by none of them
where_above : {X Y : Type 0} (key_of : X → List ℕ) (other_key : Y → List ℕ) (test : X → Option Y → Bool) (xs : List X) (other : Y) (others : List Y) → AreAllAbove (other_key other) (map key_of xs)
    → keys_where key_of other_key test xs others ≡ keys_where key_of other_key test xs (other ∷ others)
where_above key_of other_key test [] other others all = refl
where_above key_of other_key test (x ∷ xs) other others all =
    ap (λ keys. cond (test x (found_with other_key others (key_of x))) (key_of x ∷ []) [] ++ keys) (where_above key_of other_key test xs other others all.1)
    ∙ ap (λ t. cond (test x (cond t (Some other) (found_with other_key others (key_of x)))) (key_of x ∷ []) [] ++ keys_where key_of other_key test xs (other ∷ others))
    (sym (differ_if Less (other_key other) (key_of x) all.0 refl))

step_by : {X Y : Type 0} (key_of : X → List ℕ) (other_key : Y → List ℕ) (test : X → Option Y → Bool) (x : X) (xs : List X) (other : Y) (others : List Y)
    → AreInOrder key_of (x ∷ xs) → AreInOrder other_key (other ∷ others) → (o : Ordering) → bytes_cmp (key_of x) (other_key other) ≡ o
    → cond (passes_at o test x other) (key_of x ∷ []) [] ++ keys_where key_of other_key test (left_of (is_le o) (x ∷ xs)) (left_of (is_ge o) (other ∷ others))
    ≡ keys_where key_of other_key test (x ∷ xs) (other ∷ others)
unfolding IsStrictlySortedBy
step_by key_of other_key test x xs other others order others_order Less is =
    ap (λ found. cond (test x found) (key_of x ∷ []) [] ++ keys_where key_of other_key test xs (other ∷ others))
    (sym (none_above other_key (other ∷ others) (key_of x) (is, all_above (key_of x) (other_key other) (map other_key others) is others_order.0)))
step_by key_of other_key test x xs other others order others_order Equal is =
    let same : bytes_eq (other_key other) (key_of x) ≡ true =
    sym (is_eq-slice_cmp (other_key other) (key_of x)) ∙ ap is_eq (nat_list_cmp_total.antisymm (other_key other) (key_of x) ∙ ap ordering_reverse is) in
    ap (λ keys. cond (test x (Some other)) (key_of x ∷ []) [] ++ keys)
    (where_above key_of other_key test xs other others (rw (← exact_bytes (key_of x) (other_key other) is) order.0))
    ∙ ap (λ t. cond (test x (cond t (Some other) (found_with other_key others (key_of x)))) (key_of x ∷ []) [] ++ keys_where key_of other_key test xs (other ∷ others)) (sym same)
step_by key_of other_key test x xs other others order others_order Greater is =
    let less : bytes_cmp (other_key other) (key_of x) ≡ Less = above (key_of x) (other_key other) is in
    where_above key_of other_key test (x ∷ xs) other others (less, all_above (other_key other) (key_of x) (map key_of xs) less order.0)

-- ---- the end of one list

where_none : {X Y : Type 0} (key_of : X → List ℕ) (other_key : Y → List ℕ) (test : X → Option Y → Bool) (xs : List X) → ((x : X) → test x None ≡ true)
    → map key_of xs ≡ keys_where key_of other_key test xs []
where_none key_of other_key test [] passes = refl
where_none key_of other_key test (x ∷ xs) passes =
    ap (λ keys. key_of x ∷ keys) (where_none key_of other_key test xs passes)
    ∙ ap (λ t. cond t (key_of x ∷ []) [] ++ keys_where key_of other_key test xs []) (sym (passes x))

-- ---- the two lists

pub better_step : (held : List HeldRow) (rows : List DigestRow) (h : HeldRow) (r : DigestRow) (o : Ordering) (passes : Bool) (held' : List HeldRow) (rows' : List DigestRow)
    → (length held == 0) ≡ false → (length rows == 0) ≡ false → h ≡ get_or held 0 h → r ≡ get_or rows 0 r → AreInOrder held_key held → AreInOrder row_key rows
    → o ≡ bytes_cmp h.key.now r.key → passes ≡ passes_at o is_better_row h r → held' ≡ left_of (is_le o) held → rows' ≡ left_of (is_ge o) rows
    → cond passes (h.key.now ∷ []) [] ++ better_among held' rows' ≡ better_among held rows
better_step [] rows h r o passes held' rows' some some_rows first first_row order rows_order is tells left left_rows = cc
better_step (x ∷ xs) [] h r o passes held' rows' some some_rows first first_row order rows_order is tells left left_rows = cc
better_step (x ∷ xs) (y ∷ ys) h r o passes held' rows' some some_rows first first_row order rows_order is tells left left_rows =
    rw left (rw left_rows (rw tells (rw is (rw first (rw first_row
    (step_by held_key row_key is_better_row x xs y ys order rows_order (bytes_cmp x.key.now y.key) refl))))))

wanted_by : (h : HeldRow) (held : List HeldRow) (r : DigestRow) (rows : List DigestRow) → AreInOrder held_key (h ∷ held) → AreInOrder row_key (r ∷ rows)
    → (o : Ordering) → bytes_cmp h.key.now r.key ≡ o
    → cond (passes_at (ordering_reverse o) is_wanted_row r h) (r.key ∷ []) [] ++ wanted_among (left_of (is_ge o) (r ∷ rows)) (left_of (is_le o) (h ∷ held)) ≡ wanted_among (r ∷ rows) (h ∷ held)
wanted_by h held r rows order rows_order Less is =
    step_by row_key held_key is_wanted_row r rows h held rows_order order Greater (nat_list_cmp_total.antisymm r.key h.key.now ∙ ap ordering_reverse is)
wanted_by h held r rows order rows_order Equal is =
    step_by row_key held_key is_wanted_row r rows h held rows_order order Equal (nat_list_cmp_total.antisymm r.key h.key.now ∙ ap ordering_reverse is)
wanted_by h held r rows order rows_order Greater is =
    step_by row_key held_key is_wanted_row r rows h held rows_order order Less (nat_list_cmp_total.antisymm r.key h.key.now ∙ ap ordering_reverse is)

pub wanted_step : (held : List HeldRow) (rows : List DigestRow) (h : HeldRow) (r : DigestRow) (o : Ordering) (passes : Bool) (held' : List HeldRow) (rows' : List DigestRow)
    → (length held == 0) ≡ false → (length rows == 0) ≡ false → h ≡ get_or held 0 h → r ≡ get_or rows 0 r → AreInOrder held_key held → AreInOrder row_key rows
    → o ≡ bytes_cmp h.key.now r.key → passes ≡ passes_at (ordering_reverse o) is_wanted_row r h → held' ≡ left_of (is_le o) held → rows' ≡ left_of (is_ge o) rows
    → cond passes (r.key ∷ []) [] ++ wanted_among rows' held' ≡ wanted_among rows held
wanted_step [] rows h r o passes held' rows' some some_rows first first_row order rows_order is tells left left_rows = cc
wanted_step (x ∷ xs) [] h r o passes held' rows' some some_rows first first_row order rows_order is tells left left_rows = cc
wanted_step (x ∷ xs) (y ∷ ys) h r o passes held' rows' some some_rows first first_row order rows_order is tells left left_rows =
    rw left (rw left_rows (rw tells (rw is (rw first (rw first_row (wanted_by x xs y ys order rows_order (bytes_cmp x.key.now y.key) refl))))))

pub ordered_left : {X : Type 0} (key_of : X → List ℕ) (is_done : Bool) (xs : List X) → AreInOrder key_of xs → AreInOrder key_of (left_of is_done xs)
unfolding IsStrictlySortedBy
ordered_left key_of is_done [] order = order
ordered_left key_of true (x ∷ xs) order = order.1
ordered_left key_of false (x ∷ xs) order = order

pub hashes_left : (is_done : Bool) (held : List HeldRow) → HaveTheirHashes held → HaveTheirHashes (left_of is_done held)
hashes_left is_done [] hashes = hashes
hashes_left true (h ∷ held) hashes = hashes.1
hashes_left false (h ∷ held) hashes = hashes

pub fewer_left : (o : Ordering) (held : List HeldRow) (rows : List DigestRow) → 0 < length held → 0 < length rows
    → length (left_of (is_le o) held) + length (left_of (is_ge o) rows) < length held + length rows
fewer_left o [] rows some some_rows = absurd (omega (arith, some))
fewer_left o (h ∷ held) [] some some_rows = absurd (omega (arith, some_rows))
fewer_left Less (h ∷ held) (r ∷ rows) some some_rows = omega arith
fewer_left Equal (h ∷ held) (r ∷ rows) some some_rows = omega arith
fewer_left Greater (h ∷ held) (r ∷ rows) some some_rows = omega arith

-- ---- what is put behind the keys so far

pub put_behind : (before one keys rest left all : List (List ℕ)) → keys ≡ before ++ one → one ++ rest ≡ left → before ++ left ≡ all → keys ++ rest ≡ all
put_behind before one keys rest left all are step so_far =
    ap (λ ks. ks ++ rest) are ∙ append_assoc before one rest ∙ ap (λ ks. before ++ ks) step ∙ so_far

-- ---- the end

pub none_held : (held : List HeldRow) (rows : List DigestRow) → (length held == 0) ≡ true → (map held_key held ≡ better_among held rows) × (map row_key rows ≡ wanted_among rows held)
none_held [] rows none = (refl, where_none row_key held_key is_wanted_row rows (λ row. refl))
none_held (h ∷ held) rows none = absurd (omega (arith, eqb-true (length (h ∷ held)) 0 none))

pub no_rows : (held : List HeldRow) (rows : List DigestRow) → (length rows == 0) ≡ true → (map held_key held ≡ better_among held rows) × (map row_key rows ≡ wanted_among rows held)
no_rows held [] none = (where_none held_key row_key is_better_row held (λ h. refl), refl)
no_rows held (row ∷ rows) none = absurd (omega (arith, eqb-true (length (row ∷ rows)) 0 none))

pub all_behind : (before rest keys left all : List (List ℕ)) → keys ≡ before ++ rest → rest ≡ left → before ++ left ≡ all → keys ≡ all
all_behind before rest keys left all are same so_far = are ∙ ap (λ ks. before ++ ks) same ∙ so_far
