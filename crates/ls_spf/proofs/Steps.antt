-- Names, and pairs of a cost and a name, as the order of a map or a set tells them apart.
use Rattle.std.proofs.Common.{◌≡◌, ◌≤◌, ℕ, List, [], ◌∷◌, Option, Some, None, IfSome, Bool, true, false, cond, ◌&&◌, ◌==◌, refl, sym, ◌∙◌, ap}
use Rattle.std.specs.BTreeMap.{BTreeMap, is_at, IsEmpty as map_is_empty}
use Rattle.std.specs.BTreeSet.{BTreeSet, contains, UpdatesBy, IsEmpty as set_is_empty}
use Rattle.std.specs.List.{list_any}
use Rattle.std.specs.Map.{lookup}
use Rattle.std.specs.Str.{bytes_eq}
use Rattle.std.specs.Cmp.{tied_then, unsigned_ties, both_ways}
use Rattle.std.specs.Cmp.Lexicographic.{slice_cmp}
use Rattle.std.specs.Ordering.{nat_cmp, ordering_then, is_eq, is_gt}
use Rattle.std.specs.declared.cmp.Ordering.{Ordering}
use Rattle.std.specs.declared.cmp.Ordering.TheVariants.{Less, Equal, Greater}
use Rattle.std.proofs.lemmas.Map.Keys.{le_from_not_gt}
use Rattle.std.proofs.lemmas.Map.Text.{is_eq-slice_cmp}
use Rattle.std.proofs.lemmas.Slice.Eq.{bytes_eq-Decides}
use Rattle.ls_spf.specs.Search.{waits_in, cost_in}

pub names_tied : (x y : List ℕ) → is_eq (slice_cmp nat_cmp x y) ≡ bytes_eq x y
names_tied x y = is_eq-slice_cmp x y

pub pairs_tied : (m n : ℕ) (x y : List ℕ) → is_eq (ordering_then (nat_cmp m n) (slice_cmp nat_cmp x y)) ≡ ((m == n) && bytes_eq x y)
pairs_tied m n x y =
    sym (tied_then (nat_cmp m n) (slice_cmp nat_cmp x y))
    ∙ (ap (λ b. b && is_eq (slice_cmp nat_cmp x y)) (sym (unsigned_ties m n)) ∙ ap (λ b. (m == n) && b) (is_eq-slice_cmp x y))

-- a set of pairs once one of them came or went
pub waits_put : (s t : BTreeSet (ℕ × List ℕ)) (b : Bool) (c : ℕ) (x y : List ℕ) → x ≡ y
    → ((q : ℕ × List ℕ) → contains (λ (u v : ℕ × List ℕ). ordering_then (nat_cmp u.0 v.0) (slice_cmp nat_cmp u.1 v.1)) t q
    ≡ cond (is_eq (ordering_then (nat_cmp c q.0) (slice_cmp nat_cmp x q.1))) b (contains (λ (u v : ℕ × List ℕ). ordering_then (nat_cmp u.0 v.0) (slice_cmp nat_cmp u.1 v.1)) s q))
    → (n : ℕ) (q : List ℕ) → waits_in t n q ≡ cond ((c == n) && bytes_eq y q) b (waits_in s n q)
waits_put s t b c x y e u n q =
    u (n, q) ∙ (ap (λ k. cond k b (waits_in s n q)) (pairs_tied c n x q) ∙ ap (λ z. cond ((c == n) && bytes_eq z q) b (waits_in s n q)) e)

not_above : (m n : ℕ) (o : Ordering) → is_gt (ordering_then (nat_cmp m n) o) ≡ false → m ≤ n
not_above m n o e = le_from_not_gt m n (first (nat_cmp m n) o e)
  where
    first : (p o : Ordering) → is_gt (ordering_then p o) ≡ false → is_gt p ≡ false
    first Less o e = refl
    first Equal o e = refl
    first Greater o e = e

pub next_least : (s : BTreeSet (ℕ × List ℕ)) (r : Option (ℕ × List ℕ))
    → IfSome r (λ k. (q : ℕ × List ℕ) → contains (λ (u v : ℕ × List ℕ). ordering_then (nat_cmp u.0 v.0) (slice_cmp nat_cmp u.1 v.1)) s q ≡ true
    → is_gt (ordering_then (nat_cmp k.0 q.0) (slice_cmp nat_cmp k.1 q.1)) ≡ false)
    → IfSome r (λ k. (n : ℕ) (q : List ℕ) → waits_in s n q ≡ true → k.0 ≤ n)
next_least s None h = tt
next_least s (Some k) h = λ n q w. not_above k.0 n (slice_cmp nat_cmp k.1 q) (h (n, q) w)

pub next_gone : (s t : BTreeSet (ℕ × List ℕ)) (r : Option (ℕ × List ℕ))
    → IfSome r (λ k. UpdatesBy (λ (u v : ℕ × List ℕ). ordering_then (nat_cmp u.0 v.0) (slice_cmp nat_cmp u.1 v.1)) (λ (v : ℕ × List ℕ). ordering_then (nat_cmp k.0 v.0) (slice_cmp nat_cmp k.1 v.1)) s t false)
    → IfSome r (λ k. (n : ℕ) (q : List ℕ) → waits_in t n q ≡ cond ((k.0 == n) && bytes_eq k.1 q) false (waits_in s n q))
next_gone s t None h = tt
next_gone s t (Some k) h = λ n q. waits_put s t false k.0 k.1 k.1 refl h.0 n q

pub no_costs : (m : BTreeMap (List ℕ) ℕ) → map_is_empty m → (q : List ℕ) → cost_in m q ≡ None
no_costs m e q = ap (λ es. lookup (is_at (slice_cmp nat_cmp q)) es) e

pub none_wait : (s : BTreeSet (ℕ × List ℕ)) → set_is_empty s → (n : ℕ) (q : List ℕ) → waits_in s n q ≡ false
none_wait s e n q = ap (λ ks. list_any (is_at (λ (y : ℕ × List ℕ). ordering_then (nat_cmp n y.0) (slice_cmp nat_cmp q y.1))) ks) e

pub eq_back : (x y : List ℕ) → bytes_eq x y ≡ bytes_eq y x
eq_back x y = both_ways (bytes_eq x y) (bytes_eq y x)
    (λ e. (bytes_eq-Decides y x).1 (sym ((bytes_eq-Decides x y).0 e))) (λ e. (bytes_eq-Decides x y).1 (sym ((bytes_eq-Decides y x).0 e)))

-- the names of a set in order, by the order and by equality
pub names_in : (names : List (List ℕ)) (q : List ℕ) → list_any (λ x. bytes_eq x q) names ≡ list_any (is_at (slice_cmp nat_cmp q)) names
names_in [] q = refl
names_in (x ∷ names) q = let e = eq_back x q ∙ sym (is_eq-slice_cmp q x) in let r = names_in names q in cc
