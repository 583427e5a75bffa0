-- Who is told to advertise a prefix, once one node's entries change.
use Rattle.std.proofs.Common.{◌≡◌, ◌≢◌, ℕ, List, [], ◌∷◌, ◌++◌, Bool, true, false, cond, Option, Some, None, refl, sym, ◌∙◌, ap, subst, eq-eqb, eqb-true}
use Rattle.std.specs.Prelude.{◌&&◌, ◌==◌, IfSome}
use Rattle.std.specs.Bool.{beq}
use Rattle.std.specs.declared.cmp.Ordering.{Ordering}
use Rattle.std.specs.declared.cmp.Ordering.TheVariants.{Less, Equal, Greater}
use Rattle.std.specs.Ordering.{is_eq, bool_cmp, nat_cmp, ordering_then}
use Rattle.std.specs.List.Sorted.{IsStrictlySortedBy}
use Rattle.std.specs.Map.{keys_of, lookup}
use Rattle.std.specs.BTreeMap.{BTreeMap, is_at}
use Rattle.std.specs.Cmp.{IsTotalOrder, tied_then, bool_cmp_total}
use Rattle.std.proofs.lemmas.Cmp.{nat_cmp_total, on_total, then_total, tied_itself}
use Rattle.std.proofs.lemmas.Bool.{false≢true, and_parts}
use Rattle.std.proofs.lemmas.Map.Lookups.{CmpEqualImpliesEq, exact_unsigned}
use Rattle.or_base.specs.Order.{bytes_cmp}
use Rattle.or_base.specs.Prefixes.{prefix_cmp, prefix_from, is_same_prefix}
use Rattle.or_base.specs.declared.database.PrefixEntry.{PrefixEntry}
use Rattle.or_base.specs.declared.prefix.Prefix.{Prefix}
use Rattle.or_base.proofs.Prefixes.{prefix_from_parts}
use Rattle.ls_graph.proofs.Order.{name_itself, equal_from_test}
use Rattle.ls_records.specs.Index.{Index, AreAdvertised, IsAdvertised, IsTold, entry_at, entry_told, one_added, one_withdrawn, added, withdrawn}

-- ---- prefixes that compare as equal

bools_tied : (s t : Bool) → is_eq (bool_cmp s t) ≡ beq s t
bools_tied true true = refl
bools_tied true false = refl
bools_tied false true = refl
bools_tied false false = refl

tests_agree : (s t : Bool) → (s ≡ true → t ≡ true) → (t ≡ true → s ≡ true) → s ≡ t
tests_agree true t f g = sym (f refl)
tests_agree false true f g = g refl
tests_agree false false f g = refl

same_number : (m n : ℕ) → is_eq (nat_cmp m n) ≡ true → m ≡ n
same_number m n e = exact_unsigned m n (equal_from_test (nat_cmp m n) e)

same_flag : (s t : Bool) → is_eq (bool_cmp s t) ≡ true → s ≡ t
same_flag true true e = refl
same_flag true false e = absurd (false≢true e)
same_flag false true e = absurd (false≢true e)
same_flag false false e = refl

pub same_prefix : (p q : Prefix) → is_at (prefix_cmp p) q ≡ true → p ≡ q
same_prefix p q e =
    let flags = and_parts _ _ (tied_then (bool_cmp p.v6 q.v6) (ordering_then (nat_cmp p.bits q.bits) (nat_cmp p.len q.len)) ∙ e) in
    let numbers = and_parts _ _ (tied_then (nat_cmp p.bits q.bits) (nat_cmp p.len q.len) ∙ flags.1) in
    let v6 : p.v6 ≡ q.v6 = same_flag p.v6 q.v6 flags.0 in
    let bits : p.bits ≡ q.bits = same_number p.bits q.bits numbers.0 in
    let len : p.len ≡ q.len = same_number p.len q.len numbers.1 in
    let found : Some p ≡ Some q =
    sym (prefix_from_parts p.v6 p.bits p.len p.sound) ∙ ap (λ v. prefix_from v p.bits p.len) v6 ∙ ap (λ b. prefix_from q.v6 b p.len) bits ∙ ap (λ l. prefix_from q.v6 q.bits l) len
    ∙ prefix_from_parts q.v6 q.bits q.len q.sound in cc

pub exact_prefix : CmpEqualImpliesEq prefix_cmp
exact_prefix p q e = same_prefix p q (ap is_eq e)

pub prefix_total : IsTotalOrder prefix_cmp
prefix_total = then_total (on_total (λ p. p.v6) bool_cmp_total) (then_total (on_total (λ p. p.bits) nat_cmp_total) (on_total (λ p. p.len) nat_cmp_total))

three_tied : (a b c : Ordering) (s t u : Bool) → is_eq a ≡ s → is_eq b ≡ t → is_eq c ≡ u → is_eq (ordering_then a (ordering_then b c)) ≡ (s && t && u)
three_tied Less b c s t u e f g = ap (λ x. x && t && u) e
three_tied Greater b c s t u e f g = ap (λ x. x && t && u) e
three_tied Equal Less c s t u e f g = ap (λ y. y && u) f ∙ ap (λ x. x && t && u) e
three_tied Equal Greater c s t u e f g = ap (λ y. y && u) f ∙ ap (λ x. x && t && u) e
three_tied Equal Equal c s t u e f g = g ∙ ap (λ y. y && u) f ∙ ap (λ x. x && t && u) e

numbers_tied : (m n : ℕ) → is_eq (nat_cmp m n) ≡ (m == n)
numbers_tied m n =
    tests_agree (is_eq (nat_cmp m n)) (m == n) (λ e. eq-eqb m n (same_number m n e))
    (λ e. ap (λ k. is_eq (nat_cmp m k)) (sym (eqb-true m n e)) ∙ ap is_eq (tied_itself nat_cmp_total m))

-- both tests of prefixes say whether they are the same
pub prefix_tests : (p q : Prefix) → is_at (prefix_cmp p) q ≡ is_same_prefix p q
prefix_tests p q =
    three_tied (bool_cmp p.v6 q.v6) (nat_cmp p.bits q.bits) (nat_cmp p.len q.len) (beq p.v6 q.v6) (p.bits == q.bits) (p.len == q.len)
    (bools_tied p.v6 q.v6) (numbers_tied p.bits q.bits) (numbers_tied p.len q.len)

pub prefix_itself : (p : Prefix) → is_at (prefix_cmp p) p ≡ true
prefix_itself p = ap is_eq (tied_itself prefix_total p)

-- ---- one prefix has other advertisers

abbrev advertisers_at : Index → Prefix → Option (BTreeMap (List ℕ) PrefixEntry)
advertisers_at index p = lookup (is_at (prefix_cmp p)) index

module _ (before after : Index) (p : Prefix) (node : List ℕ) (all : Option (BTreeMap (List ℕ) PrefixEntry)) (change : Prefix → Option PrefixEntry → Option PrefixEntry)
    (replaced : (q : Prefix) → advertisers_at after q ≡ cond (is_at (prefix_cmp p) q) all (advertisers_at before q))
    (here : entry_at node all ≡ change p (entry_told before p node))
    (apart : (q : Prefix) (told : Option PrefixEntry) → is_at (prefix_cmp p) q ≡ false → change q told ≡ told)
    (others : (n : List ℕ) → is_at (bytes_cmp node) n ≡ false → entry_at n all ≡ entry_told before p n)
    (advertised : IfSome all IsAdvertised) where
  at_prefix : (q : Prefix) (same : Bool) → is_at (prefix_cmp p) q ≡ same → entry_told after q node ≡ change q (entry_told before q node)
  at_prefix q true e =
      ap (entry_at node) (replaced q ∙ ap (λ t. cond t all (advertisers_at before q)) e) ∙ here
      ∙ ap (λ r. change r (entry_told before r node)) (same_prefix p q e)
  at_prefix q false e =
      ap (entry_at node) (replaced q ∙ ap (λ t. cond t all (advertisers_at before q)) e) ∙ sym (apart q (entry_told before q node) e)

  at_others : (q : Prefix) (n : List ℕ) → is_at (bytes_cmp node) n ≡ false → (same : Bool) → is_at (prefix_cmp p) q ≡ same → entry_told after q n ≡ entry_told before q n
  at_others q n other true e =
      ap (entry_at n) (replaced q ∙ ap (λ t. cond t all (advertisers_at before q)) e) ∙ others n other ∙ ap (λ r. entry_told before r n) (same_prefix p q e)
  at_others q n other false e = ap (entry_at n) (replaced q ∙ ap (λ t. cond t all (advertisers_at before q)) e)

  still_advertised : AreAdvertised before → (q : Prefix) (same : Bool) → is_at (prefix_cmp p) q ≡ same → IfSome (advertisers_at after q) IsAdvertised
  still_advertised were q true e = subst (λ found. IfSome found IsAdvertised) (sym (replaced q ∙ ap (λ t. cond t all (advertisers_at before q)) e)) advertised
  still_advertised were q false e = subst (λ found. IfSome found IsAdvertised) (sym (replaced q ∙ ap (λ t. cond t all (advertisers_at before q)) e)) (were q)

  told_so : IsTold before after node change
  told_so = record {
    here = λ q. at_prefix q (is_at (prefix_cmp p) q) refl;
    others = λ q n other. at_others q n other (is_at (prefix_cmp p) q) refl;
    advertised = λ were q. still_advertised were q (is_at (prefix_cmp p) q) refl;
  }

twice : {X : Type 0} (t : Bool) (x y z : X) → cond t x (cond t y z) ≡ cond t x z
twice true x y z = refl
twice false x y z = refl

added_apart : (entry : PrefixEntry) (q : Prefix) (told : Option PrefixEntry) → is_at (prefix_cmp entry.prefix) q ≡ false → one_added entry q told ≡ told
added_apart entry q told e = ap (λ t. cond t (Some entry) told) (sym (prefix_tests entry.prefix q) ∙ e)

added_here : (entry : PrefixEntry) (told : Option PrefixEntry) → one_added entry entry.prefix told ≡ Some entry
added_here entry told = ap (λ t. cond t (Some entry) told) (sym (prefix_tests entry.prefix entry.prefix) ∙ prefix_itself entry.prefix)

gone_apart : (p q : Prefix) (told : Option PrefixEntry) → is_at (prefix_cmp p) q ≡ false → one_withdrawn p q told ≡ told
gone_apart p q told e = ap (λ t. cond t None told) (sym (prefix_tests p q) ∙ e)

gone_here : (p : Prefix) (told : Option PrefixEntry) → one_withdrawn p p told ≡ None
gone_here p told = ap (λ t. cond t None told) (sym (prefix_tests p p) ∙ prefix_itself p)

found_some : {X : Type 0} (node : List ℕ) (entries : List (List ℕ × X)) (x : X) → lookup (is_at (bytes_cmp node)) entries ≡ Some x → entries ≢ []
found_some node entries x e none = let wrong : None ≡ Some x = ap (lookup (is_at (bytes_cmp node))) (sym none) ∙ e in cc

-- the node's entry is put among those that advertise its prefix
pub told_added : (before middle after : Index) (node : List ℕ) (entry : PrefixEntry) (own one : BTreeMap (List ℕ) PrefixEntry)
    → ((n : List ℕ) → lookup (is_at (bytes_cmp n)) own.entries ≡ entry_told before entry.prefix n)
    → ((q : Prefix) → advertisers_at middle q ≡ cond (is_at (prefix_cmp entry.prefix) q) None (advertisers_at before q))
    → ((n : List ℕ) → lookup (is_at (bytes_cmp n)) one.entries ≡ cond (is_at (bytes_cmp node) n) (Some entry) (lookup (is_at (bytes_cmp n)) own.entries))
    → IsStrictlySortedBy bytes_cmp (keys_of one.entries)
    → ((q : Prefix) → advertisers_at after q ≡ cond (is_at (prefix_cmp entry.prefix) q) (Some one) (advertisers_at middle q))
    → IsTold before after node (one_added entry)
told_added before middle after node entry own one were removed put ordered inserted =
    let found : lookup (is_at (bytes_cmp node)) one.entries ≡ Some entry =
    put node ∙ ap (λ t. cond t (Some entry) (lookup (is_at (bytes_cmp node)) own.entries)) (name_itself node) in
    told_so before after entry.prefix node (Some one) (one_added entry)
    (λ q. inserted q ∙ ap (λ r. cond (is_at (prefix_cmp entry.prefix) q) (Some one) r) (removed q) ∙ twice (is_at (prefix_cmp entry.prefix) q) (Some one) None (advertisers_at before q))
    (found ∙ sym (added_here entry (entry_told before entry.prefix node)))
    (added_apart entry)
    (λ n other. put n ∙ ap (λ t. cond t (Some entry) (lookup (is_at (bytes_cmp n)) own.entries)) other ∙ were n)
    (found_some node one.entries entry found, ordered)

-- nobody advertises the prefix any more
pub told_gone : (before after : Index) (node : List ℕ) (p : Prefix)
    → ((q : Prefix) → advertisers_at after q ≡ cond (is_at (prefix_cmp p) q) None (advertisers_at before q))
    → ((n : List ℕ) → is_at (bytes_cmp node) n ≡ false → None ≡ entry_told before p n)
    → IsTold before after node (one_withdrawn p)
told_gone before after node p removed none =
    told_so before after p node None (one_withdrawn p) removed (sym (gone_here p (entry_told before p node))) (gone_apart p) none tt

-- others still do
pub told_left : (before middle after : Index) (node : List ℕ) (p : Prefix) (own rest : BTreeMap (List ℕ) PrefixEntry) → ((n : List ℕ) → lookup (is_at (bytes_cmp n)) own.entries ≡ entry_told before p n)
    → ((q : Prefix) → advertisers_at middle q ≡ cond (is_at (prefix_cmp p) q) None (advertisers_at before q))
    → ((n : List ℕ) → lookup (is_at (bytes_cmp n)) rest.entries ≡ cond (is_at (bytes_cmp node) n) None (lookup (is_at (bytes_cmp n)) own.entries))
    → rest.entries ≢ [] → IsStrictlySortedBy bytes_cmp (keys_of rest.entries)
    → ((q : Prefix) → advertisers_at after q ≡ cond (is_at (prefix_cmp p) q) (Some rest) (advertisers_at middle q))
    → IsTold before after node (one_withdrawn p)
told_left before middle after node p own rest were removed taken some ordered inserted =
    told_so before after p node (Some rest) (one_withdrawn p)
    (λ q. inserted q ∙ ap (λ r. cond (is_at (prefix_cmp p) q) (Some rest) r) (removed q) ∙ twice (is_at (prefix_cmp p) q) (Some rest) None (advertisers_at before q))
    (taken node ∙ ap (λ t. cond t None (lookup (is_at (bytes_cmp node)) own.entries)) (name_itself node) ∙ sym (gone_here p (entry_told before p node)))
    (gone_apart p)
    (λ n other. taken n ∙ ap (λ t. cond t None (lookup (is_at (bytes_cmp n)) own.entries)) other ∙ were n)
    (some, ordered)

-- the node was the last that did
pub told_last : (before after : Index) (node : List ℕ) (p : Prefix) (own rest : BTreeMap (List ℕ) PrefixEntry) → ((n : List ℕ) → lookup (is_at (bytes_cmp n)) own.entries ≡ entry_told before p n)
    → ((q : Prefix) → advertisers_at after q ≡ cond (is_at (prefix_cmp p) q) None (advertisers_at before q))
    → ((n : List ℕ) → lookup (is_at (bytes_cmp n)) rest.entries ≡ cond (is_at (bytes_cmp node) n) None (lookup (is_at (bytes_cmp n)) own.entries))
    → rest.entries ≡ []
    → IsTold before after node (one_withdrawn p)
told_last before after node p own rest were removed taken none =
    told_gone before after node p removed
    (λ n other. ap (lookup (is_at (bytes_cmp n))) (sym none) ∙ taken n ∙ ap (λ t. cond t None (lookup (is_at (bytes_cmp n)) own.entries)) other ∙ were n)

-- ---- many entries

-- what is left of a change leads where all of it leads
pub record Leads (start index : Index) (node : List ℕ) (left all : Prefix → Option PrefixEntry → Option PrefixEntry) : Type 0 where
  pub here : (p : Prefix) → left p (entry_told index p node) ≡ all p (entry_told start p node)
  pub others : (p : Prefix) (n : List ℕ) → is_at (bytes_cmp node) n ≡ false → entry_told index p n ≡ entry_told start p n
  pub advertised : AreAdvertised start → AreAdvertised index

pub leads_first : (index : Index) (node : List ℕ) (all : Prefix → Option PrefixEntry → Option PrefixEntry) → Leads index index node all all
leads_first index node all = record { here = λ p. refl; others = λ p n other. refl; advertised = λ were. were }

leads_more : (start index later : Index) (node : List ℕ) (left all one rest : Prefix → Option PrefixEntry → Option PrefixEntry) → Leads start index node left all
    → IsTold index later node one → ((p : Prefix) (told : Option PrefixEntry) → left p told ≡ rest p (one p told)) → Leads start later node rest all
leads_more start index later node left all one rest lead told same = record {
  here = λ p. ap (rest p) (told.here p) ∙ sym (same p (entry_told index p node)) ∙ lead.here p;
  others = λ p n other. told.others p n other ∙ lead.others p n other;
  advertised = λ were. told.advertised (lead.advertised were);
}

pub withdrawn_more : (start index later : Index) (node : List ℕ) (left rest all : List PrefixEntry) (entry : PrefixEntry) → Leads start index node (withdrawn left) (withdrawn all)
    → left ≡ entry ∷ rest → IsTold index later node (one_withdrawn entry.prefix) → Leads start later node (withdrawn rest) (withdrawn all)
withdrawn_more start index later node left rest all entry lead is told =
    leads_more start index later node (withdrawn left) (withdrawn all) (one_withdrawn entry.prefix) (withdrawn rest) lead told
    (λ p t. ap (λ es. withdrawn es p t) is)

added_last : (before : List PrefixEntry) (entry : PrefixEntry) (p : Prefix) (told : Option PrefixEntry) → added (before ++ entry ∷ []) p told ≡ added before p (one_added entry p told)
added_last [] entry p told = refl
added_last (first ∷ before) entry p told = ap (one_added first p) (added_last before entry p told)

pub added_more : (start index later : Index) (node : List ℕ) (left before all : List PrefixEntry) (entry : PrefixEntry) → Leads start index node (added left) (added all)
    → left ≡ before ++ entry ∷ [] → IsTold index later node (one_added entry) → Leads start later node (added before) (added all)
added_more start index later node left before all entry lead is told =
    leads_more start index later node (added left) (added all) (one_added entry) (added before) lead told
    (λ p t. ap (λ es. added es p t) is ∙ added_last before entry p t)

pub withdrawn_all : (start index : Index) (node : List ℕ) (left all : List PrefixEntry) → left ≡ [] → Leads start index node (withdrawn left) (withdrawn all) → IsTold start index node (withdrawn all)
withdrawn_all start index node left all none lead = record {
  here = λ p. ap (λ es. withdrawn es p (entry_told index p node)) (sym none) ∙ lead.here p;
  others = lead.others;
  advertised = lead.advertised;
}

pub added_all : (start index : Index) (node : List ℕ) (left all : List PrefixEntry) → left ≡ [] → Leads start index node (added left) (added all) → IsTold start index node (added all)
added_all start index node left all none lead = record {
  here = λ p. ap (λ es. added es p (entry_told index p node)) (sym none) ∙ lead.here p;
  others = lead.others;
  advertised = lead.advertised;
}

-- one change after another
pub told_then : (first second third : Index) (node : List ℕ) (f g : Prefix → Option PrefixEntry → Option PrefixEntry) → IsTold first second node f → IsTold second third node g
    → IsTold first third node (λ p told. g p (f p told))
told_then first second third node f g told later = record {
  here = λ p. later.here p ∙ ap (g p) (told.here p);
  others = λ p n other. later.others p n other ∙ told.others p n other;
  advertised = λ were. later.advertised (told.advertised were);
}

pub ruleset entries_steps = (leads_first, withdrawn_more, withdrawn_all, added_more, added_all)
