-- Who advertises a prefix by the records, and the prefixes that somebody does.
use Rattle.std.proofs.Common.{◌≡◌, ℕ, List, [], ◌∷◌, Bool, true, false, cond, Option, Some, None, refl, sym, ◌∙◌, ap, subst}
use Rattle.std.specs.Prelude.{IfSome, option_map}
use Rattle.std.specs.Borrow.{Bor}
use Rattle.std.specs.declared.cmp.Ordering.TheVariants.{Less}
use Rattle.std.specs.List.{AllByRecursion, cons_option, filter_map, list_any}
use Rattle.std.specs.List.Sorted.{IsStrictlySortedBy}
use Rattle.std.specs.Map.{keys_of, lookup}
use Rattle.std.specs.BTreeMap.{BTreeMap, is_at}
use Rattle.std.proofs.lemmas.Cmp.{nat_list_cmp_total, eq_by_cmp_equiv}
use Rattle.std.proofs.lemmas.Map.{lookup-none}
use Rattle.std.proofs.lemmas.Map.Entries.{none_past_head}
use Rattle.std.proofs.lemmas.Map.Keys.{sorted_tail, IsDistinct-from_sorted}
use Rattle.or_base.specs.Order.{bytes_cmp}
use Rattle.or_base.specs.Prefixes.{prefix_cmp, is_same_prefix}
use Rattle.or_base.specs.declared.database.PrefixDb.{PrefixDb}
use Rattle.or_base.specs.declared.database.PrefixEntry.{PrefixEntry}
use Rattle.or_base.specs.declared.prefix.Prefix.{Prefix}
use Rattle.ls_records.specs.Records.{advertised_by, advertisers, entry_for}
use Rattle.ls_records.specs.Change.{KeepsAdvertisers}
use Rattle.ls_records.specs.Step.{changed}
use Rattle.ls_records.specs.Index.{Index, IsIndexOf, IsTold, IsAdvertised, advertisers_if_any, changed_prefixes, entries_in, entry_among, entry_at, entry_by, entry_told, added, withdrawn}
use Rattle.ls_graph.proofs.Order.{same_name, name_itself}
use Rattle.ls_records.proofs.Named.{AreByName, same_records, found_changed, ordered_changed}
use Rattle.ls_records.proofs.Covering.{same_entries}

-- ---- look-ups among those who advertise

one_found : (p : Prefix) (n : List ℕ) (e : List ℕ × PrefixDb) (es : List (List ℕ × PrefixDb)) (rest : List (List ℕ × PrefixEntry)) (found : Option PrefixEntry)
    → entry_among p e.1.entries ≡ found → (at : Bool) → is_at (bytes_cmp n) e.0 ≡ at → (at ≡ true → lookup (is_at (bytes_cmp n)) es ≡ None)
    → lookup (is_at (bytes_cmp n)) rest ≡ entry_among p (entries_in (lookup (is_at (bytes_cmp n)) es))
    → lookup (is_at (bytes_cmp n)) (cons_option (option_map (λ entry. (e.0, entry)) found) rest) ≡ entry_among p (entries_in (cond at (Some e.1) (lookup (is_at (bytes_cmp n)) es)))
one_found p n e es rest None is true here apart later = later ∙ ap (λ db. entry_among p (entries_in db)) (apart refl) ∙ sym is
one_found p n e es rest None is false here apart later = later
one_found p n e es rest (Some x) is true here apart later = ap (λ t. cond t (Some x) (lookup (is_at (bytes_cmp n)) rest)) here ∙ sym is
one_found p n e es rest (Some x) is false here apart later = ap (λ t. cond t (Some x) (lookup (is_at (bytes_cmp n)) rest)) here ∙ later

found_among : (p : Prefix) (n : List ℕ) (records : List (List ℕ × PrefixDb)) → AreByName records
    → lookup (is_at (bytes_cmp n)) (filter_map (advertised_by p) records) ≡ entry_by records p n
found_among p n [] ordered = refl
found_among p n (e ∷ es) ordered =
    one_found p n e es (filter_map (advertised_by p) es) (entry_for p e.1) refl (is_at (bytes_cmp n) e.0) refl
    (λ here. lookup-none (is_at (bytes_cmp n)) es
    (none_past_head (eq_by_cmp_equiv nat_list_cmp_total) n e es (IsDistinct-from_sorted bytes_cmp (keys_of (e ∷ es)) ordered) here))
    (found_among p n es (sorted_tail bytes_cmp e.0 (keys_of es) ordered))

one_above : (name : List ℕ) (e : List ℕ × PrefixDb) (found : Option PrefixEntry) (rest : List (List ℕ × PrefixEntry)) → bytes_cmp name e.0 ≡ Less
    → AllByRecursion (λ other. bytes_cmp name other ≡ Less) (keys_of rest)
    → AllByRecursion (λ other. bytes_cmp name other ≡ Less) (keys_of (cons_option (option_map (λ entry. (e.0, entry)) found) rest))
one_above name e None rest here later = later
one_above name e (Some x) rest here later = (here, later)

all_above : (p : Prefix) (name : List ℕ) (records : List (List ℕ × PrefixDb)) → AllByRecursion (λ other. bytes_cmp name other ≡ Less) (keys_of records)
    → AllByRecursion (λ other. bytes_cmp name other ≡ Less) (keys_of (filter_map (advertised_by p) records))
all_above p name [] above = tt
all_above p name (e ∷ es) above = one_above name e (entry_for p e.1) (filter_map (advertised_by p) es) above.0 (all_above p name es above.1)

one_ordered : (e : List ℕ × PrefixDb) (found : Option PrefixEntry) (rest : List (List ℕ × PrefixEntry)) → AllByRecursion (λ other. bytes_cmp e.0 other ≡ Less) (keys_of rest)
    → AreByName rest → AreByName (cons_option (option_map (λ entry. (e.0, entry)) found) rest)
unfolding IsStrictlySortedBy
one_ordered e None rest above later = later
one_ordered e (Some x) rest above later = (above, later)

ordered_among : (p : Prefix) (records : List (List ℕ × PrefixDb)) → AreByName records → AreByName (filter_map (advertised_by p) records)
unfolding IsStrictlySortedBy
ordered_among p [] ordered = tt
ordered_among p (e ∷ es) ordered =
    one_ordered e (entry_for p e.1) (filter_map (advertised_by p) es) (all_above p e.0 es ordered.0) (ordered_among p es ordered.1)

found_advertisers : (p : Prefix) (n : List ℕ) (records : List (List ℕ × PrefixDb)) → AreByName records → lookup (is_at (bytes_cmp n)) (advertisers records p) ≡ entry_by records p n
unfolding advertisers
found_advertisers p n records ordered = found_among p n records ordered

ordered_advertisers : (p : Prefix) (records : List (List ℕ × PrefixDb)) → AreByName records → AreByName (advertisers records p)
unfolding advertisers
ordered_advertisers p records ordered = ordered_among p records ordered

no_names : AreByName {X = PrefixEntry} []
unfolding IsStrictlySortedBy
no_names = tt

abbrev pub entries_of : Option (BTreeMap (List ℕ) PrefixEntry) → List (List ℕ × PrefixEntry)
entries_of None = []
entries_of (Some all) = all.entries

pub found_at : (all : Option (BTreeMap (List ℕ) PrefixEntry)) (records : List (List ℕ × PrefixDb)) (p : Prefix) → IfSome all IsAdvertised → AreByName records
    → ((n : List ℕ) → entry_at n all ≡ entry_by records p n) → entries_of all ≡ advertisers records p
found_at None records p advertised ordered same =
    same_records [] (advertisers records p) no_names (ordered_advertisers p records ordered) (λ n. same n ∙ sym (found_advertisers p n records ordered))
found_at (Some all) records p advertised ordered same =
    same_records all.entries (advertisers records p) advertised.1 (ordered_advertisers p records ordered) (λ n. same n ∙ sym (found_advertisers p n records ordered))

copied_entries : (found : Option (Bor (BTreeMap (List ℕ) PrefixEntry))) → advertisers_if_any found ≡ entries_of (option_map (λ b. b.now) found)
copied_entries None = refl
copied_entries (Some all) = refl

-- what the index has for a prefix is who advertises it
pub found_index : (index : Index) (records : List (List ℕ × PrefixDb)) (p : Prefix) (found : Option (Bor (BTreeMap (List ℕ) PrefixEntry)))
    → IsIndexOf index records → AreByName records → option_map (λ b. b.now) found ≡ lookup (is_at (prefix_cmp p)) index → advertisers_if_any found ≡ advertisers records p
found_index index records p found is ordered got =
    copied_entries found ∙ ap entries_of got
    ∙ found_at (lookup (is_at (prefix_cmp p)) index) records p (is.advertised p) ordered (λ n. is.told p n)

-- ---- one record in place of another

none_still : (t : Bool) (x : Option PrefixEntry) → cond t x x ≡ x
none_still true x = refl
none_still false x = refl

withdrawn_none : (entries : List PrefixEntry) (p : Prefix) → withdrawn entries p None ≡ None
withdrawn_none [] p = refl
withdrawn_none (entry ∷ entries) p = ap (withdrawn entries p) (none_still (is_same_prefix entry.prefix p) None) ∙ withdrawn_none entries p

own_by_first : (t : Bool) (entry : PrefixEntry) (entries : List PrefixEntry) (p : Prefix) → withdrawn entries p (entry_among p entries) ≡ None
    → withdrawn entries p (cond t None (cond t (Some entry) (entry_among p entries))) ≡ None
own_by_first true entry entries p later = withdrawn_none entries p
own_by_first false entry entries p later = later

-- without its entries a node has none
withdrawn_own : (entries : List PrefixEntry) (p : Prefix) → withdrawn entries p (entry_among p entries) ≡ None
withdrawn_own [] p = refl
withdrawn_own (entry ∷ entries) p = own_by_first (is_same_prefix entry.prefix p) entry entries p (withdrawn_own entries p)

added_alone : (entries : List PrefixEntry) (p : Prefix) → added entries p None ≡ entry_among p entries
added_alone [] p = refl
added_alone (entry ∷ entries) p = ap (λ told. cond (is_same_prefix entry.prefix p) (Some entry) told) (added_alone entries p)

-- the index with the node's new entries is that of the records with its new record
pub index_changed : (before after : Index) (records : List (List ℕ × PrefixDb)) (node : List ℕ) (db : Option PrefixDb) → IsIndexOf before records → AreByName records
    → IsTold before after node (λ p told. added (entries_in db) p (withdrawn (entries_in (lookup (is_at (bytes_cmp node)) records)) p told))
    → IsIndexOf after (changed records node db)
index_changed before after records node db is ordered told = record {
  told = λ p n. by_name p n (is_at (bytes_cmp node) n) refl;
  advertised = told.advertised is.advertised;
} where
  by_name : (p : Prefix) (n : List ℕ) (here : Bool) → is_at (bytes_cmp node) n ≡ here → entry_told after p n ≡ entry_by (changed records node db) p n
  by_name p n true e =
      ap (entry_told after p) (sym (same_name node n e)) ∙ told.here p
      ∙ ap (λ t. added (entries_in db) p (withdrawn (entries_in (lookup (is_at (bytes_cmp node)) records)) p t)) (is.told p node)
      ∙ ap (added (entries_in db) p) (withdrawn_own (entries_in (lookup (is_at (bytes_cmp node)) records)) p)
      ∙ added_alone (entries_in db) p
      ∙ ap (λ found. entry_among p (entries_in found)) (sym (found_changed records node db n ordered ∙ ap (λ t. cond t db (lookup (is_at (bytes_cmp n)) records)) e))
  by_name p n false e =
      told.others p n e ∙ is.told p n
      ∙ ap (λ found. entry_among p (entries_in found)) (sym (found_changed records node db n ordered ∙ ap (λ t. cond t db (lookup (is_at (bytes_cmp n)) records)) e))

pub no_index : IsIndexOf [] []
no_index = record { told = λ p n. refl; advertised = λ p. tt }

told_same : (before after : Index) (records : List (List ℕ × PrefixDb)) (node : List ℕ) (db : Option PrefixDb) (p : Prefix) → IsIndexOf before records → AreByName records → IsIndexOf after (changed records node db)
    → ((q : Prefix) (other : List ℕ) → is_at (bytes_cmp node) other ≡ false → entry_told after q other ≡ entry_told before q other)
    → list_any (is_same_prefix p) (changed_prefixes before after node (entries_in (lookup (is_at (bytes_cmp node)) records)) (entries_in db)) ≡ false
    → (n : List ℕ) (here : Bool) → is_at (bytes_cmp node) n ≡ here → entry_told after p n ≡ entry_told before p n
told_same before after records node db p is ordered is' others none n true e =
    let now : lookup (is_at (bytes_cmp node)) (changed records node db) ≡ db =
    found_changed records node db node ordered ∙ ap (λ t. cond t db (lookup (is_at (bytes_cmp node)) records)) (name_itself node) in
    subst (λ k. entry_told after p k ≡ entry_told before p k) (same_name node n e)
    (same_entries before after node (entries_in (lookup (is_at (bytes_cmp node)) records)) (entries_in db) p none (is.told p node) (is'.told p node ∙ ap (λ found. entry_among p (entries_in found)) now))
told_same before after records node db p is ordered is' others none n false e = others p n e

-- the node's new record in place of the old one: a prefix that isn't listed has the advertisers that it had
pub keeps_others : (before after : Index) (records : List (List ℕ × PrefixDb)) (node : List ℕ) (db : Option PrefixDb) (listed : List Prefix) → IsIndexOf before records → AreByName records
    → IsTold before after node (λ p told. added (entries_in db) p (withdrawn (entries_in (lookup (is_at (bytes_cmp node)) records)) p told))
    → listed ≡ changed_prefixes before after node (entries_in (lookup (is_at (bytes_cmp node)) records)) (entries_in db)
    → KeepsAdvertisers records (changed records node db) listed
keeps_others before after records node db listed is ordered told listed_is p none =
    let is' = index_changed before after records node db is ordered told in
    let later = ordered_changed records node db ordered in
    same_records (advertisers (changed records node db) p) (advertisers records p) (ordered_advertisers p (changed records node db) later) (ordered_advertisers p records ordered)
    (λ n. found_advertisers p n (changed records node db) later ∙ sym (is'.told p n)
    ∙ told_same before after records node db p is ordered is' told.others (ap (list_any (is_same_prefix p)) (sym listed_is) ∙ none) n (is_at (bytes_cmp node) n) refl
    ∙ is.told p n ∙ sym (found_advertisers p n records ordered))

-- the same where the entries and the records are given by equations
abbrev IsReplaced : Index → Index → List (List ℕ × PrefixDb) → List ℕ → Option PrefixDb → List PrefixEntry → List PrefixEntry → Type 0
IsReplaced before after records node db old new =
    (old ≡ entries_in (lookup (is_at (bytes_cmp node)) records)) × (new ≡ entries_in db) × IsTold before after node (λ p told. added new p (withdrawn old p told))

replaced_told : (before after : Index) (records : List (List ℕ × PrefixDb)) (node : List ℕ) (db : Option PrefixDb) (old new : List PrefixEntry) → IsReplaced before after records node db old new
    → IsTold before after node (λ p told. added (entries_in db) p (withdrawn (entries_in (lookup (is_at (bytes_cmp node)) records)) p told))
replaced_told before after records node db old new is =
    subst (λ es. IsTold before after node (λ p told. added (entries_in db) p (withdrawn es p told))) is.0
    (subst (λ es. IsTold before after node (λ p told. added es p (withdrawn old p told))) is.1 is.2)

pub index_replaced : (before after : Index) (records left : List (List ℕ × PrefixDb)) (node : List ℕ) (db : Option PrefixDb) (old new : List PrefixEntry) → IsIndexOf before records → AreByName records
    → IsReplaced before after records node db old new → left ≡ changed records node db → IsIndexOf after left
index_replaced before after records left node db old new is ordered told put =
    subst (IsIndexOf after) (sym put) (index_changed before after records node db is ordered (replaced_told before after records node db old new told))

pub others_kept : (before after : Index) (records left shown : List (List ℕ × PrefixDb)) (node : List ℕ) (db : Option PrefixDb) (old new : List PrefixEntry) (listed : List Prefix)
    → IsIndexOf before records → AreByName records → IsReplaced before after records node db old new → left ≡ changed records node db → records ≡ shown
    → listed ≡ changed_prefixes before after node old new → KeepsAdvertisers shown left listed
others_kept before after records left shown node db old new listed is ordered told put view list p none =
    ap (λ rs. advertisers rs p) put
    ∙ keeps_others before after records node db listed is ordered (replaced_told before after records node db old new told)
    (list ∙ ap (λ es. changed_prefixes before after node es new) told.0 ∙ ap (changed_prefixes before after node (entries_in (lookup (is_at (bytes_cmp node)) records))) told.1) p none
    ∙ ap (λ rs. advertisers rs p) view
