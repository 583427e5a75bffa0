-- Each entry of a journal, taken, leaves the records of the journal with it.
use Rattle.std.proofs.Common.{◌≡◌, ℕ, List, [], ◌∷◌, ◌++◌, Bool, true, false, cond, Option, Some, None, refl, sym, ◌∙◌, ap, subst, codes, reverse}
use Rattle.std.specs.Prelude.{IfSome, ◌&&◌, option_map, option_and_then}
use Rattle.std.specs.Map.{lookup}
use Rattle.std.specs.BTreeMap.{is_at}
use Rattle.std.specs.List.Sorted.{IsStrictlySortedBy}
use Rattle.std.specs.Ordering.{is_eq}
use Rattle.std.specs.Str.{bytes_eq}
use Rattle.std.proofs.lemmas.Bool.{and_parts}
use Rattle.or_base.specs.Journal.{held_value, latest}
use Rattle.or_base.specs.Order.{bytes_cmp}
use Rattle.or_base.specs.declared.database.AdjDb.{AdjDb}
use Rattle.or_base.specs.declared.database.PrefixDb.{PrefixDb}
use Rattle.or_base.specs.declared.entry.JournalEntry.{JournalEntry}
use Rattle.or_base.specs.declared.entry.JournalEntry.TheVariants.{Merged, Expired, Cleared}
use Rattle.or_base.specs.declared.value.KvValue.{KvValue}
use Rattle.or_base.proofs.Offers.{holds_push}
use Rattle.or_json.specs.Reading.{adj_of, prefixes_of}
use Rattle.ls_graph.specs.Arcs.{usable_arcs}
use Rattle.ls_graph.specs.State.{IsSoundDatabase}
use Rattle.ls_graph.proofs.Order.{bytes_same, name_tests}
use Rattle.ls_records.specs.Records.{keeps_metrics, link_record_if, link_record_in, prefix_record_if, prefix_record_in, link_records, prefix_records}
use Rattle.ls_records.specs.Change.{KnownRecords, known_after}
use Rattle.ls_records.specs.Law.{RecordsAreHeld}
use Rattle.ls_records.specs.Step.{changed, changed_if, rest_after, link_record_under, prefix_record_under, links_with, prefixes_with, with_held, EachEntryIsTaken}
use Rattle.ls_records.proofs.Named.{same_records, ordered_changed, found_changed}
use Rattle.ls_records.proofs.OfKind.{IsKind, records_of, found_held, ordered_held, sound_held}
use Rattle.ls_records.proofs.Readings.{taken_apart, sound_reading}
use Rattle.ls_records.proofs.Starts.{rest_is, rest_of}

-- ---- one entry more

not_there : (start key : List ℕ) (y : List ℕ) (same : Bool) → bytes_eq key (start ++ y) ≡ same → rest_after start key ≡ None → same ≡ false
not_there start key y true is none =
    let wrong : None ≡ Some y = sym none ∙ ap (rest_after start) (bytes_same key (start ++ y) is) ∙ rest_of start y in absurd cc
not_there start key y false is none = refl

module _ {X : Type 0} (start : List ℕ) (record_in : List ℕ → KvValue → Option (List ℕ × X)) (kind : IsKind start record_in) (journal after : List JournalEntry) (key : List ℕ) (value : Option KvValue)
    (now : (k : List ℕ) → held_value after k ≡ cond (bytes_eq key k) value (held_value journal k)) where
  abbrev under : List ℕ → Option KvValue → Option X
  under k v = option_map (λ e. e.1) (option_and_then (record_in k) v)

  elsewhere : (y : List ℕ) → bytes_eq key (start ++ y) ≡ false → lookup (is_at (bytes_cmp y)) (records_of record_in journal) ≡ lookup (is_at (bytes_cmp y)) (records_of record_in after)
  elsewhere y apart =
      found_held start record_in kind journal y
      ∙ ap (under (start ++ y)) (sym (now (start ++ y) ∙ ap (λ t. cond t value (held_value journal (start ++ y))) apart))
      ∙ sym (found_held start record_in kind after y)

  here : (y : List ℕ) → bytes_eq key (start ++ y) ≡ true → under key value ≡ lookup (is_at (bytes_cmp y)) (records_of record_in after)
  here y same =
      ap (λ k. under k value) (bytes_same key (start ++ y) same)
      ∙ ap (under (start ++ y)) (sym (now (start ++ y) ∙ ap (λ t. cond t value (held_value journal (start ++ y))) same))
      ∙ sym (found_held start record_in kind after y)

  either : (y : List ℕ) (same : Bool) → bytes_eq key (start ++ y) ≡ same
      → cond same (under key value) (lookup (is_at (bytes_cmp y)) (records_of record_in journal)) ≡ lookup (is_at (bytes_cmp y)) (records_of record_in after)
  either y true is = here y is
  either y false is = elsewhere y is

  by_node : (node : Option (List ℕ)) → rest_after start key ≡ node → changed_if (records_of record_in journal) node (under key value) ≡ records_of record_in after
  by_node None e =
      same_records (records_of record_in journal) (records_of record_in after) (ordered_held start record_in kind journal) (ordered_held start record_in kind after)
      (λ y. elsewhere y (not_there start key y (bytes_eq key (start ++ y)) refl e))
  by_node (Some node) e =
      let ordered = ordered_held start record_in kind journal in
      let is : key ≡ start ++ node = rest_is start key node e in
      same_records (changed (records_of record_in journal) node (under key value)) (records_of record_in after)
      (ordered_changed (records_of record_in journal) node (under key value) ordered) (ordered_held start record_in kind after)
      (λ y. found_changed (records_of record_in journal) node (under key value) y ordered
      ∙ ap (λ t. cond t (under key value) (lookup (is_at (bytes_cmp y)) (records_of record_in journal)))
      (ap is_eq (sym (kind.in_order node y)) ∙ sym (name_tests (start ++ node) (start ++ y)) ∙ ap (λ k. bytes_eq k (start ++ y)) (sym is))
      ∙ either y (bytes_eq key (start ++ y)) refl)

  pub taken_held : changed_if (records_of record_in journal) (rest_after start key) (under key value) ≡ records_of record_in after
  taken_held = by_node (rest_after start key) refl

-- ---- both kinds

link_if_named : (key : List ℕ) (db : AdjDb) (e : List ℕ × AdjDb) (passes : Bool) → (bytes_eq (codes "adj:" ++ db.node) key && keeps_metrics db) ≡ passes → cond passes (Some (db.node, db)) None ≡ Some e
    → (codes "adj:" ++ e.0 ≡ key) × (db ≡ e.1) × (keeps_metrics db ≡ true)
link_if_named key db e true is found =
    let read : (db.node, db) ≡ e = cc in
    let tests = and_parts _ _ is in
    (ap (λ r. codes "adj:" ++ r.0) (sym read) ∙ bytes_same (codes "adj:" ++ db.node) key tests.0, ap (λ r. r.1) read, tests.1)
link_if_named key db e false is found = absurd cc

link_named : (key : List ℕ) (value : KvValue) (e : List ℕ × AdjDb) → link_record_in key value ≡ Some e → (codes "adj:" ++ e.0 ≡ key) × IsSoundDatabase e.1
unfolding link_record_in
link_named key value e is =
    let read = taken_apart (adj_of value.value) (link_record_if key) e is in
    let named = link_if_named key read.0 e (bytes_eq (codes "adj:" ++ read.0.node) key && keeps_metrics read.0) refl read.2 in
    (named.0, subst IsSoundDatabase named.1 (sound_reading value.value read.0 read.1 named.2))

link_kind : IsKind (codes "adj:") link_record_in
link_kind = record { in_order = λ a b. refl; named = λ key value e is. (link_named key value e is).0 }

-- a link record that is held is sound, and names the node of its key
pub under_sound : (key node : List ℕ) (value : Option KvValue) → rest_after (codes "adj:") key ≡ Some node
    → IfSome (link_record_under key value) (λ db. IsSoundDatabase db × (db.node ≡ node))
unfolding link_record_under link_record_in
under_sound key node None names = tt
under_sound key node (Some value) names = by_text (adj_of value.value) refl where
  by_passes : (db : AdjDb) → adj_of value.value ≡ Some db → (passes : Bool) → (bytes_eq (codes "adj:" ++ db.node) key && keeps_metrics db) ≡ passes
      → IfSome (option_map (λ (r : List ℕ × AdjDb). r.1) (cond passes (Some (db.node, db)) None)) (λ d. IsSoundDatabase d × (d.node ≡ node))
  by_passes db is true e =
      let tests = and_parts (bytes_eq (codes "adj:" ++ db.node) key) (keeps_metrics db) e in
      let same : Some db.node ≡ Some node = sym (rest_of (codes "adj:") db.node) ∙ ap (rest_after (codes "adj:")) (bytes_same (codes "adj:" ++ db.node) key tests.0) ∙ names in
      (sound_reading value.value db is tests.1, cc)
  by_passes db is false e = tt

  by_text : (text : Option AdjDb) → adj_of value.value ≡ text → IfSome (option_map (λ r. r.1) (option_and_then (link_record_if key) text)) (λ d. IsSoundDatabase d × (d.node ≡ node))
  by_text None is = tt
  by_text (Some db) is = by_passes db is (bytes_eq (codes "adj:" ++ db.node) key && keeps_metrics db) refl

prefix_if_named : (key : List ℕ) (db : PrefixDb) (e : List ℕ × PrefixDb) (same : Bool) → bytes_eq (codes "prefix:" ++ db.node) key ≡ same → cond same (Some (db.node, db)) None ≡ Some e
    → codes "prefix:" ++ e.0 ≡ key
prefix_if_named key db e true is found =
    let read : (db.node, db) ≡ e = cc in ap (λ r. codes "prefix:" ++ r.0) (sym read) ∙ bytes_same (codes "prefix:" ++ db.node) key is
prefix_if_named key db e false is found = absurd cc

prefix_named : (key : List ℕ) (value : KvValue) (e : List ℕ × PrefixDb) → prefix_record_in key value ≡ Some e → codes "prefix:" ++ e.0 ≡ key
unfolding prefix_record_in
prefix_named key value e is =
    let read = taken_apart (prefixes_of value.value) (prefix_record_if key) e is in
    prefix_if_named key read.0 e (bytes_eq (codes "prefix:" ++ read.0.node) key) refl read.2

prefix_kind : IsKind (codes "prefix:") prefix_record_in
prefix_kind = record { in_order = λ a b. refl; named = prefix_named }

pub records_are_held : RecordsAreHeld
unfolding link_records prefix_records
records_are_held = record {
  links = found_held (codes "adj:") link_record_in link_kind;
  prefixes = found_held (codes "prefix:") prefix_record_in prefix_kind;
  sound = λ journal. record {
    by_name = ordered_held (codes "adj:") link_record_in link_kind journal;
    each = sound_held (codes "adj:") link_record_in link_kind IsSoundDatabase (λ key value e is. (link_named key value e is).1) journal;
  };
  by_name = ordered_held (codes "prefix:") prefix_record_in prefix_kind;
}

-- what is held under each key once a key has this value, or none
abbrev Holds : List JournalEntry → List JournalEntry → List ℕ → Option KvValue → Type 0
Holds journal after key value = (k : List ℕ) → held_value after k ≡ cond (bytes_eq key k) value (held_value journal k)

taken_both : (me : List ℕ) (journal after : List JournalEntry) (key : List ℕ) (value : Option KvValue) → Holds journal after key value
    → with_held (known_after me journal) key value ≡ known_after me after
unfolding with_held links_with prefixes_with link_record_under prefix_record_under link_records prefix_records
taken_both me journal after key value now =
    ap
    (λ links. record {
      me = me;
      links = links;
      arcs = usable_arcs me links;
      prefixes = changed_if (records_of prefix_record_in journal) (rest_after (codes "prefix:") key) (option_map (λ e. e.1) (option_and_then (prefix_record_in key) value));
    })
    (taken_held (codes "adj:") link_record_in link_kind journal after key value now)
    ∙ ap (λ prefixes. record { me = me; links = records_of link_record_in after; arcs = usable_arcs me (records_of link_record_in after); prefixes = prefixes })
    (taken_held (codes "prefix:") prefix_record_in prefix_kind journal after key value now)

merged_if : (same : Bool) (value : KvValue) (at : ℕ) (older : Option (KvValue × ℕ))
    → option_map (λ held. held.0) (cond same (Some (value, at)) older) ≡ cond same (Some value) (option_map (λ held. held.0) older)
merged_if true value at older = refl
merged_if false value at older = refl

expired_if : (same : Bool) (older : Option (KvValue × ℕ)) → option_map (λ held. held.0) (cond same None older) ≡ cond same None (option_map (λ held. held.0) older)
expired_if true older = refl
expired_if false older = refl

cleared_all : {X : Type 0} (start : List ℕ) (record_in : List ℕ → KvValue → Option (List ℕ × X)) → IsKind start record_in → (after : List JournalEntry)
    → ((k : List ℕ) → held_value after k ≡ None) → [] ≡ records_of record_in after
unfolding IsStrictlySortedBy
cleared_all start record_in kind after none =
    same_records [] (records_of record_in after) tt (ordered_held start record_in kind after)
    (λ y. ap (λ v. option_map (λ e. e.1) (option_and_then (record_in (start ++ y)) v)) (sym (none (start ++ y))) ∙ sym (found_held start record_in kind after y))

cleared_both : (me : List ℕ) (k : KnownRecords) (after : List JournalEntry) → k.me ≡ me → ((key : List ℕ) → held_value after key ≡ None)
    → record { me = k.me; links = []; arcs = usable_arcs k.me []; prefixes = [] } ≡ known_after me after
unfolding link_records prefix_records
cleared_both me k after same none =
    ap (λ name. record { me = name; links = []; arcs = usable_arcs name []; prefixes = [] }) same
    ∙ ap (λ links. record { me = me; links = links; arcs = usable_arcs me links; prefixes = [] }) (cleared_all (codes "adj:") link_record_in link_kind after none)
    ∙ ap (λ prefixes. record { me = me; links = records_of link_record_in after; arcs = usable_arcs me (records_of link_record_in after); prefixes = prefixes })
    (cleared_all (codes "prefix:") prefix_record_in prefix_kind after none)

pub each_entry_is_taken : EachEntryIsTaken
each_entry_is_taken me journal (Merged pair at origin) =
    taken_both me journal (journal ++ Merged pair at origin ∷ []) pair.key (Some pair.value)
    (λ k. ap (λ held. option_map (λ h. h.0) held) (holds_push journal (Merged pair at origin) k) ∙ merged_if (bytes_eq pair.key k) pair.value at (latest (reverse journal) k))
each_entry_is_taken me journal (Expired key at) =
    taken_both me journal (journal ++ Expired key at ∷ []) key None
    (λ k. ap (λ held. option_map (λ h. h.0) held) (holds_push journal (Expired key at) k) ∙ expired_if (bytes_eq key k) (latest (reverse journal) k))
each_entry_is_taken me journal (Cleared at) =
    cleared_both me (known_after me journal) (journal ++ Cleared at ∷ []) refl (λ k. ap (λ held. option_map (λ h. h.0) held) (holds_push journal (Cleared at) k))
