-- What is known once something is held under a key: the records of its kind change, and those of the other kind stay.
use Rattle.std.proofs.Common.{◌≡◌, ℕ, List, [], Bool, true, false, cond, Option, Some, None, refl, sym, ◌∙◌, ap, subst, codes, arith}
use Rattle.std.specs.Prelude.{not}
use Rattle.std.specs.Option.{option_map_or}
use Rattle.std.specs.Bool.{beq}
use Rattle.std.specs.Str.{bytes_eq}
use Rattle.std.specs.Map.{lookup}
use Rattle.std.specs.BTreeMap.{is_at}
use Rattle.std.specs.List.Sorted.{IsStrictlySortedBy}
use Rattle.std.proofs.lemmas.Bool.{false≢true}
use Rattle.std.proofs.lemmas.Slice.Eq.{bytes_eq-Decides}
use Rattle.or_base.specs.Order.{bytes_cmp}
use Rattle.or_base.specs.Prefixes.{prefix_cmp}
use Rattle.or_base.specs.declared.database.AdjDb.{AdjDb}
use Rattle.or_base.specs.declared.database.PrefixDb.{PrefixDb}
use Rattle.or_base.specs.declared.prefix.Prefix.{Prefix}
use Rattle.or_base.specs.declared.value.KvValue.{KvValue}
use Rattle.ls_graph.specs.Arcs.{usable_arcs}
use Rattle.ls_graph.specs.Changes.{AreChanges}
use Rattle.ls_graph.specs.State.{KnownLinks}
use Rattle.ls_graph.specs.declared.arc.Arc.{Arc}
use Rattle.ls_graph.specs.declared.change.LinkChange.{LinkChange}
use Rattle.ls_graph.proofs.Order.{name_tests}
use Rattle.ls_graph.proofs.Lists.{none_in_nothing}
use Rattle.ls_records.specs.Records.{link_records, prefix_records, advertisers}
use Rattle.ls_records.specs.Change.{KnownRecords, KeepsAdvertisers, Covers, is_overloaded, is_that, known_after}
use Rattle.ls_records.specs.Links.{CoversLinks, name_if, with_record}
use Rattle.ls_records.specs.Step.{changed, changed_if, rest_after, link_record_under, prefix_record_under, links_with, prefixes_with, with_held}
use Rattle.ls_records.specs.declared.change.RecordChange.{RecordChange}
use Rattle.ls_records.proofs.Named.{AreByName, found_changed}
use Rattle.ls_records.proofs.Starts.{rest_is}

-- the two kinds of records side by side
abbrev pub both : KnownLinks → List (List ℕ × PrefixDb) → KnownRecords
both links prefixes = record { me = links.me; links = links.databases; arcs = links.in_force; prefixes = prefixes }

-- what is known of nothing
pub nothing_known : (me : List ℕ) (links : KnownLinks) (prefixes : List (List ℕ × PrefixDb)) → links ≡ record { me = me; databases = []; in_force = [] } → prefixes ≡ []
    → both links prefixes ≡ known_after me []
unfolding link_records prefix_records usable_arcs
nothing_known me links prefixes no_links no_prefixes = ap (λ l. both l prefixes) no_links ∙ ap (λ ps. both (record { me = me; databases = []; in_force = [] }) ps) no_prefixes

-- what is known once nothing is held
pub nothing_left : (me name : List ℕ) (links : KnownLinks) (prefixes : List (List ℕ × PrefixDb)) → links ≡ record { me = name; databases = []; in_force = [] } → name ≡ me → prefixes ≡ []
    → both links prefixes ≡ record { me = me; links = []; arcs = usable_arcs me []; prefixes = [] }
unfolding usable_arcs
nothing_left me name links prefixes no_links named no_prefixes =
    ap (λ l. both l prefixes) no_links ∙ ap (λ ps. both (record { me = name; databases = []; in_force = [] }) ps) no_prefixes
    ∙ ap (λ n. record { me = n; links = []; arcs = []; prefixes = [] }) named

-- ---- link records

one_flag : (s t : Bool) → not (beq s t) ≡ false → s ≡ t
one_flag true true e = refl
one_flag true false e = absurd (false≢true (sym e))
one_flag false true e = absurd (false≢true (sym e))
one_flag false false e = refl

-- another node's flag stays
flag_stays : (databases : List (List ℕ × AdjDb)) (node : List ℕ) (db : Option AdjDb) → AreByName databases → (other : List ℕ) → bytes_eq node other ≡ false
    → is_overloaded (changed databases node db) other ≡ is_overloaded databases other
flag_stays databases node db ordered other e =
    ap (λ found. option_map_or (λ (d : AdjDb). d.overload) found false)
    (found_changed databases node db other ordered ∙ ap (λ t. cond t db (lookup (is_at (bytes_cmp other)) databases)) (sym (name_tests node other) ∙ e))

-- a link record in place of the one before
pub covers_links : (before state after : KnownLinks) (node : List ℕ) (db : Option AdjDb) (changes : List LinkChange) (was is : Bool) → state ≡ before → AreByName state.databases
    → after ≡ with_record state node db → AreChanges state.in_force after.in_force changes → was ≡ is_overloaded before.databases node → is ≡ is_overloaded after.databases node
    → CoversLinks before after changes node (not (beq was is))
covers_links before state after node db changes was is shown ordered put links was_so is_so = record {
  links = subst (λ k. AreChanges k.in_force after.in_force changes) shown links;
  others = λ other e.
      let databases : after.databases ≡ changed before.databases node db = ap (λ k. k.databases) put ∙ ap (λ k. changed k.databases node db) shown in
      let ordered' : AreByName before.databases = subst (λ k. AreByName k.databases) shown ordered in
      ap (λ ds. is_overloaded ds other) databases ∙ flag_stays before.databases node db ordered' other e;
  own = λ e. sym is_so ∙ sym (one_flag was is e) ∙ was_so;
}

-- ---- what is held under a key

no_prefix_key : (key node : List ℕ) → rest_after (codes "adj:") key ≡ Some node → rest_after (codes "prefix:") key ≡ None
no_prefix_key key node e = ap (rest_after (codes "prefix:")) (rest_is (codes "adj:") key node e)

no_link_key : (key node : List ℕ) → rest_after (codes "prefix:") key ≡ Some node → rest_after (codes "adj:") key ≡ None
no_link_key key node e = ap (rest_after (codes "adj:")) (rest_is (codes "prefix:") key node e)

-- the records of both kinds, by their keys
held_both : (k : KnownRecords) (key : List ℕ) (value : Option KvValue) (links : List (List ℕ × AdjDb)) (prefixes : List (List ℕ × PrefixDb))
    → links ≡ changed_if k.links (rest_after (codes "adj:") key) (link_record_under key value)
    → prefixes ≡ changed_if k.prefixes (rest_after (codes "prefix:") key) (prefix_record_under key value)
    → record { me = k.me; links = links; arcs = usable_arcs k.me links; prefixes = prefixes } ≡ with_held k key value
unfolding with_held links_with prefixes_with
held_both k key value links prefixes e f =
    ap (λ ls. record { me = k.me; links = ls; arcs = usable_arcs k.me ls; prefixes = prefixes }) e
    ∙ ap
    (λ ps. record {
      me = k.me;
      links = changed_if k.links (rest_after (codes "adj:") key) (link_record_under key value);
      arcs = usable_arcs k.me (changed_if k.links (rest_after (codes "adj:") key) (link_record_under key value));
      prefixes = ps;
    }) f

pub link_held : (links after : KnownLinks) (prefixes : List (List ℕ × PrefixDb)) (k : KnownRecords) (key node name : List ℕ) (db : Option AdjDb) (value : Option KvValue)
    → both links prefixes ≡ k → rest_after (codes "adj:") key ≡ Some node → name ≡ node → db ≡ link_record_under key value → after ≡ with_record links name db
    → both after prefixes ≡ with_held k key value
link_held links after prefixes k key node name db value shown names named read put =
    ap (λ l. both l prefixes) put
    ∙ held_both (both links prefixes) key value (changed links.databases name db) prefixes
    (ap (λ n. changed links.databases n db) named ∙ ap (changed links.databases node) read
    ∙ ap (λ found. changed_if links.databases found (link_record_under key value)) (sym names))
    (ap (λ found. changed_if prefixes found (prefix_record_under key value)) (sym (no_prefix_key key node names)))
    ∙ ap (λ r. with_held r key value) shown

pub prefix_held : (links : KnownLinks) (prefixes after : List (List ℕ × PrefixDb)) (k : KnownRecords) (key node name : List ℕ) (db : Option PrefixDb) (value : Option KvValue)
    → both links prefixes ≡ k → links.in_force ≡ usable_arcs links.me links.databases → rest_after (codes "prefix:") key ≡ Some node → name ≡ node → db ≡ prefix_record_under key value
    → after ≡ changed prefixes name db → both links after ≡ with_held k key value
prefix_held links prefixes after k key node name db value shown settled names named read put =
    ap (λ arcs. record { me = links.me; links = links.databases; arcs = arcs; prefixes = after }) settled
    ∙ held_both (both links prefixes) key value links.databases after
    (ap (λ found. changed_if links.databases found (link_record_under key value)) (sym (no_link_key key node names)))
    (put ∙ ap (λ n. changed prefixes n db) named ∙ ap (changed prefixes node) read
    ∙ ap (λ found. changed_if prefixes found (prefix_record_under key value)) (sym names))
    ∙ ap (λ r. with_held r key value) shown

-- a key of neither kind
pub neither_held : (links : KnownLinks) (prefixes : List (List ℕ × PrefixDb)) (k : KnownRecords) (key : List ℕ) (value : Option KvValue)
    → both links prefixes ≡ k → links.in_force ≡ usable_arcs links.me links.databases → rest_after (codes "adj:") key ≡ None → rest_after (codes "prefix:") key ≡ None
    → k ≡ with_held k key value
neither_held links prefixes k key value shown settled no_link no_prefix =
    sym shown
    ∙ ap (λ arcs. record { me = links.me; links = links.databases; arcs = arcs; prefixes = prefixes }) settled
    ∙ held_both (both links prefixes) key value links.databases prefixes
    (ap (λ found. changed_if links.databases found (link_record_under key value)) (sym no_link))
    (ap (λ found. changed_if prefixes found (prefix_record_under key value)) (sym no_prefix))
    ∙ ap (λ r. with_held r key value) shown

-- ---- what changes

-- from arcs to the same arcs nothing changes
pub no_changes : (arcs : List Arc) (changes : List LinkChange) → changes ≡ [] → AreChanges arcs arcs changes
no_changes arcs changes none = subst (AreChanges arcs arcs) (sym none) (record {
  sound = λ c among. absurd (none_in_nothing c among);
  all = λ a among differ. absurd (differ refl);
  in_order = λ i j d lt within. absurd (omega arith);
})

flags_told : (before after : KnownLinks) (changes : List LinkChange) (node : List ℕ) (differs : Bool) → CoversLinks before after changes node differs → (other : List ℕ)
    → is_that (name_if differs node) other ≡ false → is_overloaded after.databases other ≡ is_overloaded before.databases other
flags_told before after changes node true covers other e = covers.others other e
flags_told before after changes node false covers other e = by_name (bytes_eq node other) refl where
  by_name : (here : Bool) → bytes_eq node other ≡ here → is_overloaded after.databases other ≡ is_overloaded before.databases other
  by_name true e = subst (λ name. is_overloaded after.databases name ≡ is_overloaded before.databases name) ((bytes_eq-Decides node other).0 e) (covers.own refl)
  by_name false e = covers.others other e

pub covers_link : (links after : KnownLinks) (prefixes : List (List ℕ × PrefixDb)) (k : KnownRecords) (node : List ℕ) (differs : Bool) (change : RecordChange) → both links prefixes ≡ k
    → CoversLinks links after change.links.items node differs → change.transit ≡ name_if differs node → change.prefixes.items ≡ [] → Covers k (both after prefixes) change
unfolding IsStrictlySortedBy
covers_link links after prefixes k node differs change shown covers told none any = record {
  links = subst (λ r. AreChanges r.arcs after.in_force change.links.items) shown covers.links;
  transit = λ other e.
      flags_told links after change.links.items node differs covers other (ap (λ t. is_that t other) (sym told) ∙ e) ∙ ap (λ r. is_overloaded r.links other) shown;
  in_order = subst (IsStrictlySortedBy prefix_cmp) (sym none) tt;
  prefixes = λ p unlisted. ap (λ r. advertisers r.prefixes p) shown;
}

-- a change of prefixes alone
pub covers_prefixes : (links : KnownLinks) (prefixes after : List (List ℕ × PrefixDb)) (k : KnownRecords) (change : RecordChange) (listed : List Prefix) → both links prefixes ≡ k
    → change.links.items ≡ [] → change.prefixes.items ≡ listed → IsStrictlySortedBy prefix_cmp listed → KeepsAdvertisers prefixes after listed → Covers k (both links after) change
covers_prefixes links prefixes after k change listed shown none is in_order keeps any = record {
  links = subst (λ r. AreChanges r.arcs links.in_force change.links.items) shown (no_changes links.in_force change.links.items none);
  transit = λ node e. ap (λ r. is_overloaded r.links node) shown;
  in_order = subst (IsStrictlySortedBy prefix_cmp) (sym is) in_order;
  prefixes = subst (λ r. KeepsAdvertisers r.prefixes after change.prefixes.items) shown (subst (KeepsAdvertisers prefixes after) (sym is) keeps);
}

pub covers_none : (k : KnownRecords) (change : RecordChange) → change.links.items ≡ [] → change.prefixes.items ≡ [] → Covers k k change
unfolding IsStrictlySortedBy
covers_none k change links none any = record {
  links = no_changes k.arcs change.links.items links;
  transit = λ node e. refl;
  in_order = subst (IsStrictlySortedBy prefix_cmp) (sym none) tt;
  prefixes = λ p unlisted. refl;
}

-- where no record is left nothing more is told
pub covers_all : (before after : KnownRecords) (change : RecordChange) → change.cleared ≡ true → Covers before after change
covers_all before after change all kept = absurd (false≢true (sym kept ∙ all))
