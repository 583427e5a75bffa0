-- What is read is sound: no own interface stands twice in a link record, and its metrics are within their limit.
use Rattle.std.proofs.Common.{◌≡◌, ℕ, List, [], ◌∷◌, Bool, true, false, cond, Option, Some, None, refl, sym, ◌∙◌, ap, arith, codes, length}
use Rattle.std.specs.Prelude.{nat_le, option_and_then, map, ◌||◌, not}
use Rattle.std.specs.List.{All, AllByRecursion, IsDistinct, list_all}
use Rattle.std.specs.Str.{bytes_eq}
use Rattle.std.proofs.lemmas.Bool.{and_parts}
use Rattle.std.proofs.lemmas.Bool.Decides.{nat_tests}
use Rattle.std.proofs.lemmas.List.Elements.{All-nil, All-cons}
use Rattle.or_base.specs.Limits.{is_between, is_node_name, most_adjacencies, most_metric}
use Rattle.or_base.specs.declared.database.Adjacency.{Adjacency}
use Rattle.or_base.specs.declared.database.AdjDb.{AdjDb}
use Rattle.or_json.specs.Items.{items_of, keep_limits, has_key_of, have_distinct_keys}
use Rattle.or_json.specs.Reading.{if_passes, text_member, flag_member, items_member, adjacency_of, adj_db_of, adj_of, have_same_interface, json_in}
use Rattle.ls_graph.specs.State.{IsMetric, IsSoundDatabase}
use Rattle.ls_records.specs.Records.{keeps_metrics}
use Rattle.ls_graph.proofs.Order.{name_back, name_tests}

pub taken_apart : {A B : Type 0} (found : Option A) (next : A → Option B) (y : B) → option_and_then next found ≡ Some y → (x : A) × (found ≡ Some x) × (next x ≡ Some y)
taken_apart None next y e = absurd cc
taken_apart (Some x) next y e = (x, refl, e)

passed_if : {A : Type 0} (test : A → Bool) (x y : A) (t : Bool) → test x ≡ t → cond t (Some x) None ≡ Some y → (Some x ≡ Some y) × (test y ≡ true)
passed_if test x y true is e = let same : x ≡ y = cc in (e, ap test (sym same) ∙ is)
passed_if test x y false is e = absurd cc

passed : {A : Type 0} (test : A → Bool) (found : Option A) (y : A) → if_passes test found ≡ Some y → (found ≡ Some y) × (test y ≡ true)
passed test None y e = absurd cc
passed test (Some x) y e = passed_if test x y (test x) refl e

metric_within : (n : ℕ) → is_between 1 most_metric n ≡ true → IsMetric n
metric_within n e = let both = and_parts (nat_le 1 n) (nat_le n most_metric) e in (grind (arith, nat_tests, both.0), grind (arith, nat_tests, both.1))

all_within : (adjacencies : List Adjacency) → list_all (λ a. is_between 1 most_metric a.metric) adjacencies ≡ true → All (λ a. IsMetric a.metric) adjacencies
all_within [] e = All-nil (λ a. IsMetric a.metric)
all_within (a ∷ adjacencies) e =
    let parts = and_parts _ _ e in All-cons (λ b. IsMetric b.metric) a adjacencies (metric_within a.metric parts.0) (all_within adjacencies parts.1)

-- ---- interfaces

other_way : (x y : List ℕ) → bytes_eq x y ≡ bytes_eq y x
other_way x y = name_tests x y ∙ sym (name_back x y) ∙ sym (name_tests y x)

none_of : (s t : Bool) → not (s || t) ≡ true → (s ≡ false) × (not t ≡ true)
none_of true t e = absurd cc
none_of false t e = (refl, e)

apart_from : (a : Adjacency) (adjacencies : List Adjacency) → not (has_key_of have_same_interface adjacencies a) ≡ true
    → AllByRecursion (λ y. bytes_eq a.own_if y ≡ false) (map (λ b. b.own_if) adjacencies)
apart_from a [] e = tt
apart_from a (b ∷ adjacencies) e =
    let parts = none_of (bytes_eq b.own_if a.own_if) (has_key_of have_same_interface adjacencies a) e in
    (other_way a.own_if b.own_if ∙ parts.0, apart_from a adjacencies parts.1)

once_each : (adjacencies : List Adjacency) → have_distinct_keys have_same_interface adjacencies ≡ true → IsDistinct bytes_eq (map (λ a. a.own_if) adjacencies)
unfolding IsDistinct
once_each [] e = tt
once_each (a ∷ adjacencies) e = let parts = and_parts _ _ e in (apart_from a adjacencies parts.0, once_each adjacencies parts.1)

distinct_interfaces : (text : List ℕ) (db : AdjDb) → adj_of text ≡ Some db → have_distinct_keys have_same_interface db.adjacencies ≡ true
unfolding adj_db_of
distinct_interfaces text db e =
    let value = taken_apart (json_in text) adj_db_of db e in
    let node = taken_apart (text_member is_node_name (codes "node") value.0) _ db value.2 in
    let overload = taken_apart (flag_member (codes "overload") value.0) _ db node.2 in
    let items = taken_apart (items_member (codes "adjacencies") value.0) _ db overload.2 in
    let adjacencies = taken_apart (if_passes (keep_limits have_same_interface most_adjacencies) (items_of adjacency_of items.0)) _ db items.2 in
    let read = passed (keep_limits have_same_interface most_adjacencies) (items_of adjacency_of items.0) adjacencies.0 adjacencies.1 in
    let is : adjacencies.0 ≡ db.adjacencies = cc in
    ap (have_distinct_keys have_same_interface) (sym is) ∙ (and_parts (nat_le (length adjacencies.0) most_adjacencies) (have_distinct_keys have_same_interface adjacencies.0) read.1).1

-- a link record that is read, with its metrics within their limit, is sound
pub sound_reading : (text : List ℕ) (db : AdjDb) → adj_of text ≡ Some db → keeps_metrics db ≡ true → IsSoundDatabase db
sound_reading text db e metrics = record { interfaces_once = once_each db.adjacencies (distinct_interfaces text db e); metrics = all_within db.adjacencies metrics }
