-- Of a line without a fault, nothing is wrong with any field; and what earlier lines declared keeps its limits.
use Rattle.std.proofs.Common.{◌≡◌, ℕ, zero, suc, ◌+◌, ◌*◌, ◌/◌, ◌≤◌, inl, inr, codes, List, [], ◌∷◌, ◌++◌, length, Bool, true, false, not, cond, ◌&&◌, ◌||◌, nat_le, nat_lt, slice_get, Option, Some, None, option_and_then, unwrap_or, sym, subst, arith}
use Rattle.std.specs.List.{list_all, list_any}
use Rattle.std.specs.Str.{bytes_eq}
use Rattle.std.specs.Cmp.Lexicographic.{same_text}
use Rattle.std.proofs.lemmas.Bool.{true≢false, and_parts, and_from, or_parts, or_cases, le-leb, leb-true, ltb-false}
use Rattle.serde_json.specs.Data.{Data}
use Rattle.serde_json.specs.Find.{get, as_str}
use Rattle.or_base.specs.Limits.{most_node_name_bytes, most_interface_name_bytes, most_value_bytes, is_between, is_name_byte, is_node_name, is_interface_name}
use Rattle.net_fields.specs.declared.form.Form.TheVariants as form
use Rattle.net_fields.specs.declared.word.Word.{Word}
use Rattle.net_fields.specs.Fields.{Entry, fields_of}
use Rattle.net_fields.specs.Forms.{fits, is_long, is_no_prefix, is_no_script, hex_bytes}
use Rattle.net_fields.specs.Members.{has, text_at, value_at}
use Rattle.net_fields.specs.Objects.{meets, is_absent, has_other_member, has_unfit_field, is_contradictory, is_field_missing, has_field_that, has_field_with, has_bad_prefix, has_bad_script}
use Rattle.net_fields.proofs.HexBytes.{half_said}
use Rattle.net_laboratory.specs.declared.declared.NodeDecl.{NodeDecl}
use Rattle.net_laboratory.proofs.Room.{few, link_room}
use Rattle.net_laboratory.specs.Limits.{most_line_bytes, most_nodes, most_failing_calls, last_failing_call, most_links, most_turns}
use Rattle.net_laboratory.specs.Scenario.{is_declared}
use Rattle.net_scenario.specs.Seen.{Seen, is_sound_so_far, is_opened, declared_by}
use Rattle.net_laboratory.specs.Sound.{are_admitted, admits_node, admits_link, admits_command, is_lifetime}
use Rattle.net_scenario.specs.Conditions.{is_bad_field, is_early, is_undeclared, is_no_end, is_unknown_name}
use Rattle.net_scenario.specs.Faults.{Line, is_late, is_too_long}
use Rattle.net_scenario.proofs.AdmittedRows.{NoFault}
use Rattle.net_scenario.proofs.AdmittedForms.{Fine, both, node_name, interface_name}

-- ---- fields

nth_false : {X : Type 0} (p : X → Bool) (xs : List X) (k : ℕ) (x : X) → slice_get xs k ≡ Some x → list_any p xs ≡ false → p x ≡ false
nth_false p [] k x at e = cc
nth_false p (y ∷ ys) zero x at e =
    let same : y ≡ x = cc in subst (λ z. p z ≡ false) same (or_parts (p y) (list_any p ys) e).0
nth_false p (y ∷ ys) (suc k) x at e = nth_false p ys k x at (or_parts (p y) (list_any p ys) e).1

-- the parts of conditions
absent_parts : (w : Word) (d : Data) → is_field_missing w d ≡ false → list_any (is_absent d) (fields_of w) ≡ false
unfolding is_field_missing
absent_parts w d e = (or_parts (list_any (is_absent d) (fields_of w)) _ e).0

unfit_parts : (seen : Seen) (w : Word) (d : Data) → is_bad_field seen w d ≡ false → list_any (meets (λ f v. not (fits f v)) d) (fields_of w) ≡ false
unfolding is_bad_field has_field_with
unfit_parts seen w d e =
    let o = has_other_member w d in
    let u = list_any (meets (λ f v. not (fits f v)) d) (fields_of w) in
    let c = is_contradictory w d in
    (or_parts o u (or_parts (o || u) c (or_parts ((o || u) || c) (is_early seen w d) e).0).0).1

pub contradicts_not : (seen : Seen) (w : Word) (d : Data) → is_bad_field seen w d ≡ false → is_contradictory w d ≡ false
unfolding is_bad_field
contradicts_not seen w d e =
    let o = has_other_member w d || has_unfit_field w d in
    (or_parts o (is_contradictory w d) (or_parts (o || is_contradictory w d) (is_early seen w d) e).0).1

pub early_not : (seen : Seen) (w : Word) (d : Data) → is_bad_field seen w d ≡ false → is_early seen w d ≡ false
unfolding is_bad_field
early_not seen w d e = (or_parts (has_other_member w d || has_unfit_field w d || is_contradictory w d) (is_early seen w d) e).1

unknown_parts : (seen : Seen) (w : Word) (d : Data) → is_unknown_name seen w d ≡ false → list_any (meets (is_undeclared seen) d) (fields_of w) ≡ false
unfolding is_unknown_name
unknown_parts seen w d e = (or_parts (has_field_that (is_undeclared seen) w d) (is_no_end seen w d) e).0

pub ends_not : (seen : Seen) (w : Word) (d : Data) → is_unknown_name seen w d ≡ false → is_no_end seen w d ≡ false
unfolding is_unknown_name
ends_not seen w d e = (or_parts (has_field_that (is_undeclared seen) w d) (is_no_end seen w d) e).1

long_parts : (line : Line) (w : Word) (d : Data) → is_too_long line w d ≡ false → list_any (meets is_long d) (fields_of w) ≡ false
unfolding is_too_long has_field_with
long_parts line w d e = (or_parts (nat_lt most_line_bytes (length line.text) || is_late line) (list_any (meets is_long d) (fields_of w)) e).1

prefix_parts : (w : Word) (d : Data) → has_bad_prefix w d ≡ false → list_any (meets is_no_prefix d) (fields_of w) ≡ false
unfolding has_field_with
prefix_parts w d e = e

script_parts : (w : Word) (d : Data) → has_bad_script w d ≡ false → list_any (meets is_no_script d) (fields_of w) ≡ false
unfolding has_field_with
script_parts w d e = e

-- nothing is wrong with the field of the command that has this number
pub fine : (seen : Seen) (turns : Bool) (line : Line) (w : Word) (d : Data) → NoFault seen turns line w d → (k : ℕ) (f : Entry) → slice_get (fields_of w) k ≡ Some f
    → Fine seen f.form f.is_needed (get f.name d)
fine seen turns line w d n k f at = record {
  present = nth_false (is_absent d) (fields_of w) k f at (absent_parts w d n.missing);
  fit = nth_false (meets (λ g v. not (fits g v)) d) (fields_of w) k f at (unfit_parts seen w d n.bad);
  short = nth_false (meets is_long d) (fields_of w) k f at (long_parts line w d n.long);
  known = nth_false (meets (is_undeclared seen) d) (fields_of w) k f at (unknown_parts seen w d n.unknown);
  prefix = nth_false (meets is_no_prefix d) (fields_of w) k f at (prefix_parts w d n.prefix);
  script = nth_false (meets is_no_script d) (fields_of w) k f at (script_parts w d n.script);
}

-- ---- what was declared

node_admitted : (before : List NodeDecl) (node : NodeDecl) → admits_node before node ≡ true → is_node_name node.name ≡ true
unfolding admits_node
node_admitted before node e =
    let a = nat_lt (length before) most_nodes in
    let b = is_node_name node.name in
    let c = not (is_declared before node.name) in
    let p = nat_le (length node.faults) most_failing_calls in
    (and_parts a b (and_parts (a && b) c (and_parts (a && b && c) p (and_parts (a && b && c && p) (list_all (is_between 1 last_failing_call) node.faults) e).0).0).0).1

declared_among : (before nodes : List NodeDecl) (name : List ℕ) → are_admitted admits_node before nodes ≡ true → is_declared nodes name ≡ true → is_node_name name ≡ true
declared_among before [] name e among = absurd (true≢false (sym among))
declared_among before (node ∷ nodes) name e among =
    let parts = and_parts (admits_node before node) (are_admitted admits_node (before ++ node ∷ []) nodes) e in
    elim (or_cases (bytes_eq node.name name) (is_declared nodes name) among) [
      | inl here ↦ subst (λ (t : List ℕ). is_node_name t ≡ true) (same_text node.name name (sym here)) (node_admitted before node parts.0)
      | inr later ↦ declared_among (before ++ node ∷ []) nodes name parts.1 later
    ]

pub record SoundSeen (seen : Seen) : Type 0 where
  pub names : (name : List ℕ) → is_declared seen.nodes name ≡ true → is_node_name name ≡ true
  pub links : length seen.links ≤ most_links

pub sound_seen : (seen : Seen) → is_sound_so_far seen ≡ true → SoundSeen seen
unfolding is_sound_so_far
sound_seen seen e =
    let a = is_opened seen && is_lifetime seen.ttl in
    let b = are_admitted admits_node [] seen.nodes in
    let c = are_admitted (admits_link seen.nodes) [] seen.links in
    let p = are_admitted (admits_command (declared_by seen)) [] seen.commands in
    let e3 = and_parts (a && b && c) p (and_parts (a && b && c && p) (nat_le (length seen.turns) most_turns) e).0 in
    let e2 = and_parts (a && b) c e3.0 in
    let fits : 0 + length seen.links ≤ most_links = few (admits_link seen.nodes) most_links (link_room seen.nodes) [] seen.links (omega arith) e2.1 in
    record { names = λ name among. declared_among [] seen.nodes name (and_parts a b e2.0).1 among; links = omega (arith, fits) }

-- ---- values

-- a value within its limit
short_if : (b : Bool) (x y : List ℕ) → length x ≤ most_value_bytes → length y ≤ most_value_bytes → nat_le (length (cond b x y)) most_value_bytes ≡ true
short_if true x y h k = le-leb (length x) most_value_bytes h
short_if false x y h k = le-leb (length y) most_value_bytes k

pub short_value : (d : Data) → nat_lt most_value_bytes (length (text_at (codes "hex") d) / 2) ≡ false → nat_lt most_value_bytes (length (text_at (codes "text") d)) ≡ false
    → nat_le (length (value_at d)) most_value_bytes ≡ true
unfolding value_at
short_value d hex text =
    let half : length (unwrap_or (hex_bytes (text_at (codes "hex") d)) []) * 2 ≤ length (text_at (codes "hex") d) = half_said (text_at (codes "hex") d) in
    let h : length (text_at (codes "hex") d) / 2 ≤ most_value_bytes = ltb-false most_value_bytes (length (text_at (codes "hex") d) / 2) hex in
    short_if (has (codes "hex") d) (unwrap_or (hex_bytes (text_at (codes "hex") d)) []) (text_at (codes "text") d)
    (omega arith) (ltb-false most_value_bytes (length (text_at (codes "text") d)) text)

-- a node's name behind `if-` is an interface's
pub default_interface : (name : List ℕ) → is_node_name name ≡ true → is_interface_name (codes "if-" ++ name) ≡ true
unfolding is_node_name is_interface_name
default_interface name e =
    let parts = and_parts (is_between 1 most_node_name_bytes (length name)) (list_all is_name_byte name) e in
    let h : length name ≤ most_node_name_bytes = leb-true (length name) most_node_name_bytes (and_parts (nat_le 1 (length name)) (nat_le (length name) most_node_name_bytes) parts.0).1 in
    let n : ℕ = length (codes "if-" ++ name) in
    and_from (is_between 1 most_interface_name_bytes n) (list_all is_name_byte name) (and_from (nat_le 1 n) (nat_le n most_interface_name_bytes) (le-leb 1 n (omega arith)) (le-leb n most_interface_name_bytes (omega arith))) parts.1

pub name_or : (seen : Seen) (default : List ℕ) (found : Option Data) → is_node_name default ≡ true → Fine seen (form.Name most_node_name_bytes) false found
    → is_node_name (unwrap_or (option_and_then as_str found) default) ≡ true
unfolding fits is_long
name_or seen default None h f = h
name_or seen default (Some v) h f =
    let parts = both _ (λ t. nat_lt most_node_name_bytes (length t)) (as_str v) default f.fit f.short in node_name (unwrap_or (as_str v) default) parts.0 parts.1

pub interface_or : (seen : Seen) (default : List ℕ) (found : Option Data) → is_interface_name default ≡ true → Fine seen (form.Name most_interface_name_bytes) false found
    → is_interface_name (unwrap_or (option_and_then as_str found) default) ≡ true
unfolding fits is_long
interface_or seen default None h f = h
interface_or seen default (Some v) h f =
    let parts = both _ (λ t. nat_lt most_interface_name_bytes (length t)) (as_str v) default f.fit f.short in interface_name (unwrap_or (as_str v) default) parts.0 parts.1
