-- A line without a fault may stand behind those before it.
use Rattle.std.proofs.Common.{◌≡◌, ◌⊎◌, inl, inr, codes, ◌++◌, length, Bool, true, false, not, ◌||◌, nat_le, nat_lt, Option, Some, None, is_none, is_some, Ok, refl, ap, subst}
use Rattle.std.specs.List.{count_by}
use Rattle.std.specs.Str.{bytes_eq}
use Rattle.std.proofs.lemmas.Bool.{true≢false, or_parts}
use Rattle.serde_json.specs.Data.{Data}
use Rattle.serde_json.specs.Find.{get}
use Rattle.or_base.specs.Limits.{most_node_name_bytes, most_interface_name_bytes, most_lifetime, most_metric, is_interface_name}
use Rattle.net_fields.specs.declared.form.Form.TheVariants as form
use Rattle.net_fields.specs.declared.word.Word.{Word}
use Rattle.net_fields.specs.declared.word.Word.TheVariants as word
use Rattle.net_fields.specs.Fields.{fields_of, needed_field, optional_field, metric, lifetime}
use Rattle.net_fields.specs.Members.{text_at, number_at, number_or, kind_at, numbers_at}
use Rattle.net_fields.specs.Objects.{is_contradictory}
use Rattle.net_scenario.specs.declared.statement.Statement.{Statement}
use Rattle.net_scenario.specs.declared.statement.Statement.TheVariants as says
use Rattle.net_laboratory.specs.Limits.{most_nodes, most_failing_calls, last_failing_call, most_links, most_links_of_node, most_turns, default_metric}
use Rattle.net_laboratory.specs.Scenario.{is_declared, is_end, is_interface}
use Rattle.net_scenario.specs.Seen.{Seen, has_none, admits, is_sound_so_far}
use Rattle.net_laboratory.specs.Sound.{admits_node, admits_link, is_metric}
use Rattle.net_scenario.specs.Conditions.{is_full_at, interface_a, interface_b, is_repeated, passes_limit, is_misplaced}
use Rattle.net_scenario.specs.Statement.{small_or, link_of, statement_of}
use Rattle.net_scenario.specs.Faults.{Line, line_of}
use Rattle.net_scenario.proofs.AdmittedRows.{NoFault, read_line}
use Rattle.net_scenario.proofs.AdmittedForms.{from_not, below, node_name, small_between, number_optional, number_if_any, name_needed, node_needed, numbers_optional}
use Rattle.net_scenario.proofs.AdmittedFields.{SoundSeen, sound_seen, fine, contradicts_not, default_interface, interface_or}
use Rattle.net_scenario.proofs.AdmittedCommands.{◌also◌, within_limit, settle, tick, set, own, disown, sync, restart, up, down, script, get_key, drain, link_drain, link_metric, advertise, withdraw, aggregate, ask}

none_unless : {X : Type 0} (o : Option X) → is_some o ≡ false → is_none o ≡ true
none_unless None e = refl
none_unless (Some x) e = absurd (true≢false e)

module _ (seen : Seen) (turns : Bool) (line : Line) (d : Data) where
  lab : NoFault seen turns line word.Lab d → admits seen (says.Lab (kind_at (codes "kind") d) (number_at (codes "ttl") d)) ≡ true
  unfolding fields_of is_repeated admits
  lab n =
      none_unless seen.kind n.repeated
      also number_if_any seen 1 most_lifetime (get (codes "ttl") d) (fine seen turns line word.Lab d n 2 (optional_field (codes "ttl") lifetime) refl)

  -- no command stands before a declaration
  no_command : (not (has_none seen.commands) || not (has_none seen.turns)) ≡ false → has_none seen.commands ≡ true
  no_command e = from_not (has_none seen.commands) (or_parts (not (has_none seen.commands)) (not (has_none seen.turns)) e).0

  node_admits : NoFault seen turns line word.Node d → admits_node seen.nodes (record { name = text_at (codes "name") d; faults = numbers_at (codes "faults") d }) ≡ true
  unfolding fields_of numbers_at is_repeated passes_limit admits_node
  node_admits n =
      let name = name_needed seen most_node_name_bytes (get (codes "name") d) (fine seen turns line word.Node d n 1 (needed_field (codes "name") (form.Name most_node_name_bytes)) refl) in
      let faults = numbers_optional seen most_failing_calls 1 last_failing_call (get (codes "faults") d) (fine seen turns line word.Node d n 2 (optional_field (codes "faults") (form.Numbers most_failing_calls 1 last_failing_call)) refl) in
      below most_nodes (length seen.nodes) (or_parts (nat_le most_nodes (length seen.nodes)) _ (within_limit seen turns line d word.Node n)).0
      also node_name (text_at (codes "name") d) name.0 name.1
      also ap not n.repeated
      also faults.0
      also faults.1

  node : NoFault seen turns line word.Node d → is_some seen.kind ≡ true
      → admits seen (says.Node (record { name = text_at (codes "name") d; faults = numbers_at (codes "faults") d })) ≡ true
  unfolding is_misplaced admits
  node n opened = opened also no_command n.misplaced also node_admits n

  end_a : NoFault seen turns line word.Link d → is_declared seen.nodes (text_at (codes "a") d) ≡ true
  unfolding fields_of
  end_a n = node_needed seen (get (codes "a") d) (fine seen turns line word.Link d n 1 (needed_field (codes "a") form.Node) refl)

  end_b : NoFault seen turns line word.Link d → is_declared seen.nodes (text_at (codes "b") d) ≡ true
  unfolding fields_of
  end_b n = node_needed seen (get (codes "b") d) (fine seen turns line word.Link d n 2 (needed_field (codes "b") form.Node) refl)

  apart : NoFault seen turns line word.Link d → bytes_eq (text_at (codes "a") d) (text_at (codes "b") d) ≡ false
  unfolding is_contradictory fields_of
  apart n = contradicts_not seen word.Link d n.bad

  named_a : SoundSeen seen → NoFault seen turns line word.Link d → is_interface_name (interface_a d) ≡ true
  unfolding fields_of
  named_a s n =
      interface_or seen (codes "if-" ++ text_at (codes "b") d) (get (codes "aif") d) (default_interface (text_at (codes "b") d) (s.names (text_at (codes "b") d) (end_b n)))
      (fine seen turns line word.Link d n 3 (optional_field (codes "aif") (form.Name most_interface_name_bytes)) refl)

  named_b : SoundSeen seen → NoFault seen turns line word.Link d → is_interface_name (interface_b d) ≡ true
  unfolding fields_of
  named_b s n =
      interface_or seen (codes "if-" ++ text_at (codes "a") d) (get (codes "bif") d) (default_interface (text_at (codes "a") d) (s.names (text_at (codes "a") d) (end_a n)))
      (fine seen turns line word.Link d n 4 (optional_field (codes "bif") (form.Name most_interface_name_bytes)) refl)

  metric_a : NoFault seen turns line word.Link d → is_metric (small_or (codes "am") default_metric d) ≡ true
  unfolding fields_of
  metric_a n =
      small_between 1 most_metric (number_or (codes "am") default_metric d) refl
      (number_optional seen 1 most_metric default_metric (get (codes "am") d) refl (fine seen turns line word.Link d n 5 (optional_field (codes "am") metric) refl))

  metric_b : NoFault seen turns line word.Link d → is_metric (small_or (codes "bm") default_metric d) ≡ true
  unfolding fields_of
  metric_b n =
      small_between 1 most_metric (number_or (codes "bm") default_metric d) refl
      (number_optional seen 1 most_metric default_metric (get (codes "bm") d) refl (fine seen turns line word.Link d n 6 (optional_field (codes "bm") metric) refl))

  new_interfaces : NoFault seen turns line word.Link d
      → (is_interface seen.links (text_at (codes "a") d) (interface_a d) ≡ false) × (is_interface seen.links (text_at (codes "b") d) (interface_b d) ≡ false)
  unfolding is_repeated
  new_interfaces n = or_parts (is_interface seen.links (text_at (codes "a") d) (interface_a d)) (is_interface seen.links (text_at (codes "b") d) (interface_b d)) n.repeated

  link_room : NoFault seen turns line word.Link d
      → (nat_lt (length seen.links) most_links ≡ true) × (nat_lt (count_by (is_end (text_at (codes "a") d)) seen.links) most_links_of_node ≡ true) × (nat_lt (count_by (is_end (text_at (codes "b") d)) seen.links) most_links_of_node ≡ true)
  unfolding passes_limit is_full_at
  link_room n =
      let all = nat_le most_links (length seen.links) in
      let a = nat_le most_links_of_node (count_by (is_end (text_at (codes "a") d)) seen.links) in
      let b = nat_le most_links_of_node (count_by (is_end (text_at (codes "b") d)) seen.links) in
      let p = or_parts (all || a) b (within_limit seen turns line d word.Link n) in
      let q = or_parts all a p.0 in
      (below most_links (length seen.links) q.0, below most_links_of_node (count_by (is_end (text_at (codes "a") d)) seen.links) q.1, below most_links_of_node (count_by (is_end (text_at (codes "b") d)) seen.links) p.1)

  link_admits : SoundSeen seen → NoFault seen turns line word.Link d → admits_link seen.nodes seen.links (link_of d) ≡ true
  unfolding link_of admits_link
  link_admits s n =
      let room = link_room n in
      let new = new_interfaces n in
      room.0 also end_a n also end_b n also ap not (apart n) also named_a s n also named_b s n also metric_a n also metric_b n
      also ap not new.0 also ap not new.1 also room.1 also room.2

  link : SoundSeen seen → NoFault seen turns line word.Link d → is_some seen.kind ≡ true → admits seen (says.Link (link_of d)) ≡ true
  unfolding is_misplaced admits
  link s n opened = opened also no_command n.misplaced also link_admits s n

  turn : NoFault seen turns line word.Turn d → is_some seen.kind ≡ true → admits seen (says.Turn (record { lane = small_or (codes "lane") 0 d; at = number_or (codes "at") 0 d })) ≡ true
  unfolding passes_limit admits
  turn n opened = opened also below most_turns (length seen.turns) (within_limit seen turns line d word.Turn n)

  -- only the line of the laboratory may stand first
  opened_at : (w : Word) → (w ≡ word.Lab → ⊥) → (is_some seen.kind ≡ true) ⊎ (w ≡ word.Lab) → is_some seen.kind ≡ true
  opened_at w other (inl opened) = opened
  opened_at w other (inr lab) = absurd (other lab)

  admitted : (w : Word) → SoundSeen seen → NoFault seen turns line w d → (is_some seen.kind ≡ true) ⊎ (w ≡ word.Lab) → admits seen (statement_of w d) ≡ true
  unfolding statement_of
  admitted word.Lab s n o = lab n
  admitted word.Node s n o = node n (opened_at word.Node (λ e. cc) o)
  admitted word.Link s n o = link s n (opened_at word.Link (λ e. cc) o)
  admitted word.Settle s n o = settle seen turns line d n (opened_at word.Settle (λ e. cc) o)
  admitted word.Tick s n o = tick seen turns line d n (opened_at word.Tick (λ e. cc) o)
  admitted word.Set s n o = set seen turns line d s n (opened_at word.Set (λ e. cc) o)
  admitted word.Own s n o = own seen turns line d n (opened_at word.Own (λ e. cc) o)
  admitted word.Disown s n o = disown seen turns line d n (opened_at word.Disown (λ e. cc) o)
  admitted word.Sync s n o = sync seen turns line d s n (opened_at word.Sync (λ e. cc) o)
  admitted word.Restart s n o = restart seen turns line d n (opened_at word.Restart (λ e. cc) o)
  admitted word.Up s n o = up seen turns line d s n (opened_at word.Up (λ e. cc) o)
  admitted word.Down s n o = down seen turns line d s n (opened_at word.Down (λ e. cc) o)
  admitted word.Script s n o = script seen turns line d s n (opened_at word.Script (λ e. cc) o)
  admitted word.Get s n o = get_key seen turns line d n (opened_at word.Get (λ e. cc) o)
  admitted word.Drain s n o = drain seen turns line d n (opened_at word.Drain (λ e. cc) o)
  admitted word.LinkDrain s n o = link_drain seen turns line d s n (opened_at word.LinkDrain (λ e. cc) o)
  admitted word.Metric s n o = link_metric seen turns line d s n (opened_at word.Metric (λ e. cc) o)
  admitted word.Advertise s n o = advertise seen turns line d n (opened_at word.Advertise (λ e. cc) o)
  admitted word.Withdraw s n o = withdraw seen turns line d n (opened_at word.Withdraw (λ e. cc) o)
  admitted word.Aggregate s n o = aggregate seen turns line d n (opened_at word.Aggregate (λ e. cc) o)
  admitted word.Ask s n o = ask seen turns line d n (opened_at word.Ask (λ e. cc) o)
  admitted word.Turn s n o = turn n (opened_at word.Turn (λ e. cc) o)

pub line_admitted : (seen : Seen) (turns : Bool) (line : Line) (s : Statement) → is_sound_so_far seen ≡ true → line_of seen turns line ≡ Ok s → admits seen s ≡ true
line_admitted seen turns line s sound read =
    let r = read_line seen turns line s read in
    subst (λ (what : Statement). admits seen what ≡ true) r.says (admitted seen turns line r.d r.w (sound_seen seen sound) r.faultless r.opened)
