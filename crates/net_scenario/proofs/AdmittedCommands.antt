-- A command of a line without a fault may stand behind those before it.
use Rattle.std.proofs.Common.{◌≡◌, ℕ, ◌+◌, ◌<◌, ◌≤◌, codes, List, length, Bool, true, false, not, ◌&&◌, ◌||◌, nat_le, nat_lt, slice_get, Some, is_some, refl, sym, ap, subst, arith}
use Rattle.std.specs.Option.{option_map_or}
use Rattle.std.proofs.lemmas.Bool.{true≢false, and_parts, and_from, or_parts, ltb-true}
use Rattle.serde_json.specs.Data.{Data}
use Rattle.serde_json.specs.Find.{get}
use Rattle.or_base.specs.Limits.{most_node_name_bytes, most_version, most_ttl_version, most_lifetime, most_metric, most_preference, is_between, is_key, is_valid_value, is_valid_pair}
use Rattle.or_base.specs.declared.kind.Kind.{Kind}
use Rattle.or_base.specs.declared.kind.Kind.TheVariants as kind
use Rattle.net_fields.specs.declared.form.Form.TheVariants as form
use Rattle.net_fields.specs.declared.word.Word.{Word}
use Rattle.net_fields.specs.declared.word.Word.TheVariants as word
use Rattle.net_fields.specs.Fields.{fields_of, needed_field, optional_field, metric, preference, lifetime}
use Rattle.net_fields.specs.Members.{text_at, number_at, number_or, flag_at, show_at, prefix_at, value_at, acts_at}
use Rattle.net_laboratory.specs.declared.command.Command.{Command}
use Rattle.net_laboratory.specs.declared.command.Command.TheVariants.{Settle, Tick, Set, Own, Disown, Sync, Restart, Up, Down, Script, Get, Drain, LinkDrain, Metric, Advertise, Withdraw, Aggregate, Ask}
use Rattle.net_scenario.specs.declared.statement.Statement.TheVariants as says
use Rattle.net_laboratory.specs.Limits.{most_lines, most_links, most_settles, most_rounds, default_rounds, most_moment, most_aggregated_routes, default_path, default_source, default_distance}
use Rattle.net_laboratory.specs.Scenario.{is_declared, is_end_of}
use Rattle.net_laboratory.specs.Amounts.{keys_in, has_key_room, owners_in, has_other_owner, is_record_key, offers_in, has_offer_room, settles_in}
use Rattle.net_scenario.specs.Seen.{Seen, kind_in, declared_by, has_none, admits}
use Rattle.net_laboratory.specs.Sound.{has_sound_fields, is_routing_command, belongs, is_in_time, has_one_owner, has_room, lines_before, admits_command, is_lifetime, is_value, are_acts, is_preference, is_entry}
use Rattle.net_scenario.specs.Conditions.{is_full, is_turn, is_too_many, passes_limit, is_misplaced, has_two_owners}
use Rattle.net_scenario.specs.Statement.{small_or, link_at, node_named, key_at, prefix_or_any, any_prefix, pair_of, prefix_entry_of}
use Rattle.net_scenario.specs.Faults.{Line}
use Rattle.net_scenario.proofs.AdmittedRows.{NoFault}
use Rattle.net_scenario.proofs.AdmittedForms.{from_not, below, small, small_between, not_there, number_needed, number_optional, number_if_any, node_needed, key_needed, text_optional, hex_optional, link_needed, prefix_needed, acts_needed}
use Rattle.net_scenario.proofs.AdmittedFields.{SoundSeen, fine, early_not, ends_not, short_value, name_or}

-- ---- parts

infixl 12 ◌also◌
pub ◌also◌ : {x y : Bool} → x ≡ true → y ≡ true → (x && y) ≡ true
◌also◌ {x = x} {y = y} p q = and_from x y p q

first_false : (t x : Bool) → t ≡ false → (not t && x) ≡ false → x ≡ false
first_false true x t e = absurd (true≢false t)
first_false false x t e = e

belongs_all : (k : Kind) (c : Command) → is_routing_command c ≡ false → belongs k c ≡ true
belongs_all kind.Full c e = refl
belongs_all kind.Stores c e = ap not e

belongs_full : (k : Kind) (c : Command) (behind : Bool) → (not (is_full k) || behind) ≡ false → belongs k c ≡ true
belongs_full kind.Full c behind e = refl
belongs_full kind.Stores c behind e = absurd (true≢false e)

upper : (most n : ℕ) → is_between 0 most n ≡ true → nat_le n most ≡ true
upper most n e = (and_parts (nat_le 0 n) (nat_le n most) e).1

module _ (seen : Seen) (turns : Bool) (line : Line) (d : Data) where
  pub lines_left : (w : Word) → is_turn w ≡ false → NoFault seen turns line w d → nat_lt (lines_before seen.nodes seen.links seen.commands) most_lines ≡ true
  unfolding is_too_many
  lines_left w e n =
      below most_lines (lines_before seen.nodes seen.links seen.commands)
      (first_false (is_turn w) _ e (or_parts (not (is_turn w) && nat_le most_lines (lines_before seen.nodes seen.links seen.commands)) (passes_limit seen w d) n.many).0)

  pub within_limit : (w : Word) → NoFault seen turns line w d → passes_limit seen w d ≡ false
  unfolding is_too_many
  within_limit w n = (or_parts (not (is_turn w) && nat_le most_lines (lines_before seen.nodes seen.links seen.commands)) (passes_limit seen w d) n.many).1

  command : (c : Command) → is_some seen.kind ≡ true → has_sound_fields (declared_by seen) c ≡ true → belongs (kind_in seen) c ≡ true → is_in_time seen.commands c ≡ true
      → has_one_owner (declared_by seen) seen.commands c ≡ true → has_room (declared_by seen) seen.commands c ≡ true
      → nat_lt (lines_before seen.nodes seen.links seen.commands) most_lines ≡ true → admits seen (says.Command c) ≡ true
  unfolding admits admits_command
  command c opened within belong time owner room lines = opened also (within also belong also time also owner also room also lines)

  -- a command that every laboratory has, and that nothing else limits
  plain : (w : Word) (c : Command) → is_some seen.kind ≡ true → is_turn w ≡ false → NoFault seen turns line w d → is_routing_command c ≡ false → has_sound_fields (declared_by seen) c ≡ true
      → is_in_time seen.commands c ≡ true → has_one_owner (declared_by seen) seen.commands c ≡ true → has_room (declared_by seen) seen.commands c ≡ true
      → admits seen (says.Command c) ≡ true
  plain w c opened t n all within time owner room = command c opened within (belongs_all (kind_in seen) c all) time owner room (lines_left w t n)

  -- a command of full laboratories
  full : (w : Word) (c : Command) → is_some seen.kind ≡ true → is_turn w ≡ false → NoFault seen turns line w d → (not (is_full (kind_in seen)) || not (has_none seen.turns)) ≡ false
      → has_sound_fields (declared_by seen) c ≡ true
      → is_in_time seen.commands c ≡ true → has_one_owner (declared_by seen) seen.commands c ≡ true → has_room (declared_by seen) seen.commands c ≡ true
      → admits seen (says.Command c) ≡ true
  full w c opened t n only within time owner room = command c opened within (belongs_full (kind_in seen) c (not (has_none seen.turns)) only) time owner room (lines_left w t n)

  -- ---- fields

  node : (w : Word) → NoFault seen turns line w d → slice_get (fields_of w) 1 ≡ Some (needed_field (codes "node") form.Node) → is_declared seen.nodes (node_named d) ≡ true
  node w n at = node_needed seen (get (codes "node") d) (fine seen turns line w d n 1 (needed_field (codes "node") form.Node) at)

  key : (w : Word) → NoFault seen turns line w d → slice_get (fields_of w) 2 ≡ Some (needed_field (codes "key") form.Key) → is_key (key_at d) ≡ true
  key w n at = key_needed seen (get (codes "key") d) (fine seen turns line w d n 2 (needed_field (codes "key") form.Key) at)

  link : (w : Word) (k : ℕ) → NoFault seen turns line w d → slice_get (fields_of w) k ≡ Some (needed_field (codes "link") form.Link)
      → nat_lt (number_or (codes "link") 0 d) (length seen.links) ≡ true
  link w k n at = link_needed seen (get (codes "link") d) (fine seen turns line w d n k (needed_field (codes "link") form.Link) at)

  -- a declared link's number has 32 bits
  link_same : SoundSeen seen → nat_lt (number_or (codes "link") 0 d) (length seen.links) ≡ true → link_at d ≡ number_or (codes "link") 0 d
  link_same s e =
      let few : length seen.links ≤ most_links = s.links in
      let h : number_or (codes "link") 0 d < length seen.links = ltb-true (number_or (codes "link") 0 d) (length seen.links) e in
      small (number_or (codes "link") 0 d) (omega arith)

  link_below : SoundSeen seen → nat_lt (number_or (codes "link") 0 d) (length seen.links) ≡ true → nat_lt (link_at d) (length seen.links) ≡ true
  link_below s e = subst (λ n. nat_lt n (length seen.links) ≡ true) (sym (link_same s e)) e

  link_end : SoundSeen seen → (name : List ℕ) → nat_lt (number_or (codes "link") 0 d) (length seen.links) ≡ true
      → not (is_end_of seen.links name (number_or (codes "link") 0 d)) ≡ false → is_end_of seen.links name (link_at d) ≡ true
  link_end s name e not_end = subst (λ n. is_end_of seen.links name n ≡ true) (sym (link_same s e)) (from_not _ not_end)

  value : (w : Word) (k : ℕ) → NoFault seen turns line w d → slice_get (fields_of w) k ≡ Some (optional_field (codes "hex") form.Hex)
      → slice_get (fields_of w) (k + 1) ≡ Some (optional_field (codes "text") form.Text) → is_value (value_at d) ≡ true
  value w k n hex text =
      short_value d (hex_optional seen (get (codes "hex") d) (fine seen turns line w d n k (optional_field (codes "hex") form.Hex) hex))
      (text_optional seen (get (codes "text") d) (fine seen turns line w d n (k + 1) (optional_field (codes "text") form.Text) text))

  ttl : (w : Word) (k : ℕ) → NoFault seen turns line w d → slice_get (fields_of w) k ≡ Some (optional_field (codes "ttl") lifetime) → is_lifetime (number_at (codes "ttl") d) ≡ true
  ttl w k n at = number_if_any seen 1 most_lifetime (get (codes "ttl") d) (fine seen turns line w d n k (optional_field (codes "ttl") lifetime) at)

  -- ---- each command

  pub settle : NoFault seen turns line word.Settle d → is_some seen.kind ≡ true → admits seen (says.Command (Settle (number_or (codes "rounds") default_rounds d) (show_at (codes "show") d))) ≡ true
  unfolding fields_of has_sound_fields passes_limit
  settle n opened =
      plain word.Settle _ opened refl n refl
      (number_optional seen 1 most_rounds default_rounds (get (codes "rounds") d) refl (fine seen turns line word.Settle d n 1 (optional_field (codes "rounds") (form.Number 1 most_rounds)) refl))
      refl refl (below most_settles (settles_in seen.commands) (within_limit word.Settle n) also refl also refl)

  pub tick : NoFault seen turns line word.Tick d → is_some seen.kind ≡ true → admits seen (says.Command (Tick (number_or (codes "to") 0 d))) ≡ true
  unfolding fields_of has_sound_fields
  tick n opened =
      plain word.Tick _ opened refl n refl
      (upper most_moment (number_or (codes "to") 0 d) (number_needed seen 0 most_moment 0 (get (codes "to") d) (fine seen turns line word.Tick d n 1 (needed_field (codes "to") (form.Number 0 most_moment)) refl)))
      (from_not _ (early_not seen word.Tick d n.bad)) refl refl

  -- a value's originator, lengths and numbers
  valid_value : SoundSeen seen → NoFault seen turns line word.Set d → is_valid_value (pair_of d).value ≡ true
  unfolding fields_of pair_of is_valid_value
  valid_value s n =
      name_or seen (node_named d) (get (codes "originator") d) (s.names (node_named d) (node word.Set n refl)) (fine seen turns line word.Set d n 6 (optional_field (codes "originator") (form.Name most_node_name_bytes)) refl)
      also value word.Set 4 n refl refl
      also number_needed seen 1 most_version 0 (get (codes "version") d) (fine seen turns line word.Set d n 3 (needed_field (codes "version") (form.Number 1 most_version)) refl)
      also ttl word.Set 7 n refl
      also upper most_ttl_version (number_or (codes "ttlv") 0 d) (number_optional seen 0 most_ttl_version 0 (get (codes "ttlv") d) refl (fine seen turns line word.Set d n 8 (optional_field (codes "ttlv") (form.Number 0 most_ttl_version)) refl))

  valid_pair : SoundSeen seen → NoFault seen turns line word.Set d → is_valid_pair (pair_of d) ≡ true
  unfolding fields_of pair_of is_valid_pair
  valid_pair s n = key word.Set n refl also valid_value s n

  key_room_set : NoFault seen turns line word.Set d → has_key_room (keys_in (kind_in seen) seen.nodes seen.commands) (pair_of d).key ≡ true
  unfolding passes_limit pair_of
  key_room_set n = from_not _ (within_limit word.Set n)

  pub set : SoundSeen seen → NoFault seen turns line word.Set d → is_some seen.kind ≡ true → admits seen (says.Command (Set (node_named d) (pair_of d))) ≡ true
  unfolding fields_of has_sound_fields
  set s n opened = plain word.Set _ opened refl n refl (node word.Set n refl also valid_pair s n) refl refl (key_room_set n also refl)

  one_owner : NoFault seen turns line word.Own d → (not (has_other_owner (owners_in seen.commands) (key_at d) (node_named d)) && not (is_record_key (kind_in seen) seen.nodes (key_at d))) ≡ true
  unfolding has_two_owners
  one_owner n =
      let parts = or_parts (has_other_owner (owners_in seen.commands) (key_at d) (node_named d)) (is_record_key (kind_in seen) seen.nodes (key_at d)) n.owners in
      ap not parts.0 also ap not parts.1

  pub own : NoFault seen turns line word.Own d → is_some seen.kind ≡ true → admits seen (says.Command (Own (node_named d) (key_at d) (value_at d) (number_at (codes "ttl") d))) ≡ true
  unfolding fields_of has_sound_fields passes_limit
  own n opened =
      plain word.Own _ opened refl n refl (node word.Own n refl also key word.Own n refl also value word.Own 3 n refl refl also ttl word.Own 5 n refl)
      refl (one_owner n) (from_not _ (within_limit word.Own n) also refl)

  pub disown : NoFault seen turns line word.Disown d → is_some seen.kind ≡ true → admits seen (says.Command (Disown (node_named d) (key_at d))) ≡ true
  unfolding fields_of has_sound_fields
  disown n opened = plain word.Disown _ opened refl n refl (node word.Disown n refl also key word.Disown n refl) refl refl refl

  pub sync : SoundSeen seen → NoFault seen turns line word.Sync d → is_some seen.kind ≡ true → admits seen (says.Command (Sync (node_named d) (link_at d))) ≡ true
  unfolding fields_of has_sound_fields
  sync s n opened =
      plain word.Sync _ opened refl n refl
      (node word.Sync n refl also link_end s (node_named d) (link word.Sync 2 n refl) (ends_not seen word.Sync d n.unknown))
      refl refl refl

  pub restart : NoFault seen turns line word.Restart d → is_some seen.kind ≡ true → admits seen (says.Command (Restart (node_named d))) ≡ true
  unfolding fields_of has_sound_fields
  restart n opened = plain word.Restart _ opened refl n refl (node word.Restart n refl) refl refl refl

  pub up : SoundSeen seen → NoFault seen turns line word.Up d → is_some seen.kind ≡ true → admits seen (says.Command (Up (link_at d))) ≡ true
  unfolding fields_of has_sound_fields
  up s n opened = plain word.Up _ opened refl n refl (link_below s (link word.Up 1 n refl)) refl refl refl

  pub down : SoundSeen seen → NoFault seen turns line word.Down d → is_some seen.kind ≡ true → admits seen (says.Command (Down (link_at d))) ≡ true
  unfolding fields_of has_sound_fields
  down s n opened = plain word.Down _ opened refl n refl (link_below s (link word.Down 1 n refl)) refl refl refl

  acts : NoFault seen turns line word.Script d → are_acts (acts_at (codes "acts") d) ≡ true
  unfolding fields_of acts_at
  acts n = acts_needed seen (get (codes "acts") d) (fine seen turns line word.Script d n 3 (needed_field (codes "acts") form.Acts) refl)

  pub script : SoundSeen seen → NoFault seen turns line word.Script d → is_some seen.kind ≡ true
      → admits seen (says.Command (Script (link_at d) (text_at (codes "from") d) (acts_at (codes "acts") d))) ≡ true
  unfolding fields_of has_sound_fields
  script s n opened =
      plain word.Script _ opened refl n refl
      (
      node_needed seen (get (codes "from") d) (fine seen turns line word.Script d n 2 (needed_field (codes "from") form.Node) refl)
      also link_end s (text_at (codes "from") d) (link word.Script 1 n refl) (ends_not seen word.Script d n.unknown)
      also acts n
      )
      refl refl refl

  pub get_key : NoFault seen turns line word.Get d → is_some seen.kind ≡ true → admits seen (says.Command (Get (node_named d) (key_at d))) ≡ true
  unfolding fields_of has_sound_fields
  get_key n opened = plain word.Get _ opened refl n refl (node word.Get n refl also key word.Get n refl) refl refl refl

  -- ---- the commands of full laboratories

  pub drain : NoFault seen turns line word.Drain d → is_some seen.kind ≡ true → admits seen (says.Command (Drain (node_named d) (flag_at (codes "on") d))) ≡ true
  unfolding fields_of has_sound_fields is_misplaced
  drain n opened = full word.Drain _ opened refl n n.misplaced (node word.Drain n refl) refl refl refl

  pub link_drain : SoundSeen seen → NoFault seen turns line word.LinkDrain d → is_some seen.kind ≡ true
      → admits seen (says.Command (LinkDrain (node_named d) (link_at d) (flag_at (codes "on") d))) ≡ true
  unfolding fields_of has_sound_fields is_misplaced
  link_drain s n opened =
      full word.LinkDrain _ opened refl n n.misplaced
      (node word.LinkDrain n refl also link_end s (node_named d) (link word.LinkDrain 2 n refl) (ends_not seen word.LinkDrain d n.unknown))
      refl refl refl

  pub link_metric : SoundSeen seen → NoFault seen turns line word.Metric d → is_some seen.kind ≡ true
      → admits seen (says.Command (Metric (node_named d) (link_at d) (small_or (codes "metric") 0 d))) ≡ true
  unfolding fields_of has_sound_fields is_misplaced
  link_metric s n opened =
      full word.Metric _ opened refl n n.misplaced
      (
      node word.Metric n refl
      also link_end s (node_named d) (link word.Metric 2 n refl) (ends_not seen word.Metric d n.unknown)
      also small_between 1 most_metric (number_or (codes "metric") 0 d) refl
      (number_needed seen 1 most_metric 0 (get (codes "metric") d) (fine seen turns line word.Metric d n 3 (needed_field (codes "metric") metric) refl))
      )
      refl refl refl

  -- the prefix is one that the node may have
  prefix_room : (w : Word) → NoFault seen turns line w d → slice_get (fields_of w) 2 ≡ Some (needed_field (codes "prefix") form.Prefix)
      → option_map_or (λ prefix. not (has_offer_room (offers_in seen.commands) (node_named d) prefix)) (prefix_at (codes "prefix") d) false ≡ false
      → has_offer_room (offers_in seen.commands) (node_named d) (prefix_or_any d) ≡ true
  prefix_room w n at room =
      from_not _
      (
      not_there (λ prefix. not (has_offer_room (offers_in seen.commands) (node_named d) prefix)) (prefix_at (codes "prefix") d) any_prefix
      (prefix_needed seen (get (codes "prefix") d) (fine seen turns line w d n 2 (needed_field (codes "prefix") form.Prefix) at)) room
      )

  preferred : (k : ℕ) (name : List ℕ) (default : ℕ) → NoFault seen turns line word.Advertise d → slice_get (fields_of word.Advertise) k ≡ Some (optional_field name preference)
      → is_between 0 most_preference default ≡ true → is_preference (small_or name default d) ≡ true
  preferred k name default n at h =
      upper most_preference (small_or name default d)
      (small_between 0 most_preference (number_or name default d) refl
      (number_optional seen 0 most_preference default (get name d) h (fine seen turns line word.Advertise d n k (optional_field name preference) at)))

  preferences : NoFault seen turns line word.Advertise d → is_entry (prefix_entry_of d) ≡ true
  unfolding fields_of prefix_entry_of
  preferences n =
      preferred 3 (codes "path") default_path n refl refl also preferred 4 (codes "source") default_source n refl refl also preferred 5 (codes "distance") default_distance n refl refl

  offer_room : NoFault seen turns line word.Advertise d → has_offer_room (offers_in seen.commands) (node_named d) (prefix_entry_of d).prefix ≡ true
  unfolding fields_of passes_limit prefix_entry_of
  offer_room n = prefix_room word.Advertise n refl (within_limit word.Advertise n)

  pub advertise : NoFault seen turns line word.Advertise d → is_some seen.kind ≡ true → admits seen (says.Command (Advertise (node_named d) (prefix_entry_of d))) ≡ true
  unfolding fields_of has_sound_fields is_misplaced
  advertise n opened =
      full word.Advertise _ opened refl n n.misplaced (node word.Advertise n refl also preferences n) refl refl (offer_room n)

  pub withdraw : NoFault seen turns line word.Withdraw d → is_some seen.kind ≡ true → admits seen (says.Command (Withdraw (node_named d) (prefix_or_any d))) ≡ true
  unfolding fields_of has_sound_fields is_misplaced
  withdraw n opened = full word.Withdraw _ opened refl n n.misplaced (node word.Withdraw n refl) refl refl refl

  pub aggregate : NoFault seen turns line word.Aggregate d → is_some seen.kind ≡ true
      → admits seen (says.Command (Aggregate (node_named d) (prefix_or_any d) (small_or (codes "min") 0 d))) ≡ true
  unfolding fields_of has_sound_fields is_misplaced passes_limit
  aggregate n opened =
      full word.Aggregate _ opened refl n n.misplaced
      (
      node word.Aggregate n refl
      also small_between 1 most_aggregated_routes (number_or (codes "min") 0 d) refl
      (number_needed seen 1 most_aggregated_routes 0 (get (codes "min") d) (fine seen turns line word.Aggregate d n 3 (needed_field (codes "min") (form.Number 1 most_aggregated_routes)) refl))
      )
      refl refl (prefix_room word.Aggregate n refl (within_limit word.Aggregate n))

  pub ask : NoFault seen turns line word.Ask d → is_some seen.kind ≡ true → admits seen (says.Command (Ask (node_named d) (prefix_or_any d))) ≡ true
  unfolding fields_of has_sound_fields is_misplaced
  ask n opened = full word.Ask _ opened refl n n.misplaced (node word.Ask n refl) refl refl refl
