-- The conditions on a line that names a command, beside those on its object alone: what earlier lines said decides.
use Rattle.std.specs.Prelude.{◌+◌, cond, ℕ, List, ◌++◌, ◌&&◌, ◌||◌, Bool, true, false, not, nat_le, nat_lt, length, codes, Option, Some, None, is_some}
use Rattle.std.specs.List.{count_by}
use Rattle.std.specs.Option.{option_map_or}
use Rattle.serde_json.specs.Data.{Data}
use Rattle.or_base.specs.declared.kind.Kind.{Kind}
use Rattle.or_base.specs.declared.kind.Kind.TheVariants as kind
use Rattle.net_fields.specs.declared.form.Form.{Form}
use Rattle.net_fields.specs.declared.form.Form.TheVariants as form
use Rattle.net_fields.specs.declared.word.Word.{Word}
use Rattle.net_fields.specs.declared.word.Word.TheVariants as word
use Rattle.net_fields.specs.Forms.{is_text_with, as_natural}
use Rattle.net_fields.specs.Members.{text_at, text_or, number_or, prefix_at}
use Rattle.net_fields.specs.Objects.{has_field_that, has_other_member, has_unfit_field, is_contradictory}
use Rattle.net_laboratory.specs.Limits.{most_links_of_node, most_links, most_keys, most_nodes, most_settles, most_turns, most_lines}
use Rattle.net_laboratory.specs.declared.declared.LinkDecl.{LinkDecl}
use Rattle.net_laboratory.specs.Scenario.{is_declared, is_end, is_interface, is_end_of}
use Rattle.or_base.specs.Names.{is_among}
use Rattle.net_laboratory.specs.Amounts.{link_record_key, prefix_record_key, keys_in, has_key_room, owners_in, has_other_owner, is_record_key, offers_in, has_offer_room, settles_in, last_tick, is_later}
use Rattle.net_laboratory.specs.Sound.{lines_before}
use Rattle.net_scenario.specs.Seen.{Seen, kind_in, has_none}

-- the interfaces of a link: by default `if-` and the name of the node at the other end
abbrev pub interface_by : List ℕ → List ℕ → Data → List ℕ
interface_by field other d = text_or field (codes "if-" ++ text_at other d) d

abbrev pub interface_a : Data → List ℕ
interface_a d = interface_by (codes "aif") (codes "b") d

abbrev pub interface_b : Data → List ℕ
interface_b d = interface_by (codes "bif") (codes "a") d

-- ---- 6

-- a tick that isn't above the last
abbrev pub is_early : Seen → Word → Data → Bool
is_early seen word.Tick d = not (is_later (last_tick seen.commands) (number_or (codes "to") 0 d))
is_early seen word.Lab d = false
is_early seen word.Node d = false
is_early seen word.Link d = false
is_early seen word.Settle d = false
is_early seen word.Set d = false
is_early seen word.Own d = false
is_early seen word.Disown d = false
is_early seen word.Sync d = false
is_early seen word.Restart d = false
is_early seen word.Up d = false
is_early seen word.Down d = false
is_early seen word.Script d = false
is_early seen word.Get d = false
is_early seen word.Drain d = false
is_early seen word.LinkDrain d = false
is_early seen word.Metric d = false
is_early seen word.Advertise d = false
is_early seen word.Withdraw d = false
is_early seen word.Aggregate d = false
is_early seen word.Ask d = false
is_early seen word.Turn d = false

-- a field isn't of the command, has a value that it doesn't take, or contradicts another field or an earlier line
unfoldable pub is_bad_field : Seen → Word → Data → Bool
is_bad_field seen w d = has_other_member w d || has_unfit_field w d || is_contradictory w d || is_early seen w d

-- ---- 7

-- the value names a node or a link that isn't declared
unfoldable pub is_undeclared : Seen → Form → Data → Bool
is_undeclared seen form.Node d = is_text_with (λ name. not (is_declared seen.nodes name)) d
is_undeclared seen form.Link d = option_map_or (λ number. not (nat_lt number (length seen.links))) (as_natural d) false
is_undeclared seen form.Text d = false
is_undeclared seen (form.Name longest) d = false
is_undeclared seen form.Key d = false
is_undeclared seen form.Hex d = false
is_undeclared seen (form.Number least most) d = false
is_undeclared seen (form.Numbers count least most) d = false
is_undeclared seen form.Flag d = false
is_undeclared seen form.Kind d = false
is_undeclared seen form.Show d = false
is_undeclared seen form.Prefix d = false
is_undeclared seen form.Acts d = false

-- the field that must name an end of the command's link
abbrev pub end_field : Word → Option (List ℕ)
end_field word.Sync = Some (codes "node")
end_field word.LinkDrain = Some (codes "node")
end_field word.Metric = Some (codes "node")
end_field word.Script = Some (codes "from")
end_field word.Lab = None
end_field word.Node = None
end_field word.Link = None
end_field word.Settle = None
end_field word.Tick = None
end_field word.Set = None
end_field word.Own = None
end_field word.Disown = None
end_field word.Restart = None
end_field word.Up = None
end_field word.Down = None
end_field word.Get = None
end_field word.Drain = None
end_field word.Advertise = None
end_field word.Withdraw = None
end_field word.Aggregate = None
end_field word.Ask = None
end_field word.Turn = None

-- the link has no end at the named node
abbrev pub is_no_end : Seen → Word → Data → Bool
is_no_end seen w d =
    option_map_or (λ field. not (is_end_of seen.links (text_at field d) (number_or (codes "link") 0 d))) (end_field w) false

-- a node or a link that isn't declared, or a link that the named node isn't an end of
unfoldable pub is_unknown_name : Seen → Word → Data → Bool
is_unknown_name seen w d = has_field_that (is_undeclared seen) w d || is_no_end seen w d

-- ---- 8

abbrev pub is_interface_repeated : Seen → Data → Bool
is_interface_repeated seen d =
    is_interface seen.links (text_at (codes "a") d) (interface_a d) || is_interface seen.links (text_at (codes "b") d) (interface_b d)

-- a second laboratory, a node's name again, an interface again at one node
unfoldable pub is_repeated : Seen → Word → Data → Bool
is_repeated seen word.Lab d = is_some seen.kind
is_repeated seen word.Node d = is_declared seen.nodes (text_at (codes "name") d)
is_repeated seen word.Link d = is_interface_repeated seen d
is_repeated seen word.Settle d = false
is_repeated seen word.Tick d = false
is_repeated seen word.Set d = false
is_repeated seen word.Own d = false
is_repeated seen word.Disown d = false
is_repeated seen word.Sync d = false
is_repeated seen word.Restart d = false
is_repeated seen word.Up d = false
is_repeated seen word.Down d = false
is_repeated seen word.Script d = false
is_repeated seen word.Get d = false
is_repeated seen word.Drain d = false
is_repeated seen word.LinkDrain d = false
is_repeated seen word.Metric d = false
is_repeated seen word.Advertise d = false
is_repeated seen word.Withdraw d = false
is_repeated seen word.Aggregate d = false
is_repeated seen word.Ask d = false
is_repeated seen word.Turn d = false

-- ---- 9

-- a key that another node owned before, or that a node of a full laboratory publishes
unfoldable pub has_two_owners : Seen → Word → Data → Bool
has_two_owners seen word.Own d =
    has_other_owner (owners_in seen.commands) (text_at (codes "key") d) (text_at (codes "node") d)
    || is_record_key (kind_in seen) seen.nodes (text_at (codes "key") d)
has_two_owners seen word.Lab d = false
has_two_owners seen word.Node d = false
has_two_owners seen word.Link d = false
has_two_owners seen word.Settle d = false
has_two_owners seen word.Tick d = false
has_two_owners seen word.Set d = false
has_two_owners seen word.Disown d = false
has_two_owners seen word.Sync d = false
has_two_owners seen word.Restart d = false
has_two_owners seen word.Up d = false
has_two_owners seen word.Down d = false
has_two_owners seen word.Script d = false
has_two_owners seen word.Get d = false
has_two_owners seen word.Drain d = false
has_two_owners seen word.LinkDrain d = false
has_two_owners seen word.Metric d = false
has_two_owners seen word.Advertise d = false
has_two_owners seen word.Withdraw d = false
has_two_owners seen word.Aggregate d = false
has_two_owners seen word.Ask d = false
has_two_owners seen word.Turn d = false

-- ---- 10

abbrev pub is_full : Kind → Bool
is_full kind.Full = true
is_full kind.Stores = false

-- the key is one more than there may be
abbrev pub is_key_too_many : Seen → Data → Bool
is_key_too_many seen d = not (has_key_room (keys_in (kind_in seen) seen.nodes seen.commands) (text_at (codes "key") d))

-- the prefix is one more than the node may have
abbrev pub is_prefix_too_many : Seen → Data → Bool
is_prefix_too_many seen d =
    option_map_or (λ prefix. not (has_offer_room (offers_in seen.commands) (text_at (codes "node") d) prefix)) (prefix_at (codes "prefix") d) false

-- the node has all the links that it may have
unfoldable pub is_full_at : List LinkDecl → List ℕ → Bool
is_full_at links name = nat_le most_links_of_node (count_by (is_end name) links)

-- the link is one more than there may be, or than one of its ends may have
abbrev pub is_link_too_many : Seen → Data → Bool
is_link_too_many seen d =
    nat_le most_links (length seen.links) || is_full_at seen.links (text_at (codes "a") d) || is_full_at seen.links (text_at (codes "b") d)

-- 1 for a key that isn't counted yet
abbrev pub new_keys : List (List ℕ) → List ℕ → ℕ
new_keys keys key = cond (is_among key keys) 0 1

-- with the keys of the two records that the node publishes there are more keys than there may be
abbrev pub are_record_keys_too_many : List (List ℕ) → List ℕ → Bool
are_record_keys_too_many keys name =
    nat_lt most_keys (length keys + (new_keys keys (link_record_key name) + new_keys keys (prefix_record_key name)))

-- the node is one more than there may be, or the keys of its records are too many
abbrev pub is_node_too_many : Seen → Data → Bool
is_node_too_many seen d =
    nat_le most_nodes (length seen.nodes)
    || (is_full (kind_in seen) && are_record_keys_too_many (keys_in (kind_in seen) seen.nodes seen.commands) (text_at (codes "name") d))

-- one more of what the command adds is more than there may be
unfoldable pub passes_limit : Seen → Word → Data → Bool
passes_limit seen word.Node d = is_node_too_many seen d
passes_limit seen word.Link d = is_link_too_many seen d
passes_limit seen word.Settle d = nat_le most_settles (settles_in seen.commands)
passes_limit seen word.Set d = is_key_too_many seen d
passes_limit seen word.Own d = is_key_too_many seen d
passes_limit seen word.Advertise d = is_prefix_too_many seen d
passes_limit seen word.Aggregate d = is_prefix_too_many seen d
passes_limit seen word.Turn d = nat_le most_turns (length seen.turns)
passes_limit seen word.Lab d = false
passes_limit seen word.Tick d = false
passes_limit seen word.Disown d = false
passes_limit seen word.Sync d = false
passes_limit seen word.Restart d = false
passes_limit seen word.Up d = false
passes_limit seen word.Down d = false
passes_limit seen word.Script d = false
passes_limit seen word.Get d = false
passes_limit seen word.Drain d = false
passes_limit seen word.LinkDrain d = false
passes_limit seen word.Metric d = false
passes_limit seen word.Withdraw d = false
passes_limit seen word.Ask d = false

abbrev pub is_turn : Word → Bool
is_turn word.Turn = true
is_turn word.Lab = false
is_turn word.Node = false
is_turn word.Link = false
is_turn word.Settle = false
is_turn word.Tick = false
is_turn word.Set = false
is_turn word.Own = false
is_turn word.Disown = false
is_turn word.Sync = false
is_turn word.Restart = false
is_turn word.Up = false
is_turn word.Down = false
is_turn word.Script = false
is_turn word.Get = false
is_turn word.Drain = false
is_turn word.LinkDrain = false
is_turn word.Metric = false
is_turn word.Advertise = false
is_turn word.Withdraw = false
is_turn word.Aggregate = false
is_turn word.Ask = false

-- one more line that isn't a turn is more than there may be
abbrev pub is_line_too_many : Seen → Word → Bool
is_line_too_many seen w = not (is_turn w) && nat_le most_lines (lines_before seen.nodes seen.links seen.commands)

unfoldable pub is_too_many : Seen → Word → Data → Bool
is_too_many seen w d = is_line_too_many seen w || passes_limit seen w d

-- ---- 14

-- a command of full laboratories: it is misplaced in a laboratory of stores, and behind a turn
abbrev pub is_full_command_misplaced : Seen → Bool
is_full_command_misplaced seen = not (is_full (kind_in seen)) || not (has_none seen.turns)

-- A declaration behind a command, a line behind a turn, a turn where none may stand, or a command that the kind of
-- laboratory doesn't have.
unfoldable pub is_misplaced : Seen → Bool → Word → Bool
is_misplaced seen turns word.Lab = false
is_misplaced seen turns word.Node = not (has_none seen.commands) || not (has_none seen.turns)
is_misplaced seen turns word.Link = not (has_none seen.commands) || not (has_none seen.turns)
is_misplaced seen turns word.Turn = not turns
is_misplaced seen turns word.Settle = not (has_none seen.turns)
is_misplaced seen turns word.Tick = not (has_none seen.turns)
is_misplaced seen turns word.Set = not (has_none seen.turns)
is_misplaced seen turns word.Own = not (has_none seen.turns)
is_misplaced seen turns word.Disown = not (has_none seen.turns)
is_misplaced seen turns word.Sync = not (has_none seen.turns)
is_misplaced seen turns word.Restart = not (has_none seen.turns)
is_misplaced seen turns word.Up = not (has_none seen.turns)
is_misplaced seen turns word.Down = not (has_none seen.turns)
is_misplaced seen turns word.Script = not (has_none seen.turns)
is_misplaced seen turns word.Get = not (has_none seen.turns)
is_misplaced seen turns word.Drain = is_full_command_misplaced seen
is_misplaced seen turns word.LinkDrain = is_full_command_misplaced seen
is_misplaced seen turns word.Metric = is_full_command_misplaced seen
is_misplaced seen turns word.Advertise = is_full_command_misplaced seen
is_misplaced seen turns word.Withdraw = is_full_command_misplaced seen
is_misplaced seen turns word.Aggregate = is_full_command_misplaced seen
is_misplaced seen turns word.Ask = is_full_command_misplaced seen
