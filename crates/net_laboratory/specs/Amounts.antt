-- What the declarations and commands so far amount to: keys, owners, prefixes, settles, the moment.
use Rattle.std.specs.Prelude.{ℕ, cond, List, [], ◌∷◌, ◌++◌, Bool, true, false, ◌&&◌, ◌||◌, not, nat_lt, length, codes, Option, Some, None, if◌then◌else◌, fold, take, drop}
use Rattle.std.specs.Str.{bytes_eq}
use Rattle.std.specs.List.{list_any, count_by}
use Rattle.std.specs.Option.{option_map_or}
use Rattle.or_base.specs.Names.{is_among}
use Rattle.or_base.specs.Prefixes.{is_same_prefix}
use Rattle.or_base.specs.declared.kind.Kind.{Kind}
use Rattle.or_base.specs.declared.kind.Kind.TheVariants as kind
use Rattle.or_base.specs.declared.prefix.Prefix.{Prefix}
pub use Rattle.or_json.specs.Keys.{link_record_key, prefix_record_key}
use Rattle.net_laboratory.specs.declared.declared.NodeDecl.{NodeDecl}
use Rattle.net_laboratory.specs.Limits.{most_keys, most_prefixes_of_node}
use Rattle.net_laboratory.specs.Scenario.{is_declared}
use Rattle.net_laboratory.specs.declared.command.Command.{Command}
use Rattle.net_laboratory.specs.declared.command.Command.TheVariants.{Settle, Tick, Set, Own, Disown, Sync, Restart, Up, Down, Script, Get, Drain, LinkDrain, Metric, Advertise, Withdraw, Aggregate, Ask}
use Rattle.net_laboratory.specs.declared.amounts.KeyOwner.{KeyOwner}
use Rattle.net_laboratory.specs.declared.amounts.NodePrefix.{NodePrefix}

-- ---- what is counted of a command

pub record Claims : Type 0 where
  -- the key that it sets or owns
  pub key : Option (List ℕ)
  -- the key that it owns, with the owner
  pub owner : Option KeyOwner
  -- the prefix that it advertises or aggregates, with the node
  pub prefix : Option NodePrefix
  -- the moment that it brings
  pub moment : Option ℕ

abbrev pub no_claims : Claims
no_claims = record { key = None; owner = None; prefix = None; moment = None }

abbrev pub claims_of : Command → Claims
claims_of (Settle rounds show) = no_claims
claims_of (Tick to) = record no_claims { moment = Some to }
claims_of (Set node pair) = record no_claims { key = Some pair.key }
claims_of (Own node key value ttl) = record no_claims { key = Some key; owner = Some (record { key = key; node = node }) }
claims_of (Disown node key) = no_claims
claims_of (Sync node link) = no_claims
claims_of (Restart node) = no_claims
claims_of (Up link) = no_claims
claims_of (Down link) = no_claims
claims_of (Script link from acts) = no_claims
claims_of (Get node key) = no_claims
claims_of (Drain node on) = no_claims
claims_of (LinkDrain node link on) = no_claims
claims_of (Metric node link metric) = no_claims
claims_of (Advertise node entry) = record no_claims { prefix = Some (record { node = node; prefix = entry.prefix }) }
claims_of (Withdraw node prefix) = no_claims
claims_of (Aggregate node prefix min) = record no_claims { prefix = Some (record { node = node; prefix = prefix }) }
claims_of (Ask node prefix) = no_claims

-- ---- keys

-- these names with one more, unless it is among them
abbrev pub with_name : List (List ℕ) → List ℕ → List (List ℕ)
with_name names name = if is_among name names then names else names ++ name ∷ []

-- with the keys of the two records that a node of a full laboratory publishes
abbrev pub with_record_keys : Kind → List (List ℕ) → NodeDecl → List (List ℕ)
with_record_keys kind.Stores keys node = keys
with_record_keys kind.Full keys node = with_name (with_name keys (link_record_key node.name)) (prefix_record_key node.name)

abbrev pub record_keys : Kind → List NodeDecl → List (List ℕ)
record_keys kind nodes = fold (with_record_keys kind) [] nodes

abbrev pub with_key : List (List ℕ) → Command → List (List ℕ)
with_key keys c = option_map_or (with_name keys) (claims_of c).key keys

-- the distinct keys: those of records, and those that set and own commands name
unfoldable pub keys_in : Kind → List NodeDecl → List Command → List (List ℕ)
keys_in kind nodes commands = fold with_key (record_keys kind nodes) commands

-- the key is counted, or may be
abbrev pub has_key_room : List (List ℕ) → List ℕ → Bool
has_key_room keys key = is_among key keys || nat_lt (length keys) most_keys

-- ---- owners

abbrev pub is_owned : List KeyOwner → List ℕ → Bool
is_owned owners key = list_any (λ o. bytes_eq o.key key) owners

abbrev pub with_key_owner : List KeyOwner → List ℕ → List ℕ → List KeyOwner
with_key_owner owners key node = if is_owned owners key then owners else owners ++ record { key = key; node = node } ∷ []

abbrev pub with_owner : List KeyOwner → Command → List KeyOwner
with_owner owners c = option_map_or (λ o. with_key_owner owners o.key o.node) (claims_of c).owner owners

-- the keys that own commands name, each with the node that owned it first
unfoldable pub owners_in : List Command → List KeyOwner
owners_in commands = fold with_owner [] commands

abbrev pub has_other_owner : List KeyOwner → List ℕ → List ℕ → Bool
has_other_owner owners key node = list_any (λ o. bytes_eq o.key key && not (bytes_eq o.node node)) owners

-- the key is this text followed by the name of a declared node
abbrev pub is_of_node : List NodeDecl → List ℕ → List ℕ → Bool
is_of_node nodes start key = bytes_eq (take (length start) key) start && is_declared nodes (drop (length start) key)

-- the key of a record that a node of a full laboratory publishes
abbrev pub is_record_key : Kind → List NodeDecl → List ℕ → Bool
is_record_key kind.Stores nodes key = false
is_record_key kind.Full nodes key = is_of_node nodes (codes "adj:") key || is_of_node nodes (codes "prefix:") key

-- ---- prefixes

abbrev pub is_offered : List NodePrefix → List ℕ → Prefix → Bool
is_offered offers node prefix = list_any (λ o. bytes_eq o.node node && is_same_prefix o.prefix prefix) offers

abbrev pub with_node_prefix : List NodePrefix → List ℕ → Prefix → List NodePrefix
with_node_prefix offers node prefix = if is_offered offers node prefix then offers else offers ++ record { node = node; prefix = prefix } ∷ []

abbrev pub with_offer : List NodePrefix → Command → List NodePrefix
with_offer offers c = option_map_or (λ o. with_node_prefix offers o.node o.prefix) (claims_of c).prefix offers

-- the distinct prefixes that each node advertises or aggregates, withdrawn since or not
unfoldable pub offers_in : List Command → List NodePrefix
offers_in commands = fold with_offer [] commands

-- the node has the prefix, or may have it
unfoldable pub has_offer_room : List NodePrefix → List ℕ → Prefix → Bool
has_offer_room offers node prefix =
    is_offered offers node prefix || nat_lt (count_by (λ o. bytes_eq o.node node) offers) most_prefixes_of_node

-- ---- settles and moments

abbrev pub is_settle : Command → Bool
is_settle (Settle rounds show) = true
is_settle _ = false

abbrev pub settle_count : Command → ℕ
settle_count c = cond (is_settle c) 1 0

unfoldable pub settles_in : List Command → ℕ
settles_in commands = count_by is_settle commands

-- the last of the commands is a settle
unfoldable pub ends_in_settle : List Command → Bool
ends_in_settle commands = fold (λ before c. is_settle c) false commands

abbrev pub after_tick : Option ℕ → Command → Option ℕ
after_tick moment c = option_map_or Some (claims_of c).moment moment

-- the moment of the last tick, if there is one
unfoldable pub last_tick : List Command → Option ℕ
last_tick commands = fold after_tick None commands

-- the moment is after the last; the first may be any
abbrev pub is_later : Option ℕ → ℕ → Bool
is_later moment to = option_map_or (λ last. nat_lt last to) moment true
