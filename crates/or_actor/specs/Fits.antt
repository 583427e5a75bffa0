-- What a turn asks of numbers: every link that an item names has a small number.
use Rattle.std.specs.Prelude.{ℕ, List, Bool, true, nat_lt, ◌^◌}
use Rattle.std.specs.List.{list_all}
use Rattle.or_base.specs.declared.item.Item.{Item}
use Rattle.or_base.specs.declared.item.Item.TheVariants.{Up, Down, Script, Tick, Set, Sync, Restart, Persist, Unset, Drain, LinkDrain, Metric, Advertise, Withdraw, Aggregate, Get, Ask, LinkUp, LinkDown, NeighbourUp, NeighbourDown, PeerUp, PeerDown, Net, Entry, Routes}
use Rattle.or_actor.specs.declared.output.Output.{Output}
use Rattle.or_actor.specs.declared.output.Output.TheVariants.{To}

-- links are numbered below this
abbrev pub link_number_end : ℕ
link_number_end = 2 ^ 31

abbrev pub is_link_number : ℕ → Bool
is_link_number link = nat_lt link link_number_end

-- a link that the item names has such a number; the items that name none are listed, so that a new one is decided here
abbrev pub has_small_link : Item → Bool
has_small_link (Sync link) = is_link_number link
has_small_link (LinkDrain link on) = is_link_number link
has_small_link (Metric link metric) = is_link_number link
has_small_link (LinkUp link) = is_link_number link
has_small_link (LinkDown link) = is_link_number link
has_small_link (NeighbourUp link peer peer_if) = is_link_number link
has_small_link (NeighbourDown link) = is_link_number link
has_small_link (PeerUp link peer) = is_link_number link
has_small_link (PeerDown link) = is_link_number link
has_small_link (Net link from msg) = is_link_number link
has_small_link Up = true
has_small_link Down = true
has_small_link (Script from acts) = true
has_small_link (Tick at) = true
has_small_link (Set pair) = true
has_small_link Restart = true
has_small_link (Persist key value ttl) = true
has_small_link (Unset key) = true
has_small_link (Drain on) = true
has_small_link (Advertise entry) = true
has_small_link (Withdraw prefix) = true
has_small_link (Aggregate prefix least) = true
has_small_link (Get key) = true
has_small_link (Ask prefix) = true
has_small_link (Entry entry) = true
has_small_link (Routes delta) = true

-- the same of the item that is sent
abbrev pub sends_small_link : Output → Bool
sends_small_link (To lane item) = has_small_link item

-- each item that is sent keeps the condition on links
abbrev pub have_small_links : List Output → Bool
have_small_links = list_all sends_small_link
