use Rattle.std.specs.Prelude.{◌^◌, Bool, true, nat_lt, IsTrue}
use Rattle.net_laboratory.specs.declared.command.Command.{Command}
use Rattle.net_laboratory.specs.declared.command.Command.TheVariants.{Settle, Tick, Set, Own, Disown, Sync, Restart, Up, Down, Script, Get, Drain, LinkDrain, Metric, Advertise, Withdraw, Aggregate, Ask}

-- a link of a node that the command names has a number below 2^31
abbrev pub names_small_link : Command → Bool
names_small_link (Settle rounds show) = true
names_small_link (Tick to) = true
names_small_link (Set node pair) = true
names_small_link (Own node key value ttl) = true
names_small_link (Disown node key) = true
names_small_link (Sync node link) = nat_lt link (2 ^ 31)
names_small_link (Restart node) = true
names_small_link (Up link) = true
names_small_link (Down link) = true
names_small_link (Script link from acts) = true
names_small_link (Get node key) = true
names_small_link (Drain node on) = true
names_small_link (LinkDrain node link on) = nat_lt link (2 ^ 31)
names_small_link (Metric node link metric) = nat_lt link (2 ^ 31)
names_small_link (Advertise node entry) = true
names_small_link (Withdraw node prefix) = true
names_small_link (Aggregate node prefix min) = true
names_small_link (Ask node prefix) = true

abbrev pub NamesSmallLink : Command → Type 0
NamesSmallLink c = IsTrue (names_small_link c)
