-- The ports by which actors name their outgoing lanes. The driver's port for an actor is the actor's number.
use Rattle.std.specs.Prelude.{ℕ}

-- ---- the modules of a module's own node; for a link, those of the node at its end a

abbrev pub spark_port : ℕ
spark_port = 1

abbrev pub link_monitor_port : ℕ
link_monitor_port = 2

abbrev pub prefix_manager_port : ℕ
prefix_manager_port = 3

abbrev pub store_port : ℕ
store_port = 4

abbrev pub decision_port : ℕ
decision_port = 5

abbrev pub fib_port : ℕ
fib_port = 6

abbrev pub desk_port : ℕ
desk_port = 7

-- ---- links

-- link 0; link l is l more
abbrev pub first_link_port : ℕ
first_link_port = 8

-- a link's ports for the modules of its end b are so much more than those for end a
abbrev pub end_b_ports : ℕ
end_b_ports = 8
