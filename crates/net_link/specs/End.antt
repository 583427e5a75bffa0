-- The ends of a link, and its ports for the modules there.
use Rattle.std.specs.Prelude.{ℕ, ◌+◌}
use Rattle.or_base.specs.declared.message.Msg.{Msg}
use Rattle.or_base.specs.declared.message.Msg.TheVariants.{Hello, Handshake, Heartbeat, Flood, Dump, Reply, Push, Ack}
use Rattle.or_actor.specs.Ports.{spark_port, store_port, end_b_ports}
use Rattle.net_link.specs.declared.end.End.{End}
use Rattle.net_link.specs.declared.end.End.TheVariants.{A, B}

abbrev pub other_end : End → End
other_end A = B
other_end B = A

-- the link's port for the module of an end that has this port at end a
abbrev pub port_at : End → ℕ → ℕ
port_at A port = port
port_at B port = end_b_ports + port

-- the one for the store of an end
abbrev pub store_port_of : End → ℕ
store_port_of end = port_at end store_port

-- and for its Spark
abbrev pub spark_port_of : End → ℕ
spark_port_of end = port_at end spark_port

-- the module for which a message is: Spark's messages are for Spark, all others for the store
abbrev pub port_for : End → Msg → ℕ
port_for end (Hello interface heard restarting) = spark_port_of end
port_for end (Handshake interface done) = spark_port_of end
port_for end Heartbeat = spark_port_of end
port_for end (Flood passed pairs) = store_port_of end
port_for end (Dump session digest) = store_port_of end
port_for end (Reply session b0 pairs wanted withheld) = store_port_of end
port_for end (Push session pairs) = store_port_of end
port_for end (Ack session) = store_port_of end
