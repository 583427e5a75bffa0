-- What is said of a response: its link has a small number.
use Rattle.std.specs.Prelude.{Bool, true}
use Rattle.or_actor.specs.Fits.{is_link_number}
use Rattle.kv_store.specs.declared.response.Response.{Response}
use Rattle.kv_store.specs.declared.response.Response.TheVariants.{Nothing, Start, StartAll, Reply, Push, Ack}

abbrev pub is_on_small_link : Response → Bool
is_on_small_link Nothing = true
is_on_small_link (Start link) = is_link_number link
is_on_small_link StartAll = true
is_on_small_link (Reply link session digest) = is_link_number link
is_on_small_link (Push link wanted) = is_link_number link
is_on_small_link (Ack link session) = is_link_number link
