use Rattle.std.proofs.Common.{◌≡◌, ◌++◌}
use Rattle.ls_graph.specs.Places.{changes_among}
use Rattle.ls_graph.proofs.changes.changes_among.Given as goal

-- the changes so far, and those at the places that are left
abbrev pub invariant-loop-place : goal.invariant-loop-place
invariant-loop-place l = l.changes.items ++ changes_among l.in_force l.me l.later l.place-iterator ≡ changes_among l.in_force l.me l.later l.places.keys
