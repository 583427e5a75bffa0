use Rattle.std.specs.Prelude.{◌<◌, All, IsTrue}
use Rattle.or_actor.specs.Fits.{link_number_end, have_small_links}
use Rattle.net_record.specs.declared.role.Role.{Role}
use Rattle.net_record.specs.declared.role.Role.TheVariants.{Driver, Node, Link}
use Rattle.net_record.specs.declared.phase.Phase.{Phase}

-- a link has a small number, and a module is set up with links that do
abbrev pub HasSmallNumber : Role → Type 0
HasSmallNumber Driver = Unit {0}
HasSmallNumber (Node m node setup) = All (λ end. end.link < link_number_end) setup.ends
HasSmallNumber (Link link a b) = link < link_number_end

-- a link that an item of the driver names has such a number
abbrev pub IssuesSmallLinks : Phase → Type 0
IssuesSmallLinks phase = IsTrue (have_small_links phase.issues)
