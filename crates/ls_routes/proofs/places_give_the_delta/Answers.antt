use Rattle.ls_routes.proofs.Places.{places_give_the_delta}
use Rattle.ls_routes.proofs.places_give_the_delta.Goals as goal

pub returns : goal.returns
returns c = places_give_the_delta
