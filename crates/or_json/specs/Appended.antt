-- What a writer's step does.
use Rattle.std.specs.Prelude.{◌≡◌, List, ◌++◌}
use Rattle.json.specs.Token.{Token}
use Rattle.json.specs.Written.{Written}

-- these tokens are appended, and what stood before stays
abbrev pub Appends : Written → Written → List Token → Type 0
Appends old new tokens = (new.before ≡ old.before) × (new.tokens ≡ old.tokens ++ tokens)
