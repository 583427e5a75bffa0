use Rattle.std.proofs.Common.{◌≡◌, fold, drop}
use Rattle.prefix_manager.specs.PrefixManager.{without_route}
use Rattle.prefix_manager.proofs.advertising.AdvertisedPrefixes.remove_routes.Given as goal

-- the prefixes that are left
abbrev pub invariant-loop-prefix : goal.invariant-loop-prefix
invariant-loop-prefix l = fold without_route l.self (drop l.prefix-index l.prefixes) ≡ fold without_route l.fn.self l.prefixes
