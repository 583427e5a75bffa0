use Rattle.std.proofs.Common.{◌≡◌, rules}
use Rattle.std.specs.Map.{keys_of}
use Rattle.ls_records.proofs.Listing.{listed_all}
use Rattle.ls_records.proofs.advertised.Advertised.prefixes.Goals as goal

pub returns-clause-prefixes : goal.returns-clause-prefixes
returns-clause-prefixes c =
    let i = c.self.inside in
    let all : c.loop-prefix.prefixes.items ≡ keys_of i.index.entries = search rules in
    listed_all i.index.entries i.records.entries c.args.self.now c.loop-prefix.prefixes.items c.self.invariant c.len-len.ensures.ordered c.keys-prefix-items.ensures.ordered c.self.view_is all
