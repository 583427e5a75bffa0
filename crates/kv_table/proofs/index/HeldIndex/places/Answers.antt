use Rattle.std.proofs.Common.{◌≡◌, map, subst}
use Rattle.kv_table.specs.Index.{Taken, told_at, entries_taken, held_pairs}
use Rattle.kv_table.proofs.Indexes.{places_told}
use Rattle.kv_table.proofs.index.HeldIndex.places.Goals as goal

pub returns : goal.returns
returns c =
    let i = c.self.inside in
    subst (λ (taken : Taken). map (told_at taken.journal) i.places.entries ≡ held_pairs (entries_taken taken)) c.self.view_is
    (places_told (record { journal = i.journal.now; count = i.count }) i.places.entries c.self.invariant.places_of)
