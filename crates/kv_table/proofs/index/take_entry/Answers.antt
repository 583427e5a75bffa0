use Rattle.kv_table.proofs.Indexes.{place_expired}
use Rattle.kv_table.proofs.index.take_entry.Goals as goal

pub returns-in-Expired-clause-ok : goal.returns-in-Expired-clause-ok
returns-in-Expired-clause-ok c =
    place_expired c.args.journal.now c.args.place c.index-journal-place.result c.in-Expired.key c.in-Expired.at c.args.places.now.entries c.remove-place.new.self.entries
    c.requires.within c.index-journal-place.is c.in-Expired.is c.requires.before c.remove-place.ensures.entries
