use Rattle.std.specs.Prelude.{List, if◌then◌else◌}
use Rattle.or_base.specs.declared.value.Pair.{Pair}
use Rattle.or_base.specs.declared.entry.JournalEntry.{JournalEntry}
use Rattle.or_base.specs.Limits.{is_valid_pair}
use Rattle.or_base.specs.Journal.{is_taken}
use Rattle.kv_table.specs.declared.offered.Offered.{Offered}
use Rattle.kv_table.specs.declared.offered.Offered.TheVariants.{Changed, Kept, Invalid}

-- what becomes of an offer: Changed where it is taken; of the others, Kept where the pair is valid, else Invalid
abbrev pub offered_of : List JournalEntry → Pair → Offered
offered_of journal pair = if is_taken journal pair then Changed else (if is_valid_pair pair then Kept else Invalid)
