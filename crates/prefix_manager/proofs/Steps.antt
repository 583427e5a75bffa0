-- What a step of PrefixManager cites.
use Rattle.std.proofs.Common.{◌≡◌, List, [], ◌∷◌, true, ◌==◌, length, refl, arith}
use Rattle.std.proofs.lemmas.Bool.Decides.{nat_tests}
use Rattle.or_base.specs.declared.item.Item.{Item}
use Rattle.or_base.specs.declared.prefix.Prefix.{Prefix}
use Rattle.or_base.specs.declared.database.PrefixEntry.{PrefixEntry}
use Rattle.or_actor.specs.Fits.{have_small_links}
use Rattle.own_record.proofs.Small.{small_handed_over}
use Rattle.or_json.specs.Writing.{prefixes_text}
use Rattle.prefix_manager.specs.PrefixManager.{PrefixManagerState, advertising_after, advertised, prefix_record, has_none, prefix_manager_step}

pub none_by_length : (entries : List (Prefix × PrefixEntry)) → (length entries == 0) ≡ has_none entries
none_by_length [] = refl
none_by_length (e ∷ es) = grind (arith, nat_tests)

-- PrefixManager names no link
pub small_step : (s : PrefixManagerState) (item : Item) → have_small_links (prefix_manager_step s item).1 ≡ true
unfolding prefix_manager_step
small_step s item =
    let entries = advertised (advertising_after s.advertising item) in
    small_handed_over s.own (prefixes_text (prefix_record s.me entries)) (has_none entries)
