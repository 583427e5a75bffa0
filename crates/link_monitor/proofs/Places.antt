-- Where a link goes among others that are in the order of their interfaces.
use Rattle.std.proofs.Common.{◌≡◌, List, [], ◌∷◌, Bool, true, false, refl, ap, one-add}
use Rattle.std.specs.List.{insert, position_or_len}
use Rattle.std.proofs.lemmas.List.Folds.{length-prefix_len}
use Rattle.std.proofs.lemmas.List.Sums.{prefix_len-le-length}
use Rattle.link_monitor.specs.declared.link.MonitoredLink.{MonitoredLink}
use Rattle.link_monitor.specs.LinkMonitor.{is_before, with_monitored}

with_first : (l first : MonitoredLink) (rest : List MonitoredLink) (test : Bool)
    → insert rest (position_or_len (is_before l) rest) l ≡ with_monitored rest l
    → is_before l first ≡ test
    → insert (first ∷ rest) (position_or_len (is_before l) (first ∷ rest)) l ≡ with_monitored (first ∷ rest) l
with_first l first rest true h is = rw is refl
with_first l first rest false h is = rw (is, one-add) (ap (λ xs. first ∷ xs) h)

-- it goes to the place of the first that it comes before
pub insert_at_place : (links : List MonitoredLink) (l : MonitoredLink) → insert links (position_or_len (is_before l) links) l ≡ with_monitored links l
insert_at_place [] l = refl
insert_at_place (first ∷ rest) l = with_first l first rest (is_before l first) (insert_at_place rest l) refl

-- what the place of a link cites
pub ruleset placing = (length-prefix_len, prefix_len-le-length)
