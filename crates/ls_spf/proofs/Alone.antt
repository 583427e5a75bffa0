-- Without arcs `me` alone has a row.
use Rattle.std.proofs.Common.{◌≡◌, ℕ, List, [], Bool, true, false, cond, Some, None, option_map, refl, ◌∙◌, ap}
use Rattle.std.specs.BTreeMap.{BTreeMap, is_at, IsEmpty}
use Rattle.std.specs.Map.{lookup}
use Rattle.std.specs.Ordering.{nat_cmp}
use Rattle.std.specs.Cmp.Lexicographic.{slice_cmp}
use Rattle.std.specs.Str.{bytes_eq}
use Rattle.ls_graph.specs.declared.arc.Arc.{Arc}
use Rattle.ls_spf.specs.declared.table.PathRow.{PathRow}
use Rattle.ls_spf.specs.Least.{least_cost, first_interfaces}
use Rattle.ls_spf.specs.Table.{right_row}
use Rattle.ls_spf.specs.Rows.{row_in}
use Rattle.ls_spf.proofs.Making.{row_with}

pub no_rows : (rows : BTreeMap (List ℕ) PathRow) → IsEmpty rows → (q : List ℕ) → row_in rows q ≡ None
no_rows rows e q = ap (λ es. lookup (is_at (slice_cmp nat_cmp q)) es) e

row_alone : (me q : List ℕ) (hops : List (List ℕ)) (tight : List Arc) → hops ≡ [] → tight ≡ [] → Some (row_with 0 hops tight) ≡ Some (right_row [] me q 0)
unfolding first_interfaces
row_alone me q hops tight e f = ap (λ z. Some (row_with 0 z tight)) e ∙ ap (λ z. Some (row_with 0 [] z)) f

alone_by : (me q : List ℕ) (hops : List (List ℕ)) (tight : List Arc) (b : Bool) → hops ≡ [] → tight ≡ []
    → cond b (Some (row_with 0 hops tight)) None ≡ option_map (right_row [] me q) (cond b (Some 0) None)
alone_by me q hops tight true e f = row_alone me q hops tight e f
alone_by me q hops tight false e f = refl

pub alone : (me copy q : List ℕ) (rows rows' : BTreeMap (List ℕ) PathRow) (hops : List (List ℕ)) (tight : List Arc) → copy ≡ me → hops ≡ [] → tight ≡ [] → IsEmpty rows
    → row_in rows' q ≡ cond (bytes_eq copy q) (Some (row_with 0 hops tight)) (row_in rows q) → row_in rows' q ≡ option_map (right_row [] me q) (least_cost [] me q)
unfolding least_cost
alone me copy q rows rows' hops tight same e f empty put =
    put
    ∙ (ap (λ o. cond (bytes_eq copy q) (Some (row_with 0 hops tight)) o) (no_rows rows empty q)
    ∙ (ap (λ z. cond (bytes_eq z q) (Some (row_with 0 hops tight)) None) same ∙ alone_by me q hops tight (bytes_eq me q) e f))
