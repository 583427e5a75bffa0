-- One row more, and one column more.
use Rattle.std.proofs.Common.{◌≡◌, ℕ, ◌+◌, zero, suc, [], ◌∷◌, ◌++◌, sym, ap, ◌∙◌, add-one, add-zero, append-nil, arith}
use Rattle.std.specs.List.{flat_map, range_with_len}
use Rattle.std.proofs.lemmas.List.FromFn.{map-range_with_len_more}
use Rattle.std.proofs.lemmas.Grind.{flat_map-append}
use Rattle.net_grid.specs.Grid.{place_at, row_of_places}

pub one_column_more : (row columns : ℕ) → row_of_places (columns + 1) row ≡ row_of_places columns row ++ place_at row columns ∷ []
one_column_more row columns = map-range_with_len_more (place_at row) 0 columns columns (omega arith)

numbers_more : (a n last : ℕ) → a + n ≡ last → range_with_len a (suc n) ≡ range_with_len a n ++ last ∷ []
numbers_more a zero last e = ap (λ k. k ∷ []) (sym (add-zero a) ∙ e)
numbers_more a (suc n) last e = ap (λ ks. a ∷ ks) (numbers_more (a + 1) n last (omega arith))

pub one_row_more : (size rows : ℕ)
    → flat_map (row_of_places size) (range_with_len 0 (rows + 1)) ≡ flat_map (row_of_places size) (range_with_len 0 rows) ++ row_of_places size rows
one_row_more size rows =
    ap (λ n. flat_map (row_of_places size) (range_with_len 0 n)) (add-one rows)
    ∙ ap (flat_map (row_of_places size)) (numbers_more 0 rows rows (omega arith))
    ∙ flat_map-append (row_of_places size) (range_with_len 0 rows) (rows ∷ [])
    ∙ ap (λ last. flat_map (row_of_places size) (range_with_len 0 rows) ++ last) (append-nil (row_of_places size rows))
