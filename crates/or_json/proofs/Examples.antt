-- The texts of two small records, as they are stated for readers of records.
use Rattle.std.proofs.Common.{◌≡◌, ℕ, List, [], ◌∷◌, false, codes, refl}
use Rattle.std.specs.Fmt.{digits}
use Rattle.json.specs.Print.{escape_byte}
use Rattle.or_base.specs.declared.database.AdjDb.{AdjDb}
use Rattle.or_json.specs.Writing.{adj_text, adj_data, adjacency_data}

-- node b, whose interface `if-a` leads to the interface `if-b` of node a
abbrev pub link_record_of_b : AdjDb
link_record_of_b = record {
  node = codes "b";
  overload = false;
  adjacencies = record { other = codes "a"; own_if = codes "if-a"; other_if = codes "if-b"; metric = 1; overload = false } ∷ [];
}

abbrev pub link_text_of_b : List ℕ
link_text_of_b = codes "{\"node\":\"b\",\"overload\":false,\"adjacencies\":[{\"other\":\"a\",\"if\":\"if-a\",\"other_if\":\"if-b\",\"metric\":1,\"overload\":false}]}"

pub adj_text-link_record_of_b : adj_text link_record_of_b ≡ link_text_of_b
unfolding adj_data adjacency_data escape_byte digits
adj_text-link_record_of_b = refl
