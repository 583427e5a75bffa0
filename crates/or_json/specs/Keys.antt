-- The keys under which a node publishes its two records.
use Rattle.std.specs.Prelude.{ℕ, List, ◌++◌, codes}

abbrev pub link_record_key : List ℕ → List ℕ
link_record_key node = codes "adj:" ++ node

abbrev pub prefix_record_key : List ℕ → List ℕ
prefix_record_key node = codes "prefix:" ++ node
