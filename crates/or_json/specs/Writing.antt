-- The texts of records: JSON (RFC 8259) without spaces, the members in this order.
use Rattle.std.specs.Prelude.{ℕ, List, codes}
use Rattle.serde_json.specs.Data.{Data, unsigned, boolean, number, string, array, object, no_members, member}
use Rattle.serde_json.specs.Written.{compact_text}
use Rattle.or_base.specs.declared.database.Adjacency.{Adjacency}
use Rattle.or_base.specs.declared.database.AdjDb.{AdjDb}
use Rattle.or_base.specs.declared.database.PrefixEntry.{PrefixEntry}
use Rattle.or_base.specs.declared.database.PrefixDb.{PrefixDb}
use Rattle.or_prefix.specs.Printing.{prefix_text}
use Rattle.or_json.specs.Items.{items_data}

-- {"other":<node>,"if":<own interface>,"other_if":<its interface>,"metric":<metric>,"overload":<overload>}
unfoldable pub adjacency_data : Adjacency → Data
adjacency_data a =
    object
    (member (codes "other") (string a.other)
    (member (codes "if") (string a.own_if)
    (member (codes "other_if") (string a.other_if)
    (member (codes "metric") (number (unsigned a.metric))
    (member (codes "overload") (boolean a.overload) no_members)))))

-- {"node":<node>,"overload":<overload>,"adjacencies":[..]}
unfoldable pub adj_data : AdjDb → Data
adj_data db =
    object
    (member (codes "node") (string db.node)
    (member (codes "overload") (boolean db.overload)
    (member (codes "adjacencies") (array (items_data adjacency_data db.adjacencies)) no_members)))

-- the text of a link record
abbrev pub adj_text : AdjDb → List ℕ
adj_text db = compact_text (adj_data db)

-- {"prefix":<prefix>,"path":<path>,"source":<source>,"distance":<distance>}
unfoldable pub entry_data : PrefixEntry → Data
entry_data e =
    object
    (member (codes "prefix") (string (prefix_text e.prefix.v6 e.prefix.bits e.prefix.len))
    (member (codes "path") (number (unsigned e.path))
    (member (codes "source") (number (unsigned e.source))
    (member (codes "distance") (number (unsigned e.distance)) no_members))))

-- {"node":<node>,"entries":[..]}
unfoldable pub prefixes_data : PrefixDb → Data
prefixes_data db =
    object (member (codes "node") (string db.node) (member (codes "entries") (array (items_data entry_data db.entries)) no_members))

-- the text of a prefix record
abbrev pub prefixes_text : PrefixDb → List ℕ
prefixes_text db = compact_text (prefixes_data db)
