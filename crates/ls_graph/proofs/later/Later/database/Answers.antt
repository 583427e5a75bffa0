use Rattle.std.proofs.Common.{◌≡◌, true, false, option_copied, ap, ◌∙◌, rules}
use Rattle.std.specs.Str.{bytes_eq}
use Rattle.ls_graph.specs.Arcs.{database_of}
use Rattle.ls_graph.proofs.Databases.{changed_here, changed_elsewhere}
use Rattle.ls_graph.proofs.later.Later.database.Goals as goal

pub returns-then-eq : goal.returns-then-eq
returns-then-eq c =
    let i = c.self.inside in
    let same : bytes_eq c.args.node.now i.node.now ≡ true = search rules in
    changed_here i.databases.now.entries i.node.now (option_copied i.db) c.args.node.now c.self.invariant same
    ∙ ap (λ databases. database_of databases c.args.node.now) c.self.view_is

pub returns-else-eq : goal.returns-else-eq
returns-else-eq c =
    let i = c.self.inside in
    let apart : bytes_eq c.args.node.now i.node.now ≡ false = search rules in
    c.get.ensures.value
    ∙ changed_elsewhere i.databases.now.entries i.node.now (option_copied i.db) c.args.node.now c.self.invariant apart
    ∙ ap (λ databases. database_of databases c.args.node.now) c.self.view_is
