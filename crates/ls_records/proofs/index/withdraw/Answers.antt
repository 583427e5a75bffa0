use Rattle.std.proofs.Common.{◌≡◌, ◌≢◌, [], sym, ◌∙◌, ap, length}
use Rattle.std.proofs.lemmas.Bool.{false≢true}
use Rattle.std.proofs.lemmas.List.{nil_from_length}
use Rattle.ls_records.proofs.Told.{told_left, told_last}
use Rattle.ls_records.proofs.index.withdraw.Goals as goal

pub returns-in_ok-insert : goal.returns-in_ok-insert
returns-in_ok-insert c =
    let some : c.remove.new.self.entries ≢ [] = λ none. false≢true (sym c.if-not-is_empty.true ∙ c.is_empty.ensures.1 (ap length none)) in
    told_left c.args.index.now.entries c.take_all-all.new.index.entries c.insert.new.self.entries c.args.node.now c.args.prefix.now c.take_all-all.result c.remove.new.self
    c.take_all-all.ensures.own c.take_all-all.ensures.left c.remove.ensures.updates.0 some c.remove.ensures.ordered c.in_ok-insert.ensures.updates.0

pub returns-else-not-is_empty : goal.returns-else-not-is_empty
returns-else-not-is_empty c =
    let none : c.remove.new.self.entries ≡ [] = nil_from_length c.remove.new.self.entries (c.is_empty.ensures.0 c.if-not-is_empty.false) in
    told_last c.args.index.now.entries c.take_all-all.new.index.entries c.args.node.now c.args.prefix.now c.take_all-all.result c.remove.new.self
    c.take_all-all.ensures.own c.take_all-all.ensures.left c.remove.ensures.updates.0 none
