use Rattle.std.proofs.Common.{option_copied, ◌∙◌, sym, subst}
use Rattle.ls_records.specs.Links.{CoversLinks}
use Rattle.ls_records.proofs.Holding.{link_held, covers_link}
use Rattle.ls_records.proofs.records.Records.hold_link.Goals as goal

pub returns-clause-ok : goal.returns-clause-ok
returns-clause-ok c =
    link_held c.self.inside.links c.hold.new.self c.self.inside.prefixes c.args.self.now c.args.key.now c.args.node.now c.in_ok-node.node c.in_ok-db.db (option_copied c.args.value)
    c.self.view_is c.requires c.in_ok-node.ensures c.in_ok-db.ensures.record c.in_ok-links.ensures.ok

pub returns-clause-covers : goal.returns-clause-covers
returns-clause-covers c =
    covers_link c.self.inside.links c.hold.new.self c.self.inside.prefixes c.args.self.now c.in_ok-node.node c.in_ok-links.differs c.change_of_links.result c.self.view_is
    (subst (λ changes. CoversLinks c.self.inside.links c.hold.new.self changes c.in_ok-node.node c.in_ok-links.differs) (sym c.change_of_links.ensures.links) c.in_ok-links.ensures.covers)
    (c.change_of_links.ensures.transit ∙ c.name_if.ensures) c.change_of_links.ensures.prefixes
