-- The phases that are left name small links.
use Rattle.std.proofs.Common.{rules}
use Rattle.std.proofs.lemmas.List.Elements.{All-rest}
use Rattle.net_record.specs.Small.{IssuesSmallLinks}
use Rattle.net_world.proofs.given.GivenRun.settle_first.Goals as goal

pub invariant_of-self : goal.invariant_of-self
invariant_of-self c = All-rest IssuesSmallLinks c.in-Some.phase c.pop_front.new.self.items c.self.inside.unsettled.items (search rules) c.self.invariant

pub invariant_of-self-in_err-settle : goal.invariant_of-self-in_err-settle
invariant_of-self-in_err-settle c = All-rest IssuesSmallLinks c.in-Some.phase c.pop_front.new.self.items c.self.inside.unsettled.items (search rules) c.self.invariant

pub invariant_of-self-in-Some : goal.invariant_of-self-in-Some
invariant_of-self-in-Some c = All-rest IssuesSmallLinks c.in-Some.phase c.pop_front.new.self.items c.self.inside.unsettled.items (search rules) c.self.invariant
