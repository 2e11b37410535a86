use Rattle.adr_tree.specs.Tree.{nodes_in}
use Rattle.adr_tree.proofs.Found.{found_live, found_own}
use Rattle.adr_tree.proofs.tree.Tree.at_hint.Goals as goal

pub returns-in-Some-clause-live : goal.returns-in-Some-clause-live
returns-in-Some-clause-live c = found_live (nodes_in c.args.self.now) c.in-Some.guid c.get.result c.get.ensures

pub returns-in-Some-clause-own : goal.returns-in-Some-clause-own
returns-in-Some-clause-own c = found_own (nodes_in c.args.self.now) c.in-Some.guid c.args.hint.now.guid c.in-Some.is c.get.result c.get.ensures
