use Rattle.std.proofs.Common.{arith}
use Rattle.adr_values.proofs.Placing.{written_over, raised_over, raised_under}
use Rattle.adr_values.proofs.vector.Vector.raise_at.Goals as goal

pub invariant_of-self : goal.invariant_of-self
invariant_of-self c = written_over c.self.inside.cursors.items c.args.inv c.args.usn c.args.place c.self.invariant (let lt = c.if-index-usn.true in omega arith) (rw c.self.view_is c.requires)

pub returns-then-index-usn-clause-raised : goal.returns-then-index-usn-clause-raised
returns-then-index-usn-clause-raised c = rw (← c.self.view_is) (raised_over c.self.inside.cursors.items c.args.inv c.args.usn c.args.place c.index.result.now (rw c.self.view_is c.requires) c.index.ensures c.if-index-usn.true)

pub returns-else-index-usn-clause-raised : goal.returns-else-index-usn-clause-raised
returns-else-index-usn-clause-raised c = rw (← c.self.view_is) (raised_under c.self.inside.cursors.items c.args.inv c.args.usn c.args.place c.index.result.now (rw c.self.view_is c.requires) c.index.ensures c.if-index-usn.false)
