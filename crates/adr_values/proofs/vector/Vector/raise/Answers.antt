use Rattle.std.proofs.Common.{ap, ◌∙◌}
use Rattle.std.proofs.lemmas.Result.{on_ok_weaker}
use Rattle.adr_values.specs.Vector.{Cursors, at}
use Rattle.adr_values.proofs.Joining.{raised_here, raised_elsewhere}
use Rattle.adr_values.proofs.vector.Vector.raise.Goals as goal

pub returns-in-Ok-clause-here : goal.returns-in-Ok-clause-here
returns-in-Ok-clause-here c = rw c.raise_at.ensures.raised (raised_here c.args.self.now c.args.inv c.args.usn)

pub returns-in-Ok-clause-elsewhere : goal.returns-in-Ok-clause-elsewhere
returns-in-Ok-clause-elsewhere c other differs = rw c.raise_at.ensures.raised (raised_elsewhere c.args.self.now c.args.inv c.args.usn other differs)

pub returns-in-Err-clause-here : goal.returns-in-Err-clause-here
returns-in-Err-clause-here c = on_ok_weaker c.enter.result (λ e. ap (λ (v : Cursors). at v c.args.inv) e ∙ raised_here c.args.self.now c.args.inv c.args.usn) c.enter.ensures.ok

pub returns-in-Err-clause-elsewhere : goal.returns-in-Err-clause-elsewhere
returns-in-Err-clause-elsewhere c = on_ok_weaker c.enter.result (λ e other differs. ap (λ (v : Cursors). at v other) e ∙ raised_elsewhere c.args.self.now c.args.inv c.args.usn other differs) c.enter.ensures.ok
