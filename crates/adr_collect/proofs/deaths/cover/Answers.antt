use Rattle.std.proofs.Common.{◌≡◌, subst}
use Rattle.std.specs.Prelude.{OnOk}
use Rattle.adr_values.specs.Vector.{raised}
use Rattle.adr_collect.proofs.deaths.cover.Goals as goal

pub returns-clause-raised : goal.returns-clause-raised
returns-clause-raised c =
    let new = c.raise-2.new.vector in
    let stamp = c.args.death.now.stamp.stamp in
    subst (λ v. OnOk c.raise-2.result (new ≡ raised v stamp.inv stamp.usn)) c.in_ok-raise.ensures.raised
    (subst (λ s. OnOk c.raise-2.result (new ≡ raised c.raise.new.vector s.stamp.inv s.stamp.usn)) c.stamp-stamp.ensures c.raise-2.ensures.raised)
