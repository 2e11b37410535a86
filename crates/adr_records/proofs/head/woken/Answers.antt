use Rattle.std.proofs.Common.{◌≡◌, IfOk, subst}
use Rattle.adr_model.specs.Collect.{woken}
use Rattle.adr_model.specs.Store.{State}
use Rattle.adr_records.proofs.Heads.{own_fits, own_woken}
use Rattle.adr_records.proofs.Making.{made_each}
use Rattle.adr_records.proofs.head.woken.Goals as goal

pub unless_full-requires : goal.unless_full-requires
unless_full-requires c = λ is. own_fits c.args.owner.inv c.args.contents c.requires (c.wake.ensures.full is)

pub returns : goal.returns
returns c =
    subst (λ (t : State). IfOk c.unless_full.result (λ s. s ≡ t)) (own_woken (c.args.owner.dsa, c.args.owner.inv) c.args.contents c.requires)
    (made_each (λ (s : State). s ≡ woken c.args.contents c.args.owner.dsa c.args.owner.inv) c.wake.result c.unless_full.result c.wake.ensures.ok c.unless_full.ensures.ok)
