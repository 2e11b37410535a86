use Rattle.std.proofs.Common.{◌≡◌, Some, ◌∙◌, ap, sym}
use Rattle.adr_model.specs.Collect.{woken}
use Rattle.adr_model.specs.Store.{State}
use Rattle.adr_records.proofs.Adoption.{adopted_so, fits, refused_so}
use Rattle.adr_records.proofs.Making.{made_of}
use Rattle.adr_records.proofs.adopting.adopt.Goals as goal

pub unless_full-requires : goal.unless_full-requires
unless_full-requires c = λ is. fits c.args.contents c.args.dsa c.args.inv (c.in-None.ensures c.args.dsa) (c.wake.ensures.full is)

pub returns-in-Some-clause-refused : goal.returns-in-Some-clause-refused
returns-in-Some-clause-refused c =
    λ refusal e.
    let same : c.in-Some.refusal ≡ refusal = cc in
    refused_so c.args.contents c.args.dsa c.args.inv refusal (ap Some (sym same) ∙ c.in-Some.ensures c.args.dsa)

pub returns-in_ok-unless_full-in-None-clause-ok : goal.returns-in_ok-unless_full-in-None-clause-ok
returns-in_ok-unless_full-in-None-clause-ok c =
    let state = c.in_ok-unless_full-in-None.field-0 in
    adopted_so c.args.contents c.args.dsa c.args.inv state (c.in-None.ensures c.args.dsa) (made_of (λ (s : State). s ≡ woken c.args.contents c.args.dsa c.args.inv) c.wake.result state c.wake.ensures.ok c.in_ok-unless_full-in-None.ensures.ok)
