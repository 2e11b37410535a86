use Rattle.adr_law_journal.specs.Replicas.{Has}
use Rattle.adr_run_keeper.proofs.Planning.{goes_so}
use Rattle.adr_run_keeper.proofs.controller.commits_go_as_planned.Goals as goal

pub returns : goal.returns
returns g c = λ old new ch how book r p at running follows up same h of_p ran.
    let k = g.K.PlannedKeeper in
    let law = g.met.K.PlannedKeeper in
    goes_so g.K.Keeper (λ x s. Has k.read k.safe k.torn k.plan x s) k.has_stopped
    (λ old new e r up h ran. law.prepares_unmet old new e r up h ran)
    (λ old new c e book r p at running prepared follows up same h of_p ran. law.commits_as_planned old new c e book r p at running prepared follows up same h of_p ran)
    old new ch book r p at follows up same h of_p how ran
