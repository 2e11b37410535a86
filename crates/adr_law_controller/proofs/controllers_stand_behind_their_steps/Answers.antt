use Rattle.adr_law_controller.proofs.Chains.{stands_behind, up_stands}
use Rattle.adr_law_controller.proofs.controllers_stand_behind_their_steps.Goals as goal

pub returns-clause-up : goal.returns-clause-up
returns-clause-up g c = let law = g.met.K.Keeper in up_stands g.K.Keeper law.leaves law.honest law.only_now

pub returns-clause-steps : goal.returns-clause-steps
returns-clause-steps g c = let law = g.met.K.Keeper in stands_behind g.K.Keeper law.leaves law.honest law.only_now
