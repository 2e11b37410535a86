use Rattle.adr_law_revived.proofs.Revived.{others_stay}
use Rattle.adr_law_revived.proofs.Newly.{one_more}
use Rattle.adr_law_revived.proofs.Placed.{stands_as_given}
use Rattle.adr_law_revived.proofs.Valued.{values_are_those}
use Rattle.adr_law_revived.proofs.laws.one_object_comes.Goals as goal

pub returns : goal.returns
returns c = record { more = one_more; others = others_stay; stands = stands_as_given; values = values_are_those }
