use Rattle.std.proofs.lemmas.Cmp.{nat_list_cmp_total}
use Rattle.adr_values.specs.contracts.stamp.BirthOrd.TheImpl.Laws.{total-law as births_total}
use Rattle.adr_values.specs.contracts.stamp.OidOrd.TheImpl.Laws.{total-law as objects_total}
use Rattle.adr_values.specs.contracts.stamp.StampOrd.TheImpl.Laws.{total-law as stamps_total}
use Rattle.adr_values.specs.contracts.stamp.LinkStampOrd.TheImpl.Laws.{total-law as link_stamps_total}
use Rattle.adr_values.specs.contracts.stamp.LinkKeyOrd.TheImpl.Laws.{total-law as links_total}
use Rattle.adr_values.proofs.Units.{units_total}
use Rattle.adr_values.proofs.stamp.orders_are_total.Goals as goal

pub returns-clause-identifiers : goal.returns-clause-identifiers
returns-clause-identifiers c = nat_list_cmp_total

pub returns-clause-births : goal.returns-clause-births
returns-clause-births c = births_total

pub returns-clause-objects : goal.returns-clause-objects
returns-clause-objects c = objects_total

pub returns-clause-stamps : goal.returns-clause-stamps
returns-clause-stamps c = stamps_total

pub returns-clause-link_stamps : goal.returns-clause-link_stamps
returns-clause-link_stamps c = link_stamps_total

pub returns-clause-links : goal.returns-clause-links
returns-clause-links c = links_total

pub returns-clause-units : goal.returns-clause-units
returns-clause-units c = units_total
