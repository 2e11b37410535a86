use Rattle.std.proofs.lemmas.Map.Lookups.{exact_bytes}
use Rattle.adr_values.proofs.ExactOrders.{exact_births, exact_objects, exact_stamps, exact_link_stamps, exact_links}
use Rattle.adr_values.proofs.Units.{exact_units}
use Rattle.adr_values.proofs.stamp.orders_tell_apart.Goals as goal

pub returns-clause-identifiers : goal.returns-clause-identifiers
returns-clause-identifiers c = exact_bytes

pub returns-clause-births : goal.returns-clause-births
returns-clause-births c = exact_births

pub returns-clause-objects : goal.returns-clause-objects
returns-clause-objects c = exact_objects

pub returns-clause-stamps : goal.returns-clause-stamps
returns-clause-stamps c = exact_stamps

pub returns-clause-link_stamps : goal.returns-clause-link_stamps
returns-clause-link_stamps c = exact_link_stamps

pub returns-clause-links : goal.returns-clause-links
returns-clause-links c = exact_links

pub returns-clause-units : goal.returns-clause-units
returns-clause-units c = exact_units
