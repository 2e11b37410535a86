use Rattle.adr_law_calls.proofs.Rising.{one_of_key}
use Rattle.adr_law_calls.proofs.Order.{rows_rise, puts_stay_alone}
use Rattle.adr_law_calls.proofs.puts.order_stays.Goals as goal

pub returns-clause-one : goal.returns-clause-one
returns-clause-one c = one_of_key

pub returns-clause-rising : goal.returns-clause-rising
returns-clause-rising c = rows_rise

pub returns-clause-alone : goal.returns-clause-alone
returns-clause-alone c = puts_stay_alone
