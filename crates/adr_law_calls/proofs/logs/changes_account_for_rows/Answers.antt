use Rattle.adr_law_calls.proofs.Units.{change_from, change_accounts}
use Rattle.adr_law_calls.proofs.logs.changes_account_for_rows.Goals as goal

pub returns-clause-from : goal.returns-clause-from
returns-clause-from c = change_from

pub returns-clause-units : goal.returns-clause-units
returns-clause-units c = change_accounts
