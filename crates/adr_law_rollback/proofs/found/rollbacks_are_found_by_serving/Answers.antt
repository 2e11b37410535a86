use Rattle.adr_law_rollback.proofs.Finding.{found_by_serving, found_by_who_covers_more, found_by_who_read_more}
use Rattle.adr_law_rollback.proofs.found.rollbacks_are_found_by_serving.Goals as goal

pub returns-clause-request : goal.returns-clause-request
returns-clause-request c = found_by_serving

pub returns-clause-covers : goal.returns-clause-covers
returns-clause-covers c = found_by_who_covers_more

pub returns-clause-read : goal.returns-clause-read
returns-clause-read c = found_by_who_read_more
