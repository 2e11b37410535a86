use Rattle.adr_law_calls.proofs.Frames.{more_issued, covered_before, bounded_later, mark_later, store_later, state_later, request_later}
use Rattle.adr_law_calls.proofs.Replies.{reply_later, replica_later}
use Rattle.adr_law_calls.proofs.books.what_is_sound_stays_sound.Goals as goal

pub returns-clause-reflected : goal.returns-clause-reflected
returns-clause-reflected c = more_issued

pub returns-clause-bounded : goal.returns-clause-bounded
returns-clause-bounded c = bounded_later

pub returns-clause-covered : goal.returns-clause-covered
returns-clause-covered c = covered_before

pub returns-clause-mark : goal.returns-clause-mark
returns-clause-mark c = mark_later

pub returns-clause-store : goal.returns-clause-store
returns-clause-store c = store_later

pub returns-clause-state : goal.returns-clause-state
returns-clause-state c = state_later

pub returns-clause-request : goal.returns-clause-request
returns-clause-request c = request_later

pub returns-clause-reply : goal.returns-clause-reply
returns-clause-reply c = reply_later

pub returns-clause-replica : goal.returns-clause-replica
returns-clause-replica c = replica_later
