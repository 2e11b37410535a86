use Rattle.std.proofs.Common.{inl}
use Rattle.adr_run_replay.proofs.GivenLemmas.{told_status, told_written, told_front, told_end, told_given, told_given_front, nothing_told}
use Rattle.adr_run_replay.proofs.ShowLemmas.{told_shown}
use Rattle.adr_run_replay.proofs.replaying.replay.Goals as goal

pub returns-clause-written : goal.returns-clause-written
returns-clause-written g c plain =
    told_given (g.S.Source.left c.args.source.now) (g.K.Sink.written c.args.sink.now) (g.K.Sink.written c.perform-status.new.sink) c.ended.result
    (told_status (g.S.Source.left c.args.source.now) c.as_slice.result.now c.ended.result c.perform-status.result.0 c.perform-status.result.1
    (rw c.as_slice.ensures.value c.in-Ok.ensures.read) c.ended.ensures c.perform-status.ensures.status plain)
    (told_written (g.S.Source.left c.args.source.now) (g.K.Sink.written c.args.sink.now) (g.K.Sink.written c.perform-status.new.sink) c.as_slice.result.now c.ended.result c.perform-status.result.0 c.perform-status.result.1
    (rw c.as_slice.ensures.value c.in-Ok.ensures.read) c.ended.ensures c.perform-status.ensures.ok plain)

pub returns-clause-front : goal.returns-clause-front
returns-clause-front g c faulty =
    told_given_front (g.S.Source.left c.args.source.now) (g.K.Sink.written c.args.sink.now) (g.K.Sink.written c.perform-status.new.sink)
    (told_front (g.S.Source.left c.args.source.now) (g.K.Sink.written c.args.sink.now) (g.K.Sink.written c.perform-status.new.sink) c.as_slice.result.now c.ended.result c.perform-status.result.0 c.perform-status.result.1
    (rw c.as_slice.ensures.value c.in-Ok.ensures.read) c.ended.ensures c.perform-status.ensures.statuses c.perform-status.ensures.front faulty)

pub returns-clause-ended : goal.returns-clause-ended
returns-clause-ended g c zero =
    told_end (g.S.Source.left c.args.source.now) (g.S.Source.left c.read_at_most.new.source) c.ended.result
    (told_status (g.S.Source.left c.args.source.now) c.as_slice.result.now c.ended.result c.perform-status.result.0 c.perform-status.result.1
    (rw c.as_slice.ensures.value c.in-Ok.ensures.read) c.ended.ensures c.perform-status.ensures.status (inl zero))
    c.in-Ok.ensures.left zero

pub returns-clause-printed : goal.returns-clause-printed
returns-clause-printed g c zero =
    told_shown (g.S.Source.left c.args.source.now) (g.K.Sink.written c.args.sink.now) (g.K.Sink.written c.perform-status.new.sink)
    (told_written (g.S.Source.left c.args.source.now) (g.K.Sink.written c.args.sink.now) (g.K.Sink.written c.perform-status.new.sink) c.as_slice.result.now c.ended.result c.perform-status.result.0 c.perform-status.result.1
    (rw c.as_slice.ensures.value c.in-Ok.ensures.read) c.ended.ensures c.perform-status.ensures.ok (inl zero))

pub returns-in-Err-NoMemory-clause-front : goal.returns-in-Err-NoMemory-clause-front
returns-in-Err-NoMemory-clause-front g c faulty = nothing_told (g.S.Source.left c.args.source.now) (g.K.Sink.written c.args.sink.now)
