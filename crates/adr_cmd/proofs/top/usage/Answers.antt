-- The status says how the write went.
use Rattle.std.proofs.Common.{rules}
use Rattle.adr_cmd.specs.Usage.{usage_line}
use Rattle.adr_cmd.proofs.TopLemmas.{usage_status, usage_added, usage_front, usage_failed}
use Rattle.adr_cmd.proofs.top.usage.Goals as goal

pub returns-clause-statuses : goal.returns-clause-statuses
returns-clause-statuses g c = usage_status c.ended.result c.write.result c.ended.ensures

pub returns-clause-added : goal.returns-clause-added
unfolding usage_line
returns-clause-added g c =
    usage_added (g.K.Sink.written c.args.sink.now) (g.K.Sink.written c.write.new.self) c.as_bytes.result.now usage_line (search rules)
    c.ended.result c.write.result c.ended.ensures c.write.ensures.added

pub returns-clause-front : goal.returns-clause-front
unfolding usage_line
returns-clause-front g c =
    usage_front (g.K.Sink.written c.args.sink.now) (g.K.Sink.written c.write.new.self) c.as_bytes.result.now usage_line (search rules)
    c.ended.result c.write.result c.ended.ensures c.write.ensures.front

pub returns-clause-failed : goal.returns-clause-failed
returns-clause-failed g c = usage_failed c.ended.result c.write.result c.ended.ensures c.write.ensures.failed
