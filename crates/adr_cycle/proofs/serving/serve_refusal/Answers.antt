use Rattle.adr_cycle.proofs.Firsts.{calls_of_six}
use Rattle.adr_cycle.proofs.serving.serve_refusal.Goals as goal

pub returns : goal.returns
returns c =
    calls_of_six c.quarantined.ensures c.wrong_controller.ensures c.bad_mark.ensures c.rolled_back.ensures c.schema_mismatch.ensures c.too_old.ensures
    c.or.ensures c.or-2.ensures c.or-3.ensures c.or-4.ensures c.or-5.ensures
