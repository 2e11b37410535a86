use Rattle.std.proofs.Common.{subst, sym}
use Rattle.adr_model.specs.Member.{Each}
use Rattle.adr_law_recorded.specs.Typed.{IsTypedValue}
use Rattle.adr_test_logs.proofs.Writing.{each_more}
use Rattle.adr_test_logs.proofs.written.descriptions.Goals as goal

pub loop-digit-preserved : goal.loop-digit-preserved
loop-digit-preserved c =
    subst (Each IsTypedValue) (sym c.in_ok-push.ensures.items)
    (each_more IsTypedValue c.loop-digit.values.items c.in_ok-description.field-0 c.loop-digit.invariant c.in_ok-description.ensures)
