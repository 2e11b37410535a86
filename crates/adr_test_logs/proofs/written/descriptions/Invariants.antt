use Rattle.adr_model.specs.Member.{Each}
use Rattle.adr_law_recorded.specs.Typed.{IsTypedValue}
use Rattle.adr_test_logs.proofs.written.descriptions.Given as goal

-- those so far are typed
abbrev pub invariant-loop-digit : goal.invariant-loop-digit
invariant-loop-digit l = Each IsTypedValue l.values.items
