use Rattle.adr_table.specs.Locals.{AreLocated}
use Rattle.adr_table.proofs.write.forget_locals.Given as goal

-- each row has its hint still
abbrev pub invariant-loop-hint : goal.invariant-loop-hint
invariant-loop-hint l = AreLocated l.slots l.locals
