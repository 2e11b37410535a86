use Rattle.adr_table.specs.Deaths.{AreListed}
use Rattle.adr_table.proofs.write.forget_dead.Given as goal

-- the object of each death is listed still
abbrev pub invariant-loop-object : goal.invariant-loop-object
invariant-loop-object l = AreListed l.slots l.dead
