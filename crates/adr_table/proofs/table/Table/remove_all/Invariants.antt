use Rattle.std.proofs.Common.{◌≡◌, take, fold}
use Rattle.adr_model.specs.Change.{without_object}
use Rattle.adr_table.specs.Table.{AreNumbered, IsKept, rows_in}
use Rattle.adr_table.proofs.table.Table.remove_all.Given as goal

-- the objects so far are removed
abbrev pub invariant-loop-object : goal.invariant-loop-object
invariant-loop-object l =
    IsKept l.self × AreNumbered l.self × (rows_in l.self ≡ fold without_object (rows_in l.initial.self) (take l.object-index l.objects))
