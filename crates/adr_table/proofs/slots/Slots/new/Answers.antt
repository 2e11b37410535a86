use Rattle.std.proofs.Common.{refl, subst, sym}
use Rattle.std.specs.List.Sorted.{IsStrictlySortedBy}
use Rattle.adr_table.specs.Slots.{IsTidy}
use Rattle.adr_table.proofs.slots.Slots.new.Goals as goal

pub returns-clause-tidy : goal.returns-clause-tidy
unfolding IsStrictlySortedBy
returns-clause-tidy c =
    subst (λ es. IsTidy (record { map = es; objects = 0; links = 0 })) (sym c.new.ensures)
    (record { ordered = tt; home = tt; objects = refl; links = refl })
