-- What a change writes over what is there, and so needs no room for.
use Rattle.std.specs.Prelude.{List, length, Option, Bool, ◌&&◌, ◌||◌, ◌==◌, nat_lt, IfSome, IsSome}
use Rattle.std.specs.Map.{lookup}
use Rattle.std.specs.BTreeMap.{is_at}
use Rattle.adr_values.specs.Order.{identifier_order}
use Rattle.adr_values.specs.Vector.{Cursors, at}
use Rattle.adr_model.specs.Update.{Identifier}
use Rattle.adr_model.specs.Store.{PartnerMark}
use Rattle.adr_model.specs.Change.{Change}

-- whether a change joins nothing, and the own cursor is there, unless no USN was used
abbrev pub raises_at_most_own : Cursors → Identifier → Change → Bool
raises_at_most_own vector inv change = (length change.joined == 0) && (change.usn == 0 || nat_lt 0 (at vector inv))

-- the mark, if there is one, is of a partner of whom something is kept
abbrev pub IsOfKnown : List (Identifier × PartnerMark) → Option (Identifier × PartnerMark) → Type 0
IsOfKnown marks mark = IfSome mark (λ m. IsSome (lookup (is_at (identifier_order m.0)) marks))
