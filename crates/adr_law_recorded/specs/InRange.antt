-- Changes whose fields are in the ranges of a record.
use Rattle.std.specs.Prelude.{◌≡◌, ◌<◌, ◌^◌, length, IfSome, true}
use Rattle.std.specs.List.{AllByRecursion}
use Rattle.adr_wire.specs.Ranges.{IsId, IsU64, IsUsn0, IsMark, IsOid, IsCursor}
use Rattle.adr_model.specs.Member.{Each}
use Rattle.adr_model.specs.Update.{Identifier, Update}
use Rattle.adr_model.specs.Store.{PartnerMark}
use Rattle.adr_model.specs.Change.{Change, updates_written}
use Rattle.adr_image.specs.Stored.{IsSpelledRow}
use Rattle.adr_image.specs.Whole.{is_schema}

-- what a change brings is in the ranges of a record
pub record IsInRange (c : Change) : Type 0 where
  pub usn : IsUsn0 c.usn
  pub schema : is_schema c.schema ≡ true
  pub mark : IfSome c.mark (λ (k : Identifier × PartnerMark). IsId k.0 × IsId k.1.inv × IsMark k.1.mark)
  pub joined : AllByRecursion IsCursor c.joined
  -- whose they are, the vector tells
  pub times : AllByRecursion (λ t. IsU64 t.1) c.times
  pub purged : AllByRecursion IsCursor c.purged
  pub removed : Each IsOid c.removed
  pub few_removed : length c.removed < 2 ^ 32
  pub few : length c.writes < 2 ^ 32
  pub rows : Each (λ (u : Update). IsSpelledRow u.key u.said u.stamp) (updates_written c)
