-- Messages whose fields are in the ranges of their forms.
use Rattle.std.specs.Prelude.{◌≡◌, ◌<◌, ◌^◌, true, length, IfSome}
use Rattle.std.specs.List.{AllByRecursion}
use Rattle.adr_wire.specs.Headed.{is_version}
use Rattle.adr_wire.specs.Ranges.{IsId, IsU32, IsU64, IsMark, IsCursor}
use Rattle.adr_model.specs.Member.{Each}
use Rattle.adr_model.specs.Update.{Update}
use Rattle.adr_model.specs.Change.{Item}
use Rattle.adr_model.specs.Serve.{Request, Reply}
use Rattle.adr_image.specs.Stored.{IsSpelledRow}

-- what a record takes of a request: its version, the mark from which the reply begins, and how many items it may have
pub record IsRangedRequest (q : Request) : Type 0 where
  pub version : is_version q.version ≡ true
  pub mark : IsMark q.mark
  pub max : IsU32 q.max

abbrev pub IsRangedItem : Item → Type 0
IsRangedItem i = Each (λ (u : Update). IsSpelledRow u.key u.said u.stamp) i.rows

-- what a record takes of a reply: its version, who answers, from which incarnation and up to which mark, its vector with its
-- times, and its rows
pub record IsRangedReply (r : Reply) : Type 0 where
  pub version : is_version r.version ≡ true
  pub source : IsId r.source
  pub inv : IsId r.inv
  pub to : IsMark r.to
  pub last : IfSome r.last (AllByRecursion IsCursor)
  pub times : AllByRecursion (λ t. IsU64 t.1) r.times
  pub few : length r.items < 2 ^ 32
  pub items : Each IsRangedItem r.items
