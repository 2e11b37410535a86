-- What is known before and after a reply is taken.
use Rattle.adr_values.specs.Vector.{at}
use Rattle.adr_model.specs.Member.{Each}
use Rattle.adr_model.specs.Update.{Update}
use Rattle.adr_model.specs.Reflects.{Covers, AtMost, Knowledge, Reflects}
use Rattle.adr_model.specs.Serve.{Reply}
use Rattle.adr_model.specs.Replica.{Book}
use Rattle.adr_model.specs.Sound.{IsSoundMark, IsSent}

-- the mark at which the reply begins tells the truth, and what the reply was asked with is covered and reflected
pub record MayTake (s : Book) (k : Knowledge) (r : Reply) : Type 0 where
  pub mark : IsSoundMark s k r.inv r.from
  pub asked : AtMost (at r.asked) k.vector
  pub covered : Each (λ u. Covers k.vector u → Reflects s.issued k u) s.issued

-- nothing is lost, and what was sent is reflected
pub record HasTaken (s : Book) (k k' : Knowledge) (r : Reply) : Type 0 where
  pub kept : (u : Update) → Reflects s.issued k u → Reflects s.issued k' u
  pub sent : (u : Update) → IsSent r u → Reflects s.issued k' u
