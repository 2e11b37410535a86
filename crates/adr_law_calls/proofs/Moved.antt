-- The mark of a reply tells the truth once what was sent is reflected.
use Rattle.std.proofs.Common.{◌⊎◌, inl, inr, arith}
use Rattle.adr_values.specs.Vector.{at}
use Rattle.adr_model.specs.Update.{inv_of}
use Rattle.adr_model.specs.Reflects.{Covers, Knowledge, Reflects}
use Rattle.adr_model.specs.LocalLog.{rows_at, IsBelow, WatermarkHolds}
use Rattle.adr_model.specs.Serve.{Reply}
use Rattle.adr_model.specs.Replica.{Book, log_of}
use Rattle.adr_model.specs.Sound.{IsSoundBook, IsSoundMark, IsSent, IsSoundReply}
use Rattle.adr_law_calls.specs.Moved.{MayTake, HasTaken}
use Rattle.adr_law_calls.proofs.Marks.{past_below}

module _ (s : Book) (r : Reply) (k k' : Knowledge) (book : IsSoundBook s) (reply : IsSoundReply s r) (may : MayTake s k r) (has : HasTaken s k k' r) where
  holds : WatermarkHolds s.issued k' (log_of s r.inv) r.to
  holds x m below = by (reply.ground x m below)
    where
      by : Covers (at r.asked) x.update ⊎ (IsSent r x.update ⊎ IsBelow (rows_at (log_of s r.inv) r.to.seen) r.from x) → Reflects s.issued k' x.update
      by (inl c) = has.kept x.update (may.covered x.update (book.logged r.inv r.to.seen x m) (omega (arith, c, may.asked (inv_of x.update))))
      by (inr (inl sent)) = has.sent x.update sent
      by (inr (inr b)) =
          let past = past_below (log_of s r.inv) r.from r.to.seen (book.kept r.inv) may.mark.boundary may.mark.ordered reply.forward x m b in
          has.kept x.update (may.mark.watermark x past.0 past.1)

  pub mark_taken : IsSoundMark s k' r.inv r.to
  mark_taken = record { ordered = reply.to_ordered; seen = reply.to_seen; boundary = reply.to_boundary; watermark = holds }
