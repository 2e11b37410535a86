-- Nothing was said, since memory was wanting.
use Rattle.std.proofs.Common.{ℕ, List, Option, Some, None, IfSome, sym, ap}
use Rattle.std.proofs.lemmas.List.{append-nil}
use Rattle.adr_outside.specs.Traffic.{Traffic}
use Rattle.adr_pull.specs.Exchange.{HasSentFront}

pub none_sent : (o : Option Traffic) (bytes : List ℕ) → IfSome o (λ t. HasSentFront t bytes o)
none_sent None bytes = tt
none_sent (Some t) bytes = (t.left, 0, ap (λ (xs : List ℕ). Some (record t { sent = xs })) (sym (append-nil t.sent)))
