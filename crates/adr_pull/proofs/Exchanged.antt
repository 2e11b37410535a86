-- A frame was sent, and what comes was received in part.
use Rattle.std.proofs.Common.{List, drop, length, Option, Some, None, ap, sym, ◌∙◌, subst, arith, take_all}
use Rattle.std.specs.Prelude.{ℕ, IfSome}
use Rattle.adr_outside.specs.Traffic.{Traffic, Sends}
use Rattle.adr_frames.specs.Hearing.{IsPartReceived}
use Rattle.adr_pull.specs.Exchange.{HasSentFront, moved}

-- all of a message was sent, and no frame was heard
pub unheard : (before mid after : Option Traffic) (bytes : List ℕ) → IfSome before (λ t. Sends t mid bytes)
    → IsPartReceived mid after
    → IfSome before (λ t. HasSentFront t bytes after)
unheard None mid after bytes sent part = tt
unheard (Some t) mid after bytes sent part =
    let u = subst (λ (o : Option Traffic). IsPartReceived o after) sent.1 part in
    let all = sym (take_all (length bytes) bytes (omega arith)) in
    (drop u.0 t.left, length bytes, u.1 ∙ ap (λ (xs : List ℕ). Some (moved t (drop u.0 t.left) xs)) all)
