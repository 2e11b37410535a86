use Rattle.std.proofs.Common.{◌≡◌, Result, Ok, Err, ap, arith}
use Rattle.std.specs.Prelude.{IsErrAnd, IsErrOf}
use Rattle.adr_values.specs.Vector.{joined}
use Rattle.adr_values.proofs.Growing.{length-raised}
use Rattle.adr_state.proofs.state.State.vector_after.Goals as goal

-- an error that is passed on is the one that came
passed : {V E : Type 0} (r : Result V E) (e refusal : E) → IsErrAnd r (λ x. x ≡ e) → IsErrOf r refusal → e ≡ refusal
passed (Ok v) e refusal h is = absurd h
passed (Err x) e refusal h is = cc

pub returns-in_err-vector-clause-full : goal.returns-in_err-vector-clause-full
returns-in_err-vector-clause-full c is =
    let over = c.in_err-vector.ensures.full.0 (ap (λ e. Err e) (passed c.from_residual.result _ _ c.from_residual.ensures.1 is)) in
    let longer = length-raised (joined c.self.inside.vector c.joined.result.now) c.self.inside.inv c.args.change.now.usn in
    rw (← c.self.view_is, ← c.joined.ensures) (omega (arith, over, longer))
