use Rattle.std.proofs.Common.{◌≡◌, ◌+◌, length, arith, subst, sym, ◌∙◌}
use Rattle.std.proofs.lemmas.Bool.{le-ltb}
use Rattle.adr_values.specs.Vector.{IsVector, joined, cursor_limit}
use Rattle.adr_values.proofs.Joining.{length-joined}
use Rattle.adr_values.proofs.vector.Vector.is_full_with.Goals as goal

pub returns-else-most-gt-CURSOR_LIMIT : goal.returns-else-most-gt-CURSOR_LIMIT
returns-else-most-gt-CURSOR_LIMIT c =
    let few = c.if-most-gt-CURSOR_LIMIT.false in
    let all = length-joined c.args.self.now c.args.other.now (subst IsVector c.self.view_is c.self.invariant) (subst IsVector c.other.view_is c.other.invariant) in
    let mine : c.len.result ≡ length c.args.self.now = cc (c.len.ensures, c.self.view_is) in
    let theirs : c.len-2.result ≡ length c.args.other.now = cc (c.len-2.ensures, c.other.view_is) in
    le-ltb cursor_limit (c.len.result + c.len-2.result) few ∙ sym (le-ltb cursor_limit (length (joined c.args.self.now c.args.other.now)) (omega arith))
