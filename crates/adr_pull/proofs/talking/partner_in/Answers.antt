use Rattle.std.proofs.Common.{◌≡◌, ℕ, length, eqb, Bool, true, sym, ◌∙◌}
use Rattle.std.proofs.lemmas.Bool.{eqb-true}
use Rattle.adr_pull.proofs.Partners.{named}
use Rattle.adr_pull.proofs.talking.partner_in.Goals as goal

is_none : (n : ℕ) (test : Bool) → test ≡ eqb n 0 → test ≡ true → n ≡ 0
is_none n test is holds = eqb-true n 0 (sym is ∙ holds)

pub returns-then-is_empty : goal.returns-then-is_empty
returns-then-is_empty c =
    named c.args.bytes.now c.in_ok-kind.kind.now c.in_ok-kind.rest.now c.in_ok-dsa.dsa.now c.in_ok-dsa.behind.now
    c.from_bytes.result
    c.in_ok-kind.ensures.cases.0 c.in_ok-dsa.ensures.cases.0
    c.in_ok-dsa.ensures.cases.2 (is_none
    (length c.in_ok-dsa.behind.now) c.is_empty.result c.is_empty.ensures c.if-is_empty.true) c.if-kind-eq-IDENTITY.true
    c.from_bytes.ensures
