use Rattle.std.proofs.Common.{arith, ap, ◌∙◌, Some}
use Rattle.adr_test_killed.proofs.Numbers.{high_half, low_half}
use Rattle.adr_test_killed.proofs.objects.number_of.Goals as goal

pub returns-then-high-eq-OBJECTS : goal.returns-then-high-eq-OBJECTS
returns-then-high-eq-OBJECTS c =
    λ number fits is.
    ap Some
    (c.as_u64_pair-high.ensures.low ∙ low_half number fits c.from_bytes.result (c.from_bytes.ensures ∙ c.as_bytes.ensures ∙ is))

pub returns-else-high-eq-OBJECTS : goal.returns-else-high-eq-OBJECTS
returns-else-high-eq-OBJECTS c =
    λ number fits is.
    absurd
    (omega (
      arith,
      c.if-high-eq-OBJECTS.false,
      c.as_u64_pair-high.ensures.high ∙ high_half number fits c.from_bytes.result (c.from_bytes.ensures ∙ c.as_bytes.ensures ∙ is),
    ))
