use Rattle.std.proofs.Common.{◌≡◌, drop}
use Rattle.std.specs.Cmp.Lexicographic.{pointwise}
use Rattle.adr_view.proofs.comparing.same_all.Given as goal

-- what is left tells
abbrev pub invariant-pairs : goal.invariant-pairs
invariant-pairs g l = pointwise g.T.Compared.same l.fn.a l.fn.b ≡ pointwise g.T.Compared.same (drop l.k l.fn.a) (drop l.k l.fn.b)
