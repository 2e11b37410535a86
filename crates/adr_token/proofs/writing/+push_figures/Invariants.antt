use Rattle.std.proofs.Common.{ℕ}
use Rattle.adr_token.proofs.writing.+push_figures.Given as goal

-- a sixteenth is less
abbrev pub decreases-push_figures : goal.decreases-push_figures
decreases-push_figures l = l.number
