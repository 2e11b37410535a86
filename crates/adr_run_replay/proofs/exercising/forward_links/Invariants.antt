use Rattle.std.proofs.Common.{◌≡◌, take}
use Rattle.std.specs.Prelude.{sum_by}
use Rattle.adr_run_exercise.specs.Summary.{forward_links_under}
use Rattle.adr_run_replay.proofs.exercising.forward_links.Given as goal

-- those so far are counted
abbrev pub invariant-loop-attr : goal.invariant-loop-attr
invariant-loop-attr l = l.sum ≡ sum_by forward_links_under (take l.attr-index l.entry.links)
