use Rattle.std.proofs.Common.{◌≡◌, take}
use Rattle.std.specs.Prelude.{sum_by}
use Rattle.adr_run_exercise.specs.Summary.{forward_links}
use Rattle.adr_run_replay.proofs.exercising.links_of.Given as goal

-- those so far are counted
abbrev pub invariant-loop-entry : goal.invariant-loop-entry
invariant-loop-entry l = l.sum ≡ sum_by forward_links (take l.entry-index l.directory)
