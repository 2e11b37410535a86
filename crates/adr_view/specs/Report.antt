-- What is told of a store to a client that asks for a report.
use Rattle.adr_call.specs.declared.outcome.Outcome.{Outcome}
use Rattle.adr_call.specs.declared.outcome.Outcome.TheVariants as outcomes
use Rattle.adr_call.specs.declared.report.Report.{Report}
use Rattle.adr_call.specs.declared.report.Report.TheVariants.{Directory, Vector, Marks, Meta}
use Rattle.adr_model.specs.Directory.{directory}
use Rattle.adr_model.specs.Meta.{meta}
use Rattle.adr_model.specs.Store.{Store, updates_of}
use Rattle.adr_model.specs.World.{marks_shown}

-- the directory of its rows, what it has seen and when, how far it has read its partners, or what the rows of a GUID tell
abbrev pub report_of : Report → Store → Outcome
report_of Directory s = outcomes.Show (directory (updates_of s.rows))
report_of Vector s = outcomes.Vector s.vector s.times
report_of Marks s = outcomes.Marks (marks_shown s)
report_of (Meta guid) s = outcomes.Meta (meta s.rows guid)
