use Rattle.std.proofs.Common.{◌∙◌, sym, ap}
use Rattle.adr_call.specs.declared.outcome.Outcome.TheVariants as outcomes
use Rattle.adr_model.specs.Directory.{directory}
use Rattle.adr_model.specs.Store.{updates_of}
use Rattle.adr_call.specs.declared.report.Report.{Report}
use Rattle.adr_view.specs.Report.{report_of}
use Rattle.adr_view.proofs.reports.report.Goals as goal

pub returns-in_ok-directory-in-Directory : goal.returns-in_ok-directory-in-Directory
returns-in_ok-directory-in-Directory c =
    ap outcomes.Show (c.in_ok-directory-in-Directory.ensures ∙ ap (λ rows. directory (updates_of rows)) c.rows.ensures)
    ∙ ap (λ (what : Report). report_of what c.args.state.now.store) (sym c.in-Directory.is)
