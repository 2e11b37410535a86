use Rattle.adr_law_calls.proofs.Whence.{whence_rows, whence_cursors, whence_purged, whence_times, whence_marks, partners_rise}
use Rattle.adr_law_calls.proofs.brought.what_stands_stood_or_came.Goals as goal

pub returns-clause-rows : goal.returns-clause-rows
returns-clause-rows c = whence_rows

pub returns-clause-cursors : goal.returns-clause-cursors
returns-clause-cursors c = whence_cursors

pub returns-clause-purged : goal.returns-clause-purged
returns-clause-purged c = whence_purged

pub returns-clause-marks : goal.returns-clause-marks
returns-clause-marks c = whence_marks

pub returns-clause-partners : goal.returns-clause-partners
returns-clause-partners c = partners_rise

pub returns-clause-times : goal.returns-clause-times
returns-clause-times c = whence_times
