use Rattle.std.proofs.Common.{◌∙◌, ap}
use Rattle.adr_disk.specs.declared.memory.Crash.TheVariants.{Torn}
use Rattle.adr_disk.specs.Memory.{DiskState, Surface, read_of, left_by}
use Rattle.adr_law_journal.specs.Areas.{start_of}
use Rattle.adr_run_keeper.proofs.journal.with_bytes.Goals as goal

pub returns-clause-read : goal.returns-clause-read
returns-clause-read g c =
    ap (λ (d : DiskState). start_of g.F.Form.head g.F.Form.area g.F.Form.following (read_of d.held.surface)) c.new.ensures.disk
    ∙ ap (λ (s : Surface). start_of g.F.Form.head g.F.Form.area g.F.Form.following (read_of s)) c.of.ensures.surface

pub returns-clause-safe : goal.returns-clause-safe
returns-clause-safe g c =
    ap (λ (d : DiskState). start_of g.F.Form.head g.F.Form.area g.F.Form.following d.held.surface.synced) c.new.ensures.disk
    ∙ ap (λ (s : Surface). start_of g.F.Form.head g.F.Form.area g.F.Form.following s.synced) c.of.ensures.surface

pub returns-clause-torn : goal.returns-clause-torn
returns-clause-torn g c =
    ap (λ (d : DiskState). start_of g.F.Form.head g.F.Form.area g.F.Form.following (left_by Torn d.held.surface)) c.new.ensures.disk
    ∙ ap (λ (s : Surface). start_of g.F.Form.head g.F.Form.area g.F.Form.following (left_by Torn s)) c.of.ensures.surface

pub returns-clause-running : goal.returns-clause-running
returns-clause-running g c = ap (λ (d : DiskState). d.stopped) c.new.ensures.disk ∙ c.of.ensures.running

pub returns-clause-plan : goal.returns-clause-plan
returns-clause-plan g c = ap (λ (d : DiskState). d.plan) c.new.ensures.disk ∙ c.of.ensures.plan
