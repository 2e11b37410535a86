use Rattle.std.proofs.Common.{◌∙◌, sym, ap, List, ℕ, Err}
use Rattle.std.specs.Option.{option_map}
use Rattle.adr_disk.proofs.Told.{at_told}
use Rattle.adr_disk.specs.Disk.{Only}
use Rattle.adr_law_journal.specs.Areas.{start_of}
use Rattle.adr_records.specs.Head.{area_at, front_at}
use Rattle.adr_records.specs.Body.{following_in}
use Rattle.adr_node.specs.Seen.{of_disk}
use Rattle.adr_node.proofs.Formatted.{begins_behind, begins_short, ends_behind, ends_short, is_left, mapped_told, synced_as_before, synced_leaves}
use Rattle.adr_node.proofs.Mirrored.{kept_as_before}
use Rattle.adr_node.proofs.making.format_empty.Goals as goal

pub format_disk-requires-clause-empty : goal.format_disk-requires-clause-empty
format_disk-requires-clause-empty g c = λ there is. at_told (g.D.Disk.content c.args.disk) _ there (sym c.in-Ok.ensures.same ∙ is) c.requires.empty

pub format_disk-requires-clause-synced : goal.format_disk-requires-clause-synced
format_disk-requires-clause-synced g c = λ there is. at_told (g.D.Disk.content c.args.disk) (λ (bytes : List ℕ). Only bytes (g.D.Disk.may_leave c.sync.new.self)) there (sym c.in-Ok.ensures.same ∙ is) c.in-Ok.ensures.durable

pub returns-in-Ok-clause-begins : goal.returns-in-Ok-clause-begins
returns-in-Ok-clause-begins g c =
    let d = g.D.Disk in
    let e = c.in-Ok.ensures in
    begins_behind d c.args.disk c.sync.new.self c.args.state
    (synced_leaves d g.met.D.Disk.only_now c.args.disk c.sync.new.self e.time) (is_left d c.args.disk c.sync.new.self e.crash)
    c.format_disk.result.1 c.format_disk.result.0 e.cause.never_falls (ap (option_map (start_of front_at area_at following_in)) e.same) c.format_disk.ensures

pub returns-in-Ok-clause-ends : goal.returns-in-Ok-clause-ends
returns-in-Ok-clause-ends g c =
    let e = c.in-Ok.ensures in
    ends_behind (of_disk g.D.Disk) c.args.state c.args.disk c.sync.new.self c.format_disk.result.1 c.format_disk.result.0
    (synced_as_before g.D.Disk g.met.D.Disk.only_now c.args.disk c.sync.new.self e.same e.time e.crash) e.cause.never_falls c.format_disk.ensures.ends

pub returns-in-Err-clause-begins : goal.returns-in-Err-clause-begins
returns-in-Err-clause-begins g c =
    let d = g.D.Disk in
    let e = c.in-Err.ensures in
    begins_short d c.args.disk c.sync.new.self c.args.state
    (synced_leaves d g.met.D.Disk.only_now c.args.disk c.sync.new.self e.time) (is_left d c.args.disk c.sync.new.self e.crash)
    e.cause.never_falls (mapped_told (start_of front_at area_at following_in) (d.content c.args.disk) (d.content c.sync.new.self) e.told)

pub returns-in-Err-clause-ends : goal.returns-in-Err-clause-ends
returns-in-Err-clause-ends g c =
    let e = c.in-Err.ensures in
    ends_short Unit (of_disk g.D.Disk) c.args.state c.args.disk c.sync.new.self c.in-Err.fault c.by_fault.result c.by_fault.ensures.failed c.by_fault.ensures.no_memory
    (λ is. e.cause.failed (ap Err is)) (λ is. kept_as_before g.D.Disk g.met.D.Disk.only_now c.args.disk c.sync.new.self (e.no_memory (ap Err is)))
