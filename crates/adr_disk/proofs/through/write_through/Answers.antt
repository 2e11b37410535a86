use Rattle.std.proofs.Common.{length}
use Rattle.adr_disk.specs.Disk.{Torn, Among}
use Rattle.adr_disk.proofs.Told.{if_told}
use Rattle.adr_disk.proofs.Torn.{tears, one_moment, one_synced}
use Rattle.adr_disk.proofs.through.write_through.Goals as goal

pub returns-in_err-write_at-clause-left : goal.returns-in_err-write_at-clause-left
returns-in_err-write_at-clause-left g c =
    let n = length c.args.bytes.now in
    if_told (g.D.Disk.content c.args.disk.now) (λ there. Among (Torn c.args.at n there) (g.D.Disk.may_leave c.write_at.new.self))
    (λ there is bytes left. tears c.args.at n there (g.D.Disk.may_leave c.args.disk.now) (c.requires.synced there is) bytes (c.write_at.ensures.crash bytes left))

pub returns-clause-left : goal.returns-clause-left
returns-clause-left g c =
    let n = length c.args.bytes.now in
    if_told (g.D.Disk.content c.args.disk.now) (λ there. Among (Torn c.args.at n there) (g.D.Disk.may_leave c.sync.new.self))
    (λ there is bytes left. tears c.args.at n there (g.D.Disk.may_leave c.args.disk.now) (c.requires.synced there is) bytes (c.write_at.ensures.crash bytes (c.sync.ensures.crash bytes left)))

pub returns-in_err-write_at-clause-any_moment : goal.returns-in_err-write_at-clause-any_moment
returns-in_err-write_at-clause-any_moment g c =
    let d = g.D.Disk in
    if_told (d.content c.args.disk.now) _ (λ there is.
    one_moment d.may_leave d.moment d.left_since g.met.D.Disk.only_now c.args.disk.now c.write_at.new.self c.args.at (length c.args.bytes.now) there (c.requires.synced there is) c.write_at.ensures.time)

pub returns-clause-any_moment : goal.returns-clause-any_moment
returns-clause-any_moment g c =
    let d = g.D.Disk in
    if_told (d.content c.args.disk.now) _ (λ there is.
    one_synced d.may_leave d.moment d.left_since g.met.D.Disk.only_now c.args.disk.now c.write_at.new.self c.args.at (length c.args.bytes.now) there (c.requires.synced there is) c.write_at.ensures.time
    c.write_at.ensures.crash c.sync.new.self c.sync.ensures.time)
