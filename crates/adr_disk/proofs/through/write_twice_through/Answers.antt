use Rattle.std.proofs.Common.{◌≡◌, length, sym, ◌∙◌, ap, arith}
use Rattle.adr_disk.specs.Disk.{put}
use Rattle.adr_disk.proofs.Bytes.{length-put}
use Rattle.adr_disk.proofs.Told.{if_told, at_told, some_of, is_some_of, some_is}
use Rattle.adr_disk.proofs.Torn.{tears_first, tears_again, first_moment, second_moment, second_synced}
use Rattle.adr_disk.proofs.through.write_twice_through.Goals as goal

pub returns-in_err-write_at-clause-left : goal.returns-in_err-write_at-clause-left
returns-in_err-write_at-clause-left g c =
    let d = g.D.Disk in
    if_told (d.content c.args.disk.now) _ (λ there is bytes left.
    tears_first c.args.at (length c.args.bytes.now) c.args.later (length c.args.more.now) there (d.may_leave c.args.disk.now) (c.requires.synced there is) bytes (c.write_at.ensures.crash bytes left))

pub returns-in_err-write_at-clause-any_moment : goal.returns-in_err-write_at-clause-any_moment
returns-in_err-write_at-clause-any_moment g c =
    let d = g.D.Disk in
    if_told (d.content c.args.disk.now) _ (λ there is.
    first_moment d.may_leave d.moment d.left_since g.met.D.Disk.only_now c.args.disk.now c.write_at.new.self c.args.at (length c.args.bytes.now) there (c.requires.synced there is) c.write_at.ensures.time
    c.args.later (length c.args.more.now))

pub write_at-requires-2 : goal.write_at-requires-2
write_at-requires-2 g c = λ x told.
    let d = g.D.Disk in
    let before = some_of (d.content c.args.disk.now) (c.write_at.ensures.told.0 (is_some_of (d.content c.write_at.new.self) x told)) in
    let is : put before.0 c.args.at c.args.bytes.now ≡ x = some_is _ x (sym (at_told (d.content c.args.disk.now) _ before.0 before.1 c.in_ok-write_at.ensures.written) ∙ told) in
    omega (arith, ap length is, length-put before.0 c.args.at c.args.bytes.now, c.requires.later_within before.0 before.1)

pub returns-in_err-write_at-2-clause-left : goal.returns-in_err-write_at-2-clause-left
returns-in_err-write_at-2-clause-left g c =
    let d = g.D.Disk in
    if_told (d.content c.args.disk.now) _ (λ there is bytes left.
    tears_again c.args.at (length c.args.bytes.now) c.args.later (length c.args.more.now) there (d.may_leave c.args.disk.now) (d.may_leave c.write_at.new.self) (c.requires.synced there is)
    c.write_at.ensures.crash bytes (c.write_at-2.ensures.crash bytes left))

pub returns-in_err-write_at-2-clause-any_moment : goal.returns-in_err-write_at-2-clause-any_moment
returns-in_err-write_at-2-clause-any_moment g c =
    let d = g.D.Disk in
    if_told (d.content c.args.disk.now) _ (λ there is.
    second_moment d.may_leave d.moment d.left_since g.met.D.Disk.only_now c.args.disk.now c.write_at.new.self c.args.at (length c.args.bytes.now) there (c.requires.synced there is) c.write_at.ensures.time
    c.args.later (length c.args.more.now) c.write_at.ensures.crash c.write_at-2.new.self c.write_at-2.ensures.time)

pub returns-clause-left : goal.returns-clause-left
returns-clause-left g c =
    let d = g.D.Disk in
    if_told (d.content c.args.disk.now) _ (λ there is bytes left.
    tears_again c.args.at (length c.args.bytes.now) c.args.later (length c.args.more.now) there (d.may_leave c.args.disk.now) (d.may_leave c.write_at.new.self) (c.requires.synced there is)
    c.write_at.ensures.crash bytes (c.write_at-2.ensures.crash bytes (c.sync.ensures.crash bytes left)))

pub returns-clause-any_moment : goal.returns-clause-any_moment
returns-clause-any_moment g c =
    let d = g.D.Disk in
    if_told (d.content c.args.disk.now) _ (λ there is.
    second_synced d.may_leave d.moment d.left_since g.met.D.Disk.only_now c.args.disk.now c.write_at.new.self c.args.at (length c.args.bytes.now) there (c.requires.synced there is) c.write_at.ensures.time
    c.args.later (length c.args.more.now) c.write_at.ensures.crash c.write_at-2.new.self c.write_at-2.ensures.time c.write_at-2.ensures.crash c.sync.new.self c.sync.ensures.time)
