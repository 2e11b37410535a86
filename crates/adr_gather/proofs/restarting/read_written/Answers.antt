use Rattle.std.proofs.Common.{◌≡◌, Err, IfSome, refl, ◌∙◌, ap, sym, subst}
use Rattle.std.proofs.lemmas.Option.{IfSome_then}
use Rattle.std.specs.Prelude.{◌↔◌, IsSome}
use Rattle.adr_disk.specs.Disk.{Among, Only}
use Rattle.adr_journal.specs.Ended.{ReadsOnly}
use Rattle.adr_gather.specs.Gathered.{gathered}
use Rattle.adr_gather.proofs.Finding.{KeepsView, content, images, kept_view}
use Rattle.adr_gather.proofs.Restarted.{all_left, all_read, all_told}
use Rattle.adr_gather.proofs.Viewing.{images_fewer}
use Rattle.adr_gather.proofs.restarting.read_written.Goals as goal
use Rattle.adr_gather.proofs.restarting.read_written.Goals.{After-write_held, After-read_all}

-- ---- the sync fails

pub returns-in-Err-Failed-clause-left : goal.returns-in-Err-Failed-clause-left
returns-in-Err-Failed-clause-left g c = images_fewer g.D.Disk.content g.D.Disk.may_leave c.args.disk.now c.sync.new.self c.args.gate c.args.held.now.items c.sync.ensures.told c.sync.ensures.crash

pub returns-in-Err-NoMemory-clause-left : goal.returns-in-Err-NoMemory-clause-left
returns-in-Err-NoMemory-clause-left g c = images_fewer g.D.Disk.content g.D.Disk.may_leave c.args.disk.now c.sync.new.self c.args.gate c.args.held.now.items c.sync.ensures.told c.sync.ensures.crash

pub returns-in-Err-NoMemory-clause-still : goal.returns-in-Err-NoMemory-clause-still
returns-in-Err-NoMemory-clause-still g c =
    let h = c.args.held.now.items in
    kept_view g.D.Disk c.args.disk.now c.sync.new.self c.args.gate h h refl (c.sync.ensures.no_memory (c.in-Err-NoMemory.is ∙ ap Err c.in-Err-NoMemory.field-0-is))

-- ---- what is held is written, whatever the disk answers

module _ (g : _) (c : After-write_held g) where
  held_left : Among (images g.D.Disk (gathered c.args.disk.now c.args.gate c.args.held.now.items)) (images g.D.Disk (gathered c.write_held.new.disk c.args.gate c.write_held.new.held.items))
  held_left =
      all_left g.D.Disk c.args.disk.now c.sync.new.self c.write_held.new.disk c.args.gate c.args.held.now.items c.write_held.new.held.items c.in-Ok.ensures.same c.write_held.ensures.same c.write_held.ensures.only c.write_held.ensures.told
      (g.met.D.Disk.honest c.args.disk.now)

  held_told : IsSome (g.D.Disk.content c.write_held.new.disk) ↔ IsSome (g.D.Disk.content c.args.disk.now)
  held_told =
      all_told g.D.Disk c.args.disk.now c.sync.new.self c.write_held.new.disk c.args.gate c.args.held.now.items c.write_held.new.held.items c.in-Ok.ensures.same c.write_held.ensures.same c.write_held.ensures.only c.write_held.ensures.told

  held_read : ReadsOnly (content g.D.Disk) (images g.D.Disk) (gathered c.args.disk.now c.args.gate c.args.held.now.items) (gathered c.write_held.new.disk c.args.gate c.write_held.new.held.items)
  held_read =
      all_read g.D.Disk c.args.disk.now c.sync.new.self c.write_held.new.disk c.args.gate c.args.held.now.items c.write_held.new.held.items c.in-Ok.ensures.same c.write_held.ensures.same c.write_held.ensures.only c.write_held.ensures.told

-- and then all is read
module _ (g : _) (c : After-read_all g) where
  view : KeepsView g.D.Disk (gathered c.write_held.new.disk c.args.gate c.write_held.new.held.items) (gathered c.read_all.new.disk c.args.gate c.write_held.new.held.items)
  view = kept_view g.D.Disk c.write_held.new.disk c.read_all.new.disk c.args.gate c.write_held.new.held.items c.write_held.new.held.items refl c.read_all.ensures.keeps

  told_all : (IsSome (g.D.Disk.content c.write_held.new.disk) ↔ IsSome (g.D.Disk.content c.args.disk.now)) → IsSome (g.D.Disk.content c.read_all.new.disk) ↔ IsSome (g.D.Disk.content c.args.disk.now)
  told_all both = subst (λ o. IsSome o ↔ IsSome (g.D.Disk.content c.args.disk.now)) (sym c.read_all.ensures.keeps.content_stays) both

  left_all : Among (images g.D.Disk (gathered c.args.disk.now c.args.gate c.args.held.now.items)) (images g.D.Disk (gathered c.write_held.new.disk c.args.gate c.write_held.new.held.items)) → Among (images g.D.Disk (gathered c.args.disk.now c.args.gate c.args.held.now.items)) (images g.D.Disk (gathered c.read_all.new.disk c.args.gate c.write_held.new.held.items))
  left_all left bytes image = left bytes (view.no_more bytes image)

  read_too : ReadsOnly (content g.D.Disk) (images g.D.Disk) (gathered c.args.disk.now c.args.gate c.args.held.now.items) (gathered c.write_held.new.disk c.args.gate c.write_held.new.held.items) → ReadsOnly (content g.D.Disk) (images g.D.Disk) (gathered c.args.disk.now c.args.gate c.args.held.now.items) (gathered c.read_all.new.disk c.args.gate c.write_held.new.held.items)
  read_too r = (view.content_stays ∙ r.0, IfSome_then (content g.D.Disk (gathered c.args.disk.now c.args.gate c.args.held.now.items)) r.1 (λ there only bytes image. only bytes (view.no_more bytes image)))

pub returns-in-Err-Failed-write_held-clause-left : goal.returns-in-Err-Failed-write_held-clause-left
returns-in-Err-Failed-write_held-clause-left g c =
    let x = goal.at.returns-in-Err-Failed-write_held-clause-left g c in
    held_left g x.After-write_held

pub returns-in-Err-Failed-write_held-clause-told : goal.returns-in-Err-Failed-write_held-clause-told
returns-in-Err-Failed-write_held-clause-told g c =
    let x = goal.at.returns-in-Err-Failed-write_held-clause-told g c in
    held_told g x.After-write_held

pub returns-in-Err-NoMemory-write_held-clause-left : goal.returns-in-Err-NoMemory-write_held-clause-left
returns-in-Err-NoMemory-write_held-clause-left g c =
    let x = goal.at.returns-in-Err-NoMemory-write_held-clause-left g c in
    held_left g x.After-write_held

pub returns-in-Err-NoMemory-write_held-clause-told : goal.returns-in-Err-NoMemory-write_held-clause-told
returns-in-Err-NoMemory-write_held-clause-told g c =
    let x = goal.at.returns-in-Err-NoMemory-write_held-clause-told g c in
    held_told g x.After-write_held

pub returns-in-Err-NoMemory-write_held-clause-still : goal.returns-in-Err-NoMemory-write_held-clause-still
returns-in-Err-NoMemory-write_held-clause-still g c =
    let x = goal.at.returns-in-Err-NoMemory-write_held-clause-still g c in
    held_read g x.After-write_held

pub returns-in-Ok-read_all-clause-left : goal.returns-in-Ok-read_all-clause-left
returns-in-Ok-read_all-clause-left g c =
    let x = goal.at.returns-in-Ok-read_all-clause-left g c in
    left_all g x.After-read_all (held_left g x.After-write_held)

pub returns-in-Ok-read_all-clause-told : goal.returns-in-Ok-read_all-clause-told
returns-in-Ok-read_all-clause-told g c =
    let x = goal.at.returns-in-Ok-read_all-clause-told g c in
    told_all g x.After-read_all (held_told g x.After-write_held)

pub returns-in-Err-Failed-read_all-clause-left : goal.returns-in-Err-Failed-read_all-clause-left
returns-in-Err-Failed-read_all-clause-left g c =
    let x = goal.at.returns-in-Err-Failed-read_all-clause-left g c in
    left_all g x.After-read_all (held_left g x.After-write_held)

pub returns-in-Err-Failed-read_all-clause-told : goal.returns-in-Err-Failed-read_all-clause-told
returns-in-Err-Failed-read_all-clause-told g c =
    let x = goal.at.returns-in-Err-Failed-read_all-clause-told g c in
    told_all g x.After-read_all (held_told g x.After-write_held)

pub returns-in-Err-NoMemory-read_all-clause-left : goal.returns-in-Err-NoMemory-read_all-clause-left
returns-in-Err-NoMemory-read_all-clause-left g c =
    let x = goal.at.returns-in-Err-NoMemory-read_all-clause-left g c in
    left_all g x.After-read_all (held_left g x.After-write_held)

pub returns-in-Err-NoMemory-read_all-clause-told : goal.returns-in-Err-NoMemory-read_all-clause-told
returns-in-Err-NoMemory-read_all-clause-told g c =
    let x = goal.at.returns-in-Err-NoMemory-read_all-clause-told g c in
    told_all g x.After-read_all (held_told g x.After-write_held)

pub returns-in-Err-NoMemory-read_all-clause-still : goal.returns-in-Err-NoMemory-read_all-clause-still
returns-in-Err-NoMemory-read_all-clause-still g c =
    let x = goal.at.returns-in-Err-NoMemory-read_all-clause-still g c in
    read_too g x.After-read_all (held_read g x.After-write_held)

pub returns-in-Ok-read_all-clause-same : goal.returns-in-Ok-read_all-clause-same
returns-in-Ok-read_all-clause-same g c =
    let x = goal.at.returns-in-Ok-read_all-clause-same g c in
    (read_too g x.After-read_all (held_read g x.After-write_held)).0

pub returns-in-Ok-read_all-clause-bytes : goal.returns-in-Ok-read_all-clause-bytes
returns-in-Ok-read_all-clause-bytes g c = subst (λ o. IfSome o (λ there. c.in-Ok-read_all.bytes.items ≡ there)) (sym c.read_all.ensures.keeps.content_stays) c.in-Ok-read_all.ensures.bytes

pub returns-in-Ok-read_all-clause-durable : goal.returns-in-Ok-read_all-clause-durable
returns-in-Ok-read_all-clause-durable g c =
    let d = g.D.Disk in
    let keeps = c.read_all.ensures.keeps in
    subst (λ o. IfSome o (λ there. Only there (d.may_leave c.read_all.new.disk))) (sym keeps.content_stays)
    (IfSome_then (d.content c.write_held.new.disk) c.in-Ok-write_held.ensures.durable (λ there only bytes left. only bytes (keeps.no_more bytes left)))
