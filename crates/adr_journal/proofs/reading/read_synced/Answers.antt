use Rattle.std.proofs.Common.{Err, ◌∙◌, ap}
use Rattle.std.proofs.lemmas.Option.{IfSome_then}
use Rattle.adr_disk.specs.Disk.{Among, LeavesOnly}
use Rattle.adr_journal.proofs.Found.{still_leaves, synced_leaves}
use Rattle.adr_journal.proofs.reading.read_synced.Goals as goal
use Rattle.adr_journal.proofs.reading.read_synced.Goals.{After-sync, After-read_all}

-- ---- whatever each call answers

module _ (g : _) (c : After-sync g) where
  synced_moments : LeavesOnly g.D.Disk.moment g.D.Disk.left_since c.args.disk.now c.sync.new.self (g.D.Disk.may_leave c.args.disk.now)
  synced_moments = synced_leaves g.D.Disk c.args.disk.now c.sync.new.self g.met.D.Disk.only_now c.sync.ensures.time

module _ (g : _) (c : After-read_all g) where
  left : Among (g.D.Disk.may_leave c.args.disk.now) (g.D.Disk.may_leave c.read_all.new.disk)
  left bytes is = c.sync.ensures.crash bytes (c.read_all.ensures.keeps.no_more bytes is)

  moments : LeavesOnly g.D.Disk.moment g.D.Disk.left_since c.args.disk.now c.read_all.new.disk (g.D.Disk.may_leave c.args.disk.now)
  moments =
      let old = c.args.disk.now in
      let mid = c.sync.new.self in
      let new = c.read_all.new.disk in
      still_leaves g.D.Disk old mid new (g.D.Disk.may_leave old) (synced_leaves g.D.Disk old mid g.met.D.Disk.only_now c.sync.ensures.time) c.read_all.ensures.keeps

pub returns-in-Err-Failed-clause-any_moment : goal.returns-in-Err-Failed-clause-any_moment
returns-in-Err-Failed-clause-any_moment g c = synced_moments g (goal.at.returns-in-Err-Failed-clause-any_moment g c).After-sync

pub returns-in-Err-NoMemory-clause-any_moment : goal.returns-in-Err-NoMemory-clause-any_moment
returns-in-Err-NoMemory-clause-any_moment g c = synced_moments g (goal.at.returns-in-Err-NoMemory-clause-any_moment g c).After-sync

pub returns-in-Ok-read_all-clause-left : goal.returns-in-Ok-read_all-clause-left
returns-in-Ok-read_all-clause-left g c = left g (goal.at.returns-in-Ok-read_all-clause-left g c).After-read_all

pub returns-in-Ok-read_all-clause-any_moment : goal.returns-in-Ok-read_all-clause-any_moment
returns-in-Ok-read_all-clause-any_moment g c = moments g (goal.at.returns-in-Ok-read_all-clause-any_moment g c).After-read_all

pub returns-in-Err-Failed-read_all-clause-left : goal.returns-in-Err-Failed-read_all-clause-left
returns-in-Err-Failed-read_all-clause-left g c = left g (goal.at.returns-in-Err-Failed-read_all-clause-left g c).After-read_all

pub returns-in-Err-Failed-read_all-clause-any_moment : goal.returns-in-Err-Failed-read_all-clause-any_moment
returns-in-Err-Failed-read_all-clause-any_moment g c = moments g (goal.at.returns-in-Err-Failed-read_all-clause-any_moment g c).After-read_all

pub returns-in-Err-NoMemory-read_all-clause-left : goal.returns-in-Err-NoMemory-read_all-clause-left
returns-in-Err-NoMemory-read_all-clause-left g c = left g (goal.at.returns-in-Err-NoMemory-read_all-clause-left g c).After-read_all

pub returns-in-Err-NoMemory-read_all-clause-any_moment : goal.returns-in-Err-NoMemory-read_all-clause-any_moment
returns-in-Err-NoMemory-read_all-clause-any_moment g c = moments g (goal.at.returns-in-Err-NoMemory-read_all-clause-any_moment g c).After-read_all

-- ---- where memory is wanting

pub returns-in-Err-NoMemory-clause-still : goal.returns-in-Err-NoMemory-clause-still
returns-in-Err-NoMemory-clause-still g c = c.sync.ensures.no_memory (c.in-Err-NoMemory.is ∙ ap Err c.in-Err-NoMemory.field-0-is)

pub returns-in-Err-NoMemory-read_all-clause-still : goal.returns-in-Err-NoMemory-read_all-clause-still
returns-in-Err-NoMemory-read_all-clause-still g c =
    let keeps = c.read_all.ensures.keeps in
    (keeps.content_stays ∙ c.in-Ok.ensures.same, IfSome_then (g.D.Disk.content c.args.disk.now) c.in-Ok.ensures.durable (λ there only bytes left. only bytes (keeps.no_more bytes left)))
