use Rattle.std.proofs.Common.{◌≡◌, [], false, refl, ◌∙◌, ap, arith}
use Rattle.adr_disk.proofs.Moments.{weakened}
use Rattle.adr_law_journal.specs.Areas.{Found, start_of}
use Rattle.adr_law_journal.specs.Kept.{starts}
use Rattle.adr_law_journal.proofs.Lifts.{after_kept}
use Rattle.adr_law_journal.proofs.Told.{at_told, if_told}
use Rattle.adr_model.specs.Store.{State}
use Rattle.adr_model.specs.Lengths.{Log}
use Rattle.adr_journal.specs.Written.{IsEitherLog}
use Rattle.adr_gather.specs.Gathered.{IsBeforeOr, gathered}
use Rattle.adr_gather.proofs.Finding.{IsOn, before_or, disk_at, settled_on, still_on, under_head}
use Rattle.adr_gather.proofs.Viewing.{holds_near}
use Rattle.adr_gather.proofs.gathering.Gathering.settle.Goals as goal
use Rattle.adr_gather.proofs.gathering.Gathering.settle.Goals.{After-reserve}

-- ---- room is made

module _ (g : _) (c : After-reserve g) where
  -- what it stands for with this disk
  mid : (f : Found State) → (c.args.self.now.failed ≡ false → IsOn g.D.Disk g.F.Form (gathered c.args.self.now.disk c.args.self.now.gate c.args.self.now.held.items) c.args.self.now.log f)
      → IsOn g.D.Disk g.F.Form (gathered c.reserve.new.self c.args.self.now.gate c.args.self.now.held.items) c.args.self.now.log f
  mid f at =
      let k = c.args.self.now in
      still_on g.D.Disk g.F.Form k.disk c.reserve.new.self k.gate k.held.items k.held.items refl c.reserve.ensures.keeps k.log f (at c.requires.up)

pub returns-in-Err-NoMemory-clause-at : goal.returns-in-Err-NoMemory-clause-at
returns-in-Err-NoMemory-clause-at g c = λ f at up. mid g (goal.at.returns-in-Err-NoMemory-clause-at g c).After-reserve f at

-- ---- and all is written

pub settle_all-requires-clause-within : goal.settle_all-requires-clause-within
settle_all-requires-clause-within g c =
    let k = c.args.self.now in
    let f = c.requires.at.0 in
    let is = mid g (goal.at.settle_all-requires-clause-within g c).After-reserve f c.requires.at.1 in
    holds_near g.D.Disk.content g.D.Disk.may_leave (under_head g.D.Disk g.F.Form f is.at.front is.at.is_head) (gathered c.reserve.new.self k.gate k.held.items) f.state f.log is.holds

pub returns-in-Ok-settle_all-clause-left : goal.returns-in-Ok-settle_all-clause-left
returns-in-Ok-settle_all-clause-left g c = λ f at.
    let d = g.D.Disk in
    let form = g.F.Form in
    let k = c.args.self.now in
    let keeps = c.reserve.ensures.keeps in
    let v = gathered c.reserve.new.self k.gate k.held.items in
    let is = mid g (goal.at.returns-in-Ok-settle_all-clause-left g c).After-reserve f at in
    if_told (d.content k.disk) _ (λ there told bytes left.
    let now = keeps.content_stays ∙ told in
    before_or d form v k.log f is there now bytes (at_told (d.content v.disk) _ there now (c.settle_all.ensures.left (under_head d form f is.at.front is.at.is_head) f.state f.log is.holds) bytes left))

pub returns-in-Ok-settle_all-clause-any_moment : goal.returns-in-Ok-settle_all-clause-any_moment
returns-in-Ok-settle_all-clause-any_moment g c = λ f at.
    let d = g.D.Disk in
    let form = g.F.Form in
    let k = c.args.self.now in
    let keeps = c.reserve.ensures.keeps in
    let v = gathered c.reserve.new.self k.gate k.held.items in
    let is = mid g (goal.at.returns-in-Ok-settle_all-clause-any_moment g c).After-reserve f at in
    let l = under_head d form f is.at.front is.at.is_head in
    if_told (d.content k.disk) _ (λ there told.
    let now = keeps.content_stays ∙ told in
    after_kept d.content d.may_leave d.moment d.left_since k.disk v.disk c.settle_all.new.disk (λ bytes. IsBeforeOr (start_of form.head form.area form.following) f there bytes) keeps
    (weakened d.moment d.left_since v.disk c.settle_all.new.disk (λ bytes. IsEitherLog is.holds.base.state is.holds.base.log f.state f.log (starts l bytes)) (λ bytes. IsBeforeOr (start_of form.head form.area form.following) f there bytes)
    (before_or d form v k.log f is there now) (at_told (d.content v.disk) _ there now (c.settle_all.ensures.any_moment l f.state f.log is.holds))))

pub returns-in-Err-clause-left : goal.returns-in-Err-clause-left
returns-in-Err-clause-left g c = λ f at.
    let d = g.D.Disk in
    let form = g.F.Form in
    let k = c.args.self.now in
    let keeps = c.reserve.ensures.keeps in
    let v = gathered c.reserve.new.self k.gate k.held.items in
    let is = mid g (goal.at.returns-in-Err-clause-left g c).After-reserve f at in
    if_told (d.content k.disk) _ (λ there told bytes left.
    let now = keeps.content_stays ∙ told in
    before_or d form v k.log f is there now bytes (at_told (d.content v.disk) _ there now (c.settle_all.ensures.left (under_head d form f is.at.front is.at.is_head) f.state f.log is.holds) bytes left))

pub returns-in-Err-clause-any_moment : goal.returns-in-Err-clause-any_moment
returns-in-Err-clause-any_moment g c = λ f at.
    let d = g.D.Disk in
    let form = g.F.Form in
    let k = c.args.self.now in
    let keeps = c.reserve.ensures.keeps in
    let v = gathered c.reserve.new.self k.gate k.held.items in
    let is = mid g (goal.at.returns-in-Err-clause-any_moment g c).After-reserve f at in
    let l = under_head d form f is.at.front is.at.is_head in
    if_told (d.content k.disk) _ (λ there told.
    let now = keeps.content_stays ∙ told in
    after_kept d.content d.may_leave d.moment d.left_since k.disk v.disk c.settle_all.new.disk (λ bytes. IsBeforeOr (start_of form.head form.area form.following) f there bytes) keeps
    (weakened d.moment d.left_since v.disk c.settle_all.new.disk (λ bytes. IsEitherLog is.holds.base.state is.holds.base.log f.state f.log (starts l bytes)) (λ bytes. IsBeforeOr (start_of form.head form.area form.following) f there bytes)
    (before_or d form v k.log f is there now) (at_told (d.content v.disk) _ there now (c.settle_all.ensures.any_moment l f.state f.log is.holds))))

pub returns-in-Ok-settle_all-clause-at : goal.returns-in-Ok-settle_all-clause-at
returns-in-Ok-settle_all-clause-at g c = λ f at up.
    let d = g.D.Disk in
    let form = g.F.Form in
    let k = c.args.self.now in
    let v = gathered c.reserve.new.self k.gate k.held.items in
    let is = mid g (goal.at.returns-in-Ok-settle_all-clause-at g c).After-reserve f at in
    settled_on d form v (gathered c.settle_all.new.disk c.settle_all.new.gate c.settle_all.new.held.items) k.log f is c.in-Ok-settle_all.ensures.none (omega (arith, c.in-Ok-settle_all.ensures.moves, is.holds.ends, ap (λ (l : Log). l.log_end) is.at.is_log))
    (c.in-Ok-settle_all.ensures.settled (under_head d form f is.at.front is.at.is_head) f.state f.log is.holds)

pub returns-in-Ok-settle_all-clause-durable : goal.returns-in-Ok-settle_all-clause-durable
returns-in-Ok-settle_all-clause-durable g c = λ f at.
    let d = g.D.Disk in
    let form = g.F.Form in
    let k = c.args.self.now in
    let v = gathered c.reserve.new.self k.gate k.held.items in
    let is = mid g (goal.at.returns-in-Ok-settle_all-clause-durable g c).After-reserve f at in
    disk_at d form v k.log f is c.settle_all.new.disk (c.in-Ok-settle_all.ensures.settled (under_head d form f is.at.front is.at.is_head) f.state f.log is.holds)
