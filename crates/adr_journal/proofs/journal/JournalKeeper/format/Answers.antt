use Rattle.std.proofs.Common.{inr, ℕ, ◌+◌, List, ◌∷◌, length, IfSome, Some, sym, ◌∙◌, ap, subst, arith}
use Rattle.adr_disk.specs.Disk.{Among, LeavesOnly}
use Rattle.adr_model.specs.Store.{State}
use Rattle.adr_model.specs.Lengths.{Log, first_area, new_log}
use Rattle.adr_law_journal.specs.Areas.{found, start_of}
use Rattle.adr_law_journal.specs.Kept.{Layout, Rests}
use Rattle.adr_law_journal.specs.Log.{open_gate}
use Rattle.adr_law_journal.proofs.Told.{if_told}
use Rattle.adr_journal.specs.Ended.{IsNewOrNone}
use Rattle.adr_journal.specs.Kept.{Ids, ids_of}
use Rattle.adr_journal.specs.Written.{AreNoLonger}
use Rattle.adr_journal.specs.Ran.{Formats}
use Rattle.adr_journal.proofs.Found.{IsAtOn, found_keeps, left_behind, left_of, moments_behind, none_left, none_moments, same_disk, still_empty, told_of}
use Rattle.adr_journal.proofs.Begun.{new_layout, new_rests, new_at}
use Rattle.adr_journal.proofs.Bounded.{format_within}
use Rattle.adr_journal.proofs.Steps.{no_memory_left}
use Rattle.adr_journal.proofs.journal.JournalKeeper.format.Goals as goal
use Rattle.adr_journal.proofs.journal.JournalKeeper.format.Goals.{After-reserve, After-write_log}

-- ---- where a log is written, whatever the disk answers

module _ (g : _) (c : After-write_log g) where
  abbrev layout : Layout Ids State
  layout =
      let form = g.F.Form in
      let s = c.args.state.now in
      new_layout form.head form.area form.following (form.front_of (ids_of s)) (form.area_of s) s (g.met.F.Form.tells_front s (g.met.F.Form.begins_formed s c.requires.begins))

  rests : Rests layout c.args.state.now (new_log c.args.state.now) (open_gate ∷ c.deref.result.now)
  rests =
      let form = g.F.Form in
      let law = g.met.F.Form in
      let s = c.args.state.now in
      new_rests form.head form.area form.following (form.front_of (ids_of s)) (form.area_of s) s (law.tells_front s (law.begins_formed s c.requires.begins)) (law.tells_area first_area s c.requires.begins c.in_ok-written.ensures.short) (law.area_length s c.requires.begins) c.deref.result.now (c.deref.ensures.value ∙ c.in_ok-written.ensures.bytes)

  new_or_none : IfSome (g.D.Disk.content c.reserve.new.self) (λ _. Among (λ bytes. IsNewOrNone c.args.state.now (start_of g.F.Form.head g.F.Form.area g.F.Form.following bytes)) (g.D.Disk.may_leave c.write_log.new.disk))
  new_or_none = c.write_log.ensures.left layout c.args.state.now (new_log c.args.state.now) rests

  moments : IfSome (g.D.Disk.content c.reserve.new.self) (λ _. LeavesOnly g.D.Disk.moment g.D.Disk.left_since c.reserve.new.self c.write_log.new.disk (λ bytes. IsNewOrNone c.args.state.now (start_of g.F.Form.head g.F.Form.area g.F.Form.following bytes)))
  moments = c.write_log.ensures.any_moment layout c.args.state.now (new_log c.args.state.now) rests

  left : IfSome (told_of g.D.Disk g.F.Form c.args.self.now.disk) (λ _. Among (IsNewOrNone c.args.state.now) (left_of g.D.Disk g.F.Form c.write_log.new.disk))
  left = left_behind g.D.Disk g.F.Form c.args.self.now.disk c.reserve.new.self c.write_log.new.disk c.reserve.ensures.keeps (IsNewOrNone c.args.state.now) new_or_none

pub returns-in-Ok-write_log-clause-any_moment : goal.returns-in-Ok-write_log-clause-any_moment
returns-in-Ok-write_log-clause-any_moment g c =
    moments_behind g.D.Disk g.F.Form (λ j. j.disk) c.args.self.now _ c.reserve.new.self c.reserve.ensures.keeps (IsNewOrNone c.args.state.now) (moments g (goal.at.returns-in-Ok-write_log-clause-any_moment g c).After-write_log)

pub returns-clause-any_moment : goal.returns-clause-any_moment
returns-clause-any_moment g c =
    moments_behind g.D.Disk g.F.Form (λ j. j.disk) c.args.self.now _ c.reserve.new.self c.reserve.ensures.keeps (IsNewOrNone c.args.state.now) (moments g (goal.at.returns-clause-any_moment g c).After-write_log)

pub returns-in-Ok-write_log-clause-left : goal.returns-in-Ok-write_log-clause-left
returns-in-Ok-write_log-clause-left g c = left g (goal.at.returns-in-Ok-write_log-clause-left g c).After-write_log

pub returns-clause-left : goal.returns-clause-left
returns-clause-left g c = left g (goal.at.returns-clause-left g c).After-write_log

pub returns-in-Ok-write_log-clause-ok : goal.returns-in-Ok-write_log-clause-ok
returns-in-Ok-write_log-clause-ok g c = λ up.
    let d = g.D.Disk in
    let form = g.F.Form in
    let law = g.met.F.Form in
    let s = c.args.state.now in
    let x = (goal.at.returns-in-Ok-write_log-clause-ok g c).After-write_log in
    let settled = c.in-Ok-write_log.ensures.settled (layout g x) s (new_log s) (rests g x) in
    let at = new_at form.head form.area form.following (form.front_of (ids_of s)) (form.area_of s) s (law.tells_front s (law.begins_formed s c.requires.begins)) d.content d.may_leave c.write_log.new.disk c.in_ok-written.ensures.short settled in
    subst (λ (l : Log). IsAtOn d form c.write_log.new.disk l (found s (new_log s))) (sym c.in_ok-written.ensures.log) at

pub returns-in-Ok-write_log-clause-within : goal.returns-in-Ok-write_log-clause-within
returns-in-Ok-write_log-clause-within g c =
    let d = g.D.Disk in
    let form = g.F.Form in
    let mid = c.reserve.new.self in
    format_within form.head form.area form.following d.content d.may_leave mid c.write_log.new.disk c.write_log.ensures.told c.args.state.now
    (if_told (d.content mid) _ (λ there told. ap length (c.requires.empty.empty there (sym c.reserve.ensures.keeps.content_stays ∙ told))))
    (subst (λ (n : ℕ). AreNoLonger (d.content mid) (d.may_leave c.write_log.new.disk) n) (ap (λ (l : List ℕ). length l + 1) c.deref.ensures.value ∙ c.in_ok-written.ensures.long) c.write_log.ensures.no_longer)
    (new_or_none g (goal.at.returns-in-Ok-write_log-clause-within g c).After-write_log)

pub returns-clause-formats : goal.returns-clause-formats
returns-clause-formats g c =
    let d = g.D.Disk in
    let mid = c.reserve.new.self in
    let spare = c.in-Ok.ensures.reserved in
    inr (
      mid,
      c.in-Ok.ensures.gives,
      (
        c.deref.result.now,
        no_memory_left (λ e. Formats d.gives c.deref.result.now mid (Some e) c.write_log.new.disk) c.in-Err.field-0 (d.spare_calls mid) (d.spare_bytes mid) 6 (length c.deref.result.now + 2)
            c.in-Err.ensures.no_memory_only spare.0 (omega (arith, spare.1, c.len.ensures, c.deref.ensures.len)) c.in-Err.ensures.gives,
      ),
    )

-- ---- where room is refused, whatever for

-- a crash leaves no log
none_behind : (g : _) (c : After-reserve g) → IfSome (told_of g.D.Disk g.F.Form c.args.self.now.disk) (λ _. Among (IsNewOrNone c.args.state.now) (left_of g.D.Disk g.F.Form c.reserve.new.self))
none_behind g c = none_left g.D.Disk g.F.Form c.args.self.now.disk c.reserve.new.self c.reserve.ensures.keeps c.args.state.now c.requires.empty

pub returns-in-Err-Failed-clause-any_moment : goal.returns-in-Err-Failed-clause-any_moment
returns-in-Err-Failed-clause-any_moment g c = none_moments g.D.Disk g.F.Form (λ j. j.disk) c.args.self.now _ g.met.D.Disk.only_now c.reserve.ensures.keeps c.args.state.now c.requires.empty

pub returns-in-Err-Failed-clause-left : goal.returns-in-Err-Failed-clause-left
returns-in-Err-Failed-clause-left g c = none_behind g (goal.at.returns-in-Err-Failed-clause-left g c).After-reserve

pub returns-in-Err-NoMemory-clause-any_moment : goal.returns-in-Err-NoMemory-clause-any_moment
returns-in-Err-NoMemory-clause-any_moment g c = none_moments g.D.Disk g.F.Form (λ j. j.disk) c.args.self.now _ g.met.D.Disk.only_now c.reserve.ensures.keeps c.args.state.now c.requires.empty

pub returns-in-Err-NoMemory-clause-left : goal.returns-in-Err-NoMemory-clause-left
returns-in-Err-NoMemory-clause-left g c = none_behind g (goal.at.returns-in-Err-NoMemory-clause-left g c).After-reserve

pub returns-in-Err-NoMemory-clause-no_memory : goal.returns-in-Err-NoMemory-clause-no_memory
returns-in-Err-NoMemory-clause-no_memory g c = λ refused. found_keeps g.D.Disk g.F.Form (λ j. j.disk) c.args.self.now _ c.reserve.ensures.keeps

pub returns-in-Err-NoMemory-clause-unwritten : goal.returns-in-Err-NoMemory-clause-unwritten
returns-in-Err-NoMemory-clause-unwritten g c = λ refused. c.reserve.ensures.keeps.content_stays

pub returns-in-Err-NoMemory-clause-again : goal.returns-in-Err-NoMemory-clause-again
returns-in-Err-NoMemory-clause-again g c = λ refused. still_empty g.D.Disk c.reserve.ensures.keeps c.requires.empty

-- ---- where no log is spelled

pub returns-in_err-written-clause-any_moment : goal.returns-in_err-written-clause-any_moment
returns-in_err-written-clause-any_moment g c =
    let j = c.args.self.now in
    none_moments g.D.Disk g.F.Form (λ j. j.disk) j j g.met.D.Disk.only_now (same_disk g.D.Disk j.disk) c.args.state.now c.requires.empty

pub returns-in_err-written-clause-left : goal.returns-in_err-written-clause-left
returns-in_err-written-clause-left g c =
    let disk = c.args.self.now.disk in
    none_left g.D.Disk g.F.Form disk disk (same_disk g.D.Disk disk) c.args.state.now c.requires.empty

pub returns-in_err-written-clause-no_memory : goal.returns-in_err-written-clause-no_memory
returns-in_err-written-clause-no_memory g c = λ refused.
    let j = c.args.self.now in
    found_keeps g.D.Disk g.F.Form (λ j. j.disk) j j (same_disk g.D.Disk j.disk)
