use Rattle.std.proofs.Common.{◌≡◌, ℕ, ◌+◌, ◌≤◌, ◌<◌, List, length, Some, Err, inr, ⊎_elim, refl, sym, ◌∙◌, ap, subst, arith}
use Rattle.std.proofs.lemmas.Result.{err_from_is_err_and}
use Rattle.adr_model.specs.Lengths.{Log}
use Rattle.adr_law_journal.specs.Areas.{found, start_of}
use Rattle.adr_law_journal.specs.Kept.{Rests}
use Rattle.adr_law_journal.proofs.Reading.{area_long}
use Rattle.adr_law_journal.proofs.Settled.{stands}
use Rattle.adr_law_journal.proofs.Told.{at_told, if_mapped, if_told}
use Rattle.adr_journal.specs.Ended.{StillReads}
use Rattle.adr_journal.specs.Kept.{ids_of, layout_of}
use Rattle.adr_journal.specs.declared.keeper.StartRefusal.TheVariants.{NoMemory}
use Rattle.adr_journal.proofs.Bounded.{found_within}
use Rattle.adr_journal.proofs.Found.{for_some, left_before, still_within, read_still, still_found, still_there}
use Rattle.adr_journal.proofs.journal.JournalKeeper.start.Goals as goal

-- ---- whatever the disk answers

pub returns-in-Err-DiskFault-clause-any_moment : goal.returns-in-Err-DiskFault-clause-any_moment
returns-in-Err-DiskFault-clause-any_moment g c = left_before g.D.Disk g.F.Form (λ j. j.disk) c.args.self.now _ c.read_synced.ensures.any_moment

pub returns-in-Err-DiskFault-clause-left : goal.returns-in-Err-DiskFault-clause-left
returns-in-Err-DiskFault-clause-left g c = λ t left. (left.0, c.read_synced.ensures.left left.0 left.1, left.2)

pub returns-in-Err-DiskFault-clause-within : goal.returns-in-Err-DiskFault-clause-within
returns-in-Err-DiskFault-clause-within g c = still_within g.D.Disk g.F.Form c.args.self.now.disk c.read_synced.new.disk c.read_synced.ensures.told c.read_synced.ensures.left

pub returns-in-Err-NoMemory-clause-any_moment : goal.returns-in-Err-NoMemory-clause-any_moment
returns-in-Err-NoMemory-clause-any_moment g c = left_before g.D.Disk g.F.Form (λ j. j.disk) c.args.self.now _ c.read_synced.ensures.any_moment

pub returns-in-Err-NoMemory-clause-left : goal.returns-in-Err-NoMemory-clause-left
returns-in-Err-NoMemory-clause-left g c = λ t left. (left.0, c.read_synced.ensures.left left.0 left.1, left.2)

pub returns-in-Err-NoMemory-clause-within : goal.returns-in-Err-NoMemory-clause-within
returns-in-Err-NoMemory-clause-within g c = still_within g.D.Disk g.F.Form c.args.self.now.disk c.read_synced.new.disk c.read_synced.ensures.told c.read_synced.ensures.left

pub returns-clause-any_moment : goal.returns-clause-any_moment
returns-clause-any_moment g c = left_before g.D.Disk g.F.Form (λ j. j.disk) c.args.self.now _ c.read_synced.ensures.any_moment

pub returns-clause-left : goal.returns-clause-left
returns-clause-left g c = λ t left. (left.0, c.read_synced.ensures.left left.0 left.1, left.2)

pub returns-clause-within : goal.returns-clause-within
returns-clause-within g c = still_within g.D.Disk g.F.Form c.args.self.now.disk c.read_synced.new.disk c.read_synced.ensures.told c.read_synced.ensures.left

pub returns-in_err-state-clause-any_moment : goal.returns-in_err-state-clause-any_moment
returns-in_err-state-clause-any_moment g c = left_before g.D.Disk g.F.Form (λ j. j.disk) c.args.self.now _ c.read_synced.ensures.any_moment

pub returns-in_err-state-clause-left : goal.returns-in_err-state-clause-left
returns-in_err-state-clause-left g c = λ t left. (left.0, c.read_synced.ensures.left left.0 left.1, left.2)

pub returns-in_err-state-clause-within : goal.returns-in_err-state-clause-within
returns-in_err-state-clause-within g c = still_within g.D.Disk g.F.Form c.args.self.now.disk c.read_synced.new.disk c.read_synced.ensures.told c.read_synced.ensures.left

-- ---- where it is refused

pub returns-in-Err-NoMemory-clause-still : goal.returns-in-Err-NoMemory-clause-still
returns-in-Err-NoMemory-clause-still g c =
    let d = g.D.Disk in
    let old = c.args.self.now in
    let new = c.read_synced.new.disk in
    still_found d g.F.Form (λ j. j.disk) old (record old { disk = new }) (NoMemory c.in-Err-NoMemory.settled)
    (subst (λ e. StillReads d.content d.may_leave d.moment d.left_since e old.disk new) c.in-Err-NoMemory.field-0-is c.in-Err-NoMemory.ensures.still)

pub returns-in_err-state-clause-still : goal.returns-in_err-state-clause-still
returns-in_err-state-clause-still g c =
    let d = g.D.Disk in
    let old = c.args.self.now in
    let new = c.read_synced.new.disk in
    let refusal = c.in_err-state.field-0.0 in
    let p = err_from_is_err_and c.from_residual.result c.from_residual.ensures.1 in
    rw (p.1, p.2) (still_found d g.F.Form (λ j. j.disk) old (record old { disk = new }) refusal
    (read_still d.content d.may_leave d.moment d.left_since old.disk new refusal (λ is. c.in_err-state.ensures.settled (ap Err is)) (c.in-Ok.ensures.same, c.in-Ok.ensures.synced)))

pub returns-in-Err-NoMemory-clause-unwritten : goal.returns-in-Err-NoMemory-clause-unwritten
returns-in-Err-NoMemory-clause-unwritten g c =
    let d = g.D.Disk in
    let old = c.args.self.now.disk in
    let new = c.read_synced.new.disk in
    ⊎_elim (λ is. absurd (cc is)) (λ same. inr same)
    (still_there d.content d.may_leave d.moment d.left_since old new (NoMemory c.in-Err-NoMemory.settled)
    (subst (λ e. StillReads d.content d.may_leave d.moment d.left_since e old new) c.in-Err-NoMemory.field-0-is c.in-Err-NoMemory.ensures.still))

pub returns-in_err-state-clause-unwritten : goal.returns-in_err-state-clause-unwritten
returns-in_err-state-clause-unwritten g c = inr c.in-Ok.ensures.same

-- ---- where it is found

pub returns-clause-unwritten : goal.returns-clause-unwritten
returns-clause-unwritten g c = inr c.in-Ok.ensures.same

pub returns-clause-ok : goal.returns-clause-ok
returns-clause-ok g c =
    let d = g.D.Disk in
    let f = g.F.Form in
    let s = c.in_ok-state.state in
    let log = c.in_ok-state.log in
    let old = c.args.self.now.disk in
    let new = c.read_synced.new.disk in
    let same : d.content new ≡ d.content old = c.in-Ok.ensures.same in
    let is = c.in_ok-state.ensures.rests in
    let within = c.in_ok-state.ensures.within in
    let l = layout_of f.head f.area f.following is.front (ids_of s) is.is_head in
    let rests : (there : List ℕ) → d.content old ≡ Some there → Rests l s log there = λ there told.
    subst (λ (y : List ℕ). Rests l s log y) (c.deref.ensures.value ∙ at_told (d.content old) _ there told c.in-Ok.ensures.bytes) is.rests in
    let far = area_long (f.area (ids_of s)) f.following s log.place log.version log.first log.log_end c.deref.result.now is.rests.ready.stands in (
      log,
      (λ up. record {
        is_log = refl;
        version = c.in_ok-state.ensures.version;
        front = is.front;
        is_head = is.is_head;
        settled = record {
          at_rest = λ there told. rests there (sym same ∙ told);
          synced = λ there told. for_some (d.content old) _ c.in-Ok.ensures.synced there (sym same ∙ told);
        };
        place = is.rests.ready.low;
        first = omega (arith, within.0, within.1, c.in-Ok.bytes.ok, c.in-Ok.bytes.small, ap length c.deref.ensures.value);
        begun = far.0;
        ends = omega (arith, within.1, c.in-Ok.bytes.ok, c.in-Ok.bytes.small, ap length c.deref.ensures.value);
      }),
      if_mapped (start_of f.head f.area f.following) (d.content old) _ (λ there told. stands l s log there (rests there told)),
    )

pub returns-clause-within_found : goal.returns-clause-within_found
returns-clause-within_found g c = λ log is_at.
    let d = g.D.Disk in
    let f = g.F.Form in
    let at = is_at refl in
    let within = c.in_ok-state.ensures.within in
    let same : d.content c.read_synced.new.disk ≡ d.content c.args.self.now.disk = c.in-Ok.ensures.same in
    found_within f.head f.area f.following d.content d.may_leave c.read_synced.new.disk c.in_ok-state.log (found c.in_ok-state.state log) at
    (subst (λ (l : Log). l.place + 6 ≤ l.first) (sym at.is_log) c.in_ok-state.ensures.apart)
    (subst (λ (l : Log). l.first < l.log_end) (sym at.is_log) within.0)
    (if_told (d.content c.read_synced.new.disk) _ (λ there told.
    let read = at_told (d.content c.args.self.now.disk) _ there (sym same ∙ told) c.in-Ok.ensures.bytes in
    omega (arith, within.1, ap length c.deref.ensures.value, ap length read, ap (λ (l : Log). l.log_end) at.is_log)))
