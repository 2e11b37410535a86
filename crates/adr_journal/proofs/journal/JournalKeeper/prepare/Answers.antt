use Rattle.std.proofs.Common.{◌≡◌, ℕ, List, true, false, Err, sym, subst, ap}
use Rattle.std.proofs.lemmas.Result.{err_from_is_err_and}
use Rattle.adr_model.specs.Lengths.{Log, change_fits}
use Rattle.adr_journal.specs.Kept.{IsRoom}
use Rattle.adr_journal.specs.declared.keeper.KeeperRefusal.TheVariants.{Full}
use Rattle.adr_journal.proofs.Found.{found_keeps, kept_within, refused_so, same_disk, still_at}
use Rattle.adr_journal.proofs.journal.JournalKeeper.prepare.Goals as goal

-- ---- where nothing is called

pub returns-then-self-clause-at : goal.returns-then-self-clause-at
returns-then-self-clause-at g c = λ f at. at

pub returns-then-self-clause-keeps : goal.returns-then-self-clause-keeps
returns-then-self-clause-keeps g c = found_keeps g.D.Disk g.F.Form (λ j. j.disk) c.args.self.now c.args.self.now (same_disk g.D.Disk c.args.self.now.disk)

pub returns-in_err-spelled-clause-at : goal.returns-in_err-spelled-clause-at
returns-in_err-spelled-clause-at g c = λ f at. at

pub returns-in_err-spelled-clause-keeps : goal.returns-in_err-spelled-clause-keeps
returns-in_err-spelled-clause-keeps g c = found_keeps g.D.Disk g.F.Form (λ j. j.disk) c.args.self.now c.args.self.now (same_disk g.D.Disk c.args.self.now.disk)

-- ---- whatever the disk answers

pub returns-in-Ok-clause-at : goal.returns-in-Ok-clause-at
returns-in-Ok-clause-at g c = λ f at up. still_at g.D.Disk g.F.Form c.args.self.now.disk c.reserve.new.disk c.reserve.ensures.keeps c.args.self.now.log f (at c.if-self.false)

pub returns-clause-at : goal.returns-clause-at
returns-clause-at g c = λ f at up. still_at g.D.Disk g.F.Form c.args.self.now.disk c.reserve.new.disk c.reserve.ensures.keeps c.args.self.now.log f (at c.if-self.false)

pub returns-in-Ok-clause-keeps : goal.returns-in-Ok-clause-keeps
returns-in-Ok-clause-keeps g c = found_keeps g.D.Disk g.F.Form (λ j. j.disk) c.args.self.now _ c.reserve.ensures.keeps

pub returns-in-Ok-clause-within : goal.returns-in-Ok-clause-within
returns-in-Ok-clause-within g c = kept_within g.D.Disk g.F.Form c.args.self.now.disk c.reserve.new.disk c.reserve.ensures.keeps

pub returns-in-Err-Failed-clause-keeps : goal.returns-in-Err-Failed-clause-keeps
returns-in-Err-Failed-clause-keeps g c = found_keeps g.D.Disk g.F.Form (λ j. j.disk) c.args.self.now _ c.reserve.ensures.keeps

pub returns-in-Err-Failed-clause-within : goal.returns-in-Err-Failed-clause-within
returns-in-Err-Failed-clause-within g c = kept_within g.D.Disk g.F.Form c.args.self.now.disk c.reserve.new.disk c.reserve.ensures.keeps

pub returns-clause-keeps : goal.returns-clause-keeps
returns-clause-keeps g c = found_keeps g.D.Disk g.F.Form (λ j. j.disk) c.args.self.now _ c.reserve.ensures.keeps

pub returns-clause-within : goal.returns-clause-within
returns-clause-within g c = kept_within g.D.Disk g.F.Form c.args.self.now.disk c.reserve.new.disk c.reserve.ensures.keeps

-- where the log stands
pub spell-requires-clause-first : goal.spell-requires-clause-first
spell-requires-clause-first g c = (c.requires.1 c.if-self.false).first

pub spell-requires-clause-ends : goal.spell-requires-clause-ends
spell-requires-clause-ends g c = (c.requires.1 c.if-self.false).ends

pub returns-in-Ok-clause-prepared : goal.returns-in-Ok-clause-prepared
returns-in-Ok-clause-prepared g c =
    let d = g.D.Disk in
    let e = c.in_ok-spelled.ensures in
    record {
      is = e.written;
      before = e.area;
      leads = e.next;
      fits = e.fits;
      spare = subst (λ (a : List ℕ). IsRoom a c.in_ok-spelled.spelled.written.items (d.spare_calls c.reserve.new.disk) (d.spare_bytes c.reserve.new.disk)) c.deref.ensures.value
          (subst (λ (w : List ℕ). IsRoom c.deref.result.now w (d.spare_calls c.reserve.new.disk) (d.spare_bytes c.reserve.new.disk)) c.deref-2.ensures.value c.in-Ok.ensures.room);
    }

pub returns-in_err-spelled-clause-full : goal.returns-in_err-spelled-clause-full
returns-in_err-spelled-clause-full g c =
    let p = err_from_is_err_and c.from_residual.result c.from_residual.ensures.1 in
    rw (p.1, p.2) (λ is log at.
    (c.if-self.false, subst (λ (l : Log). change_fits l c.args.state.now.store c.args.change.now ≡ false) (sym (at c.if-self.false).is_log) (c.in_err-spelled.ensures.full (ap Err (refused_so c.in_err-spelled.field-0.0 Full is)))))

pub returns-in-Ok-clause-fits : goal.returns-in-Ok-clause-fits
returns-in-Ok-clause-fits g c = λ log at. subst (λ (l : Log). change_fits l c.args.state.now.store c.args.change.now ≡ true) (sym (at c.if-self.false).is_log) c.in_ok-spelled.ensures.fits

pub returns-in-Err-Failed-clause-fits_too : goal.returns-in-Err-Failed-clause-fits_too
returns-in-Err-Failed-clause-fits_too g c = λ is log at. subst (λ (l : Log). change_fits l c.args.state.now.store c.args.change.now ≡ true) (sym (at c.if-self.false).is_log) c.in_ok-spelled.ensures.fits
