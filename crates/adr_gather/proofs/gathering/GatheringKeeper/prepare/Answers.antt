use Rattle.std.proofs.Common.{◌≡◌, ℕ, [], true, false, length, Err, inl, refl, sym, ◌∙◌, subst, ap, arith, ⊎_elim, inr}
use Rattle.std.specs.Prelude.{◌⊎◌}
use Rattle.std.proofs.lemmas.Result.{err_from_is_err_and}
use Rattle.adr_disk.specs.Disk.{IsSpare}
use Rattle.adr_model.specs.Lengths.{Log, change_fits}
use Rattle.adr_journal.specs.declared.keeper.KeeperRefusal.TheVariants.{Full}
use Rattle.adr_journal.proofs.Found.{refused_so, same_disk}
use Rattle.adr_gather.specs.Gathered.{gathered}
use Rattle.adr_gather.proofs.Finding.{kept_view, keeps_found, still_on}
use Rattle.adr_gather.proofs.gathering.GatheringKeeper.prepare.Goals as goal

-- ---- where nothing is called

pub returns-then-self-clause-keeps : goal.returns-then-self-clause-keeps
returns-then-self-clause-keeps g c =
    let k = c.args.self.now in
    keeps_found g.D.Disk g.F.Form (λ k. gathered k.disk k.gate k.held.items) k k (kept_view g.D.Disk k.disk k.disk k.gate k.held.items k.held.items refl (same_disk g.D.Disk k.disk))

pub returns-in_err-spelled-clause-keeps : goal.returns-in_err-spelled-clause-keeps
returns-in_err-spelled-clause-keeps g c =
    let k = c.args.self.now in
    keeps_found g.D.Disk g.F.Form (λ k. gathered k.disk k.gate k.held.items) k k (kept_view g.D.Disk k.disk k.disk k.gate k.held.items k.held.items refl (same_disk g.D.Disk k.disk))

pub returns-in_err-reserve-clause-keeps : goal.returns-in_err-reserve-clause-keeps
returns-in_err-reserve-clause-keeps g c =
    let k = c.args.self.now in
    keeps_found g.D.Disk g.F.Form (λ k. gathered k.disk k.gate k.held.items) k _ (kept_view g.D.Disk k.disk k.disk k.gate k.held.items c.reserve.new.self.items c.reserve.ensures.items (same_disk g.D.Disk k.disk))

pub returns-in_err-reserve-clause-at : goal.returns-in_err-reserve-clause-at
returns-in_err-reserve-clause-at g c = λ f at up.
    let k = c.args.self.now in
    still_on g.D.Disk g.F.Form k.disk k.disk k.gate k.held.items c.reserve.new.self.items c.reserve.ensures.items (same_disk g.D.Disk k.disk) k.log f (at c.if-self.false)

-- ---- whatever the disk answers

pub returns-in-Ok-clause-at : goal.returns-in-Ok-clause-at
returns-in-Ok-clause-at g c = λ f at up.
    let k = c.args.self.now in
    still_on g.D.Disk g.F.Form k.disk c.make_room.new.disk k.gate k.held.items c.reserve.new.self.items c.reserve.ensures.items c.make_room.ensures.keeps k.log f (at c.if-self.false)

pub returns-clause-at : goal.returns-clause-at
returns-clause-at g c = λ f at up.
    let k = c.args.self.now in
    still_on g.D.Disk g.F.Form k.disk c.make_room.new.disk k.gate k.held.items c.reserve.new.self.items c.reserve.ensures.items c.make_room.ensures.keeps k.log f (at c.if-self.false)

pub returns-in-Ok-clause-keeps : goal.returns-in-Ok-clause-keeps
returns-in-Ok-clause-keeps g c =
    let k = c.args.self.now in
    keeps_found g.D.Disk g.F.Form (λ k. gathered k.disk k.gate k.held.items) k _ (kept_view g.D.Disk k.disk c.make_room.new.disk k.gate k.held.items c.reserve.new.self.items c.reserve.ensures.items c.make_room.ensures.keeps)

pub returns-in-Err-Failed-clause-keeps : goal.returns-in-Err-Failed-clause-keeps
returns-in-Err-Failed-clause-keeps g c =
    let k = c.args.self.now in
    keeps_found g.D.Disk g.F.Form (λ k. gathered k.disk k.gate k.held.items) k _ (kept_view g.D.Disk k.disk c.make_room.new.disk k.gate k.held.items c.reserve.new.self.items c.reserve.ensures.items c.make_room.ensures.keeps)

pub returns-clause-keeps : goal.returns-clause-keeps
returns-clause-keeps g c =
    let k = c.args.self.now in
    keeps_found g.D.Disk g.F.Form (λ k. gathered k.disk k.gate k.held.items) k _ (kept_view g.D.Disk k.disk c.make_room.new.disk k.gate k.held.items c.reserve.new.self.items c.reserve.ensures.items c.make_room.ensures.keeps)

-- where the log stands
pub spell-requires-clause-first : goal.spell-requires-clause-first
spell-requires-clause-first g c = (c.requires.1 c.if-self.false).at.first

pub spell-requires-clause-ends : goal.spell-requires-clause-ends
spell-requires-clause-ends g c = (c.requires.1 c.if-self.false).at.ends

pub make_room-requires : goal.make_room-requires
make_room-requires g c =
    let at = (c.requires.1 c.if-self.false) in
    (omega (arith, c.len.ensures, c.reserve.new.self.ok, ap length c.reserve.ensures.items, at.holds.ends, at.at.ends, ap (λ (l : Log). l.log_end) at.at.is_log), omega (arith, c.in_ok-spelled.ensures.long.0, ap length c.deref.ensures.value))

pub returns-in-Ok-clause-prepared : goal.returns-in-Ok-clause-prepared
returns-in-Ok-clause-prepared g c =
    let d = g.D.Disk in
    let e = c.in_ok-spelled.ensures in
    record {
      is = e.written;
      before = e.area;
      leads = e.next;
      fits = e.fits;
      room = omega (arith, c.in_ok-reserve.ensures.ok, c.len.ensures, c.reserve.new.self.ok, c.in_ok-spelled.spelled.written.ok);
      spare = ⊎_elim (λ none. inl (sym c.deref.ensures.value ∙ none)) (λ room. inr (
          subst (λ (n : ℕ). IsSpare 9 n (d.spare_calls c.make_room.new.disk) (d.spare_bytes c.make_room.new.disk)) (omega (arith, c.len-2.ensures, c.reserve.new.self.ok, ap length c.deref.ensures.value)) room)) c.in-Ok.ensures.room;
    }

pub returns-in_err-spelled-clause-full : goal.returns-in_err-spelled-clause-full
returns-in_err-spelled-clause-full g c =
    let p = err_from_is_err_and c.from_residual.result c.from_residual.ensures.1 in
    rw (p.1, p.2) (λ is log at.
    (c.if-self.false, subst (λ (l : Log). change_fits l c.args.state.now.store c.args.change.now ≡ false) (sym (at c.if-self.false).at.is_log) (c.in_err-spelled.ensures.full (ap Err (refused_so c.in_err-spelled.field-0.0 Full is)))))

pub returns-in-Ok-clause-fits : goal.returns-in-Ok-clause-fits
returns-in-Ok-clause-fits g c = λ log at. subst (λ (l : Log). change_fits l c.args.state.now.store c.args.change.now ≡ true) (sym (at c.if-self.false).at.is_log) c.in_ok-spelled.ensures.fits

pub returns-in-Err-Failed-clause-fits_too : goal.returns-in-Err-Failed-clause-fits_too
returns-in-Err-Failed-clause-fits_too g c = λ is log at. subst (λ (l : Log). change_fits l c.args.state.now.store c.args.change.now ≡ true) (sym (at c.if-self.false).at.is_log) c.in_ok-spelled.ensures.fits
