-- Each command does what it should, and its faults have their causes.
use Rattle.std.proofs.Common.{inl, inr, refl, arith}
use Rattle.adr_cmd.proofs.DiskLemmas.{look_causes, making_causes}
use Rattle.adr_cmd.proofs.disk.perform.Goals as goal

pub returns-in-Create-clause-does : goal.returns-in-Create-clause-does
returns-in-Create-clause-does g c = rw c.in-Create.is (record {
  how = c.create-how.result.0;
  status_is = c.made.ensures;
  made = c.create-how.ensures.makes;
  reads_so = refl;
  untouched = λ e. elim e [ inl e ↦ absurd (c.create-how.ensures.unread e) | inr e ↦ (c.create-how.ensures.fresh_fault e).1 ];
})

pub returns-in-Create-clause-causes : goal.returns-in-Create-clause-causes
returns-in-Create-clause-causes g c =
    making_causes c.made.ensures c.create-how.ensures.makes (λ e. absurd (c.create-how.ensures.unread e)) (omega arith) c.create-how.ensures.write_later
    (λ e. (c.create-how.ensures.fresh_fault e).0) c.create-how.ensures.fresh_later

pub returns-in-Install-clause-does : goal.returns-in-Install-clause-does
returns-in-Install-clause-does g c = rw c.in-Install.is (record {
  how = c.adopt-how.result.0;
  status_is = c.made-in-Install.ensures;
  made = c.adopt-how.ensures.makes;
  reads_so = (c.adopt-how.ensures.read, c.adopt-how.ensures.read_whole);
  untouched = λ e. elim e [ inl e ↦ (c.adopt-how.ensures.read_fault e).1 | inr e ↦ (c.adopt-how.ensures.fresh_fault e).1 ];
})

pub returns-in-Install-clause-causes : goal.returns-in-Install-clause-causes
returns-in-Install-clause-causes g c =
    making_causes c.made-in-Install.ensures c.adopt-how.ensures.makes (λ e. (c.adopt-how.ensures.read_fault e).0) c.adopt-how.ensures.read_later c.adopt-how.ensures.write_later
    (λ e. (c.adopt-how.ensures.fresh_fault e).0) c.adopt-how.ensures.fresh_later

pub returns-in-Restore-clause-does : goal.returns-in-Restore-clause-does
returns-in-Restore-clause-does g c = rw c.in-Restore.is (record {
  how = c.adopt-how-in-Restore.result.0;
  status_is = c.made-in-Restore.ensures;
  made = c.adopt-how-in-Restore.ensures.makes;
  reads_so = (c.adopt-how-in-Restore.ensures.read, c.adopt-how-in-Restore.ensures.read_whole);
  untouched = λ e. elim e [ inl e ↦ (c.adopt-how-in-Restore.ensures.read_fault e).1 | inr e ↦ (c.adopt-how-in-Restore.ensures.fresh_fault e).1 ];
})

pub returns-in-Restore-clause-causes : goal.returns-in-Restore-clause-causes
returns-in-Restore-clause-causes g c =
    making_causes c.made-in-Restore.ensures c.adopt-how-in-Restore.ensures.makes (λ e. (c.adopt-how-in-Restore.ensures.read_fault e).0) c.adopt-how-in-Restore.ensures.read_later c.adopt-how-in-Restore.ensures.write_later
    (λ e. (c.adopt-how-in-Restore.ensures.fresh_fault e).0) c.adopt-how-in-Restore.ensures.fresh_later

pub returns-in-Backup-clause-does : goal.returns-in-Backup-clause-does
returns-in-Backup-clause-does g c = rw c.in-Backup.is (c.look-how.result.0, c.looked.ensures, c.look-how.ensures, refl, refl)

pub returns-in-Backup-clause-causes : goal.returns-in-Backup-clause-causes
returns-in-Backup-clause-causes g c = look_causes c.looked.ensures c.look-how.ensures

pub returns-in-Show-clause-does : goal.returns-in-Show-clause-does
returns-in-Show-clause-does g c = rw c.in-Show.is (c.look-how-in-Show.result.0, c.looked-in-Show.ensures, c.look-how-in-Show.ensures, refl, refl)

pub returns-in-Show-clause-causes : goal.returns-in-Show-clause-causes
returns-in-Show-clause-causes g c = look_causes c.looked-in-Show.ensures c.look-how-in-Show.ensures

pub returns-in-Export-clause-does : goal.returns-in-Export-clause-does
returns-in-Export-clause-does g c = rw c.in-Export.is (c.look-how-in-Export.result.0, c.looked-in-Export.ensures, c.look-how-in-Export.ensures, refl, refl)

pub returns-in-Export-clause-causes : goal.returns-in-Export-clause-causes
returns-in-Export-clause-causes g c = look_causes c.looked-in-Export.ensures c.look-how-in-Export.ensures
