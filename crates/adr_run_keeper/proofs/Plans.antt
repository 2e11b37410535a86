-- A journal whose disk has another plan, or runs again.
use Rattle.std.proofs.Common.{◌≡◌, ◌⊎◌, List, ℕ, Some, length, drop, sym, ◌∙◌, ap, subst}
use Rattle.adr_disk.specs.Disk.{Keeps}
use Rattle.adr_disk.specs.Memory.{DiskState, Held, IsImage, IsImageOfOne, read_of}
use Rattle.adr_wire.specs.Reading.{Reading}
use Rattle.adr_model.specs.Store.{State}
use Rattle.adr_model.specs.Lengths.{Log}
use Rattle.adr_law_journal.specs.Log.{Following}
use Rattle.adr_law_journal.specs.Areas.{Began, Found, start_of}
use Rattle.adr_law_journal.specs.Kept.{Finds}
use Rattle.adr_journal.specs.Kept.{Ids, IsAt}

-- it stands for what it stood for
pub held_at : (head : Reading Ids) (area : Ids → Reading (Began State)) (following : ℕ → Following State) (old new : DiskState) (log : Log) (f : Found State) → new.held ≡ old.held
    → IsAt head area following (λ (d : DiskState). Some (read_of d.held.surface)) (λ (d : DiskState) bytes. IsImage d.held.surface bytes) old log f
    → IsAt head area following (λ (d : DiskState). Some (read_of d.held.surface)) (λ (d : DiskState) bytes. IsImage d.held.surface bytes) new log f
held_at head area following old new log f held at = record {
  is_log = at.is_log;
  version = at.version;
  front = at.front;
  is_head = at.is_head;
  settled = record {
    at_rest = λ there told. at.settled.at_rest there (before there told);
    synced = λ there told bytes left. at.settled.synced there (before there told) bytes (subst (λ (h : Held). IsImage h.surface bytes) held left);
  };
  place = at.place;
  first = at.first;
  begun = at.begun;
  ends = at.ends;
}
  where
    before : (there : List ℕ) → Some (read_of new.held.surface) ≡ Some there → Some (read_of old.held.surface) ≡ Some there
    before there told = ap (λ (h : Held). Some (read_of h.surface)) (sym held) ∙ told

-- what is there, and what a crash may leave or might have left, stays
pub held_keeps : {K : Type 0} (head : Reading Ids) (area : Ids → Reading (Began State)) (following : ℕ → Following State) (disk : K → DiskState) (old new : K) → (disk new).held ≡ (disk old).held
    → Keeps (λ (k : K). Some (start_of head area following (read_of (disk k).held.surface)))
    (λ (k : K). Finds head area following (λ bytes. IsImage (disk k).held.surface bytes))
    (λ (k : K). length (disk k).held.past)
    (λ (k : K) (t : ℕ). Finds head area following (λ bytes. IsImage (disk k).held.surface bytes ⊎ IsImageOfOne (drop t (disk k).held.past) bytes))
    old new
held_keeps head area following disk old new held = record {
  content_stays = ap (λ (h : Held). Some (start_of head area following (read_of h.surface))) held;
  no_more = λ found is. subst (λ (h : Held). Finds head area following (λ bytes. IsImage h.surface bytes) found) held is;
  no_fewer = λ found is. subst (λ (h : Held). Finds head area following (λ bytes. IsImage h.surface bytes) found) (sym held) is;
  moment_stays = ap (λ (h : Held). length h.past) held;
  past_stays = λ t found is. subst (λ (h : Held). Finds head area following (λ bytes. IsImage h.surface bytes ⊎ IsImageOfOne (drop t h.past) bytes) found) held is;
  past_kept = λ t found is. subst (λ (h : Held). Finds head area following (λ bytes. IsImage h.surface bytes ⊎ IsImageOfOne (drop t h.past) bytes) found) (sym held) is;
}
