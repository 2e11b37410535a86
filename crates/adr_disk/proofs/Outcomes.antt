-- What a crash may leave after the calls of a disk in memory, and what it might have left since an earlier moment.
use Rattle.std.proofs.Common.{◌≡◌, ℕ, ◌≤◌, ◌<◌, ◌⊎◌, inl, inr, ⊎_elim, List, [], ◌∷◌, ◌++◌, length, drop, map, Option, Some, None, refl, sym, ◌∙◌, ap, subst, arith, length-append}
use Rattle.std.specs.Prelude.{IsSomeAnd, Result, Ok, Err, OnOk}
use Rattle.std.proofs.lemmas.List.{drop-append-le}
use Rattle.std.proofs.lemmas.Bool.{cases_lt}
use Rattle.adr_io.specs.declared.Fault.{Fault}
use Rattle.adr_io.specs.declared.Fault.TheVariants.{Failed, NoMemory}
use Rattle.adr_disk.specs.Disk.{put, Torn as TornBy, After, Only, Elapses, Writes, Syncs, ended}
use Rattle.adr_disk.specs.Memory.{Write, Surface, Held, DiskState, over, read_of, MayLeave, IsImage, IsImageOfOne, torn_half, torn_write, left_by, all_synced, with_write, after_write, after_end, SameBytes, SameState, meets, failed, Does}
use Rattle.adr_disk.specs.declared.memory.Crash.{Crash}
use Rattle.adr_disk.specs.declared.memory.Crash.TheVariants.{Kept, Lost, Torn}
use Rattle.adr_disk.specs.declared.memory.Mishap.{Mishap}
use Rattle.adr_disk.specs.declared.memory.Mishap.TheVariants.{Fails, Stops}
use Rattle.adr_disk.proofs.Bytes.{Torn-same, Torn-put}
use Rattle.adr_disk.proofs.Honest.{MayLeave-over}
use Rattle.adr_disk.proofs.Writes.{length-torn_half, over-append}
use Rattle.adr_disk.proofs.Steps.{after_end_none, after_end_some}

-- one write more tears what was left before it
pub MayLeave-push : (ws : List Write) (w : Write) (s bytes : List ℕ) → MayLeave s (ws ++ w ∷ []) bytes → After (TornBy w.at (length w.bytes)) (MayLeave s ws) bytes
MayLeave-push [] w s bytes left = (s, refl, subst (TornBy w.at (length w.bytes) s) (sym left.2) left.1)
MayLeave-push (u ∷ ws) w s bytes left =
    let rest = MayLeave-push ws w left.0 bytes left.2 in
    (rest.0, (left.0, left.1, rest.1), rest.2)

MayLeave-none : (ws : List Write) (s : List ℕ) → MayLeave s ws s
MayLeave-none [] s = refl
MayLeave-none (w ∷ ws) s = (s, Torn-same w.at (length w.bytes) s, MayLeave-none ws s)

MayLeave-torn : (ws : List Write) (s : List ℕ) → MayLeave s ws (over s (map torn_write ws))
MayLeave-torn [] s = refl
MayLeave-torn (w ∷ ws) s = (put s w.at (torn_half w.bytes), Torn-put s w.at (length w.bytes) (torn_half w.bytes) (length-torn_half w.bytes), MayLeave-torn ws (put s w.at (torn_half w.bytes)))

-- each crash leaves an image
pub IsImage-left_by : (how : Crash) (s : Surface) → IsImage s (left_by how s)
IsImage-left_by Kept s = MayLeave-over s.written s.synced
IsImage-left_by Lost s = MayLeave-none s.written s.synced
IsImage-left_by Torn s = MayLeave-torn s.written s.synced

-- so that it adds none
pub IsImage-after_end : (how : Crash) (h : Held) (bytes : List ℕ) → IsImage (after_end how h).surface bytes → IsImage h.surface bytes
IsImage-after_end how h bytes left = ⊎_elim
    (λ (some : 0 < length h.surface.written).
    let is : bytes ≡ left_by how h.surface = subst (λ (g : Held). IsImage g.surface bytes) (after_end_some how h some) left in
    subst (IsImage h.surface) (sym is) (IsImage-left_by how h.surface))
    (λ (none : length h.surface.written ≤ 0). subst (λ (g : Held). IsImage g.surface bytes) (after_end_none how h (omega arith)) left)
    (cases_lt 0 (length h.surface.written))

IsImageOfOne-push : (ss : List Surface) (s : Surface) (bytes : List ℕ) → IsImageOfOne (ss ++ s ∷ []) bytes → IsImageOfOne ss bytes ⊎ IsImage s bytes
IsImageOfOne-push [] s bytes had = ⊎_elim inr (λ none. absurd none) had
IsImageOfOne-push (r ∷ ss) s bytes had = ⊎_elim (λ first. inl (inl first)) (λ rest. ⊎_elim (λ later. inl (inr later)) inr (IsImageOfOne-push ss s bytes rest)) had

IsImageOfOne-kept : (ss : List Surface) (s : Surface) (bytes : List ℕ) → IsImageOfOne ss bytes → IsImageOfOne (ss ++ s ∷ []) bytes
IsImageOfOne-kept [] s bytes had = absurd had
IsImageOfOne-kept (r ∷ ss) s bytes had = ⊎_elim inl (λ rest. inr (IsImageOfOne-kept ss s bytes rest)) had

IsImageOfOne-last : (ss : List Surface) (s : Surface) (bytes : List ℕ) → IsImage s bytes → IsImageOfOne (ss ++ s ∷ []) bytes
IsImageOfOne-last [] s bytes image = inl image
IsImageOfOne-last (r ∷ ss) s bytes image = inr (IsImageOfOne-last ss s bytes image)

-- what a crash from a moment on might have left
abbrev pub Had : Surface → List Surface → ℕ → List ℕ → Type 0
Had s past t bytes = IsImage s bytes ⊎ IsImageOfOne (drop t past) bytes

abbrev pub Goes : Held → Held → (List ℕ → Type 0) → Type 0
Goes h g outcomes = Elapses (length h.past) (length g.past) (Had h.surface h.past) (Had g.surface g.past) outcomes

module _ (outcomes : List ℕ → Type 0) where
  Goes-stays : (s : Surface) (past : List Surface) → Elapses (length past) (length past) (Had s past) (Had s past) outcomes
  Goes-stays s past = record { later = omega arith; nothing_else = λ t bytes le had. inl had; keeps = λ t bytes le had. had }

  pub Goes-holds : (h g : Held) → SameBytes h g → Goes h g outcomes
  Goes-holds h g same =
      subst (λ (s : Surface). Elapses (length h.past) (length g.past) (Had h.surface h.past) (Had s g.past) outcomes) (sym same.surface)
      (subst (λ (past : List Surface). Elapses (length h.past) (length past) (Had h.surface h.past) (Had h.surface past) outcomes) (sym same.past) (Goes-stays h.surface h.past))

  pub Goes-then : (h g f : Held) → Goes h g outcomes → Goes g f outcomes → Goes h f outcomes
  Goes-then h g f first second = record {
    later = omega (arith, first.later, second.later);
    nothing_else = λ t bytes le had. ⊎_elim (first.nothing_else t bytes le) inr (second.nothing_else t bytes (omega (arith, le, first.later)) had);
    keeps = λ t bytes le had. second.keeps t bytes (omega (arith, le, first.later)) (first.keeps t bytes le had);
  }

  Goes-on : (s r : Surface) (past : List Surface) → ((bytes : List ℕ) → IsImage r bytes → outcomes bytes) → Elapses (length past) (length (past ++ s ∷ [])) (Had s past) (Had r (past ++ s ∷ [])) outcomes
  Goes-on s r past here = record {
    later = omega (arith, length-append past (s ∷ []));
    nothing_else = λ t bytes le had. ⊎_elim (λ now. inr (here bytes now)) (λ before. inl (⊎_elim inr inl (IsImageOfOne-push (drop t past) s bytes (subst (λ (ss : List Surface). IsImageOfOne ss bytes) (drop-append-le t past (s ∷ []) le) before)))) had;
    keeps = λ t bytes le had. inr (subst (λ (ss : List Surface). IsImageOfOne ss bytes) (sym (drop-append-le t past (s ∷ []) le)) (⊎_elim (IsImageOfOne-last (drop t past) s bytes) (IsImageOfOne-kept (drop t past) s bytes) had));
  }

  pub Goes-write : (w : Write) (h : Held) → ((bytes : List ℕ) → IsImage (with_write h.surface w) bytes → outcomes bytes) → Goes h (after_write w h) outcomes
  Goes-write w h here = Goes-on h.surface (with_write h.surface w) h.past here

  pub Goes-end : (how : Crash) (h : Held) → ((bytes : List ℕ) → IsImage h.surface bytes → outcomes bytes) → Goes h (after_end how h) outcomes
  Goes-end how h here = ⊎_elim
      (λ (some : 0 < length h.surface.written).
      subst (λ (g : Held). Goes h g outcomes) (sym (after_end_some how h some))
      (Goes-on h.surface (all_synced (left_by how h.surface)) h.past (λ bytes is. here bytes (subst (IsImage h.surface) (sym is) (IsImage-left_by how h.surface)))))
      (λ (none : length h.surface.written ≤ 0). subst (λ (g : Held). Goes h g outcomes) (sym (after_end_none how h (omega arith))) (Goes-stays h.surface h.past))
      (cases_lt 0 (length h.surface.written))

-- what a write has done: nothing, all of it, or all of it and then a crash
pub data Wrote (w : Write) (h new : Held) : Type 0 where
  Nothing : SameBytes h new → Wrote w h new
  Done : SameBytes (after_write w h) new → Wrote w h new
  Cut : (how : Crash) → SameBytes (after_end how (after_write w h)) new → Wrote w h new

abbrev write_of : ℕ → List ℕ → Write
write_of at bytes = record { at = at; bytes = bytes }

wrote_failed : (at : ℕ) (bytes : List ℕ) (old new : DiskState) (met : Option Mishap) → IsSomeAnd met (λ mishap. SameState (failed mishap (Writes at bytes) old) new) → Wrote (write_of at bytes) old.held new.held
wrote_failed at bytes old new None is = absurd is
wrote_failed at bytes old new (Some Fails) is = Nothing is.held
wrote_failed at bytes old new (Some (Stops how)) is = Cut how is.held

pub wrote : (at : ℕ) (bytes : List ℕ) (old new : DiskState) (end : Option Fault) → Does old (Writes at bytes) end new → Wrote (write_of at bytes) old.held new.held
wrote at bytes old new None does = Done does.1.held
wrote at bytes old new (Some Failed) does = wrote_failed at bytes old new (meets old (Writes at bytes)) does
wrote at bytes old new (Some NoMemory) does = Nothing does.held

abbrev Outcomes : Write → Held → List ℕ → Type 0
Outcomes w h = After (TornBy w.at (length w.bytes)) (IsImage h.surface)

image_as : (h g : Held) → SameBytes h g → (bytes : List ℕ) → IsImage g.surface bytes → IsImage h.surface bytes
image_as h g same bytes = subst (λ (s : Surface). IsImage s bytes) same.surface

stays_whole : (w : Write) (h : Held) (bytes : List ℕ) → IsImage h.surface bytes → Outcomes w h bytes
stays_whole w h bytes image = (bytes, image, Torn-same w.at (length w.bytes) bytes)

torn : (w : Write) (h : Held) (bytes : List ℕ) → IsImage (with_write h.surface w) bytes → Outcomes w h bytes
torn w h bytes = MayLeave-push h.surface.written w h.surface.synced bytes

pub write_crash : (w : Write) (h new : Held) → Wrote w h new → (bytes : List ℕ) → IsImage new.surface bytes → Outcomes w h bytes
write_crash w h new (Nothing same) bytes image = stays_whole w h bytes (image_as h new same bytes image)
write_crash w h new (Done same) bytes image = torn w h bytes (image_as (after_write w h) new same bytes image)
write_crash w h new (Cut how same) bytes image = torn w h bytes (IsImage-after_end how (after_write w h) bytes (image_as (after_end how (after_write w h)) new same bytes image))

pub write_time : (w : Write) (h new : Held) → Wrote w h new → Goes h new (Outcomes w h)
write_time w h new (Nothing same) = Goes-holds (Outcomes w h) h new same
write_time w h new (Done same) = Goes-then (Outcomes w h) h (after_write w h) new (Goes-write (Outcomes w h) w h (torn w h)) (Goes-holds (Outcomes w h) (after_write w h) new same)
write_time w h new (Cut how same) = Goes-then (Outcomes w h) h (after_end how (after_write w h)) new
    (Goes-then (Outcomes w h) h (after_write w h) (after_end how (after_write w h)) (Goes-write (Outcomes w h) w h (torn w h)) (Goes-end (Outcomes w h) how (after_write w h) (torn w h)))
    (Goes-holds (Outcomes w h) (after_end how (after_write w h)) new same)

-- what a sync has done: nothing, or an end of the unsynced writes
pub data Synced (h new : Held) : Type 0 where
  Idle : SameBytes h new → Synced h new
  Ended : (how : Crash) → SameBytes (after_end how h) new → Synced h new

synced_failed : (old new : DiskState) (met : Option Mishap) → IsSomeAnd met (λ mishap. SameState (failed mishap Syncs old) new) → Synced old.held new.held
synced_failed old new None is = absurd is
synced_failed old new (Some Fails) is = Idle is.held
synced_failed old new (Some (Stops how)) is = Ended how is.held

pub synced : (old new : DiskState) (end : Option Fault) → Does old Syncs end new → Synced old.held new.held
synced old new None does = Ended Kept does.1.held
synced old new (Some Failed) does = synced_failed old new (meets old Syncs) does
synced old new (Some NoMemory) does = Idle does.held

pub sync_crash : (h new : Held) → Synced h new → (bytes : List ℕ) → IsImage new.surface bytes → IsImage h.surface bytes
sync_crash h new (Idle same) bytes image = image_as h new same bytes image
sync_crash h new (Ended how same) bytes image = IsImage-after_end how h bytes (image_as (after_end how h) new same bytes image)

pub sync_time : (h new : Held) → Synced h new → Goes h new (IsImage h.surface)
sync_time h new (Idle same) = Goes-holds (IsImage h.surface) h new same
sync_time h new (Ended how same) = Goes-then (IsImage h.surface) h (after_end how h) new (Goes-end (IsImage h.surface) how h (λ bytes image. image)) (Goes-holds (IsImage h.surface) (after_end how h) new same)

-- what was kept is what a read gave, and nothing else is left
pub IsImage-kept : (h : Held) (bytes : List ℕ) → IsImage (after_end Kept h).surface bytes → bytes ≡ over h.surface.synced h.surface.written
IsImage-kept h bytes left = ⊎_elim
    (λ (some : 0 < length h.surface.written). subst (λ (g : Held). IsImage g.surface bytes) (after_end_some Kept h some) left)
    (λ (none : length h.surface.written ≤ 0). nothing_written h.surface.written h.surface.synced bytes (omega arith) (subst (λ (g : Held). IsImage g.surface bytes) (after_end_none Kept h (omega arith)) left))
    (cases_lt 0 (length h.surface.written))
  where
    nothing_written : (ws : List Write) (s bytes : List ℕ) → length ws ≡ 0 → MayLeave s ws bytes → bytes ≡ over s ws
    nothing_written [] s bytes none left = left
    nothing_written (w ∷ ws) s bytes none left = absurd (omega arith)

pub write_written : {T : Type 0} (at : ℕ) (bytes : List ℕ) (old new : DiskState) (r : Result T Fault) → Does old (Writes at bytes) (ended r) new → OnOk r (Some (read_of new.held.surface) ≡ Some (put (read_of old.held.surface) at bytes))
write_written at bytes old new (Ok x) does = ap (λ (s : Surface). Some (read_of s)) does.1.held.surface ∙ ap Some (over-append old.held.surface.written (write_of at bytes ∷ []) old.held.surface.synced)
write_written at bytes old new (Err e) does = tt

pub sync_durable : {T : Type 0} (old new : DiskState) (r : Result T Fault) → Does old Syncs (ended r) new → OnOk r (Only (read_of old.held.surface) (IsImage new.held.surface))
sync_durable old new (Ok x) does = λ bytes left. IsImage-kept old.held bytes (image_as (after_end Kept old.held) new.held does.1.held bytes left)
sync_durable old new (Err e) does = tt
