-- What the five calls of a checkpoint do to a disk in memory is what the definitions say of its logs.
use Rattle.std.proofs.Common.{◌≡◌, inl, inr, ℕ, ◌+◌, ◌<◌, ◌^◌, List, [], ◌∷◌, ◌++◌, length, Bool, true, false, Option, Some, None, Ok, refl, sym, ◌∙◌, ap, subst, arith, length-append, if◌then◌else◌, ◌==◌}
use Rattle.std.specs.Prelude.{not}
use Rattle.adr_io.specs.declared.Fault.{Fault as Cause}
use Rattle.adr_io.specs.declared.Fault.TheVariants.{Failed as failed_call}
use Rattle.adr_disk.specs.declared.memory.Crash.TheVariants.{Kept, Lost, Torn}
use Rattle.adr_disk.specs.declared.memory.Mishap.{Mishap}
use Rattle.adr_disk.specs.declared.memory.Mishap.TheVariants.{Fails, Stops}
use Rattle.adr_disk.specs.Disk.{put, Only, Writes, Syncs}
use Rattle.adr_disk.proofs.Bytes.{Torn-put}
use Rattle.adr_disk.specs.Memory.{DiskState, read_of, IsImage, torn_half, Does}
use Rattle.adr_disk.proofs.Writes.{length-torn_half}
use Rattle.adr_disk.proofs.Outcomes.{IsImage-left_by, sync_durable}
use Rattle.adr_model.specs.Lengths.{Log}
use Rattle.adr_model.specs.Replica.{Went, Passed, Met, Failed, went, logs_of_checkpoint}
use Rattle.adr_wire.specs.Fields.{u64}
use Rattle.adr_law_journal.specs.Areas.{Found, found, selects_second, selector_place, slot_place, IsFree, TellsArea, other_log}
use Rattle.adr_law_journal.specs.Commits.{Checkpoints, selector_of}
use Rattle.adr_law_journal.specs.Kept.{Layout, starts, Rests, Ready}
use Rattle.adr_law_journal.specs.Planned.{Leads}
use Rattle.adr_law_journal.proofs.Keeping.{long_u64, both_ready, torn_new_area, torn_other_slot, put_selector}
use Rattle.adr_law_journal.proofs.Settled.{stands}
use Rattle.adr_law_journal.proofs.Stages.{Stage, step_write, step_sync, fail_write, fail_sync}
use Rattle.adr_law_journal.proofs.Moves.{Three, all_of, three_of, three_after, Shows, Holds, MeetsMishap, went_passed, passed_holds, failed_holds, met_fails, none_yet, torn_of_two, rest_of}

-- ---- the logs after each mishap

abbrev pub checkpoint_three : {S : Type 0} → S → Log → Log → Went → Three S
checkpoint_three s log other g = three_of s s (logs_of_checkpoint log other g)

module _ {S : Type 0} (s : S) (log other : Log) (is_other : other.second ≡ not log.second) where
  abbrev old_one : Found S
  old_one = found s log

  abbrev torn_one : Log
  torn_one = if other.second then other else log

  abbrev begun : Three S
  begun = (found s other, old_one, found s torn_one)

  abbrev Agrees : ℕ → Mishap → Three S → Three S → Type 0
  Agrees k m before begun = checkpoint_three s log other (Met k m) ≡ three_after m before begun

  at_0 : (m : Mishap) → Agrees 0 m (all_of old_one) (all_of old_one)
  at_0 Fails = rest_of s log
  at_0 (Stops Kept) = rest_of s log
  at_0 (Stops Lost) = rest_of s log
  at_0 (Stops Torn) = rest_of s log

  at_1 : (m : Mishap) → Agrees 1 m (all_of old_one) (all_of old_one)
  at_1 Fails = rest_of s log
  at_1 (Stops Kept) = rest_of s log
  at_1 (Stops Lost) = rest_of s log
  at_1 (Stops Torn) = rest_of s log

  at_2 : (m : Mishap) → Agrees 2 m (all_of old_one) (all_of old_one)
  at_2 Fails = rest_of s log
  at_2 (Stops Kept) = rest_of s log
  at_2 (Stops Lost) = rest_of s log
  at_2 (Stops Torn) = rest_of s log

  at_3 : (m : Mishap) → Agrees 3 m (all_of old_one) begun
  at_3 Fails = rest_of s log
  at_3 (Stops Kept) = rest_of s other
  at_3 (Stops Lost) = rest_of s log
  at_3 (Stops Torn) = rest_of s torn_one

  at_4 : (m : Mishap) → Agrees 4 m begun begun
  at_4 Fails = λ i. (found s other, old_one, found s (torn_of_two log other is_other i))
  at_4 (Stops Kept) = rest_of s other
  at_4 (Stops Lost) = rest_of s log
  at_4 (Stops Torn) = rest_of s torn_one

-- ---- the five calls

selects : (b : Bool) → (selector_of b == selects_second) ≡ b
selects true = refl
selects false = refl

-- after a checkpoint that passed: the new log is at rest, and all is synced
pub record Selected {H S : Type 0} (l : Layout H S) (s : S) (other : Log) (old new : DiskState) : Type 0 where
  pub up : new.stopped ≡ false
  pub rests : Rests l s other (read_of new.held.surface)
  pub only : Only (read_of new.held.surface) (IsImage new.held.surface)
  pub goes : went old.plan 5 ≡ Passed new.plan

module _ {H S : Type 0} (l : Layout H S) (s : S) (log : Log) (place version : ℕ) (image : List ℕ) (old new : DiskState)
    (up : old.stopped ≡ false) (rests : Rests l s log (read_of old.held.surface)) (only : Only (read_of old.held.surface) (IsImage old.held.surface))
    (free : IsFree log place (length image + 1)) (tells : TellsArea (l.area l.told) place image version s) (fits : place < 2 ^ 64) where
  abbrev other : Log
  other = other_log log place version (length image)

  abbrev there : List ℕ
  there = read_of old.held.surface

  abbrev written : List ℕ
  written = image ++ 0 ∷ []

  abbrev slot : ℕ
  slot = slot_place (not log.second)

  abbrev selector : ℕ
  selector = selector_of (not log.second)

  abbrev w1 : List ℕ
  w1 = put there place written

  abbrev t1 : List ℕ
  t1 = put there place (torn_half written)

  abbrev w2 : List ℕ
  w2 = put w1 slot (u64 place)

  abbrev t2 : List ℕ
  t2 = put t1 slot (torn_half (u64 place))

  abbrev w3 : List ℕ
  w3 = put w2 selector_place (selector ∷ [])

  abbrev t3 : List ℕ
  t3 = put w2 selector_place (torn_half (selector ∷ []))

  size : length written ≡ length image + 1
  size = length-append image (0 ∷ [])

  w1_rests : Rests l s log w1
  w1_rests = torn_new_area l.head l.area l.following l.front l.told l.is_head s log place (length image + 1) there w1 rests free (Torn-put there place (length image + 1) written size)

  t1_rests : Rests l s log t1
  t1_rests = torn_new_area l.head l.area l.following l.front l.told l.is_head s log place (length image + 1) there t1 rests free (Torn-put there place (length image + 1) (torn_half written) (length-torn_half written ∙ size))

  w2_rests : Rests l s log w2
  w2_rests = torn_other_slot l.head l.area l.following l.front l.told l.is_head s log w1 w2 w1_rests (Torn-put w1 slot 8 (u64 place) (long_u64 place))

  t2_rests : Rests l s log t2
  t2_rests = torn_other_slot l.head l.area l.following l.front l.told l.is_head s log t1 t2 t1_rests (Torn-put t1 slot 8 (torn_half (u64 place)) (length-torn_half (u64 place) ∙ long_u64 place))

  both : Ready l s log w2 × Ready l s other w2
  both = both_ready (l.area l.told) l.following l.front s s log place version image there rests.ready free tells fits

  w3_rests : Rests l s other w3
  w3_rests = put_selector l.head l.area l.following l.front l.told l.is_head s log other w2 selector (selects (not log.second)) both.1

  torn_rests : (b : Bool) → log.second ≡ b → starts l t3 ≡ Ok (found s (if not b then other else log))
  torn_rests true is = stands l s log t3 (put_selector l.head l.area l.following l.front l.told l.is_head s log log w2 selects_second (sym is) both.0)
  torn_rests false is = stands l s other t3 (put_selector l.head l.area l.following l.front l.told l.is_head s log other w2 selects_second (ap not (sym is)) both.1)

  abbrev before : Three S
  before = all_of (found s log)

  all_old : (x y z : List ℕ) → Rests l s log x → Rests l s log y → Rests l s log z → Shows (starts l) x y z before
  all_old x y z ix iy iz = record { in_read = stands l s log x ix; in_lost = stands l s log y iy; in_torn = stands l s log z iz }

  begun_shows : Shows (starts l) w3 w2 t3 (begun s log other refl)
  begun_shows = record { in_read = stands l s other w3 w3_rests; in_lost = stands l s log w2 w2_rests; in_torn = torn_rests log.second refl }

  stage_0 : Stage old.plan 0 old there there there
  stage_0 = none_yet old there there there up (record { is_read = refl; is_lost = only old.held.surface.synced (IsImage-left_by Lost old.held.surface); is_torn = only _ (IsImage-left_by Torn old.held.surface) })

  stage_1 : (a : DiskState) → Does old (Writes place written) None a → Stage old.plan 1 a w1 there t1
  stage_1 a w = step_write old.plan 0 old there there there stage_0 place written a w

  stage_2 : (a b : DiskState) → Does old (Writes place written) None a → Does a (Writes slot (u64 place)) None b → Stage old.plan 2 b w2 there t2
  stage_2 a b w v = step_write old.plan 1 a w1 there t1 (stage_1 a w) slot (u64 place) b v

  stage_3 : (a b c : DiskState) → Does old (Writes place written) None a → Does a (Writes slot (u64 place)) None b → Does b Syncs None c → Stage old.plan 3 c w2 w2 w2
  stage_3 a b c w v y = step_sync old.plan 2 b w2 there t2 (stage_2 a b w v) c y

  stage_4 : (a b c d : DiskState) → Does old (Writes place written) None a → Does a (Writes slot (u64 place)) None b → Does b Syncs None c → Does c (Writes selector_place (selector ∷ [])) None d → Stage old.plan 4 d w3 w2 t3
  stage_4 a b c d w v y z = step_write old.plan 3 c w2 w2 w2 (stage_3 a b c w v y) selector_place (selector ∷ []) d z

  -- all five passed
  pub selected : Checkpoints Does place written (not log.second) old None new → Selected l s other old new
  selected (c, (a, b, w, v, y), (d, z, last)) =
      let at_4 = stage_4 a b c d w v y z in
      let at_5 = step_sync old.plan 4 d w3 w2 t3 at_4 new last in
      record {
        up = at_5.up;
        rests = subst (Rests l s other) (sym at_5.seen.is_read) w3_rests;
        only = subst (λ (x : List ℕ). Only x (IsImage new.held.surface)) (at_4.seen.is_read ∙ sym at_5.seen.is_read) (sync_durable {T = ℕ} d new (Ok 0) last);
        goes = went_passed old.plan 5 at_5.waits ∙ ap (λ p. let g : Went = Passed p in g) (sym at_5.left);
      }

  abbrev Failing : Type 0
  Failing = MeetsMishap (starts l) new (checkpoint_three s log other) Failed old.plan 5

  -- or one met a fault
  pub unselected : Checkpoints Does place written (not log.second) old (Some failed_call) new → Failing
  unselected (inl (inl w)) =
      met_fails (starts l) new (checkpoint_three s log other) Failed old.plan 5 0 there there there w1 there t1 before before (omega arith) (all_old there there there rests rests rests) (all_old w1 there t1 w1_rests rests t1_rests)
      (at_0 s log other refl) (fail_write old.plan 0 old there there there stage_0 place written new w)
  unselected (inl (inr (a, w, inl v))) =
      met_fails (starts l) new (checkpoint_three s log other) Failed old.plan 5 1 w1 there t1 w2 there t2 before before (omega arith) (all_old w1 there t1 w1_rests rests t1_rests) (all_old w2 there t2 w2_rests rests t2_rests)
      (at_1 s log other refl) (fail_write old.plan 1 a w1 there t1 (stage_1 a w) slot (u64 place) new v)
  unselected (inl (inr (a, w, inr (b, v, y)))) =
      let so_far = all_old w2 there t2 w2_rests rests t2_rests in
      met_fails (starts l) new (checkpoint_three s log other) Failed old.plan 5 2 w2 there t2 w2 there t2 before before (omega arith) so_far so_far (at_2 s log other refl) (fail_sync old.plan 2 b w2 there t2 (stage_2 a b w v) new y)
  unselected (inr (c, (a, b, w, v, y), inl z)) =
      met_fails (starts l) new (checkpoint_three s log other) Failed old.plan 5 3 w2 w2 w2 w3 w2 t3 before (begun s log other refl) (omega arith) (all_old w2 w2 w2 w2_rests w2_rests w2_rests) begun_shows
      (at_3 s log other refl) (fail_write old.plan 3 c w2 w2 w2 (stage_3 a b c w v y) selector_place (selector ∷ []) new z)
  unselected (inr (c, (a, b, w, v, y), inr (d, z, last))) =
      met_fails (starts l) new (checkpoint_three s log other) Failed old.plan 5 4 w3 w2 t3 w3 w2 t3 (begun s log other refl) (begun s log other refl) (omega arith) begun_shows begun_shows
      (at_4 s log other refl) (fail_sync old.plan 4 d w3 w2 t3 (stage_4 a b c d w v y z) new last)

  -- as the logs say
  abbrev Led : Option Cause → Type 0
  Led e = Leads (starts l) s (logs_of_checkpoint log other (went old.plan 5)) (went old.plan 5) e new

  led : (e : Option Cause) → Holds (starts l) new (checkpoint_three s log other (went old.plan 5)) Failed e (went old.plan 5) → Led e
  led e h = record { is_read = h.shows.in_read; is_safe = h.shows.in_lost; is_torn = h.shows.in_torn; is_plan = h.plan; stands = h.stands; running = h.running }

  pub passed : Checkpoints Does place written (not log.second) old None new → Led None
  passed (c, (a, b, w, v, y), (d, z, last)) =
      led None (passed_holds (starts l) new (checkpoint_three s log other) Failed old.plan 5 w3 (found s other) (step_sync old.plan 4 d w3 w2 t3 (stage_4 a b c d w v y z) new last) (stands l s other w3 w3_rests) (λ left. rest_of s other))

  pub failed : Checkpoints Does place written (not log.second) old (Some failed_call) new → Led (Some failed_call)
  failed ran = led (Some failed_call) (failed_holds (starts l) new (checkpoint_three s log other) Failed old.plan 5 (unselected ran))
