-- What a commit leaves of orderly logs, under every plan.
use Rattle.std.proofs.Common.{◌≡◌, ◌≢◌, ◌≤◌, ◌<◌, ⊎_elim, ℕ, ◌+◌, ◌-◌, Bool, true, false, not, ◌&&◌, ◌||◌, ◌==◌, Option, Some, None, refl, sym, ap, ◌∙◌, subst, arith, if◌then◌else◌}
use Rattle.std.specs.Prelude.{nat_le, nat_lt}
use Rattle.std.proofs.lemmas.Bool.{and_parts, cases_lt, leb-true}
use Rattle.std.proofs.lemmas.Bool.Decides.{nat_tests}
use Rattle.adr_disk.specs.declared.memory.Crash.TheVariants.{Kept, Lost, Torn}
use Rattle.adr_model.specs.Store.{Store, State}
use Rattle.adr_model.specs.Change.{Change}
use Rattle.adr_model.specs.Lengths.{Log, log_limit, length_limit, new_log, image_length, change_length, log_after, is_due, checkpointed, next_log, area_fits, change_fits}
use Rattle.adr_disk.specs.declared.memory.Mishap.{Mishap}
use Rattle.adr_disk.specs.declared.memory.Mishap.TheVariants.{Fails, Stops}
use Rattle.adr_disk.specs.declared.memory.Plan.{Plan}
use Rattle.adr_model.specs.Replica.{Pending, Device, Replica, Went, Passed, Met, went, plan_after, behind, logs_of_record, logs_of_checkpoint, recorded_on, checkpointed_on, commit_goes, device_after_commit}
use Rattle.adr_model.specs.Sound.{IsOrderlyLog}

-- both logs are orderly. Behind calls that pass they are one, and where the last call of the record fails, the found one has the record beyond the safe one
pub record LogsLead (c : Change) (g : Went) (d : Device) : Type 0 where
  pub safe_log : IsOrderlyLog d.safe_log
  pub read_log : IsOrderlyLog d.read_log
  pub one : (left : Option Plan) → g ≡ Passed left → d.read_log ≡ d.safe_log
  pub begun : g ≡ Met 3 Fails → d.read_log ≡ log_after d.safe_log c

-- the log of a new disk, where its area fits
pub new_log_orderly : (s : State) → area_fits (new_log s) s.store ≡ true → IsOrderlyLog (new_log s)
new_log_orderly s fits = record { version = refl; within = leb-true (new_log s).log_end log_limit (and_parts (nat_le (new_log s).log_end log_limit) (nat_lt (image_length s.store) length_limit) fits).0 }

-- a device that calls left with two logs
abbrev left_with : Log × Log → Went → Device
left_with logs g = record { read_log = logs.0; safe_log = logs.1; plan = plan_after g }

module _ (c : Change) where
  -- both logs are one, and the record's last call didn't fail
  one_log : (g : Went) (l : Log) (plan : Option Plan) → IsOrderlyLog l → g ≢ Met 3 Fails → LogsLead c g (record { read_log = l; safe_log = l; plan = plan })
  one_log g l plan is other = record { safe_log = is; read_log = is; one = λ left e. refl; begun = λ e. absurd (other e) }

  which : (b : Bool) (l next : Log) → IsOrderlyLog l → IsOrderlyLog next → IsOrderlyLog (if b then next else l)
  which true l next is new = new
  which false l next is new = is

  -- the four calls of the change's record
  record_leads : (l : Log) → IsOrderlyLog l → IsOrderlyLog (log_after l c) → (g : Went) → LogsLead c g (left_with (logs_of_record l (log_after l c) g) g)
  record_leads l is new (Passed left) = one_log (Passed left) (log_after l c) left new (λ e. absurd (cc))
  record_leads l is new (Met place Fails) = by (place == 3) refl
    where
      by : (b : Bool) → (place == 3) ≡ b → LogsLead c (Met place Fails) (left_with (if b then (log_after l c, l) else (l, l)) (Met place Fails))
      by true e = record { safe_log = is; read_log = new; one = λ left passed. absurd (cc); begun = λ same. refl }
      by false e = one_log (Met place Fails) l None is (λ same. let third : place ≡ 3 = cc in let tested : (3 == 3) ≡ false = subst (λ (n : ℕ). (n == 3) ≡ false) third e in absurd (cc))
  record_leads l is new (Met place (Stops Lost)) = one_log (Met place (Stops Lost)) l None is (λ e. absurd (cc))
  record_leads l is new (Met place (Stops Kept)) = one_log (Met place (Stops Kept)) (if nat_le 2 place then log_after l c else l) None (which (nat_le 2 place) l (log_after l c) is new) (λ e. absurd (cc))
  record_leads l is new (Met place (Stops Torn)) = one_log (Met place (Stops Torn)) (if nat_le 2 place then log_after l c else l) None (which (nat_le 2 place) l (log_after l c) is new) (λ e. absurd (cc))

  -- the five calls of a checkpoint, which meet a fault before the record
  checkpoint_leads : (l mid : Log) → IsOrderlyLog l → IsOrderlyLog mid → (place at : ℕ) (mishap : Mishap) → at ≡ 0 → LogsLead c (Met at mishap) (left_with (logs_of_checkpoint l mid (Met place mishap)) (Met place mishap))
  checkpoint_leads l mid is new place at Fails before = by (place == 4)
    where
      by : (b : Bool) → LogsLead c (Met at Fails) (left_with (if b then (mid, l) else (l, l)) (Met place Fails))
      by true = record { safe_log = is; read_log = new; one = λ left e. absurd (cc); begun = λ e. let third : at ≡ 3 = cc in absurd (omega (arith, third, before)) }
      by false = one_log (Met at Fails) l None is (λ e. let third : at ≡ 3 = cc in absurd (omega (arith, third, before)))
  checkpoint_leads l mid is new place at (Stops Lost) before = one_log (Met at (Stops Lost)) l None is (λ e. absurd (cc))
  checkpoint_leads l mid is new place at (Stops Kept) before = one_log (Met at (Stops Kept)) (if nat_le 3 place then mid else l) None (which (nat_le 3 place) l mid is new) (λ e. absurd (cc))
  checkpoint_leads l mid is new place at (Stops Torn) before = one_log (Met at (Stops Torn)) (if nat_le 3 place && mid.second then mid else l) None (which (nat_le 3 place && mid.second) l mid is new) (λ e. absurd (cc))

-- ---- nine calls as five and then four

passes : (calls n : ℕ) (a b : Went) → n ≤ calls → (if nat_le n calls then a else b) ≡ a
passes calls n a b le = grind (arith, nat_tests)

meets : (calls n : ℕ) (a b : Went) → calls < n → (if nat_le n calls then a else b) ≡ b
meets calls n a b lt = grind (arith, nat_tests)

module _ (p : Plan) where
  -- what is left of the plan
  abbrev later : ℕ → Option Plan
  later n = Some (record { calls = p.calls - n; mishap = p.mishap })

  passed : (n : ℕ) → n ≤ p.calls → went (Some p) n ≡ Passed (later n)
  passed n le = passes p.calls n (Passed (later n)) (Met p.calls p.mishap) le

  met : (n : ℕ) → p.calls < n → went (Some p) n ≡ Met p.calls p.mishap
  met n lt = meets p.calls n (Passed (later n)) (Met p.calls p.mishap) lt

  -- behind a checkpoint that passes the record's calls go as the last four of nine
  last_four : 5 ≤ p.calls → behind 5 (went (Some p) 9) ≡ went (later 5) 4
  last_four late = ⊎_elim
      (λ (within : p.calls < 9). ap (behind 5) (met 9 within) ∙ sym (meets (p.calls - 5) 4 (Passed (Some (record { calls = p.calls - 5 - 4; mishap = p.mishap }))) (Met (p.calls - 5) p.mishap) (omega (arith, within, late))))
      (λ (waits : 9 ≤ p.calls).
      let same : p.calls - 9 ≡ p.calls - 5 - 4 = omega arith in
      ap (behind 5) (passed 9 waits) ∙ (ap (λ (n : ℕ). let g : Went = Passed (Some (record { calls = n; mishap = p.mishap })) in g) same
      ∙ sym (passes (p.calls - 5) 4 (Passed (Some (record { calls = p.calls - 5 - 4; mishap = p.mishap }))) (Met (p.calls - 5) p.mishap) (omega (arith, waits)))))
      (cases_lt p.calls 9)

-- a commit behind a checkpoint
due_leads : (c : Change) (l mid : Log) → IsOrderlyLog l → IsOrderlyLog mid → IsOrderlyLog (log_after mid c) → (plan : Option Plan) → LogsLead c (behind 5 (went plan 9)) (checkpointed_on l mid (log_after mid c) (went plan 5))
due_leads c l mid is begun new None = record_leads c mid begun new (Passed None)
due_leads c l mid is begun new (Some p) = ⊎_elim early late (cases_lt p.calls 5)
  where
    early : p.calls < 5 → LogsLead c (behind 5 (went (Some p) 9)) (checkpointed_on l mid (log_after mid c) (went (Some p) 5))
    early lt = subst (λ (g : Went). LogsLead c (behind 5 g) (checkpointed_on l mid (log_after mid c) (went (Some p) 5))) (sym (met p 9 (omega (arith, lt))))
        (subst (λ (g : Went). LogsLead c (Met (p.calls - 5) p.mishap) (checkpointed_on l mid (log_after mid c) g)) (sym (met p 5 lt)) (checkpoint_leads c l mid is begun p.calls (p.calls - 5) p.mishap (omega (arith, lt))))

    late : 5 ≤ p.calls → LogsLead c (behind 5 (went (Some p) 9)) (checkpointed_on l mid (log_after mid c) (went (Some p) 5))
    late le = subst (λ (g : Went). LogsLead c g (checkpointed_on l mid (log_after mid c) (went (Some p) 5))) (sym (last_four p le))
        (subst (λ (g : Went). LogsLead c (went (later p 5) 4) (checkpointed_on l mid (log_after mid c) g)) (sym (passed p 5 le)) (record_leads c mid begun new (went (later p 5) 4)))

-- a commit without a checkpoint
none_behind : (g : Went) → behind 0 g ≡ g
none_behind (Passed left) = refl
none_behind (Met place mishap) = let same : place - 0 ≡ place = omega arith in ap (λ (n : ℕ). Met n mishap) same

plain_leads : (c : Change) (l : Log) → IsOrderlyLog l → IsOrderlyLog (log_after l c) → (plan : Option Plan) → LogsLead c (behind 0 (went plan 4)) (recorded_on l (log_after l c) plan)
plain_leads c l is new plan = subst (λ (g : Went). LogsLead c g (recorded_on l (log_after l c) plan)) (sym (none_behind (went plan 4))) (record_leads c l is new (went plan 4))

pub commit_leads : (r : Replica) (p : Pending) → IsOrderlyLog r.device.safe_log → change_fits r.device.safe_log r.safe.store p.change ≡ true → LogsLead p.change (commit_goes r p) (device_after_commit r p)
commit_leads r p is fits = by (is_due l c) within
  where
    l : Log
    l = r.device.safe_log

    s : Store
    s = r.safe.store

    c : Change
    c = p.change

    within : (next_log l s c).log_end ≤ log_limit
    within = leb-true (next_log l s c).log_end log_limit
        (and_parts (nat_le (next_log l s c).log_end log_limit) (nat_lt (change_length c) length_limit) (and_parts (nat_le (next_log l s c).log_end log_limit && nat_lt (change_length c) length_limit) (not (is_due l c) || nat_lt (image_length s) length_limit) fits).0).0

    by : (b : Bool) → (log_after (if b then checkpointed l s else l) c).log_end ≤ log_limit
        → LogsLead c (behind (if b then 5 else 0) (went r.device.plan ((if b then 5 else 0) + 4)))
        (if b then checkpointed_on l (if b then checkpointed l s else l) (log_after (if b then checkpointed l s else l) c) (went r.device.plan 5) else recorded_on l (log_after (if b then checkpointed l s else l) c) r.device.plan)
    by true le = due_leads c l (checkpointed l s) is (record { version = refl; within = omega (arith, le) }) (record { version = refl; within = le }) r.device.plan
    by false le = plain_leads c l is (record { version = is.version; within = le }) r.device.plan
