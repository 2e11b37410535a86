-- One device call after another, under a plan.
use Rattle.std.proofs.Common.{◌≡◌, inl, inr, ℕ, zero, suc, ◌+◌, ◌-◌, ◌≤◌, List, Bool, true, false, Option, Some, None, refl, sym, ◌∙◌, ap, arith, if◌then◌else◌, ◌==◌}
use Rattle.std.specs.Prelude.{IsSomeAnd}
use Rattle.std.proofs.lemmas.Bool.{cases_eq}
use Rattle.std.proofs.lemmas.Bool.Decides.{nat_tests}
use Rattle.adr_io.specs.declared.Fault.TheVariants.{Failed}
use Rattle.adr_disk.specs.declared.memory.Crash.TheVariants.{Kept}
use Rattle.adr_disk.specs.declared.memory.Mishap.{Mishap}
use Rattle.adr_disk.specs.declared.memory.Mishap.TheVariants.{Fails, Stops}
use Rattle.adr_disk.specs.declared.memory.Plan.{Plan}
use Rattle.adr_disk.specs.Disk.{put, Call, Writes, Syncs, Looks}
use Rattle.adr_disk.specs.Memory.{Write, DiskState, torn_half, with_write, after_write, after_end, SameState, planned, meets, one_less, failed, Does}
use Rattle.adr_law_journal.proofs.Seen.{Seen, Seen-same, Seen-write, Seen-end, pick}

-- a plan after so many calls that passed
abbrev pub less : ℕ → Option Plan → Option Plan
less k None = None
less k (Some q) = Some (record q { calls = q.calls - k })

abbrev pub Waits : Option Plan → ℕ → Type 0
Waits None k = Unit {0}
Waits (Some q) k = k ≤ q.calls

pub less_none : (plan : Option Plan) → less 0 plan ≡ plan
less_none None = refl
less_none (Some q) = let same : q.calls - 0 ≡ q.calls = omega arith in ap (λ (n : ℕ). Some (record q { calls = n })) same

one_more : (k : ℕ) (plan : Option Plan) → one_less (less k plan) ≡ less (k + 1) plan
one_more k None = refl
one_more k (Some q) = let same : q.calls - k - 1 ≡ q.calls - (k + 1) = omega arith in ap (λ (n : ℕ). Some (record q { calls = n })) same

some_none : {A : Type 0} (x : A) → Some x ≡ None → ⊥
some_none x is = absurd (cc is)

test_none : (n : ℕ) (m : Mishap) → (if n == 0 then Some m else None) ≡ None → 1 ≤ n
test_none zero m is = absurd (some_none m is)
test_none (suc n) m is = omega arith

test_some : (n : ℕ) (m x : Mishap) → (if n == 0 then Some m else None) ≡ Some x → (n ≡ 0) × (m ≡ x)
test_some n m x is = elim (cases_eq n 0) [
  | inl zero_is ↦ (zero_is, grind (arith, nat_tests))
  | inr more ↦ let no : None ≡ Some x = grind (arith, nat_tests) in absurd (some_none x (sym no))
]

waits_on : (k : ℕ) (plan : Option Plan) (call : Call) → (call ≡ Looks → ⊥) → planned (less k plan) call ≡ None → Waits plan (k + 1)
waits_on k None call device is = tt
waits_on k (Some q) Looks device is = absurd (device refl)
waits_on k (Some q) Syncs device is = let more = test_none (q.calls - k) q.mishap is in omega (arith, more)
waits_on k (Some q) (Writes at bytes) device is = let more = test_none (q.calls - k) q.mishap is in omega (arith, more)

-- a plan that is met
pub record IsMet (k : ℕ) (plan : Option Plan) (m : Mishap) : Type 0 where
  pub q : Plan
  pub is : plan ≡ Some q
  pub here : q.calls ≡ k
  pub mishap : q.mishap ≡ m

met_by : (k : ℕ) (q : Plan) (m : Mishap) → k ≤ q.calls → (if (q.calls - k) == 0 then Some q.mishap else None) ≡ Some m → IsMet k (Some q) m
met_by k q m waits is = let t = test_some (q.calls - k) q.mishap m is in record { q = q; is = refl; here = omega (arith, t.0, waits); mishap = t.1 }

meets_it : (k : ℕ) (plan : Option Plan) (call : Call) (m : Mishap) → Waits plan k → planned (less k plan) call ≡ Some m → IsMet k plan m
meets_it k None Looks m waits is = absurd (some_none m (sym is))
meets_it k None Syncs m waits is = absurd (some_none m (sym is))
meets_it k None (Writes at bytes) m waits is = absurd (some_none m (sym is))
meets_it k (Some q) Looks m waits is = absurd (some_none m (sym is))
meets_it k (Some q) Syncs m waits is = met_by k q m waits is
meets_it k (Some q) (Writes at bytes) m waits is = met_by k q m waits is

-- after so many calls that passed
pub record Stage (plan : Option Plan) (k : ℕ) (d : DiskState) (read lost torn : List ℕ) : Type 0 where
  pub seen : Seen d.held.surface read lost torn
  pub left : d.plan ≡ less k plan
  pub up : d.stopped ≡ false
  pub waits : Waits plan k

-- after a mishap in the next call
abbrev pub Left : Mishap → DiskState → (List ℕ × List ℕ × List ℕ) → (List ℕ × List ℕ × List ℕ) → Type 0
Left Fails d before begun = Seen d.held.surface before.0 before.1 before.2 × (d.plan ≡ None) × (d.stopped ≡ false)
Left (Stops how) d before begun =
    Seen d.held.surface (pick how begun.0 begun.1 begun.2) (pick how begun.0 begun.1 begun.2) (pick how begun.0 begun.1 begun.2) × (d.plan ≡ None) × (d.stopped ≡ true)

pub record Ends (plan : Option Plan) (k : ℕ) (d : DiskState) (before begun : List ℕ × List ℕ × List ℕ) : Type 0 where
  pub mishap : Mishap
  pub met : IsMet k plan mishap
  pub left : Left mishap d before begun

module _ (plan : Option Plan) (k : ℕ) (d : DiskState) (read lost torn : List ℕ) (stage : Stage plan k d read lost torn) where
  meets_planned : (call : Call) → meets d call ≡ planned (less k plan) call
  meets_planned call = ap (λ (b : Bool). if b then Some Fails else planned d.plan call) stage.up ∙ ap (λ (p : Option Plan). planned p call) stage.left

  pub step_write : (at : ℕ) (bytes : List ℕ) (new : DiskState) → Does d (Writes at bytes) None new → Stage plan (k + 1) new (put read at bytes) lost (put torn at (torn_half bytes))
  step_write at bytes new does = record {
    seen = Seen-same (with_write d.held.surface (record { at = at; bytes = bytes })) new.held.surface _ _ _ does.1.held.surface (Seen-write d.held.surface (record { at = at; bytes = bytes }) read lost torn stage.seen);
    left = does.1.plan ∙ ap one_less stage.left ∙ one_more k plan;
    up = does.1.stopped ∙ stage.up;
    waits = waits_on k plan (Writes at bytes) (λ is. absurd (cc is)) (sym (meets_planned (Writes at bytes)) ∙ does.0);
  }

  pub step_sync : (new : DiskState) → Does d Syncs None new → Stage plan (k + 1) new read read read
  step_sync new does = record {
    seen = Seen-same (after_end Kept d.held).surface new.held.surface read read read does.1.held.surface (Seen-end Kept d.held read lost torn stage.seen);
    left = does.1.plan ∙ ap one_less stage.left ∙ one_more k plan;
    up = does.1.stopped ∙ stage.up;
    waits = waits_on k plan Syncs (λ is. absurd (cc is)) (sym (meets_planned Syncs) ∙ does.0);
  }

  none_left : (b : Bool) (p : Option Plan) → b ≡ false → (if b then p else None) ≡ None
  none_left true p is = absurd (cc is)
  none_left false p is = refl

  failed_write : (at : ℕ) (bytes : List ℕ) (new : DiskState) (o : Option Mishap) → o ≡ planned (less k plan) (Writes at bytes) → IsSomeAnd o (λ mishap. SameState (failed mishap (Writes at bytes) d) new)
      → Ends plan k new (read, lost, torn) (put read at bytes, lost, put torn at (torn_half bytes))
  failed_write at bytes new None is does = absurd does
  failed_write at bytes new (Some Fails) is does = record {
    mishap = Fails;
    met = meets_it k plan (Writes at bytes) Fails stage.waits (sym is);
    left = (Seen-same d.held.surface new.held.surface read lost torn does.held.surface stage.seen, does.plan ∙ none_left d.stopped d.plan stage.up, does.stopped ∙ stage.up);
  }
  failed_write at bytes new (Some (Stops how)) is does =
      let w : Write = record { at = at; bytes = bytes } in
      record {
        mishap = Stops how;
        met = meets_it k plan (Writes at bytes) (Stops how) stage.waits (sym is);
        left = (
          Seen-same (after_end how (after_write w d.held)).surface new.held.surface _ _ _ does.held.surface (Seen-end how (after_write w d.held) _ _ _ (Seen-write d.held.surface w read lost torn stage.seen)),
          does.plan,
          does.stopped,
        );
      }

  pub fail_write : (at : ℕ) (bytes : List ℕ) (new : DiskState) → Does d (Writes at bytes) (Some Failed) new → Ends plan k new (read, lost, torn) (put read at bytes, lost, put torn at (torn_half bytes))
  fail_write at bytes new does = failed_write at bytes new (meets d (Writes at bytes)) (meets_planned (Writes at bytes)) does

  failed_sync : (new : DiskState) (o : Option Mishap) → o ≡ planned (less k plan) Syncs → IsSomeAnd o (λ mishap. SameState (failed mishap Syncs d) new) → Ends plan k new (read, lost, torn) (read, lost, torn)
  failed_sync new None is does = absurd does
  failed_sync new (Some Fails) is does = record {
    mishap = Fails;
    met = meets_it k plan Syncs Fails stage.waits (sym is);
    left = (Seen-same d.held.surface new.held.surface read lost torn does.held.surface stage.seen, does.plan ∙ none_left d.stopped d.plan stage.up, does.stopped ∙ stage.up);
  }
  failed_sync new (Some (Stops how)) is does = record {
    mishap = Stops how;
    met = meets_it k plan Syncs (Stops how) stage.waits (sym is);
    left = (Seen-same (after_end how d.held).surface new.held.surface _ _ _ does.held.surface (Seen-end how d.held read lost torn stage.seen), does.plan, does.stopped);
  }

  pub fail_sync : (new : DiskState) → Does d Syncs (Some Failed) new → Ends plan k new (read, lost, torn) (read, lost, torn)
  fail_sync new does = failed_sync new (meets d Syncs) (meets_planned Syncs) does
