-- What was written is a front of what was due.
use Rattle.std.proofs.Common.{◌≡◌, ◌<◌, ◌≤◌, rules, refl, sym, ap, ◌∙◌, subst, ℕ, List, ◌++◌, Bool, true, false, Option, None, Some, Result, Ok, Err, IfOk, IsErrOf, length, arith}
use Rattle.std.proofs.Math.Seq.{take-length}
use Rattle.std.specs.Prelude.{OnErr, OnOk}
use Rattle.adr_io.specs.declared.Fault.{Fault}
use Rattle.adr_io.specs.declared.Fault.TheVariants.{Failed, NoMemory}
use Rattle.adr_io.specs.Told.{Adds, AddsFront}
use Rattle.adr_io.specs.declared.Sink.{Ghosts as SinkGhosts}
use Rattle.adr_node.specs.Looks.{Due, Tells, IsWhole, whole_of}
use Rattle.adr_node.specs.declared.ended.Looked.{Looked}
use Rattle.adr_node.specs.declared.ended.Looked.TheVariants as backed

pub nothing_added : (w : Option (List ℕ)) (bytes : List ℕ) → AddsFront w w bytes
nothing_added None bytes = tt
nothing_added (Some written) bytes = (0, ap (λ (l : List ℕ). let o : Option (List ℕ) = Some l in o) (search rules))

pub all_added : (w v : Option (List ℕ)) (bytes : List ℕ) → Adds w v bytes → AddsFront w v bytes
all_added None v bytes adds = tt
all_added (Some written) v bytes adds = (length bytes, adds ∙ ap (λ (l : List ℕ). let o : Option (List ℕ) = Some (written ++ l) in o) (sym (take-length bytes)))

module _ {K : Type 0} (k : SinkGhosts K) where
  pub none_written : (before after : K) (bytes : List ℕ) → after ≡ before → AddsFront (k.written before) (k.written after) bytes
  none_written before after bytes same = subst (λ (x : K). AddsFront (k.written before) (k.written x) bytes) (sym same) (nothing_added (k.written before) bytes)

  pub no_fewer : (before after : K) → after ≡ before → k.faults before ≤ k.faults after
  no_fewer before after same = let e : k.faults after ≡ k.faults before = ap k.faults same in omega (arith, e)

  -- where nothing was written
  pub tells_none : (due : Due) (before after : K) (how : Looked) → after ≡ before → (IsWhole how → ⊥) → (how ≡ backed.WriteFault → ⊥) → Tells k due before after how
  tells_none due before after how same part passed = record {
    whole = λ is. absurd (part is);
    front = none_written before after due.bytes same;
    write_fault = λ is. absurd (passed is);
    later = no_fewer before after same;
  }

  pub tells_no_memory : (due : Due) (before after : K) (how : Looked) → after ≡ before → how ≡ backed.NoMemory → Tells k due before after how
  tells_no_memory due before after how same is = tells_none due before after how same (λ whole. subst IsWhole is whole) (λ fault. cc (sym is ∙ fault))

  pub tells_disk_fault : (due : Due) (before after : K) (how : Looked) → after ≡ before → how ≡ backed.DiskFault → Tells k due before after how
  tells_disk_fault due before after how same is = tells_none due before after how same (λ whole. subst IsWhole is whole) (λ fault. cc (sym is ∙ fault))

pub whole_is_no_write_fault : (b : Bool) → whole_of b ≡ backed.WriteFault → ⊥
whole_is_no_write_fault true e = absurd (cc e)
whole_is_no_write_fault false e = absurd (cc e)

pub whole_is_no_disk_fault : (b : Bool) → whole_of b ≡ backed.DiskFault → ⊥
whole_is_no_disk_fault true e = absurd (cc e)
whole_is_no_disk_fault false e = absurd (cc e)

-- what a write of bytes that could be made, or couldn't, told
pub record Wrote {K V E T : Type 0} (k : SinkGhosts K) (items : V → List ℕ) (before after : K) (made : Result V E) (written : Result T Fault) : Type 0 where
  pub ok : OnOk written (IfOk made (λ v. Adds (k.written before) (k.written after) (items v)))
  pub made_it : OnOk written (OnErr made ⊥)
  pub front : OnErr written (IfOk made (λ v. AddsFront (k.written before) (k.written after) (items v)))
  pub unmade : OnErr made (after ≡ before)
  pub later : k.faults before ≤ k.faults after
  pub failed : IsErrOf written Failed → k.faults before < k.faults after

module _ {K V E T : Type 0} (k : SinkGhosts K) (items : V → List ℕ) (bytes : List ℕ) (before after : K) where
  -- all of it, or a front
  pub wrote_all : (made : Result V E) (written : Result T Fault) → Wrote k items before after made written → IfOk made (λ v. items v ≡ bytes) → OnOk written (Adds (k.written before) (k.written after) bytes)
  wrote_all (Ok v) (Ok t) w is = subst (λ (b : List ℕ). Adds (k.written before) (k.written after) b) is w.ok
  wrote_all (Err e) (Ok t) w is = absurd w.made_it
  wrote_all (Ok v) (Err fault) w is = tt
  wrote_all (Err e) (Err fault) w is = tt

  pub wrote_front : (made : Result V E) (written : Result T Fault) → Wrote k items before after made written → IfOk made (λ v. items v ≡ bytes) → AddsFront (k.written before) (k.written after) bytes
  wrote_front (Ok v) (Ok t) w is = all_added (k.written before) (k.written after) bytes (subst (λ (b : List ℕ). Adds (k.written before) (k.written after) b) is w.ok)
  wrote_front (Err e) (Ok t) w is = absurd w.made_it
  wrote_front (Ok v) (Err fault) w is = subst (λ (b : List ℕ). AddsFront (k.written before) (k.written after) b) is w.front
  wrote_front (Err e) (Err fault) w is = none_written k before after bytes w.unmade

module _ {K T : Type 0} (k : SinkGhosts K) (due : Due) (before after : K) where
  -- so a command ends
  pub tells_so : (written : Result T Fault) (how : Looked) → OnOk written (Adds (k.written before) (k.written after) due.bytes) → AddsFront (k.written before) (k.written after) due.bytes
      → k.faults before ≤ k.faults after → (IsErrOf written Failed → k.faults before < k.faults after)
      → OnOk written (how ≡ due.ends) → (IsErrOf written Failed → how ≡ backed.WriteFault) → (IsErrOf written NoMemory → how ≡ backed.NoMemory) → (due.ends ≡ backed.WriteFault → ⊥) → Tells k due before after how
  tells_so (Ok t) how all front later failed done of_failed of_none passed = record { whole = λ is. (done, all); front = front; write_fault = λ is. absurd (passed (sym done ∙ is)); later = later }
  tells_so (Err Failed) how all front later failed done of_failed of_none passed =
      record { whole = λ is. absurd (subst IsWhole (of_failed refl) is); front = front; write_fault = λ is. failed refl; later = later }
  tells_so (Err NoMemory) how all front later failed done of_failed of_none passed =
      record { whole = λ is. absurd (subst IsWhole (of_none refl) is); front = front; write_fault = λ is. absurd (cc (sym (of_none refl) ∙ is)); later = later }

pub no_disk_fault : {T : Type 0} (written : Result T Fault) (whole how : Looked) → OnOk written (how ≡ whole) → (IsErrOf written Failed → how ≡ backed.WriteFault) → (IsErrOf written NoMemory → how ≡ backed.NoMemory) → (whole ≡ backed.DiskFault → ⊥) → how ≡ backed.DiskFault → ⊥
no_disk_fault (Ok t) whole how done of_failed of_none passed is = passed (sym done ∙ is)
no_disk_fault (Err Failed) whole how done of_failed of_none passed is = absurd (cc (sym (of_failed refl) ∙ is))
no_disk_fault (Err NoMemory) whole how done of_failed of_none passed is = absurd (cc (sym (of_none refl) ∙ is))
