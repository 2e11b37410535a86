-- What is counted of calls, one behind the other.
use Rattle.std.proofs.Common.{◌≡◌, ◌∙◌, ℕ, Result, Ok, Err, arith}
use Rattle.std.specs.Prelude.{OnOk}
use Rattle.adr_io.specs.declared.Fault.{Fault}
use Rattle.adr_outside.specs.Counted.{IsCounted}

-- where nothing failed
pub none_counted : {T : Type 0} (before now other other_now : ℕ) (x : T) → now ≡ before → other_now ≡ other → IsCounted before now other other_now (let r : Result T Fault = Ok x in r)
none_counted before now other other_now x same still = record {
  never_falls = omega arith;
  failed = λ is. absurd (cc is);
  passed = same;
  no_memory = λ is. absurd (cc is);
  other = still;
}

-- where calls before it didn't fail
pub counted_behind : {T : Type 0} (before mid now other other_mid other_now : ℕ) (r : Result T Fault) → mid ≡ before → other_mid ≡ other → IsCounted mid now other_mid other_now r
    → IsCounted before now other other_now r
counted_behind {T} before mid now other other_mid other_now r same still counted = record {
  never_falls = omega (arith, counted.never_falls);
  failed = λ is. omega (arith, counted.failed is);
  passed = on_ok r counted.passed;
  no_memory = λ is. counted.no_memory is ∙ same;
  other = counted.other ∙ still;
}
  where
    on_ok : (r : Result T Fault) → OnOk r (now ≡ mid) → OnOk r (now ≡ before)
    on_ok (Ok x) e = e ∙ same
    on_ok (Err e) none = tt

-- a fault is counted whatever the call was to give
pub counted_else : {T U : Type 0} (before now other other_now : ℕ) (e : Fault) → IsCounted before now other other_now (let r : Result T Fault = Err e in r)
    → IsCounted before now other other_now (let r : Result U Fault = Err e in r)
counted_else before now other other_now e counted = record {
  never_falls = counted.never_falls;
  failed = λ is. counted.failed (cc is);
  passed = tt;
  no_memory = λ is. counted.no_memory (cc is);
  other = counted.other;
}
