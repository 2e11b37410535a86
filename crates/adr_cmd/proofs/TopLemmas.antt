-- What the top call answers.
use Rattle.std.proofs.Common.{◌≡◌, ◌⊎◌, inl, inr, ℕ, List, Option, Result, Ok, Err, refl, subst, arith}
use Rattle.std.specs.Prelude.{OnOk, OnErr}
use Rattle.adr_io.specs.Told.{Adds, AddsFront}
use Rattle.adr_io.specs.declared.Fault.{Fault}
use Rattle.adr_io.specs.declared.Fault.TheVariants.{Failed, NoMemory}
use Rattle.adr_run_replay.specs.Outcome.{ended}

-- the status of a write that goes well with 2, as the usage line's does
pub usage_status : (r : ℕ) (written : Result (Unit {0}) Fault) → r ≡ ended 2 written → (r ≡ 2) ⊎ ((r ≡ 5) ⊎ (r ≡ 8))
usage_status r (Ok done) is = inl is
usage_status r (Err Failed) is = inr (inl is)
usage_status r (Err NoMemory) is = inr (inr is)

module _ (before after : Option (List ℕ)) (bytes line : List ℕ) (same : bytes ≡ line) (r : ℕ) where
  pub usage_added : (written : Result (Unit {0}) Fault) → r ≡ ended 2 written → OnOk written (Adds before after bytes) → r ≡ 2 → Adds before after line
  usage_added (Ok done) is adds two = subst (λ (b : List ℕ). Adds before after b) same adds
  usage_added (Err Failed) is adds two = absurd (omega arith)
  usage_added (Err NoMemory) is adds two = absurd (omega arith)

  pub usage_front : (written : Result (Unit {0}) Fault) → r ≡ ended 2 written → OnErr written (AddsFront before after bytes) → (r ≡ 5) ⊎ (r ≡ 8) → AddsFront before after line
  usage_front (Ok done) is front h = absurd (elim h [ inl e ↦ omega arith | inr e ↦ omega arith ])
  usage_front (Err fault) is front h = subst (λ (b : List ℕ). AddsFront before after b) same front

pub usage_failed : {P : Type 0} (r : ℕ) (written : Result (Unit {0}) Fault) → r ≡ ended 2 written → (written ≡ Err Failed → P) → r ≡ 5 → P
usage_failed r (Ok done) is p five = absurd (omega arith)
usage_failed r (Err Failed) is p five = p refl
usage_failed r (Err NoMemory) is p five = absurd (omega arith)
