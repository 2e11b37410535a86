-- How nine calls go under a plan, as five and then four.
use Rattle.std.proofs.Common.{◌≡◌, ⊎_elim, ℕ, ◌-◌, ◌≤◌, ◌<◌, Option, Some, None, refl, sym, ◌∙◌, ap, arith}
use Rattle.std.proofs.lemmas.Bool.{cases_lt}
use Rattle.adr_disk.specs.declared.memory.Plan.{Plan}
use Rattle.adr_model.specs.Replica.{Went, Passed, Met, went, behind}
use Rattle.adr_law_journal.specs.Due.{record_goes, TwoRuns}
use Rattle.adr_law_journal.proofs.Counts.{enough, too_few}

module _ (p : Plan) where
  abbrev left : ℕ → Option Plan
  left n = Some (record { calls = p.calls - n; mishap = p.mishap })

  passed : (n : ℕ) → n ≤ p.calls → went (Some p) n ≡ Passed (left n)
  passed n le = enough n p.calls _ _ le

  met : (n : ℕ) → p.calls < n → went (Some p) n ≡ Met p.calls p.mishap
  met n lt = too_few n p.calls _ _ lt

  one : behind 5 (went (Some p) 9) ≡ record_goes (went (Some p) 5)
  one = ⊎_elim
      (λ (early : p.calls < 5). ap (behind 5) (met 9 (omega (arith, early))) ∙ sym (ap record_goes (met 5 early)))
      (λ (late : 5 ≤ p.calls). ⊎_elim
      (λ (within : p.calls < 9). ap (behind 5) (met 9 within) ∙ sym (ap record_goes (passed 5 late) ∙ too_few 4 (p.calls - 5) _ _ (omega (arith, within, late))))
      (λ (waits : 9 ≤ p.calls).
      let same : p.calls - 9 ≡ p.calls - 5 - 4 = omega arith in
      ap (behind 5) (passed 9 waits) ∙ ap (λ (n : ℕ). let g : Went = Passed (Some (record { calls = n; mishap = p.mishap })) in g) same
      ∙ sym (ap record_goes (passed 5 late) ∙ enough 4 (p.calls - 5) _ _ (omega (arith, waits))))
      (cases_lt p.calls 9))
      (cases_lt p.calls 5)

pub two_runs : TwoRuns
two_runs None = refl
two_runs (Some p) = one p
