use Rattle.std.proofs.Common.{◌≡◌, ◌≢◌, ◌∙◌, ◌⊎◌, inl, inr, ◌<◌, ◌+◌, ℕ, List, [], ◌∷◌, None, Some, refl, sym, ap, arith, length, slice_get, subst}
use Rattle.std.specs.Option.{option_or}
use Rattle.std.specs.Prelude.{IfSome}
use Rattle.adr_table.specs.Lasts.{AreLasts, Last}
use Rattle.adr_cycle.proofs.Choosing.{candidate_is, chosen}
use Rattle.adr_cycle.proofs.Lefts.{AreLeft, all_under, first_number, left_begun, left_ended, left_passed, one_under, under}
use Rattle.adr_cycle.proofs.candidates.candidate_at.Goals as goal

pub loop-unit-init : goal.loop-unit-init
loop-unit-init c = record {
  whole = ap (chosen c.args.rows.now c.args.from c.args.asked.now None) (all_under c.args.rows.now c.args.usn c.args.walk.now c.requires.lasts);
  left = left_begun c.args.rows.now c.args.usn c.args.walk.now c.requires.lasts;
  fewer = inl refl;
}

one_fewer : (old new first : List Last) (e : Last) → old ≡ e ∷ new → (old ≡ first) ⊎ (length old < length first) → (new ≡ first) ⊎ (length new < length first)
one_fewer old new first e is (inl same) = inr (omega (arith, ap length is, ap length same))
one_fewer old new first e is (inr less) = inr (omega (arith, ap length is, less))

pub loop-unit-preserved : goal.loop-unit-preserved
loop-unit-preserved c =
    let l = c.loop-unit in
    let rows = c.args.rows.now in
    let unit = c.in-Some.unit in
    let new = c.next_at.new.self in
    let is = c.in-Some.ensures.some in
    let choice = chosen rows c.args.from c.args.asked.now in
    record {
      whole =
          ap (λ o. choice o (under c.args.usn new)) (c.or-last.ensures ∙ ap (λ o. option_or o l.last) c.in_ok-candidate.ensures)
          ∙ sym (ap (choice l.last) (ap (under c.args.usn) is ∙ one_under c.args.usn unit new))
          ∙ l.invariant.whole;
      left = left_passed rows c.args.usn unit new (subst (AreLeft rows c.args.usn) is l.invariant.left);
      fewer = one_fewer l.walk new c.args.walk.now (c.args.usn, unit) is l.invariant.fewer;
    }

pub returns-clause-item : goal.returns-clause-item
returns-clause-item c =
    let l = c.loop-unit in
    let ended = left_ended c.args.rows.now c.args.usn l.walk l.invariant.left c.in_default.ensures.none in
    sym (ap (chosen c.args.rows.now c.args.from c.args.asked.now l.last) ended.1) ∙ l.invariant.whole ∙ candidate_is c.args.rows.now c.args.from c.args.asked.now c.args.usn c.requires.above

pub returns-clause-lasts : goal.returns-clause-lasts
returns-clause-lasts c =
    let l = c.loop-unit in
    let ended = left_ended c.args.rows.now c.args.usn l.walk l.invariant.left c.in_default.ensures.none in
    subst (AreLasts c.args.rows.now (c.args.usn + 1)) (sym c.in_default.ensures.same) ended.0

-- the first unit was under the number, so it was passed
some_passed : (n : ℕ) (left new first : List Last) → new ≡ left → first_number first ≡ Some n → IfSome (slice_get left 0) (λ (e : Last). e.0 ≢ n) → (left ≡ first) ⊎ (length left < length first) → length new < length first
some_passed n left new first is under other (inr less) = omega (arith, ap length is, less)
some_passed n left new [] is under other (inl same) = absurd (cc)
some_passed n left new (e ∷ es) is under other (inl same) =
    let number : e.0 ≡ n = cc in
    let not : e.0 ≢ n = subst (λ xs. IfSome (slice_get xs 0) (λ (e : Last). e.0 ≢ n)) same other in
    absurd (not number)

pub returns-clause-fewer : goal.returns-clause-fewer
returns-clause-fewer c = some_passed c.args.usn c.loop-unit.walk c.next_at.new.self c.args.walk.now c.in_default.ensures.same c.requires.first c.in_default.ensures.none c.loop-unit.invariant.fewer
