-- A vector that has a number only where another one has one has no more cursors.
use Rattle.std.proofs.Common.{◌≡◌, ℕ, ◌≤◌, Bool, true, false, cond, List, [], ◌∷◌, length, refl, sym, ap, subst, ◌∙◌, arith}
use Rattle.std.specs.Ordering.{is_eq}
use Rattle.std.specs.declared.cmp.Ordering.{Ordering}
use Rattle.std.specs.declared.cmp.Ordering.TheVariants.{Less, Equal, Greater}
use Rattle.std.proofs.lemmas.Map.Lookups.{exact_bytes}
use Rattle.adr_values.specs.Order.{identifier_order}
use Rattle.adr_values.specs.Vector.{Cursors, at}
use Rattle.adr_values.proofs.Cursors.{IsRising, FromOne, turned, below_all, at_head, at_rest, at_below, same_from_test, head_below, tail_rising}

-- the second has a number wherever the first has one
abbrev pub IsWithin : Cursors → Cursors → Type 0
IsWithin v w = (q : List ℕ) → 1 ≤ at v q → 1 ≤ at w q

-- both heads have one identifier
tails_within : (c d : List ℕ × ℕ) (cs ds : Cursors) → c.0 ≡ d.0 → IsRising (c ∷ cs) → IsWithin (c ∷ cs) (d ∷ ds) → IsWithin cs ds
tails_within c d cs ds same r within q some = by (is_eq (identifier_order q c.0)) refl (within q)
  where
    by : (b : Bool) → is_eq (identifier_order q c.0) ≡ b → (1 ≤ cond b c.1 (at cs q) → 1 ≤ cond (is_eq (identifier_order q d.0)) d.1 (at ds q)) → 1 ≤ at ds q
    by true is all = absurd (omega (arith, some, at_rest q c cs (head_below c cs r) is))
    by false is all = subst (λ b. 1 ≤ cond b d.1 (at ds q)) (ap (λ k. is_eq (identifier_order q k)) (sym same) ∙ is) (all some)

-- the second's head is below the first
tail_within : (d : List ℕ × ℕ) (v ds : Cursors) → at v d.0 ≡ 0 → IsWithin v (d ∷ ds) → IsWithin v ds
tail_within d v ds none within q some = by (is_eq (identifier_order q d.0)) refl (within q some)
  where
    by : (b : Bool) → is_eq (identifier_order q d.0) ≡ b → 1 ≤ cond b d.1 (at ds q) → 1 ≤ at ds q
    by true is one = absurd (omega (arith, some, none, ap (at v) (same_from_test q d.0 is)))
    by false is one = one

module _ (c d : List ℕ × ℕ) (cs ds : Cursors) (r : IsRising (c ∷ cs)) (one : FromOne (c ∷ cs)) (s : IsRising (d ∷ ds)) (within : IsWithin (c ∷ cs) (d ∷ ds)) (rest : (v : Cursors) → IsRising v → FromOne v → IsWithin v ds → length v ≤ length ds) where
  some : 1 ≤ at (d ∷ ds) c.0
  some = within c.0 (omega (arith, at_head c cs, one.0))

  by_heads : (o : Ordering) → identifier_order c.0 d.0 ≡ o → length (c ∷ cs) ≤ length (d ∷ ds)
  by_heads Less is = absurd (omega (arith, some, at_below c.0 (d ∷ ds) (is, below_all c.0 d.0 ds is (head_below d ds s))))
  by_heads Equal is = omega (arith, rest cs (tail_rising c cs r) one.1 (tails_within c d cs ds (exact_bytes c.0 d.0 is) r within))
  by_heads Greater is = omega (arith, rest (c ∷ cs) r one (tail_within d (c ∷ cs) ds (at_below d.0 (c ∷ cs) (less, below_all d.0 c.0 cs less (head_below c cs r))) within))
    where
      less : identifier_order d.0 c.0 ≡ Less
      less = turned c.0 d.0 is

pub no_more_cursors : (w v : Cursors) → IsRising v → FromOne v → IsRising w → IsWithin v w → length v ≤ length w
no_more_cursors w [] r one s within = omega arith
no_more_cursors [] (c ∷ cs) r one s within = absurd (omega (arith, within c.0 (omega (arith, at_head c cs, one.0))))
no_more_cursors (d ∷ ds) (c ∷ cs) r one s within =
    by_heads c d cs ds r one s within (λ v t two k. no_more_cursors ds v t two (tail_rising d ds s) k) (identifier_order c.0 d.0) refl
