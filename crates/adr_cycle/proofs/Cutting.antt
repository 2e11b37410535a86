-- Where a reply is cut: behind the last item that is sent there is one more just where not all are sent.
use Rattle.std.proofs.Common.{◌≡◌, ℕ, suc, ◌-◌, ◌<◌, ◌≤◌, min, ◌++◌, append_assoc, List, [], ◌∷◌, Bool, true, false, cond, ◌||◌, ◌==◌, Some, is_none, refl, sym, ap, ◌∙◌, length, fold, arith, le_refl}
use Rattle.std.proofs.lemmas.Bool.{lt-ltb, le-ltb, eq-eqb, ne_eqb, eqb-true, eqb-false}
use Rattle.adr_model.specs.Change.{Item}
use Rattle.adr_model.specs.Serve.{first_items, item_length}
use Rattle.adr_cycle.proofs.Numbered.{RisesFrom, next}

-- the number of the last item, or a first one
abbrev pub last_number : ℕ → List (ℕ × Item) → ℕ
last_number from es = fold (λ n (c : ℕ × Item). c.0) from es

one_more : (a b : ℕ) → (a == b) ≡ (suc a == suc b)
one_more a b = by (a == b) refl
  where
    by : (c : Bool) → (a == b) ≡ c → c ≡ (suc a == suc b)
    by true is = sym (eq-eqb (suc a) (suc b) (ap suc (eqb-true a b is)))
    by false is = sym (ne_eqb (suc a) (suc b) (λ same. eqb-false a b is (omega arith)))

pub cut : (most bytes from : ℕ) (es : List (ℕ × Item)) → RisesFrom from es
    → (from ≤ last_number from (first_items most bytes es)) × (is_none (next (last_number from (first_items most bytes es)) es) ≡ (length (first_items most bytes es) == length es))
cut most bytes from [] r = (le_refl from, refl)
cut most bytes from (e ∷ es) r = by ((most == 0) || (bytes == 0)) (cut (most - 1) (bytes - item_length e.1) e.0 es r.1)
  where
    rest : List (ℕ × Item)
    rest = first_items (most - 1) (bytes - item_length e.1) es

    by : (b : Bool) → (e.0 ≤ last_number e.0 rest) × (is_none (next (last_number e.0 rest) es) ≡ (length rest == length es))
        → (from ≤ last_number from (cond b [] (e ∷ rest))) × (is_none (next (last_number from (cond b [] (e ∷ rest))) (e ∷ es)) ≡ (length (cond b [] (e ∷ rest)) == length (e ∷ es)))
    by true later = (le_refl from, ap (λ c. is_none (cond c (Some e) (next from es))) (lt-ltb from e.0 r.0) ∙ sym (ne_eqb 0 (suc (length es)) (λ same. omega arith)))
    by false later = (
      omega (arith, r.0, later.0),
      ap (λ c. is_none (cond c (Some e) (next (last_number e.0 rest) es))) (le-ltb (last_number e.0 rest) e.0 later.0) ∙ later.1 ∙ one_more (length rest) (length es),
    )

-- an item that is sent
pub taken : (sent : List (ℕ × Item)) (most bytes len : ℕ) (c : ℕ × Item) (cs : List (ℕ × Item)) → 0 < most → 0 < bytes → len ≡ min bytes (item_length c.1)
    → (sent ++ c ∷ []) ++ first_items (most - 1) (bytes - len) cs ≡ sent ++ first_items most bytes (c ∷ cs)
taken sent most bytes len c cs some room is =
    append_assoc sent (c ∷ []) (first_items (most - 1) (bytes - len) cs)
    ∙ ap (λ xs. sent ++ xs)
    (ap (λ b. c ∷ first_items (most - 1) b cs) left
    ∙ sym (ap (λ b. cond (b || (bytes == 0)) [] (c ∷ first_items (most - 1) (bytes - item_length c.1) cs)) (ne_eqb most 0 (λ none. omega arith))
    ∙ ap (λ b. cond b [] (c ∷ first_items (most - 1) (bytes - item_length c.1) cs)) (ne_eqb bytes 0 (λ none. omega arith))))
  where
    left : bytes - len ≡ bytes - item_length c.1
    left = ap (λ n. bytes - n) is ∙ within bytes (item_length c.1)
      where
        within : (b n : ℕ) → b - min b n ≡ b - n
        within b n = omega arith

-- no more are sent
pub stopped : (most bytes : ℕ) (cs : List (ℕ × Item)) → ((most == 0) || (bytes == 0)) ≡ true → first_items most bytes cs ≡ []
stopped most bytes [] is = refl
stopped most bytes (c ∷ cs) is = ap (λ b. cond b [] (c ∷ first_items (most - 1) (bytes - item_length c.1) cs)) is
