-- Entries that rise by number: inserting one, looking one up, and what is behind a number.
use Rattle.std.proofs.Common.{◌≡◌, ◌≢◌, inl, inr, ℕ, ◌<◌, ◌≤◌, List, [], ◌∷◌, Bool, true, false, cond, Option, Some, None, nat_lt, refl, sym, ap, ◌∙◌, subst, filter, find, option_map, arith}
use Rattle.std.specs.Option.{option_or}
use Rattle.std.specs.Ordering.{match_ordering, nat_cmp, is_eq}
use Rattle.std.specs.declared.cmp.Ordering.{Ordering}
use Rattle.std.specs.declared.cmp.Ordering.TheVariants.{Less, Equal, Greater}
use Rattle.std.specs.Map.{lookup}
use Rattle.std.specs.BTreeMap.{insert_entry, is_at}
use Rattle.std.proofs.lemmas.Bool.{ltb-true, ltb-false, lt-ltb, le-ltb}
use Rattle.std.proofs.lemmas.Cmp.{ranked, tied_itself, nat_cmp_total}
use Rattle.std.proofs.lemmas.Map.Lookups.{exact_unsigned}
use Rattle.adr_model.specs.Member.{Member, Each}
use Rattle.adr_model.proofs.Keys.{equal_order}

less : (a b : ℕ) → nat_cmp a b ≡ Less → a < b
less a b is = ranked a b Less (sym is)

greater : (a b : ℕ) → nat_cmp a b ≡ Greater → b < a
greater a b is = ranked a b Greater (sym is)

pub at_number : (a b : ℕ) → is_at (nat_cmp a) b ≡ true → a ≡ b
at_number a b at = exact_unsigned a b (equal_order (nat_cmp a b) at)

pub itself : (a : ℕ) → is_at (nat_cmp a) a ≡ true
itself a = ap is_eq (tied_itself nat_cmp_total a)

not_at : (a b : ℕ) → a ≢ b → is_at (nat_cmp a) b ≡ false
not_at a b differ = by (is_at (nat_cmp a) b) refl
  where
    by : (c : Bool) → is_at (nat_cmp a) b ≡ c → c ≡ false
    by true is = absurd (differ (at_number a b is))
    by false is = refl

module _ {X : Type 0} where
  -- the numbers are above a first one, and rise
  abbrev pub RisesFrom : ℕ → List (ℕ × X) → Type 0
  RisesFrom from [] = Unit {0}
  RisesFrom from (e ∷ es) = (from < e.0) × RisesFrom e.0 es

  -- those behind a number
  abbrev pub behind : ℕ → List (ℕ × X) → List (ℕ × X)
  behind n es = filter (λ e. nat_lt n e.0) es

  -- the first behind a number
  abbrev pub next : ℕ → List (ℕ × X) → Option (ℕ × X)
  next n es = find (λ e. nat_lt n e.0) es

  pub insert_rises : (from : ℕ) (es : List (ℕ × X)) (k : ℕ) (v : X) → from < k → RisesFrom from es → RisesFrom from (insert_entry nat_cmp es k v)
  insert_rises from [] k v above r = (above, tt)
  insert_rises from (e ∷ es) k v above r = by (nat_cmp k e.0) refl (λ higher. insert_rises e.0 es k v higher r.1)
    where
      by : (o : Ordering) → nat_cmp k e.0 ≡ o → (e.0 < k → RisesFrom e.0 (insert_entry nat_cmp es k v))
          → RisesFrom from (match_ordering o ((k, v) ∷ e ∷ es) ((e.0, v) ∷ es) (e ∷ insert_entry nat_cmp es k v))
      by Less is rest = (above, (less k e.0 is, r.1))
      by Equal is rest = r
      by Greater is rest = (r.0, rest (greater k e.0 is))

  pub insert_numbers : (P : ℕ → Type 0) (es : List (ℕ × X)) (k : ℕ) (v : X) → P k → Each (λ e. P e.0) es → Each (λ e. P e.0) (insert_entry nat_cmp es k v)
  insert_numbers P [] k v p a e (inl is) = subst (λ (x : ℕ × X). P x.0) (sym is) p
  insert_numbers P [] k v p a e (inr m) = absurd m
  insert_numbers P (x ∷ es) k v p a e m = by (nat_cmp k x.0) m (insert_numbers P es k v p (λ y n. a y (inr n)) e)
    where
      by : (o : Ordering) → Member e (match_ordering o ((k, v) ∷ x ∷ es) ((x.0, v) ∷ es) (x ∷ insert_entry nat_cmp es k v)) → (Member e (insert_entry nat_cmp es k v) → P e.0) → P e.0
      by Less (inl is) rest = subst (λ (y : ℕ × X). P y.0) (sym is) p
      by Less (inr n) rest = a e n
      by Equal (inl is) rest = subst (λ (y : ℕ × X). P y.0) (sym is) (a x (inl refl))
      by Equal (inr n) rest = a e (inr n)
      by Greater (inl is) rest = a e (inl is)
      by Greater (inr n) rest = rest n

  -- a look-up where an entry is inserted
  pub looked : (es : List (ℕ × X)) (k : ℕ) (v : X) (q : ℕ) → lookup (is_at (nat_cmp q)) (insert_entry nat_cmp es k v) ≡ cond (is_at (nat_cmp q) k) (Some v) (lookup (is_at (nat_cmp q)) es)
  looked [] k v q = refl
  looked (e ∷ es) k v q = by (nat_cmp k e.0) refl (looked es k v q)
    where
      same : k ≡ e.0 → cond (is_at (nat_cmp q) e.0) (Some v) (lookup (is_at (nat_cmp q)) es) ≡ cond (is_at (nat_cmp q) k) (Some v) (cond (is_at (nat_cmp q) e.0) (Some e.1) (lookup (is_at (nat_cmp q)) es))
      same is = turn (is_at (nat_cmp q) e.0) ∙ ap (λ b. cond b (Some v) (cond (is_at (nat_cmp q) e.0) (Some e.1) (lookup (is_at (nat_cmp q)) es))) (ap (λ p. is_at (nat_cmp q) p) (sym is))
        where
          turn : (b : Bool) → cond b (Some v) (lookup (is_at (nat_cmp q)) es) ≡ cond b (Some v) (cond b (Some e.1) (lookup (is_at (nat_cmp q)) es))
          turn true = refl
          turn false = refl

      past : (b c : Bool) → is_at (nat_cmp q) e.0 ≡ b → is_at (nat_cmp q) k ≡ c → e.0 < k
          → cond b (Some e.1) (cond c (Some v) (lookup (is_at (nat_cmp q)) es)) ≡ cond c (Some v) (cond b (Some e.1) (lookup (is_at (nat_cmp q)) es))
      past true true x y higher = let there = at_number q e.0 x in let here = at_number q k y in absurd (omega arith)
      past true false x y higher = refl
      past false true x y higher = refl
      past false false x y higher = refl

      by : (o : Ordering) → nat_cmp k e.0 ≡ o → lookup (is_at (nat_cmp q)) (insert_entry nat_cmp es k v) ≡ cond (is_at (nat_cmp q) k) (Some v) (lookup (is_at (nat_cmp q)) es)
          → lookup (is_at (nat_cmp q)) (match_ordering o ((k, v) ∷ e ∷ es) ((e.0, v) ∷ es) (e ∷ insert_entry nat_cmp es k v)) ≡ cond (is_at (nat_cmp q) k) (Some v) (cond (is_at (nat_cmp q) e.0) (Some e.1) (lookup (is_at (nat_cmp q)) es))
      by Less is later = refl
      by Equal is later = same (exact_unsigned k e.0 is)
      by Greater is later = ap (λ o. cond (is_at (nat_cmp q) e.0) (Some e.1) o) later ∙ past (is_at (nat_cmp q) e.0) (is_at (nat_cmp q) k) refl refl (greater k e.0 is)

  -- no entry has a number that is not above the first one
  none_at : (from q : ℕ) (es : List (ℕ × X)) → q ≤ from → RisesFrom from es → lookup (is_at (nat_cmp q)) es ≡ None
  none_at from q [] upto r = refl
  none_at from q (e ∷ es) upto r =
      ap (λ b. cond b (Some e.1) (lookup (is_at (nat_cmp q)) es)) (not_at q e.0 (omega (arith, r.0)))
      ∙ none_at e.0 q es (omega (arith, r.0)) r.1

  -- all are behind a number up to the first one
  pub all_behind : (from n : ℕ) (es : List (ℕ × X)) → n ≤ from → RisesFrom from es → behind n es ≡ es
  all_behind from n [] upto r = refl
  all_behind from n (e ∷ es) upto r =
      ap (λ b. cond b (e ∷ behind n es) (behind n es)) (lt-ltb n e.0 (omega (arith, r.0)))
      ∙ ap (λ xs. e ∷ xs) (all_behind e.0 n es (omega (arith, r.0)) r.1)

  pub none_behind : (n : ℕ) (es : List (ℕ × X)) → next n es ≡ None → behind n es ≡ []
  none_behind n [] none = refl
  none_behind n (e ∷ es) none = by (nat_lt n e.0) none (none_behind n es)
    where
      by : (b : Bool) → cond b (Some e) (next n es) ≡ None → (next n es ≡ None → behind n es ≡ []) → cond b (e ∷ behind n es) (behind n es) ≡ []
      by true is rest = cc
      by false is rest = rest is

  -- the first behind a number stands in front of those behind its own
  pub one_behind : (from n : ℕ) (es : List (ℕ × X)) (c : ℕ × X) → RisesFrom from es → next n es ≡ Some c → (n < c.0) × (behind n es ≡ c ∷ behind c.0 es)
  one_behind from n [] c r is = absurd (cc)
  one_behind from n (e ∷ es) c r is = by (nat_lt n e.0) refl is (one_behind e.0 n es c r.1)
    where
      by : (b : Bool) → nat_lt n e.0 ≡ b → cond b (Some e) (next n es) ≡ Some c → (next n es ≡ Some c → (n < c.0) × (behind n es ≡ c ∷ behind c.0 es))
          → (n < c.0) × (cond b (e ∷ behind n es) (behind n es) ≡ c ∷ cond (nat_lt c.0 e.0) (e ∷ behind c.0 es) (behind c.0 es))
      by true test got rest = first same
        where
          same : e ≡ c
          same = cc

          first : e ≡ c → (n < c.0) × (e ∷ behind n es ≡ c ∷ cond (nat_lt c.0 e.0) (e ∷ behind c.0 es) (behind c.0 es))
          first is =
              let above : n < e.0 = ltb-true n e.0 test in
              let number : e.0 ≡ c.0 = ap (λ (x : ℕ × X). x.0) is in
              let later : behind c.0 es ≡ es = all_behind e.0 c.0 es (omega (arith, number)) r.1 in
              let all : behind n es ≡ es = all_behind e.0 n es (omega (arith, above)) r.1 in
              let itself : nat_lt c.0 e.0 ≡ false = le-ltb c.0 e.0 (omega (arith, number)) in
              (omega (arith, above, number), ap (λ xs. e ∷ xs) all ∙ ap (λ x. x ∷ es) is ∙ ap (λ xs. c ∷ xs) (sym (ap (λ b. cond b (e ∷ behind c.0 es) (behind c.0 es)) itself ∙ later)))
      by false test got rest =
          let t = rest got in
          let lower : e.0 ≤ n = ltb-false n e.0 test in
          let passed : nat_lt c.0 e.0 ≡ false = le-ltb c.0 e.0 (omega (arith, lower, t.0)) in
          (t.0, t.1 ∙ ap (λ xs. c ∷ xs) (sym (ap (λ b. cond b (e ∷ behind c.0 es) (behind c.0 es)) passed)))

  -- where no number stands between two: the entry of the second, or the first behind it
  pub next_is : (from n k : ℕ) (es : List (ℕ × X)) → RisesFrom from es → n < k → Each (λ e. n < e.0 → k ≤ e.0) es
      → next n es ≡ option_or (option_map (λ x. (k, x)) (lookup (is_at (nat_cmp k)) es)) (next k es)
  next_is from n k [] r higher gap = refl
  next_is from n k (e ∷ es) r higher gap = by (nat_lt n e.0) refl (next_is e.0 n k es r.1 higher (λ x m. gap x (inr m)))
    where
      at : Bool → Option X
      at b = cond b (Some e.1) (lookup (is_at (nat_cmp k)) es)

      after : Bool → Option (ℕ × X)
      after b = cond b (Some e) (next k es)

      pair : Option X → Option (ℕ × X)
      pair o = option_map (λ x. (k, x)) o

      here : (b : Bool) → is_at (nat_cmp k) e.0 ≡ b → k ≤ e.0 → Some e ≡ option_or (pair (at b)) (after (nat_lt k e.0))
      here true is upto = ap (λ j. Some (j, e.1)) (sym (at_number k e.0 is))
      here false is upto =
          let apart : k ≡ e.0 → ⊥ = (λ same. let yes : is_at (nat_cmp k) k ≡ true = itself k in let no : is_at (nat_cmp k) k ≡ false = ap (λ j. is_at (nat_cmp k) j) same ∙ is in cc) in
          let above : k < e.0 = omega (arith, apart) in
          let none : lookup (is_at (nat_cmp k)) es ≡ None = none_at e.0 k es upto r.1 in
          sym (ap (λ o. option_or (pair o) (after (nat_lt k e.0))) none ∙ ap after (lt-ltb k e.0 above))

      by : (b : Bool) → nat_lt n e.0 ≡ b → next n es ≡ option_or (pair (lookup (is_at (nat_cmp k)) es)) (next k es)
          → cond b (Some e) (next n es) ≡ option_or (pair (at (is_at (nat_cmp k) e.0))) (after (nat_lt k e.0))
      by true test rest = here (is_at (nat_cmp k) e.0) refl (gap e (inl refl) (ltb-true n e.0 test))
      by false test rest =
          let lower : e.0 ≤ n = ltb-false n e.0 test in
          rest ∙ sym (ap (λ b. option_or (pair (at b)) (after (nat_lt k e.0))) (not_at k e.0 (omega (arith, lower)))
          ∙ ap (λ b. option_or (pair (lookup (is_at (nat_cmp k)) es)) (after b)) (le-ltb k e.0 (omega (arith, lower))))

  -- where no number stands behind one
  pub next_none : (n : ℕ) (es : List (ℕ × X)) → Each (λ e. n < e.0 → ⊥) es → next n es ≡ None
  next_none n [] gap = refl
  next_none n (e ∷ es) gap =
      ap (λ b. cond b (Some e) (next n es)) (by (nat_lt n e.0) refl) ∙ next_none n es (λ x m. gap x (inr m))
    where
      by : (b : Bool) → nat_lt n e.0 ≡ b → b ≡ false
      by true test = absurd (gap e (inl refl) (ltb-true n e.0 test))
      by false test = refl
