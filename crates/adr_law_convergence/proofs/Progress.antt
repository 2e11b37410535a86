-- A reply that isn't the last leaves fewer units beyond its end, and at least one.
use Rattle.std.proofs.Common.{◌≡◌, inl, inr, ℕ, ◌≤◌, ◌<◌, ◌+◌, List, [], ◌∷◌, ◌++◌, Bool, true, false, cond, None, refl, sym, ◌∙◌, subst, ap, arith, fold, filter, length, length-append, ◌==◌, ◌||◌, ◌&&◌, ◌-◌, if◌then◌else◌}
use Rattle.std.specs.Prelude.{nat_lt}
use Rattle.std.proofs.lemmas.Bool.Decides.{nat_tests}
use Rattle.std.proofs.lemmas.Bool.{and_parts, ltb-true, le-ltb, lt-ltb}
use Rattle.adr_values.specs.declared.stamp.Unit.{Unit as Named}
use Rattle.adr_model.specs.Member.{Member}
use Rattle.adr_model.specs.Update.{unit_of}
use Rattle.adr_model.specs.Store.{Held, State}
use Rattle.adr_model.specs.Change.{Item}
use Rattle.adr_model.specs.Serve.{Request, last_local, units_of, is_above_mark, is_unseen, sendable, item_length, byte_limit, first_items, reply_of, reply_to}
use Rattle.adr_model.proofs.Members.{of_filter, member_left, member_right}
use Rattle.adr_law_calls.proofs.Ground.{answering, first_front}
use Rattle.adr_law_calls.proofs.Candidates.{Rises, candidates_rise, candidate_from, unit_there}

-- ---- counting

-- a test that passes no more, and fails one that another passes
fewer : {A : Type 0} (p q : A → Bool) (xs : List A) (x : A) → ((y : A) → p y ≡ true → q y ≡ true) → Member x xs → q x ≡ true → p x ≡ false → length (filter p xs) + 1 ≤ length (filter q xs)
fewer p q [] x within m passes fails = absurd m
fewer {A = A} p q (y ∷ ys) x within m passes fails = by (p y) refl (q y) refl m (λ n. fewer p q ys x within n passes fails)
  where
    no_more : (zs : List A) → length (filter p zs) ≤ length (filter q zs)
    no_more [] = omega arith
    no_more (z ∷ zs) = on (p z) refl (q z) refl (no_more zs)
      where
        on : (a : Bool) → p z ≡ a → (b : Bool) → q z ≡ b → length (filter p zs) ≤ length (filter q zs) → length (cond a (z ∷ filter p zs) (filter p zs)) ≤ length (cond b (z ∷ filter q zs) (filter q zs))
        on true is true also le = omega (arith, le)
        on true is false also le = let t : q z ≡ true = within z is in absurd (cc)
        on false is true also le = omega (arith, le)
        on false is false also le = le

    by : (a : Bool) → p y ≡ a → (b : Bool) → q y ≡ b → Member x (y ∷ ys) → (Member x ys → length (filter p ys) + 1 ≤ length (filter q ys)) → length (cond a (y ∷ filter p ys) (filter p ys)) + 1 ≤ length (cond b (y ∷ filter q ys) (filter q ys))
    by true is b also (inl e) rest = let t : p x ≡ true = ap p e ∙ is in absurd (cc)
    by true is true also (inr n) rest = omega (arith, rest n)
    by true is false also (inr n) rest = let t : q y ≡ true = within y is in absurd (cc)
    by false is true also m rest = omega (arith, no_more ys)
    by false is false also (inl e) rest = let t : q x ≡ false = ap q e ∙ also in absurd (cc)
    by false is false also (inr n) rest = rest n

some_left : {A : Type 0} (p : A → Bool) (xs : List A) (x : A) → Member x xs → p x ≡ true → 1 ≤ length (filter p xs)
some_left p [] x m passes = absurd m
some_left p (y ∷ ys) x m passes = by (p y) refl m (λ n. some_left p ys x n passes)
  where
    by : (b : Bool) → p y ≡ b → Member x (y ∷ ys) → (Member x ys → 1 ≤ length (filter p ys)) → 1 ≤ length (cond b (y ∷ filter p ys) (filter p ys))
    by true is n rest = omega arith
    by false is (inl e) rest = let t : p x ≡ false = ap p e ∙ is in absurd (cc)
    by false is (inr n) rest = rest n

-- ---- what is sent and what is left

-- in a rising list what is in a front is below what is behind it
front_below : (sent rest : List (ℕ × Item)) (z c : ℕ × Item) → Rises (sent ++ rest) → Member z sent → Member c rest → z.0 < c.0
front_below [] rest z c up m n = absurd m
front_below (y ∷ ys) rest z c up (inl e) n = subst (λ (v : ℕ × Item). v.0 < c.0) (sym e) (up.0 c (member_right ys rest c n))
front_below (y ∷ ys) rest z c up (inr m) n = front_below ys rest z c up.1 m n

one_sent : (most bytes : ℕ) (c : ℕ × Item) (cs : List (ℕ × Item)) → 1 ≤ most → (bytes == 0) ≡ false → (next : List (ℕ × Item)) × (first_items most bytes (c ∷ cs) ≡ c ∷ next)
one_sent most bytes c cs le some = (first_items (most - 1) (bytes - item_length c.1) cs, ap (λ b. if b then [] else c ∷ first_items (most - 1) (bytes - item_length c.1) cs) none)
  where
    not_none : (most == 0) ≡ false
    not_none = grind (arith, nat_tests)

    none : ((most == 0) || (bytes == 0)) ≡ false
    none = ap (λ b. b || (bytes == 0)) not_none ∙ some

-- the mark behind items ends at one of them
ends_at : (n : ℕ) (c : ℕ × Item) (cs : List (ℕ × Item)) → (z : ℕ × Item) × Member z (c ∷ cs) × (fold (λ (k : ℕ) (d : ℕ × Item). d.0) n (c ∷ cs) ≡ z.0)
ends_at n c [] = (c, inl refl, refl)
ends_at n c (d ∷ ds) = let t = ends_at c.0 d ds in (t.0, inr t.1, t.2)

-- ---- units beyond a mark

abbrev pub beyond : List Held → ℕ → ℕ
beyond rows obj = length (filter (λ unit. nat_lt obj (last_local rows unit)) (units_of rows))

module _ (s : State) (q : Request) (now : ℕ) (most : 1 ≤ q.max) where
  open (answering s q) use {rows, from, all, sent}

  -- a candidate is of a row whose unit lies beyond the mark
  beyond_from : (c : ℕ × Item) → Member c all → (x : Held) × Member x rows × (c.0 ≡ last_local rows (unit_of x.update.key)) × (nat_lt from.obj (last_local rows (unit_of x.update.key)) ≡ true)
  beyond_from c m = let t = candidate_from rows (sendable rows from q.vector) c m in let k = of_filter (λ (h : Held). is_above_mark from rows h && is_unseen from q.vector h) rows t.0 t.1 in
      (t.0, k.0, ap (λ (d : ℕ × Item). d.0) t.2, (and_parts _ _ k.1).0)

  -- what stands of a cut reply
  record Progress : Type 0 where
    forward : from.obj < (reply_of s q now from sent false).to.obj
    fewer : beyond rows (reply_of s q now from sent false).to.obj + 1 ≤ beyond rows from.obj
    left : 1 ≤ beyond rows (reply_of s q now from sent false).to.obj

  cut : (rest : List (ℕ × Item)) → sent ++ rest ≡ all → (length sent == length all) ≡ false → Progress
  cut [] front short = absurd (not_short (omega (arith, length-append sent [], ap length front)))
    where
      not_short : length sent ≡ length all → ⊥
      not_short e = let t : (length sent == length all) ≡ true = grind (arith, nat_tests) in cc
  cut (d ∷ ds) front short = record { forward = forward; fewer = fewer p r (units_of rows) (unit_of x.0.update.key) more (unit_there rows x.0 x.1) above not_beyond; left = some_left p (units_of rows) (unit_of y.0.update.key) (unit_there rows y.0 y.1) still }
    where
      up : Rises (sent ++ d ∷ ds)
      up = subst Rises (sym front) (candidates_rise rows (sendable rows from q.vector))

      there : (c : ℕ × Item) → Member c (sent ++ d ∷ ds) → Member c all
      there c m = subst (λ (cs : List (ℕ × Item)). Member c cs) front m

      first : (e : ℕ × Item) (es : List (ℕ × Item)) → all ≡ e ∷ es → (z : ℕ × Item) × Member z sent × (fold (λ (k : ℕ) (c : ℕ × Item). c.0) from.obj sent ≡ z.0)
      first e es is = let t = one_sent q.max byte_limit e es most refl in let same : sent ≡ e ∷ t.0 = ap (first_items q.max byte_limit) is ∙ t.1 in
          subst (λ (cs : List (ℕ × Item)). (z : ℕ × Item) × Member z cs × (fold (λ (k : ℕ) (c : ℕ × Item). c.0) from.obj cs ≡ z.0)) (sym same) (ends_at from.obj e t.0)

      ends : (cs : List (ℕ × Item)) → all ≡ cs → (z : ℕ × Item) × Member z sent × (fold (λ (k : ℕ) (c : ℕ × Item). c.0) from.obj sent ≡ z.0)
      ends [] is = absurd (subst (λ (cs : List (ℕ × Item)). Member d cs) is (there d (member_right sent (d ∷ ds) d (inl refl))))
      ends (e ∷ es) is = first e es is

      z : (z : ℕ × Item) × Member z sent × (fold (λ (k : ℕ) (c : ℕ × Item). c.0) from.obj sent ≡ z.0)
      z = ends all refl

      to : ℕ
      to = fold (λ (k : ℕ) (c : ℕ × Item). c.0) from.obj sent

      x : (x : Held) × Member x rows × (z.0.0 ≡ last_local rows (unit_of x.update.key)) × (nat_lt from.obj (last_local rows (unit_of x.update.key)) ≡ true)
      x = beyond_from z.0 (there z.0 (member_left sent (d ∷ ds) z.0 z.1))

      y : (y : Held) × Member y rows × (d.0 ≡ last_local rows (unit_of y.update.key)) × (nat_lt from.obj (last_local rows (unit_of y.update.key)) ≡ true)
      y = beyond_from d (there d (member_right sent (d ∷ ds) d (inl refl)))

      p : Named → Bool
      p unit = nat_lt to (last_local rows unit)

      r : Named → Bool
      r unit = nat_lt from.obj (last_local rows unit)

      forward : from.obj < to
      forward = omega (arith, ltb-true from.obj (last_local rows (unit_of x.0.update.key)) x.3, x.2, z.2)

      more : (unit : Named) → nat_lt to (last_local rows unit) ≡ true → nat_lt from.obj (last_local rows unit) ≡ true
      more unit h = lt-ltb from.obj (last_local rows unit) (omega (arith, forward, ltb-true to (last_local rows unit) h))

      above : nat_lt from.obj (last_local rows (unit_of x.0.update.key)) ≡ true
      above = x.3

      not_beyond : nat_lt to (last_local rows (unit_of x.0.update.key)) ≡ false
      not_beyond = le-ltb to (last_local rows (unit_of x.0.update.key)) (omega (arith, z.2, x.2))

      still : nat_lt to (last_local rows (unit_of y.0.update.key)) ≡ true
      still = lt-ltb to (last_local rows (unit_of y.0.update.key)) (omega (arith, z.2, y.2, front_below sent (d ∷ ds) z.0 d up z.1 (inl refl)))

  -- a reply that isn't the last
  pub progress : (reply_to s q now).last ≡ None → (from.obj < (reply_to s q now).to.obj) × (beyond rows (reply_to s q now).to.obj + 1 ≤ beyond rows from.obj) × (1 ≤ beyond rows (reply_to s q now).to.obj)
  progress none = by (length sent == length all) refl none
    where
      by : (b : Bool) → (length sent == length all) ≡ b → (reply_of s q now from sent b).last ≡ None
          → (from.obj < (reply_of s q now from sent b).to.obj) × (beyond rows (reply_of s q now from sent b).to.obj + 1 ≤ beyond rows from.obj) × (1 ≤ beyond rows (reply_of s q now from sent b).to.obj)
      by true is e = absurd (cc)
      by false is e = let f = first_front q.max byte_limit all in let p = cut f.0 f.1 is in (p.forward, p.fewer, p.left)
