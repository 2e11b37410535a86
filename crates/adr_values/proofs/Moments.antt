-- Times beside a vector stay so when they are joined, raised or filtered, and when the vector grows.
use Rattle.std.proofs.Common.{◌≡◌, ℕ, ◌≤◌, Bool, true, false, cond, List, [], ◌∷◌, refl, sym, subst, ◌∙◌, filter, not, arith}
use Rattle.std.specs.List.{AllByRecursion}
use Rattle.std.specs.Ordering.{is_eq, match_ordering}
use Rattle.std.specs.BTreeMap.{insert_entry}
use Rattle.std.specs.declared.cmp.Ordering.{Ordering}
use Rattle.std.specs.declared.cmp.Ordering.TheVariants.{Less, Equal, Greater}
use Rattle.std.proofs.lemmas.Bool.{leb-false}
use Rattle.adr_values.specs.Order.{identifier_order}
use Rattle.adr_values.specs.Vector.{Cursors, at, covers, raised, joined}
use Rattle.adr_values.specs.Times.{AreMoments, AreTimesOf, others, told_at_now}
use Rattle.adr_values.proofs.Cursors.{IsRising, IsBelow, head_below, tail_rising, cons_rising, nil_rising, same_from_test, test_itself, same_cursors, at-insert_entry, rising-insert_entry, from_one-insert_entry}
use Rattle.adr_values.proofs.Joining.{rising-raised, from_one-raised, rising-joined, from_one-joined}
use Rattle.adr_values.proofs.Placing.{raised_new}

-- what holds of the identifiers of before, and of those that come
module _ (P : List ℕ → Type 0) where
  abbrev pub EachAt : Cursors → Type 0
  EachAt cs = AllByRecursion (λ c. P c.0) cs

  entered : (cs : Cursors) (inv : List ℕ) (usn : ℕ) → P inv → EachAt cs → EachAt (insert_entry identifier_order cs inv usn)
  entered [] inv usn p all = (p, tt)
  entered (c ∷ cs) inv usn p all = by (identifier_order inv c.0) (entered cs inv usn p all.1)
    where
      by : (r : Ordering) → EachAt (insert_entry identifier_order cs inv usn) → EachAt (match_ordering r ((inv, usn) ∷ c ∷ cs) ((c.0, usn) ∷ cs) (c ∷ insert_entry identifier_order cs inv usn))
      by Less k = (p, all)
      by Equal k = all
      by Greater k = (all.0, k)

  raised_each : (cs : Cursors) (inv : List ℕ) (usn : ℕ) → (1 ≤ usn → P inv) → EachAt cs → EachAt (raised cs inv usn)
  raised_each cs inv usn p all = by (covers cs inv usn) refl
    where
      by : (b : Bool) → covers cs inv usn ≡ b → EachAt (cond b cs (insert_entry identifier_order cs inv usn))
      by true e = all
      by false e = entered cs inv usn (p (let less = leb-false usn (at cs inv) e in omega arith)) all

  joined_each : (ds cs : Cursors) → EachAt cs → EachAt ds → EachAt (joined cs ds)
  joined_each [] cs all more = all
  joined_each (d ∷ ds) cs all more = joined_each ds (raised cs d.0 d.1) (raised_each cs d.0 d.1 (λ one. more.0) all) more.1

seen_more : (v x t : Cursors) → ((i : List ℕ) → at v i ≤ at x i) → AllByRecursion (λ c. 1 ≤ at v c.0) t → AllByRecursion (λ c. 1 ≤ at x c.0) t
seen_more v x [] up all = tt
seen_more v x (c ∷ cs) up all = ((let le = up c.0 in let one = all.0 in omega arith), seen_more v x cs up all.1)

pub no_times : (v : Cursors) → AreTimesOf v []
no_times v = record { moments = record { rising = nil_rising; from_one = tt }; seen = tt }

pub times_stay : (v x t : Cursors) → ((i : List ℕ) → at v i ≤ at x i) → AreTimesOf v t → AreTimesOf x t
times_stay v x t up are = record { moments = are.moments; seen = seen_more v x t up are.seen }

pub times_join : (v w x t u : Cursors) → ((i : List ℕ) → at v i ≤ at x i) → ((i : List ℕ) → at w i ≤ at x i) → AreTimesOf v t → AreTimesOf w u → AreTimesOf x (joined t u)
times_join v w x t u up vp are were = record {
  moments = record { rising = rising-joined u t are.moments.rising; from_one = from_one-joined u t are.moments.from_one };
  seen = joined_each (λ i. 1 ≤ at x i) u t (seen_more v x t up are.seen) (seen_more w x u vp were.seen);
}

pub times_raise : (v t : Cursors) (inv : List ℕ) (time : ℕ) → (1 ≤ time → 1 ≤ at v inv) → AreTimesOf v t → AreTimesOf v (raised t inv time)
times_raise v t inv time there are = record {
  moments = record { rising = rising-raised t inv time are.moments.rising; from_one = from_one-raised t inv time are.moments.from_one };
  seen = raised_each (λ i. 1 ≤ at v i) t inv time there are.seen;
}

module _ (test : List ℕ × ℕ → Bool) where
  -- what the rests of a list keep, what is picked of it keeps
  filtered : (Q : Cursors → Type 0) → ((c : List ℕ × ℕ) (cs : Cursors) → Q (c ∷ cs) → Q cs)
      → ((c : List ℕ × ℕ) (cs : Cursors) → Q (c ∷ cs) → Q (filter test cs) → Q (c ∷ filter test cs)) → (cs : Cursors) → Q cs → Q (filter test cs)
  filtered Q rest more [] q = q
  filtered Q rest more (c ∷ cs) q = by (test c) (filtered Q rest more cs (rest c cs q))
    where
      by : (b : Bool) → Q (filter test cs) → Q (cond b (c ∷ filter test cs) (filter test cs))
      by true kept = more c cs q kept
      by false kept = kept

  filter_each : (P : List ℕ × ℕ → Type 0) (cs : Cursors) → AllByRecursion P cs → AllByRecursion P (filter test cs)
  filter_each P = filtered (AllByRecursion P) (λ c cs all. all.1) (λ c cs all kept. (all.0, kept))

  filter_below : (q : List ℕ) (cs : Cursors) → IsBelow q cs → IsBelow q (filter test cs)
  filter_below q = filtered (IsBelow q) (λ c cs h. h.1) (λ c cs h kept. (h.0, kept))

  filter_rising : (cs : Cursors) → IsRising cs → IsRising (filter test cs)
  filter_rising = filtered IsRising tail_rising (λ c cs s kept. cons_rising c (filter test cs) (filter_below c.0 cs (head_below c cs s)) kept)

  pub moments_filter : (t : Cursors) → AreMoments t → AreMoments (filter test t)
  moments_filter t are = record { rising = filter_rising t are.rising; from_one = filter_each (λ c. 1 ≤ c.1) t are.from_one }

  pub times_filter : (v t : Cursors) → AreTimesOf v t → AreTimesOf v (filter test t)
  times_filter v t are = record {
    moments = moments_filter t are.moments;
    seen = filter_each (λ c. 1 ≤ at v c.0) t are.seen;
  }

-- ---- a moment in place of another

at_others : (t : Cursors) (inv q : List ℕ) → at (others t inv) q ≡ cond (is_eq (identifier_order q inv)) 0 (at t q)
at_others [] inv q = none (is_eq (identifier_order q inv))
  where
    none : (b : Bool) → ◌≡◌ {A = ℕ} 0 (cond b 0 0)
    none true = refl
    none false = refl
at_others (c ∷ cs) inv q = by (is_eq (identifier_order c.0 inv)) refl (is_eq (identifier_order q c.0)) refl (at_others cs inv q)
  where
    by : (a : Bool) → is_eq (identifier_order c.0 inv) ≡ a → (b : Bool) → is_eq (identifier_order q c.0) ≡ b → at (others cs inv) q ≡ cond (is_eq (identifier_order q inv)) 0 (at cs q)
        → at (cond (not a) (c ∷ others cs inv) (others cs inv)) q ≡ cond (is_eq (identifier_order q inv)) 0 (cond b c.1 (at cs q))
    by true e true f k =
        let same : q ≡ inv = same_from_test q c.0 f ∙ same_from_test c.0 inv e in
        let eq : is_eq (identifier_order q inv) ≡ true = subst (λ (x : List ℕ). is_eq (identifier_order x inv) ≡ true) (sym same) (test_itself inv) in
        k ∙ rw eq refl
    by true e false f k = k
    by false e true f k =
        let other : is_eq (identifier_order q inv) ≡ false = subst (λ (x : List ℕ). is_eq (identifier_order x inv) ≡ false) (sym (same_from_test q c.0 f)) e in
        rw (f, other) refl
    by false e false f k = rw f k

-- a moment that is told takes its place as an entry of a map does
pub told_entered : (t : Cursors) (inv : List ℕ) (now : ℕ) → AreMoments t → 1 ≤ now → insert_entry identifier_order t inv now ≡ told_at_now t inv now
told_entered t inv now are one =
    let rest = moments_filter (λ (c : List ℕ × ℕ). not (is_eq (identifier_order c.0 inv))) t are in
    let gone : at (others t inv) inv ≡ 0 = at_others t inv inv ∙ rw (test_itself inv) refl in
    same_cursors (insert_entry identifier_order t inv now) (insert_entry identifier_order (others t inv) inv now)
    (rising-insert_entry t inv now are.rising) (rising-insert_entry (others t inv) inv now rest.rising)
    (from_one-insert_entry t inv now one are.from_one) (from_one-insert_entry (others t inv) inv now one rest.from_one)
    (λ q. at-insert_entry t inv now q ∙ by q (is_eq (identifier_order q inv)) refl ∙ sym (at-insert_entry (others t inv) inv now q))
    ∙ raised_new (others t inv) inv now (omega (arith, gone, one))
  where
    by : (q : List ℕ) (b : Bool) → is_eq (identifier_order q inv) ≡ b → cond b now (at t q) ≡ cond b now (at (others t inv) q)
    by q true e = refl
    by q false e = sym (at_others t inv q ∙ rw e refl)

pub moments_entered : (t : Cursors) (inv : List ℕ) (now : ℕ) → AreMoments t → 1 ≤ now → AreMoments (insert_entry identifier_order t inv now)
moments_entered t inv now are one = record { rising = rising-insert_entry t inv now are.rising; from_one = from_one-insert_entry t inv now one are.from_one }
