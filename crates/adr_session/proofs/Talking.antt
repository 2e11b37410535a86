-- A connection goes on message by message.
use Rattle.std.proofs.Common.{◌≡◌, ◌⊎◌, inl, inr, ℕ, zero, suc, ◌<◌, refl, sym, ap, subst, ◌∙◌, arith}
use Rattle.adr_law_journal.specs.Areas.{Started}
use Rattle.adr_law_journal.specs.Kept.{FindsState}
use Rattle.adr_model.specs.Store.{State}
use Rattle.adr_session.specs.Talk.{Point, Turn, Goes, Stops, Ends, Limit, Talk, message_limit, turn, talk, goes_on, one_more, Reaches}
use Rattle.adr_session.specs.Told.{FindsNear, FindsBehind}

same_point : (p q : Point) (e : Ends) → Reaches 0 p q → p ≡ q
same_point p q e reach = ap (λ (t : Talk). t.0) reach

one_less : (t : Talk) (q : Point) (n : ℕ) (e : Ends) → one_more t ≡ (q, suc n, e) → t ≡ (q, n, e)
one_less t q n e is =
    let a : t.0 ≡ q = ap (λ (u : Talk). u.0) is in
    let b : suc t.1 ≡ suc n = ap (λ (u : Talk). u.1) is in
    let c : t.1 ≡ n = omega (arith, b) in
    let d : t.2 ≡ e = ap (λ (u : Talk). u.2) is in
    ap (λ (x : Point). let u : Talk = (x, t.1, t.2) in u) a ∙ ap (λ (m : ℕ). let u : Talk = (q, m, t.2) in u) c ∙ ap (λ (f : Ends). let u : Talk = (q, n, f) in u) d

none_said : (p q : Point) (e f : Ends) (n : ℕ) → (let u : Talk = (p, 0, e) in u) ≡ (q, suc n, f) → ⊥
none_said p q e f n is = let zero : 0 ≡ suc n = ap (λ (u : Talk). u.1) is in omega (arith, zero)

-- one message more
pub further : (n : ℕ) (p q r : Point) → Reaches n p q → turn q ≡ Goes r → Reaches (suc n) p r
further zero p q r reach goes =
    ap (λ (t : Turn). goes_on p t (λ x. talk 0 x)) (ap turn (same_point p q Limit reach) ∙ goes)
further (suc n) p q r reach goes = by (turn p) refl (λ m inner. further n m q r inner goes)
  where
    by : (t : Turn) → turn p ≡ t → ((m : Point) → Reaches n m q → Reaches (suc n) m r) → Reaches (suc (suc n)) p r
    by (Stops e) is on = absurd (none_said p q e Limit n (sym (ap (λ (t : Turn). goes_on p t (λ x. talk n x)) is) ∙ reach))
    by (Goes m) is on =
        let inner = one_less (talk n m) q n Limit (sym (ap (λ (t : Turn). goes_on p t (λ x. talk n x)) is) ∙ reach) in
        ap (λ (t : Turn). goes_on p t (λ x. talk (suc n) x)) is ∙ ap one_more (on m inner)

-- the connection ends
pub ends_at : (k n : ℕ) (p q : Point) (e : Ends) → n < k → Reaches n p q → turn q ≡ Stops e → talk k p ≡ (q, n, e)
ends_at zero n p q e lt reach stops = absurd (omega (arith, lt))
ends_at (suc k) zero p q e lt reach stops =
    let same = same_point p q Limit reach in
    ap (λ (t : Turn). goes_on p t (λ x. talk k x)) (ap turn same ∙ stops) ∙ ap (λ (x : Point). let u : Talk = (x, 0, e) in u) same
ends_at (suc k) (suc n) p q e lt reach stops = by (turn p) refl (λ m inner. ends_at k n m q e (omega (arith, lt)) inner stops)
  where
    by : (t : Turn) → turn p ≡ t → ((m : Point) → Reaches n m q → talk k m ≡ (q, n, e)) → talk (suc k) p ≡ (q, suc n, e)
    by (Stops f) is on = absurd (none_said p q f Limit n (sym (ap (λ (t : Turn). goes_on p t (λ x. talk n x)) is) ∙ reach))
    by (Goes m) is on =
        let inner = one_less (talk n m) q n Limit (sym (ap (λ (t : Turn). goes_on p t (λ x. talk n x)) is) ∙ reach) in
        ap (λ (t : Turn). goes_on p t (λ x. talk k x)) is ∙ ap one_more (on m inner)

-- what a start finds near one of the points is behind some of the messages
pub near_behind : (n : ℕ) (p q : Point) → n < message_limit → Reaches n p q → (s : Started State) → FindsNear q s → FindsBehind p s
near_behind n p q lt reach s finds = by finds.1
  where
    by : (finds.0 ≡ q) ⊎ (turn q ≡ Goes finds.0) → FindsBehind p s
    by (inl here) = (n, omega (arith, lt), (q, reach, subst (λ (r : Point). FindsState r.stands.state s) here finds.2))
    by (inr next) = (suc n, omega (arith, lt), (finds.0, further n p q finds.0 reach next, finds.2))
