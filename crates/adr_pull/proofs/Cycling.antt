-- A cycle goes on request by request.
use Rattle.std.proofs.Common.{◌≡◌, ℕ, zero, suc, ◌+◌, ◌-◌, ◌≤◌, List, Some, None, refl, ap, ◌∙◌, arith}
use Rattle.adr_model.specs.Update.{Identifier}
use Rattle.adr_pull.specs.Fetch.{Course, Ends, Point, fetch, goes_on, turn}

stops_here : (c : Course) → goes_on c (λ q. let x : Course = (q, None) in x) ≡ c
stops_here (q, None) = refl
stops_here (q, Some e) = refl

pub went_on : (c : Course) (go : Point → Course) → c.1 ≡ None → goes_on c go ≡ go c.0
went_on (q, None) go is = refl
went_on (q, Some e) go is = absurd (cc is)

pub went_not : (c : Course) (go : Point → Course) (e : Ends) → c.1 ≡ Some e → goes_on c go ≡ c
went_not (q, None) go e is = absurd (cc is)
went_not (q, Some f) go e is = refl

module _ (name : List ℕ) (partner : Identifier) where
  abbrev one : Point → Course
  one p = turn name partner p

  -- the last of some requests
  last_turn : (n : ℕ) (p : Point) → fetch name partner (suc n) p ≡ goes_on (fetch name partner n p) one
  unfolding fetch
  last_turn zero p = stops_here (one p)
  last_turn (suc n) p = by (one p) (λ q. last_turn n q)
    where
      by : (c : Course) → ((q : Point) → fetch name partner (suc n) q ≡ goes_on (fetch name partner n q) one)
          → goes_on c (λ q. fetch name partner (suc n) q) ≡ goes_on (goes_on c (λ q. fetch name partner n q)) one
      by (q, None) more = more q
      by (q, Some e) more = refl

  pub none_yet : (p : Point) → fetch name partner 0 p ≡ (p, None)
  unfolding fetch
  none_yet p = refl

  -- one more, where it hasn't ended
  pub further : (n : ℕ) (p : Point) → (fetch name partner n p).1 ≡ None
      → fetch name partner (suc n) p ≡ one (fetch name partner n p).0
  further n p is = last_turn n p ∙ went_on (fetch name partner n p) one is

  -- and where it has, it stays so
  stays : (n : ℕ) (p : Point) (e : Ends) → (fetch name partner n p).1 ≡ Some e
      → fetch name partner (suc n) p ≡ fetch name partner n p
  stays n p e is = last_turn n p ∙ went_not (fetch name partner n p) one e is

  ended : (k n m : ℕ) (p : Point) (e : Ends) → (fetch name partner n p).1 ≡ Some e → m ≡ k + n
      → fetch name partner m p ≡ fetch name partner n p
  ended zero n m p e is sum = ap (λ (i : ℕ). fetch name partner i p) (let same : m ≡ n = omega arith in same)
  ended (suc k) n m p e is sum =
      let so = ended k n (k + n) p e is refl in
      let same : m ≡ suc (k + n) = omega arith in
      ap (λ (i : ℕ). fetch name partner i p) same
      ∙ stays (k + n) p e (ap (λ (c : Course). c.1) so ∙ is) ∙ so

  pub ended_by : (n m : ℕ) (p : Point) (e : Ends) → (fetch name partner n p).1 ≡ Some e → n ≤ m
      → fetch name partner m p ≡ fetch name partner n p
  ended_by n m p e is le = ended (m - n) n m p e is (omega arith)
