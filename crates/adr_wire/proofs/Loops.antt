-- Reading elements one after the other, as a loop does.
use Rattle.std.proofs.Common.{◌≡◌, ℕ, zero, suc, ◌-◌, ◌+◌, ◌≤◌, ◌<◌, List, [], ◌∷◌, ◌++◌, Option, None, Some, Ok, Err, refl, sym, ap, ◌∙◌, append_assoc, arith}
use Rattle.std.proofs.lemmas.List.{append-nil}
use Rattle.adr_values.specs.declared.failure.Failure.{Failure}
use Rattle.adr_values.specs.declared.failure.Failure.TheVariants.{Refused, NoMemory}
use Rattle.adr_wire.specs.declared.refusal.Malformed.{Malformed}
use Rattle.adr_wire.specs.Reading.{Rest, Read, Reading, ◌>>=◌, Refuses, Names, as_at, then_at, gathered_at, elements_at, keyed}

-- what was read before, and what is still read
abbrev pub with_front : {E : Type 0} → List E → Read (List E) → Read (List E)
with_front front read = read >>= λ x. Ok (front ++ x.0, x.1)

-- a refusal goes up unchanged
pub refuses_then : {X Y : Type 0} (e : Failure Malformed) (r : Read X) (f : X × Rest → Read Y) → Refuses e r → Refuses e (r >>= f)
refuses_then (Refused malformed) r f h = ap (λ (x : Read _). x >>= f) h
refuses_then NoMemory r f h = tt

pub names_refuses : {X : Type 0} (e : Failure Malformed) (r : Read X) → Names e r → Refuses e r
names_refuses (Refused malformed) r h = h
names_refuses NoMemory r h = tt

pub refuses_is : {X : Type 0} (e : Failure Malformed) (r s : Read X) → r ≡ s → Refuses e r → Refuses e s
refuses_is (Refused malformed) r s e h = sym e ∙ h
refuses_is NoMemory r s e h = tt

module _ {S E : Type 0} (step : S → E → S) (element : S → Reading E) (front : List E) (count i : ℕ) (known : S) (rest : Rest) (total : Read (List E)) where
  regroup : (e : E) (read : Read (List E)) → with_front front (read >>= λ x. Ok (e ∷ x.0, x.1)) ≡ with_front (front ++ e ∷ []) read
  regroup e (Ok x) = ap (λ (es : List E). Ok (es, x.1)) (simp append_assoc)
  regroup e (Err place) = refl

  pub goes_on : (e : E) (after : Rest) → i < count → element known rest ≡ Ok (e, after) → with_front front (gathered_at step element (count - i) known rest) ≡ total
      → with_front (front ++ e ∷ []) (gathered_at step element (count - (i + 1)) (step known e) after) ≡ total
  goes_on e after lt h so_far =
      let k : count - i ≡ suc (count - (i + 1)) = omega arith in
      let one : with_front front (gathered_at step element (count - i) known rest) ≡ with_front (front ++ e ∷ []) (gathered_at step element (count - (i + 1)) (step known e) after) = rw (k, h) (regroup e (gathered_at step element (count - (i + 1)) (step known e) after)) in
      sym one ∙ so_far

  pub ends : (e : Failure Malformed) → i < count → Refuses e (element known rest) → with_front front (gathered_at step element (count - i) known rest) ≡ total → Refuses e total
  ends e lt h so_far =
      let k : count - i ≡ suc (count - (i + 1)) = omega arith in
      let here : Refuses e (with_front front (gathered_at step element (suc (count - (i + 1))) known rest)) = refuses_then e (gathered_at step element (suc (count - (i + 1))) known rest) (λ x. Ok (front ++ x.0, x.1)) (refuses_then e (element known rest) (λ x. gathered_at step element (count - (i + 1)) (step known x.0) x.1 >>= λ es. Ok (x.0 ∷ es.0, es.1)) h) in
      refuses_is e (with_front front (gathered_at step element (suc (count - (i + 1))) known rest)) total (ap (λ (n : ℕ). with_front front (gathered_at step element n known rest)) (sym k) ∙ so_far) here

  pub is_done : count ≤ i → with_front front (gathered_at step element (count - i) known rest) ≡ total → total ≡ Ok (front, rest)
  is_done le so_far =
      let k : count - i ≡ 0 = omega arith in
      let one : with_front front (gathered_at step element (count - i) known rest) ≡ Ok (front, rest) = rw k (ap (λ (es : List E). Ok (es, rest)) (append-nil front)) in
      sym so_far ∙ one

-- what stands behind a count is read by it
module _ {B : Type 0} (b : ℕ → Reading B) where
  abbrev counted : Read ℕ → Read (ℕ × B)
  counted r = r >>= λ x. b x.0 x.1 >>= λ y. Ok ((x.0, y.0), y.1)

  abbrev behind : Read (ℕ × B) → Read B
  behind r = r >>= λ z. Ok (z.0.1, z.1)

  pub behind_count : (a : Reading ℕ) (rest mid : Rest) (n : ℕ) → a rest ≡ Ok (n, mid) → as_at (λ p. p.1) (then_at a b) rest ≡ b n mid
  behind_count a rest mid n p = ap (λ (r : Read ℕ). behind (counted r)) p ∙ same (b n mid)
    where
      same : (r : Read B) → behind (r >>= λ y. Ok ((n, y.0), y.1)) ≡ r
      same (Ok y) = refl
      same (Err place) = refl

-- behind their count, before the first one
pub begins : {S E : Type 0} (step : S → E → S) (element : S → Reading E) (known : S) (a : Reading ℕ) (front : List E) (count : ℕ) (rest mid : Rest) → front ≡ [] → a rest ≡ Ok (count, mid)
    → with_front front (gathered_at step element (count - 0) known mid) ≡ as_at (λ p. p.1) (then_at a (λ n. gathered_at step element n known)) rest
begins {S} {E} step element known a front count rest mid none p =
    let all : count - 0 ≡ count = omega arith in
    ap (λ (es : List E). with_front es (gathered_at step element (count - 0) known mid)) none
    ∙ nothing_before (gathered_at step element (count - 0) known mid)
    ∙ ap (λ (n : ℕ). gathered_at step element n known mid) all
    ∙ sym (behind_count (λ n. gathered_at step element n known) a rest mid count p)
  where
    nothing_before : (r : Read (List E)) → with_front [] r ≡ r
    nothing_before (Ok x) = refl
    nothing_before (Err place) = refl

-- elements that do not look at the key before them
any_last : {K E : Type 0} (key : E → K) (item : Reading E) (n : ℕ) (a b : Option K) (rest : Rest) → elements_at key (λ _. item) n a rest ≡ elements_at key (λ _. item) n b rest
any_last key item zero a b rest = refl
any_last key item (suc n) a b rest = refl

pub goes_on_alike : {K E : Type 0} (key : E → K) (item : Reading E) (front : List E) (count i : ℕ) (rest : Rest) (total : Read (List E)) (e : E) (after : Rest) → i < count → item rest ≡ Ok (e, after)
    → with_front front (elements_at key (λ _. item) (count - i) None rest) ≡ total → with_front (front ++ e ∷ []) (elements_at key (λ _. item) (count - (i + 1)) None after) ≡ total
goes_on_alike key item front count i rest total e after lt h so_far =
    ap (with_front (front ++ e ∷ [])) (any_last key item (count - (i + 1)) None (Some (key e)) after)
    ∙ goes_on (keyed key) (λ _. item) front count i None rest total e after lt h so_far
