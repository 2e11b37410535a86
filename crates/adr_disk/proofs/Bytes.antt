-- Writes over bytes, whole ones and torn ones.
use Rattle.std.proofs.Common.{◌≡◌, ℕ, ◌+◌, ◌-◌, ◌≤◌, ◌<◌, min, List, ◌++◌, length, take, drop, refl, sym, ◌∙◌, ap, arith, ⊎_elim, append_assoc, length-append, length-drop, length-take}
use Rattle.std.proofs.lemmas.List.{take_all, drop_all, take_at, drop_at, drop-drop, append-nil, take_min}
use Rattle.std.proofs.lemmas.Bool.{cases_lt}
use Rattle.adr_disk.specs.Disk.{put, Torn}

pub length-put : (s : List ℕ) (at : ℕ) (x : List ℕ) → length (put s at x) ≡ min at (length s) + length x + (length s - (at + length x))
length-put s at x = simp (length-append, length-take, length-drop)

-- past the end
pub put_past : (s : List ℕ) (at : ℕ) (x : List ℕ) → length s ≤ at → put s at x ≡ s ++ x
put_past s at x past =
    ap (λ (l : List ℕ). l ++ x ++ drop (at + length x) s) (take_all at s past)
    ∙ ap (λ (l : List ℕ). s ++ x ++ l) (drop_all (at + length x) s (omega arith))
    ∙ append-nil (s ++ x)

-- what stands in front of the write's end, and behind
pub take-put : (s : List ℕ) (at : ℕ) (x : List ℕ) → at ≤ length s → take (at + length x) (put s at x) ≡ take at s ++ x
take-put s at x within = take_at (take at s ++ x) (drop (at + length x) s) (at + length x) (simp (length-append, length-take) (omega arith))

pub drop-put : (s : List ℕ) (at : ℕ) (x : List ℕ) → at ≤ length s → drop (at + length x) (put s at x) ≡ drop (at + length x) s
drop-put s at x within = drop_at (take at s ++ x) (drop (at + length x) s) (at + length x) (simp (length-append, length-take) (omega arith))

put_put_within : (s : List ℕ) (at : ℕ) (x y : List ℕ) → at ≤ length s → put (put s at x) (at + length x) y ≡ put s at (x ++ y)
put_put_within s at x y within =
    let front = take-put s at x within in
    let back : drop (at + length x + length y) (put s at x) ≡ drop (at + length (x ++ y)) s =
    sym (drop-drop (length y) (at + length x) (put s at x))
    ∙ ap (drop (length y)) (drop-put s at x within)
    ∙ drop-drop (length y) (at + length x) s
    ∙ ap (λ (n : ℕ). drop n s) (omega (arith, length-append x y)) in
    ap (λ (l : List ℕ). l ++ y ++ drop (at + length x + length y) (put s at x)) front
    ∙ ap (λ (l : List ℕ). take at s ++ x ++ y ++ l) back
    ∙ ap (λ (l : List ℕ). l ++ drop (at + length (x ++ y)) s) (append_assoc (take at s) x y)

put_put_past : (s : List ℕ) (at : ℕ) (x y : List ℕ) → length s ≤ at → put (put s at x) (at + length x) y ≡ put s at (x ++ y)
put_put_past s at x y past =
    ap (λ (l : List ℕ). put l (at + length x) y) (put_past s at x past)
    ∙ put_past (s ++ x) (at + length x) y (omega (arith, length-append s x))
    ∙ append_assoc s x y
    ∙ sym (put_past s at (x ++ y) past)

-- one write after another, right behind it
pub put-put : (s : List ℕ) (at : ℕ) (x y : List ℕ) → put (put s at x) (at + length x) y ≡ put s at (x ++ y)
put-put s at x y = ⊎_elim (λ (lt : at < length s). put_put_within s at x y (omega arith)) (put_put_past s at x y) (cases_lt at (length s))

pub Torn-same : (at n : ℕ) (s : List ℕ) → Torn at n s s
Torn-same at n s = record {
  before = ap (λ (k : ℕ). take k s) (length-take at s) ∙ take_min at s;
  after = refl;
  no_shorter = omega arith;
  no_longer = omega arith;
}

begins : (s : List ℕ) (at : ℕ) (x : List ℕ) → take (length (take at s)) (put s at x) ≡ take at s
begins s at x = ap (take (length (take at s))) (append_assoc (take at s) x (drop (at + length x) s)) ∙ take_at (take at s) (x ++ drop (at + length x) s) (length (take at s)) refl

ends_past : (s : List ℕ) (at : ℕ) (x : List ℕ) → length s ≤ at → drop (at + length x) (put s at x) ≡ drop (at + length x) s
ends_past s at x past =
    ap (drop (at + length x)) (put_past s at x past)
    ∙ drop_all (at + length x) (s ++ x) (omega (arith, length-append s x))
    ∙ sym (drop_all (at + length x) s (omega arith))

ends : (s : List ℕ) (at : ℕ) (x : List ℕ) → drop (at + length x) (put s at x) ≡ drop (at + length x) s
ends s at x = ⊎_elim (λ (lt : at < length s). drop-put s at x (omega arith)) (ends_past s at x) (cases_lt at (length s))

-- a write that a crash doesn't cut short is one outcome
pub Torn-put : (s : List ℕ) (at n : ℕ) (x : List ℕ) → length x ≡ n → Torn at n s (put s at x)
Torn-put s at n x is = record {
  before = begins s at x;
  after = ap (λ (k : ℕ). drop (at + k) (put s at x)) (sym is) ∙ ends s at x ∙ ap (λ (k : ℕ). drop (at + k) s) is;
  no_shorter = omega (arith, length-put s at x);
  no_longer = omega (arith, length-put s at x);
}
