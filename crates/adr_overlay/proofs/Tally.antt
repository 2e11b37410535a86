-- How many rows there are of keys that pass a test.
use Rattle.std.proofs.Common.{◌≡◌, ℕ, ◌+◌, List, [], ◌∷◌, ◌++◌, Bool, true, false, cond, not, ◌&&◌, refl, sym, ap, ◌∙◌, filter, length, Option, Some, None, is_some, is_none, arith}
use Rattle.std.specs.Ordering.{is_eq, match_ordering}
use Rattle.std.specs.declared.cmp.Ordering.{Ordering}
use Rattle.std.specs.declared.cmp.Ordering.TheVariants.{Less, Equal, Greater}
use Rattle.adr_model.specs.Update.{Key, key_order, same_key}
use Rattle.adr_model.specs.Store.{Held, row_held, with_row}
use Rattle.adr_model.specs.Formed.{AreRising}
use Rattle.adr_model.proofs.Keys.{exact_keys}
use Rattle.adr_law_knowledge.proofs.RisingHeld.{head_below, tail_rising, below_all}
use Rattle.adr_overlay.specs.Overlay.{one}
use Rattle.adr_overlay.proofs.Rising.{turned_back, one_key, same_itself, none_below, none_past, first_held}

abbrev pub tally : (Key → Bool) → List Held → ℕ
tally p [] = 0
tally p (x ∷ xs) = one (p x.update.key) + tally p xs

pub is_tally : (p : Key → Bool) (rows : List Held) → length (filter (λ h. p h.update.key) rows) ≡ tally p rows
is_tally p [] = refl
is_tally p (x ∷ xs) = by (p x.update.key) (is_tally p xs)
  where
    by : (b : Bool) → length (filter (λ h. p h.update.key) xs) ≡ tally p xs → length (cond b (x ∷ filter (λ h. p h.update.key) xs) (filter (λ h. p h.update.key) xs)) ≡ one b + tally p xs
    by true h = omega (arith, h)
    by false h = omega (arith, h)

pub tally_same : (p q : Key → Bool) (rows : List Held) → ((k : Key) → p k ≡ q k) → tally p rows ≡ tally q rows
tally_same p q [] h = refl
tally_same p q (x ∷ xs) h = omega (arith, ap one (h x.update.key), tally_same p q xs h)

pub tally_filter : (p q : Key → Bool) (rows : List Held) → tally p (filter (λ h. q h.update.key) rows) ≡ tally (λ k. p k && q k) rows
tally_filter p q [] = refl
tally_filter p q (x ∷ xs) = by (q x.update.key) (p x.update.key) (tally_filter p q xs)
  where
    rest : List Held
    rest = filter (λ h. q h.update.key) xs

    into : (b : Bool) (n : ℕ) → tally p rest ≡ n → p x.update.key ≡ b → tally p (x ∷ rest) ≡ one b + n
    into b n h e = omega (arith, h, ap one e)

    by : (b c : Bool) → tally p rest ≡ tally (λ k. p k && q k) xs → tally p (cond (q x.update.key) (x ∷ rest) rest) ≡ one (p x.update.key && q x.update.key) + tally (λ k. p k && q k) xs
    by b c h = turn (q x.update.key) (p x.update.key) refl
      where
        turn : (b c : Bool) → p x.update.key ≡ c → tally p (cond b (x ∷ rest) rest) ≡ one (c && b) + tally (λ k. p k && q k) xs
        turn true true e = omega (arith, h, ap one e)
        turn true false e = omega (arith, h, ap one e)
        turn false true e = omega (arith, h)
        turn false false e = omega (arith, h)

pub tally_split : (p q : Key → Bool) (rows : List Held) → tally p rows ≡ tally (λ k. p k && q k) rows + tally (λ k. p k && not (q k)) rows
tally_split p q [] = omega arith
tally_split p q (x ∷ xs) = by (p x.update.key) (q x.update.key) (tally_split p q xs)
  where
    by : (b c : Bool) → tally p xs ≡ tally (λ k. p k && q k) xs + tally (λ k. p k && not (q k)) xs
        → one b + tally p xs ≡ (one (b && c) + tally (λ k. p k && q k) xs) + (one (b && not c) + tally (λ k. p k && not (q k)) xs)
    by true true h = omega (arith, h)
    by true false h = omega (arith, h)
    by false true h = omega (arith, h)
    by false false h = omega (arith, h)

pub tally_append : (p : Key → Bool) (xs ys : List Held) → tally p (xs ++ ys) ≡ tally p xs + tally p ys
tally_append p [] ys = omega arith
tally_append p (x ∷ xs) ys = omega (arith, tally_append p xs ys)

-- ---- a row more

pub tally_with_row : (p : Key → Bool) (rows : List Held) (h : Held) → AreRising rows → tally p (with_row rows h) ≡ tally p rows + one (p h.update.key && is_none (row_held rows h.update.key))
tally_with_row p [] h r = by (p h.update.key)
  where
    by : (b : Bool) → one b + 0 ≡ 0 + one (b && true)
    by true = omega arith
    by false = omega arith
tally_with_row p (x ∷ xs) h r = by (key_order h.update.key x.update.key) refl (tally_with_row p xs h (tail_rising x xs r))
  where
    new : (o : Option Held) → row_held (x ∷ xs) h.update.key ≡ o → is_none o ≡ true → one (p h.update.key && is_none (row_held (x ∷ xs) h.update.key)) ≡ one (p h.update.key)
    new o e none = ap (λ b. one (p h.update.key && b)) (ap is_none e ∙ none) ∙ both (p h.update.key)
      where
        both : (b : Bool) → one (b && true) ≡ one b
        both true = refl
        both false = refl

    old : (o : Option Held) → row_held (x ∷ xs) h.update.key ≡ o → is_none o ≡ false → one (p h.update.key && is_none (row_held (x ∷ xs) h.update.key)) ≡ 0
    old o e some = ap (λ b. one (p h.update.key && b)) (ap is_none e ∙ some) ∙ both (p h.update.key)
      where
        both : (b : Bool) → one (b && false) ≡ 0
        both true = refl
        both false = refl

    by : (o : Ordering) → key_order h.update.key x.update.key ≡ o → tally p (with_row xs h) ≡ tally p xs + one (p h.update.key && is_none (row_held xs h.update.key))
        → tally p (match_ordering o (h ∷ x ∷ xs) (h ∷ xs) (x ∷ with_row xs h)) ≡ (one (p x.update.key) + tally p xs) + one (p h.update.key && is_none (row_held (x ∷ xs) h.update.key))
    by Less is later = omega (arith, new None (none_below h.update.key (x ∷ xs) (is, below_all h.update.key x.update.key xs is (head_below x xs r))) refl)
    by Equal is later =
        let same = exact_keys h.update.key x.update.key is in
        omega (arith, old (Some x) (first_held x xs h.update.key (sym same)) refl, ap (λ k. one (p k)) same)
    by Greater is later =
        let passed : row_held (x ∷ xs) h.update.key ≡ row_held xs h.update.key = ap (λ o. cond (is_eq o) (Some x) (row_held xs h.update.key)) (turned_back h.update.key x.update.key is) in
        omega (arith, later, ap (λ o. one (p h.update.key && is_none o)) passed)

-- rows but for that of a key
pub tally_apart : (p : Key → Bool) (j : Key) (rows : List Held) → AreRising rows → tally p rows ≡ tally (λ k. p k && not (same_key j k)) rows + one (p j && is_some (row_held rows j))
tally_apart p j [] r = by (p j)
  where
    nought : ℕ
    nought = 0

    by : (b : Bool) → nought ≡ nought + one (b && false)
    by true = omega arith
    by false = omega arith
tally_apart p j (y ∷ ys) r = by (same_key j y.update.key) refl (tally_apart p j ys (tail_rising y ys r))
  where
    none : (o : Option Held) → o ≡ None → one (p j && is_some o) ≡ 0
    none o e = ap (λ q. one (p j && is_some q)) e ∙ both (p j)
      where
        both : (b : Bool) → one (b && false) ≡ 0
        both true = refl
        both false = refl

    some : (o : Option Held) → o ≡ Some y → one (p j && is_some o) ≡ one (p j)
    some o e = ap (λ q. one (p j && is_some q)) e ∙ both (p j)
      where
        both : (b : Bool) → one (b && true) ≡ one b
        both true = refl
        both false = refl

    away : (c : Bool) → one (c && not true) ≡ 0
    away true = refl
    away false = refl

    stays : (c : Bool) → one (c && not false) ≡ one c
    stays true = refl
    stays false = refl

    other : same_key j y.update.key ≡ false → same_key y.update.key j ≡ false
    other e = turn (same_key y.update.key j) refl
      where
        turn : (b : Bool) → same_key y.update.key j ≡ b → b ≡ false
        turn true f = let no : false ≡ true = sym e ∙ ap (λ k. same_key j k) (one_key y.update.key j f) ∙ same_itself j in cc
        turn false f = refl

    by : (b : Bool) → same_key j y.update.key ≡ b → tally p ys ≡ tally (λ k. p k && not (same_key j k)) ys + one (p j && is_some (row_held ys j))
        → one (p y.update.key) + tally p ys ≡ (one (p y.update.key && not (same_key j y.update.key)) + tally (λ k. p k && not (same_key j k)) ys) + one (p j && is_some (row_held (y ∷ ys) j))
    by true e later =
        let same = one_key j y.update.key e in
        let there = some (row_held (y ∷ ys) j) (first_held y ys j (sym same)) in
        let past = none (row_held ys j) (none_past j y ys r (sym same)) in
        let gone = ap (λ b. one (p y.update.key && not b)) e ∙ away (p y.update.key) in
        omega (arith, later, there, past, gone, ap (λ k. one (p k)) same)
    by false e later =
        let passed : row_held (y ∷ ys) j ≡ row_held ys j = ap (λ b. cond b (Some y) (row_held ys j)) (other e) in
        let kept = ap (λ b. one (p y.update.key && not b)) e ∙ stays (p y.update.key) in
        omega (arith, later, kept, ap (λ o. one (p j && is_some o)) passed)
