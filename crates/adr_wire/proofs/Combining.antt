-- The laws of readings made of readings: each follows from the laws of its parts.
use Rattle.std.proofs.Common.{◌≡◌, ℕ, zero, suc, ◌+◌, ◌<◌, ◌≤◌, Bool, true, false, cond, ltb, List, [], ◌∷◌, ◌++◌, length, take, drop, Option, Some, None, Result, Ok, Err, refl, sym, ap, subst, ◌∙◌, append_assoc, arith, inl, inr}
use Rattle.std.specs.List.{flat_map}
use Rattle.std.proofs.lemmas.Bool.{cases_lt, ltb-false, le-ltb}
use Rattle.std.proofs.lemmas.List.{take_at, drop_at, take-append-drop, length-append, length-take, get_or-append-add, get_or_past, get_or_append_left}
use Rattle.adr_wire.specs.Reading.{Rest, Read, Reading, ◌>>=◌, bytes_at, as_at, passing_at, where_at, then_at, gathered_at, elements_at, keyed}
use Rattle.adr_wire.specs.Spelling.{AreBytes, behind, Was, IsSpelling}
use Rattle.adr_wire.specs.Gathering.{Along}
use Rattle.adr_wire.specs.Ranges.{InTurn}

abbrev pub from : ℕ → List ℕ → Rest
from place bytes = record { place = place; bytes = bytes }

-- ---- what a step that did not fail gave

pub bind_ok : {A B : Type 0} (r : Result A ℕ) (f : A → Result B ℕ) (y : B) → (r >>= f) ≡ Ok y → (x : A) × (r ≡ Ok x) × (f x ≡ Ok y)
bind_ok (Ok x) f y e = (x, refl, e)
bind_ok (Err place) f y e = absurd (cc)

pub guard_ok : {A : Type 0} (b : Bool) (place : ℕ) (x y : A) → cond b (Err place) (Ok x) ≡ Ok y → (b ≡ false) × (x ≡ y)
guard_ok true place x y e = absurd (cc)
guard_ok false place x y e = (refl, cc)

pub passed_ok : {A : Type 0} (b : Bool) (place : ℕ) (x y : A) → cond b (Ok x) (Err place) ≡ Ok y → (b ≡ true) × (x ≡ y)
passed_ok true place x y e = (refl, cc)
passed_ok false place x y e = absurd (cc)

abbrev done : {A : Type 0} → A → Result A ℕ
done x = Ok x

pub ok_is : {A : Type 0} (x y : A) → done x ≡ done y → x ≡ y
ok_is x y e = cc

-- ---- bytes

bytes_behind : (front bytes : List ℕ) → AreBytes (front ++ bytes) → AreBytes bytes
bytes_behind front bytes h i = subst (λ (n : ℕ). n < 256) (get_or-append-add front bytes i 0) (h (length front + i))

-- what is left behind what was read are bytes
pub rest_bytes : {X : Type 0} (P : X → Type 0) (s : X → List ℕ) (place : ℕ) (bytes : List ℕ) (x : X) (rest : Rest) → Was P s place bytes x rest → AreBytes bytes → AreBytes rest.bytes
rest_bytes P s place bytes x rest was h = bytes_behind (s x) rest.bytes (subst AreBytes was.spelled_so h)

front_bytes : (front bytes : List ℕ) → AreBytes (front ++ bytes) → AreBytes front
front_bytes front bytes h i = elim (cases_lt i (length front)) [
  | inl lt ↦ subst (λ (n : ℕ). n < 256) (get_or_append_left front bytes 0 i lt) (h i)
  | inr le ↦ subst (λ (n : ℕ). n < 256) (sym (get_or_past front i 0 le)) (omega arith)
]

pub spelled_bytes : {X : Type 0} (P : X → Type 0) (s : X → List ℕ) (place : ℕ) (bytes : List ℕ) (x : X) (rest : Rest) → Was P s place bytes x rest → AreBytes bytes → AreBytes (s x)
spelled_bytes P s place bytes x rest was h = front_bytes (s x) rest.bytes (subst AreBytes was.spelled_so h)

abbrev pub HasLength : ℕ → List ℕ → Type 0
HasLength n bytes = length bytes ≡ n

abbrev pub as_they_are : List ℕ → List ℕ
as_they_are bytes = bytes

pub bytes_spelled : (n : ℕ) → IsSpelling (HasLength n) as_they_are (bytes_at n)
bytes_spelled n = record {
  again = λ place x bytes h.
      let long : ltb (length (x ++ bytes)) n ≡ false = le-ltb (length (x ++ bytes)) n (omega (arith, length-append x bytes)) in
      rw (long, take_at x bytes n h, drop_at x bytes n h) (ap (λ (k : ℕ). Ok (x, from (place + k) bytes)) (sym h));
  only = λ place bytes x rest fits e.
      let g = guard_ok (ltb (length bytes) n) place (take n bytes, from (place + n) (drop n bytes)) (x, rest) e in
      let long : n ≤ length bytes = ltb-false (length bytes) n g.0 in
      let len : length (take n bytes) ≡ n = omega (arith, length-take n bytes) in
      subst (λ (p : List ℕ × Rest). Was (HasLength n) as_they_are place bytes p.0 p.1) g.1
      (record { in_range = len; spelled_so = sym (take-append-drop n bytes); moved = ap (λ (k : ℕ). place + k) (sym len) });
}

-- ---- what is read, as another value

-- a value that is made of one in range, and spelled as that one
abbrev pub MadeOf : {A B : Type 0} (P : A → Type 0) (s : A → List ℕ) (f : A → B) (t : B → List ℕ) → B → Type 0
MadeOf {A} P s f t y = (x : A) × (y ≡ f x) × P x × (t y ≡ s x)

pub made : {A B : Type 0} (P : A → Type 0) (s : A → List ℕ) (a : Reading A) → IsSpelling P s a → (f : A → B) (Q : B → Type 0) (t : B → List ℕ)
    → ((y : B) → Q y → MadeOf P s f t y)
    → ((x : A) → P x → AreBytes (s x) → Q (f x) × (t (f x) ≡ s x))
    → IsSpelling Q t (as_at f a)
made {A} {B} P s a law f Q t out into = record {
  again = λ place y bytes q.
      let o = out y q in
      let x = o.0 in
      let read : a (from place (s x ++ bytes)) ≡ Ok (x, behind place (s x) bytes) = law.again place x bytes o.2 in
      ap (λ (spelled : List ℕ). as_at f a (from place (spelled ++ bytes))) o.3
      ∙ ap (λ (r : Read A). r >>= λ z. Ok (f z.0, z.1)) read
      ∙ ap (λ (spelled : List ℕ). Ok (f x, behind place spelled bytes)) (sym o.3)
      ∙ ap (λ (z : B). Ok (z, behind place (t y) bytes)) (sym o.1);
  only = λ place bytes y rest fits e.
      let b = bind_ok (a (from place bytes)) (λ z. Ok (f z.0, z.1)) (y, rest) e in
      let x = b.0.0 in
      let was = law.only place bytes x b.0.1 fits b.1 in
      let i = into x was.in_range (spelled_bytes P s place bytes x b.0.1 was fits) in
      let here : Was Q t place bytes (f x) b.0.1 = record {
        in_range = i.0;
        spelled_so = was.spelled_so ∙ ap (λ (spelled : List ℕ). spelled ++ b.0.1.bytes) (sym i.1);
        moved = was.moved ∙ ap (λ (spelled : List ℕ). place + length spelled) (sym i.1);
      } in
      subst (λ (p : B × Rest). Was Q t place bytes p.0 p.1) (ok_is (f x, b.0.1) (y, rest) b.2) here;
}

-- the same range, said otherwise
pub in_range_too : {A : Type 0} (P : A → Type 0) (s : A → List ℕ) (a : Reading A) → IsSpelling P s a → (Q : A → Type 0) → ((x : A) → Q x → P x) → ((x : A) → P x → Q x) → IsSpelling Q s a
in_range_too P s a law Q to back = record {
  again = λ place x bytes q. law.again place x bytes (to x q);
  only = λ place bytes x rest fits e. let was = law.only place bytes x rest fits e in record { in_range = back x was.in_range; spelled_so = was.spelled_so; moved = was.moved };
}

-- ---- only what passes a test

pub passed_at : {A : Type 0} (P : A → Type 0) (s : A → List ℕ) (a : Reading A) → IsSpelling P s a → (fault : ℕ) (test : A → Bool) → IsSpelling (λ x. P x × (test x ≡ true)) s (passing_at fault test a)
passed_at {A} P s a law fault test = record {
  again = λ place x bytes q.
      ap (λ (r : Read A). r >>= λ z. cond (test z.0) (Ok z) (Err fault)) (law.again place x bytes q.0)
      ∙ ap (λ (b : Bool). cond b (Ok (x, behind place (s x) bytes)) (Err fault)) q.1;
  only = λ place bytes x rest fits e.
      let b = bind_ok (a (from place bytes)) (λ z. cond (test z.0) (Ok z) (Err fault)) (x, rest) e in
      let g = passed_ok (test b.0.0) fault b.0 (x, rest) b.2 in
      let was = law.only place bytes b.0.0 b.0.1 fits b.1 in
      subst (λ (p : A × Rest). Was (λ z. P z × (test z ≡ true)) s place bytes p.0 p.1) g.1
      (record { in_range = (was.in_range, g.0); spelled_so = was.spelled_so; moved = was.moved });
}

-- a reading that is told its own place
pub placed : {A : Type 0} (P : A → Type 0) (s : A → List ℕ) (a : ℕ → Reading A) → ((place : ℕ) → IsSpelling P s (a place)) → IsSpelling P s (λ rest. a rest.place rest)
placed P s a laws = record {
  again = λ place x bytes q. (laws place).again place x bytes q;
  only = λ place bytes x rest fits e. (laws place).only place bytes x rest fits e;
}

pub passed : {A : Type 0} (P : A → Type 0) (s : A → List ℕ) (a : Reading A) → IsSpelling P s a → (test : A → Bool) → IsSpelling (λ x. P x × (test x ≡ true)) s (where_at test a)
passed P s a law test = placed (λ x. P x × (test x ≡ true)) s (λ place. passing_at place test a) (λ place. passed_at P s a law place test)

-- ---- one behind the other

further : (place : ℕ) (s t : List ℕ) → place + length s + length t ≡ place + length (s ++ t)
further place s t = omega (arith, length-append s t)

pub both : {A B : Type 0} (P : A → Type 0) (s : A → List ℕ) (a : Reading A) → IsSpelling P s a
    → (Q : A → B → Type 0) (t : A → B → List ℕ) (b : A → Reading B) → ((x : A) → P x → IsSpelling (Q x) (t x) (b x))
    → IsSpelling (λ p. P p.0 × Q p.0 p.1) (λ p. s p.0 ++ t p.0 p.1) (then_at a b)
both {A} {B} P s a law Q t b laws = record {
  again = λ place p bytes q.
      let x = p.0 in
      let y = p.1 in
      ap (λ (all : List ℕ). then_at a b (from place all)) (append_assoc (s x) (t x y) bytes)
      ∙ ap (λ (r : Read A). r >>= λ u. b u.0 u.1 >>= λ v. Ok ((u.0, v.0), v.1)) (law.again place x (t x y ++ bytes) q.0)
      ∙ ap (λ (r : Read B). r >>= λ v. Ok ((x, v.0), v.1)) ((laws x q.0).again (place + length (s x)) y bytes q.1)
      ∙ ap (λ (n : ℕ). Ok ((x, y), from n bytes)) (further place (s x) (t x y));
  only = λ place bytes p rest fits e.
      let first = bind_ok (a (from place bytes)) (λ u. b u.0 u.1 >>= λ v. Ok ((u.0, v.0), v.1)) (p, rest) e in
      let x = first.0.0 in
      let mid = first.0.1 in
      let second = bind_ok (b x mid) (λ v. Ok ((x, v.0), v.1)) (p, rest) first.2 in
      let y = second.0.0 in
      let end = second.0.1 in
      let was = law.only place bytes x mid fits first.1 in
      let then = (laws x was.in_range).only mid.place mid.bytes y end (rest_bytes P s place bytes x mid was fits) second.1 in
      let here : Was (λ z. P z.0 × Q z.0 z.1) (λ z. s z.0 ++ t z.0 z.1) place bytes (x, y) end = record {
        in_range = (was.in_range, then.in_range);
        spelled_so = was.spelled_so ∙ ap (λ (w : List ℕ). s x ++ w) then.spelled_so ∙ sym (append_assoc (s x) (t x y) end.bytes);
        moved = then.moved ∙ ap (λ (n : ℕ). n + length (t x y)) was.moved ∙ further place (s x) (t x y);
      } in
      subst (λ (z : (A × B) × Rest). Was (λ z. P z.0 × Q z.0 z.1) (λ z. s z.0 ++ t z.0 z.1) place bytes z.0 z.1) (ok_is ((x, y), end) (p, rest) second.2) here;
}

-- where the whole is read behind its first part, and says what that part was
pub followed : {A E : Type 0} (P : A → Type 0) (s : A → List ℕ) (a : Reading A) → IsSpelling P s a
    → (head : E → A) (R : E → Type 0) (t : E → List ℕ) (b : ℕ → A → Reading E) → ((place : ℕ) (x : A) → P x → IsSpelling (λ e. R e × (head e ≡ x)) t (b place x))
    → IsSpelling (λ e. P (head e) × R e) (λ e. s (head e) ++ t e) (λ rest. a rest >>= λ x. b rest.place x.0 x.1)
followed {A} {E} P s a law head R t b laws = record {
  again = λ place e bytes q.
      let x = head e in
      ap (λ (all : List ℕ). a (from place all) >>= λ u. b place u.0 u.1) (append_assoc (s x) (t e) bytes)
      ∙ ap (λ (r : Read A). r >>= λ u. b place u.0 u.1) (law.again place x (t e ++ bytes) q.0)
      ∙ (laws place x q.0).again (place + length (s x)) e bytes (q.1, refl)
      ∙ ap (λ (n : ℕ). Ok (e, from n bytes)) (further place (s x) (t e));
  only = λ place bytes e rest fits h.
      let first = bind_ok (a (from place bytes)) (λ u. b place u.0 u.1) (e, rest) h in
      let x = first.0.0 in
      let mid = first.0.1 in
      let was = law.only place bytes x mid fits first.1 in
      let then = (laws place x was.in_range).only mid.place mid.bytes e rest (rest_bytes P s place bytes x mid was fits) first.2 in
      let same : x ≡ head e = sym then.in_range.1 in
      record {
        in_range = (subst P same was.in_range, then.in_range.0);
        spelled_so = was.spelled_so ∙ ap (λ (w : List ℕ). s x ++ w) then.spelled_so ∙ sym (append_assoc (s x) (t e) rest.bytes) ∙ ap (λ (z : A). (s z ++ t e) ++ rest.bytes) same;
        moved = then.moved ∙ ap (λ (n : ℕ). n + length (t e)) was.moved ∙ further place (s x) (t e) ∙ ap (λ (z : A). place + length (s z ++ t e)) same;
      };
}

-- ---- a choice, and nothing

pub either : {A : Type 0} (P : A → Type 0) (s : A → List ℕ) (b : Bool) (x y : Reading A) → (b ≡ true → IsSpelling P s x) → (b ≡ false → IsSpelling P s y) → IsSpelling P s (cond b x y)
either P s true x y first second = first refl
either P s false x y first second = second refl

pub never : {A : Type 0} (P : A → Type 0) (s : A → List ℕ) (place : ℕ) → ((x : A) → P x → ⊥) → IsSpelling P s (λ rest. Err place)
never P s place none = record { again = λ at x bytes p. absurd (none x p); only = λ at bytes x rest fits e. absurd (cc) }

pub nothing : {A : Type 0} (P : A → Type 0) (s : A → List ℕ) (x : A) → P x → s x ≡ [] → ((y : A) → P y → y ≡ x) → IsSpelling P s (λ rest. Ok (x, rest))
nothing {A} P s x p e only_one = record {
  again = λ place y bytes q.
      let same = only_one y q in
      ap (λ (spelled : List ℕ). done (x, from place (spelled ++ bytes))) (ap s same ∙ e)
      ∙ ap (λ (n : ℕ). done (x, from n bytes)) (let none : place ≡ place + length (s y) = (let len = ap length (ap s same ∙ e) in omega arith) in none)
      ∙ ap (λ (z : A). done (z, behind place (s y) bytes)) (sym same);
  only = λ place bytes y rest fits h.
      let len : length (s x) ≡ 0 = ap length e in
      let here : Was P s place bytes x (from place bytes) = record { in_range = p; spelled_so = ap (λ (spelled : List ℕ). spelled ++ bytes) (sym e); moved = omega arith } in
      subst (λ (z : A × Rest). Was P s place bytes z.0 z.1) (ok_is (x, from place bytes) (y, rest) h) here;
}

-- two in a row, of which neither speaks of the other
pub pair : {A B : Type 0} (P : A → Type 0) (s : A → List ℕ) (a : Reading A) → IsSpelling P s a → (Q : B → Type 0) (t : B → List ℕ) (b : Reading B) → IsSpelling Q t b
    → IsSpelling (λ p. P p.0 × Q p.1) (λ p. s p.0 ++ t p.1) (then_at a (λ _. b))
pair P s a law Q t b other = both P s a law (λ _ y. Q y) (λ _ y. t y) (λ _. b) (λ _ _. other)

-- ---- elements with all that was read before

module _ {S E : Type 0} (step : S → E → S) (P : S → E → Type 0) (s : E → List ℕ) (element : S → Reading E) (laws : (known : S) → IsSpelling (P known) s (element known)) where
  abbrev Elements : ℕ → S → List E → Type 0
  Elements n known es = Along step P known es × (length es ≡ n)

  read_again : (n : ℕ) (known : S) (place : ℕ) (es : List E) (bytes : List ℕ) → Elements n known es → gathered_at step element n known (from place (flat_map s es ++ bytes)) ≡ Ok (es, behind place (flat_map s es) bytes)
  read_again zero known place [] bytes q = ap (λ (n : ℕ). Ok ([], from n bytes)) (omega arith)
  read_again zero known place (e ∷ es) bytes q = absurd (let h = q.1 in omega arith)
  read_again (suc n) known place [] bytes q = absurd (let h = q.1 in omega arith)
  read_again (suc n) known place (e ∷ es) bytes q =
      let len : length es ≡ n = (let h = q.1 in omega arith) in
      ap (λ (all : List ℕ). gathered_at step element (suc n) known (from place all)) (append_assoc (s e) (flat_map s es) bytes)
      ∙ ap (λ (r : Read E). r >>= λ u. gathered_at step element n (step known u.0) u.1 >>= λ v. Ok (u.0 ∷ v.0, v.1)) ((laws known).again place e (flat_map s es ++ bytes) q.0.0)
      ∙ ap (λ (r : Read (List E)). r >>= λ v. Ok (e ∷ v.0, v.1)) (read_again n (step known e) (place + length (s e)) es bytes (q.0.1, len))
      ∙ ap (λ (m : ℕ). Ok (e ∷ es, from m bytes)) (further place (s e) (flat_map s es))

  read_only : (n : ℕ) (known : S) (place : ℕ) (bytes : List ℕ) (es : List E) (rest : Rest) → AreBytes bytes → gathered_at step element n known (from place bytes) ≡ Ok (es, rest) → Was (Elements n known) (flat_map s) place bytes es rest
  read_only zero known place bytes es rest fits e =
      let here : Was (Elements zero known) (flat_map s) place bytes [] (from place bytes) = record { in_range = (tt, refl); spelled_so = refl; moved = omega arith } in
      subst (λ (p : List E × Rest). Was (Elements zero known) (flat_map s) place bytes p.0 p.1) (ok_is ([], from place bytes) (es, rest) e) here
  read_only (suc n) known place bytes es rest fits h =
      let first = bind_ok (element known (from place bytes)) (λ u. gathered_at step element n (step known u.0) u.1 >>= λ v. Ok (u.0 ∷ v.0, v.1)) (es, rest) h in
      let e = first.0.0 in
      let mid = first.0.1 in
      let second = bind_ok (gathered_at step element n (step known e) mid) (λ v. Ok (e ∷ v.0, v.1)) (es, rest) first.2 in
      let others = second.0.0 in
      let end = second.0.1 in
      let was = (laws known).only place bytes e mid fits first.1 in
      let then = read_only n (step known e) mid.place mid.bytes others end (rest_bytes (P known) s place bytes e mid was fits) second.1 in
      let here : Was (Elements (suc n) known) (flat_map s) place bytes (e ∷ others) end = record {
        in_range = ((was.in_range, then.in_range.0), ap suc then.in_range.1);
        spelled_so = was.spelled_so ∙ ap (λ (w : List ℕ). s e ++ w) then.spelled_so ∙ sym (append_assoc (s e) (flat_map s others) end.bytes);
        moved = then.moved ∙ ap (λ (m : ℕ). m + length (flat_map s others)) was.moved ∙ further place (s e) (flat_map s others);
      } in
      subst (λ (p : List E × Rest). Was (Elements (suc n) known) (flat_map s) place bytes p.0 p.1) (ok_is (e ∷ others, end) (es, rest) second.2) here

  pub gathered_spelled : (n : ℕ) (known : S) → IsSpelling (Elements n known) (flat_map s) (gathered_at step element n known)
  gathered_spelled n known = record { again = λ place es bytes q. read_again n known place es bytes q; only = λ place bytes es rest fits e. read_only n known place bytes es rest fits e }

  -- a count, and so many elements
  pub counted_too : (C : ℕ → Type 0) (c : ℕ → List ℕ) (count : Reading ℕ) → IsSpelling C c count → (known : S)
      → IsSpelling (λ es. C (length es) × Along step P known es) (λ es. c (length es) ++ flat_map s es) (as_at (λ p. p.1) (then_at count (λ n. gathered_at step element n known)))
  counted_too C c count law known =
      let pairs = both C c count law (λ n es. Along step P known es × (length es ≡ n)) (λ n es. flat_map s es) (λ n. gathered_at step element n known) (λ n h. gathered_spelled n known) in
      made (λ p. C p.0 × (Along step P known p.1 × (length p.1 ≡ p.0))) (λ p. c p.0 ++ flat_map s p.1) (then_at count (λ n. gathered_at step element n known)) pairs (λ (p : ℕ × List E). p.1)
      (λ es. C (length es) × Along step P known es) (λ es. c (length es) ++ flat_map s es)
      (λ es q. ((length es, es), refl, (q.0, (q.1, refl)), refl))
      (λ p q b. ((subst C (sym q.1.1) q.0, q.1.0), ap (λ (n : ℕ). c n ++ flat_map s p.1) q.1.1))

-- and each with the key of the one before it
pub elements_spelled : {K E : Type 0} (key : E → K) (P : Option K → E → Type 0) (s : E → List ℕ) (element : Option K → Reading E) → ((last : Option K) → IsSpelling (P last) s (element last))
    → (n : ℕ) (last : Option K) → IsSpelling (λ es. InTurn key P last es × (length es ≡ n)) (flat_map s) (elements_at key element n last)
elements_spelled key P s element laws = gathered_spelled (keyed key) P s element laws

pub counted : {K E : Type 0} (key : E → K) (P : Option K → E → Type 0) (s : E → List ℕ) (element : Option K → Reading E) → ((last : Option K) → IsSpelling (P last) s (element last))
    → (C : ℕ → Type 0) (c : ℕ → List ℕ) (count : Reading ℕ) → IsSpelling C c count
    → IsSpelling (λ es. C (length es) × InTurn key P None es) (λ es. c (length es) ++ flat_map s es) (as_at (λ p. p.1) (then_at count (λ n. elements_at key element n None)))
counted key P s element laws C c count law = counted_too (keyed key) P s element laws C c count law None

-- what holds of each element that was read, however it is spelled
pub each_read : {K E : Type 0} (key : E → K) (element : Option K → Reading E) (P : Option K → E → Type 0) → ((last : Option K) (rest after : Rest) (e : E) → element last rest ≡ Ok (e, after) → P last e)
    → (n : ℕ) (last : Option K) (rest after : Rest) (es : List E) → elements_at key element n last rest ≡ Ok (es, after) → InTurn key P last es × (length es ≡ n)
each_read key element P holds zero last rest after es h = subst (λ (p : List _ × Rest). InTurn key P last p.0 × (length p.0 ≡ 0)) (ok_is ([], rest) (es, after) h) (tt, refl)
each_read {K} {E} key element P holds (suc n) last rest after es h =
    let first = bind_ok (element last rest) (λ u. elements_at key element n (Some (key u.0)) u.1 >>= λ v. Ok (u.0 ∷ v.0, v.1)) (es, after) h in
    let second = bind_ok (elements_at key element n (Some (key first.0.0)) first.0.1) (λ v. Ok (first.0.0 ∷ v.0, v.1)) (es, after) first.2 in
    let later = each_read key element P holds n (Some (key first.0.0)) first.0.1 second.0.1 second.0.0 second.1 in
    subst (λ (p : List E × Rest). InTurn key P last p.0 × (length p.0 ≡ suc n)) (ok_is (first.0.0 ∷ second.0.0, second.0.1) (es, after) second.2)
    ((holds last rest first.0.1 first.0.0 first.1, later.0), ap suc later.1)
