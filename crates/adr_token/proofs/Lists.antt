-- What a search finds passes its test, what each element of the list passes, what a loop over a list adds, and where it stops.
use Rattle.std.proofs.Common.{◌≡◌, ℕ, ◌+◌, ◌<◌, ◌≤◌, Bool, true, false, cond, List, [], ◌∷◌, ◌++◌, length, get_or, take, Option, Some, None, refl, sym, ap, ◌∙◌, subst, add-one, take-suc, arith, drop}
use Rattle.std.specs.List.{list_all, find, flat_map, position_or_len}
use Rattle.std.specs.Option.{option_map}
use Rattle.std.proofs.lemmas.Bool.{and_from, and_parts}
use Rattle.std.proofs.lemmas.List.{flat_map_more, at_drop_more, take_all}

-- what passes a test passes a weaker one
pub all_more : {A : Type 0} (p q : A → Bool) → ((x : A) → p x ≡ true → q x ≡ true) → (xs : List A) → list_all p xs ≡ true → list_all q xs ≡ true
all_more p q more [] h = refl
all_more p q more (x ∷ xs) h =
    let parts = and_parts (p x) (list_all p xs) h in
    and_from (q x) (list_all q xs) (more x parts.0) (all_more p q more xs parts.1)

found_by : {A : Type 0} (test q : A → Bool) (y x : A) (o : Option A) (t : Bool) → test y ≡ t → q y ≡ true → (o ≡ Some x → (test x ≡ true) × (q x ≡ true)) → cond t (Some y) o ≡ Some x → (test x ≡ true) × (q x ≡ true)
found_by test q y x o true e h more f =
    let same : y ≡ x = cc in
    (subst (λ z. test z ≡ true) same e, subst (λ z. q z ≡ true) same h)
found_by test q y x o false e h more f = more f

pub found : {A : Type 0} (test q : A → Bool) (xs : List A) (x : A) → list_all q xs ≡ true → find test xs ≡ Some x → (test x ≡ true) × (q x ≡ true)
found test q [] x h e = absurd (cc)
found test q (y ∷ ys) x h e =
    let parts = and_parts (q y) (list_all q ys) h in
    found_by test q y x (find test ys) (test y) refl parts.0 (found test q ys x parts.1) e

pub mapped : {A B : Type 0} (f : A → B) (o : Option A) (y : B) → option_map f o ≡ Some y → (x : A) × (o ≡ Some x) × (f x ≡ y)
mapped f None y e = absurd (cc)
mapped f (Some x) y e =
    let same : f x ≡ y = cc in
    (x, refl, same)

-- what the elements up to one add, and then what that one adds
pub added : {X A : Type 0} (f : X → List A) (front now next : List A) (xs : List X) (i : ℕ) (d x : X) → i < length xs → x ≡ get_or xs i d → now ≡ front ++ flat_map f (take i xs) → next ≡ now ++ f x → next ≡ front ++ flat_map f (take (i + 1) xs)
added f front now next xs i d x h e before step = step ∙ ap (λ out. out ++ f x) before ∙ flat_map_more f front (take i xs) x ∙ ap (λ ys. front ++ flat_map f ys) (rw e (sym (ap (λ n. take n xs) (add-one i) ∙ take-suc xs i d h)))

-- what all elements add
pub all_added : {X A : Type 0} (f : X → List A) (front now : List A) (xs : List X) (i : ℕ) → length xs ≤ i → now ≡ front ++ flat_map f (take i xs) → now ≡ front ++ flat_map f xs
all_added {X} f front now xs i past before = before ∙ ap (λ (ys : List X). front ++ flat_map f ys) (take_all i xs past)

-- the first element that passes, where none before it does
pub first_here : {X : Type 0} (p : X → Bool) (xs : List X) (i : ℕ) (d : X) → i < length xs → p (get_or xs i d) ≡ true → position_or_len p xs ≡ i + position_or_len p (drop i xs) → i ≡ position_or_len p xs
first_here p xs i d h e before =
    let here : position_or_len p (drop i xs) ≡ 0 = at_drop_more (position_or_len p) xs i d h ∙ rw e refl in
    omega arith

-- one that doesn't pass is gone past
pub first_later : {X : Type 0} (p : X → Bool) (xs : List X) (i : ℕ) (d : X) → i < length xs → p (get_or xs i d) ≡ false → position_or_len p xs ≡ i + position_or_len p (drop i xs) → position_or_len p xs ≡ i + 1 + position_or_len p (drop (i + 1) xs)
first_later p xs i d h e before =
    let later : position_or_len p (drop i xs) ≡ 1 + position_or_len p (drop (i + 1) xs) = at_drop_more (position_or_len p) xs i d h ∙ rw e refl in
    omega arith
