-- An object that has a member for each attribute tells the attributes, where these rise.
use Rattle.std.proofs.Common.{◌≡◌, ℕ, ◌<◌, ◌≤◌, ◌^◌, Bool, true, false, cond, ◌⊎◌, inl, inr, List, [], ◌∷◌, ◌++◌, Option, Some, None, map, refl, sym, ap, ◌∙◌, arith}
use Rattle.std.specs.Prelude.{All, ◌==◌}
use Rattle.std.specs.List.{AllByRecursion, fold}
use Rattle.std.specs.List.Sorted.{IsStrictlySortedBy}
use Rattle.std.specs.Option.{option_or}
use Rattle.std.specs.Ordering.{nat_cmp}
use Rattle.std.specs.declared.cmp.Ordering.TheVariants.{Less}
use Rattle.std.proofs.lemmas.Bool.{cases_lt, eqb-true, eqb-false}
use Rattle.std.proofs.lemmas.Bool.Decides.{nat_tests}
use Rattle.std.proofs.lemmas.Cmp.{ranked}
use Rattle.std.proofs.lemmas.List.Elements.{All-head, All-tail}
use Rattle.serde_json.specs.Data.{Data, Members, no_members}
use Rattle.serde_json.specs.Find.{get_member}
use Rattle.serde_json.proofs.Views.{get_member-put, get_member-put_other}
use Rattle.adr_token.specs.Spelling.{attribute_token}
use Rattle.adr_answers.proofs.Names.{attributes_divide}
use Rattle.adr_json.specs.Text.{array_by, object_by, with_attribute}
use Rattle.adr_json.specs.Exportable.{AttributesRise}

token_same : (m n : ℕ) → m < 2 ^ 64 → n < 2 ^ 64 → attribute_token m ≡ attribute_token n → m ≡ n
token_same m n hm hn e = (attributes_divide m n [] [] hm hn refl refl (ap (λ (x : List ℕ). x ++ []) e)).0

less : (a b : ℕ) → nat_cmp a b ≡ Less → a < b
less a b is = ranked a b Less (sym is)

or_none : {A : Type 0} (o : Option A) → option_or o None ≡ o
or_none None = refl
or_none (Some x) = refl

some_same : (d e : Data) → ◌≡◌ {A = Option Data} (Some d) (Some e) → d ≡ e
some_same d e h = cc

module _ {A : Type 0} (f : A → Data) (Q : ℕ × List A → Type 0)
    (small : (x : ℕ × List A) → Q x → x.0 < 2 ^ 64)
    (same : (x y : ℕ × List A) → Q x → Q y → x.0 ≡ y.0 → array_by f x.1 ≡ array_by f y.1 → x.1 ≡ y.1) where
  -- every attribute is above a number
  abbrev Above : ℕ → List (ℕ × List A) → Type 0
  Above n xs = AllByRecursion (λ m. nat_cmp n m ≡ Less) (map (λ (x : ℕ × List A). x.0) xs)

  -- the array of an attribute
  abbrev found : ℕ → List (ℕ × List A) → Option Data
  found n [] = None
  found n (x ∷ xs) = cond (x.0 == n) (Some (array_by f x.1)) (found n xs)

  -- the member of an attribute's name
  abbrev named : ℕ → Members → Option Data
  named n ms = get_member (attribute_token n) ms

  abbrev members : Members → List (ℕ × List A) → Members
  members ms xs = fold (with_attribute f) ms xs

  none_below : (n m : ℕ) (xs : List (ℕ × List A)) → n ≤ m → Above m xs → found n xs ≡ None
  none_below n m [] le h = refl
  none_below n m (x ∷ xs) le h =
      let higher : m < x.0 = less m x.0 h.0 in
      let other : (x.0 == n) ≡ false = grind (arith, nat_tests) in
      rw other (none_below n m xs le h.1)

  here : (x : ℕ × List A) (xs : List (ℕ × List A)) → found x.0 (x ∷ xs) ≡ Some (array_by f x.1)
  here x xs = let itself : (x.0 == x.0) ≡ true = grind (arith, nat_tests) in rw itself refl

  lookup_at : (n : ℕ) (ms : Members) (x : ℕ × List A) (xs : List (ℕ × List A)) (t : Bool) → (x.0 == n) ≡ t
      → n < 2 ^ 64 → x.0 < 2 ^ 64 → Above x.0 xs
      → named n (members (with_attribute f ms x) xs) ≡ option_or (found n xs) (named n (with_attribute f ms x))
      → named n (members (with_attribute f ms x) xs) ≡ option_or (cond t (Some (array_by f x.1)) (found n xs)) (named n ms)
  lookup_at n ms x xs true is hn hx rise before =
      let at : x.0 ≡ n = eqb-true x.0 n is in
      let none : found n xs ≡ None = none_below n x.0 xs (omega arith) rise in
      let there : named n (with_attribute f ms x) ≡ Some (array_by f x.1) =
      ap (λ m. named m (with_attribute f ms x)) (sym at) ∙ get_member-put (attribute_token x.0) (array_by f x.1) ms in
      before ∙ ap (λ o. option_or o (named n (with_attribute f ms x))) none ∙ there
  lookup_at n ms x xs false is hn hx rise before =
      let other : attribute_token n ≡ attribute_token x.0 → ⊥ = λ e. eqb-false x.0 n is (token_same x.0 n hx hn (sym e)) in
      before ∙ ap (option_or (found n xs)) (get_member-put_other (attribute_token n) (attribute_token x.0) (array_by f x.1) ms other)

  lookup : (n : ℕ) (ms : Members) (xs : List (ℕ × List A)) → n < 2 ^ 64 → All Q xs → AttributesRise xs
      → named n (members ms xs) ≡ option_or (found n xs) (named n ms)
  unfolding IsStrictlySortedBy
  lookup n ms [] hn hq rise = refl
  lookup n ms (x ∷ xs) hn hq rise =
      let more = lookup n (with_attribute f ms x) xs hn (All-tail Q x xs hq) rise.1 in
      lookup_at n ms x xs (x.0 == n) refl hn (small x (All-head Q x xs hq)) rise.0 more

  -- each attribute has one array in both
  abbrev Agree : List (ℕ × List A) → List (ℕ × List A) → Type 0
  Agree xs ys = (n : ℕ) → n < 2 ^ 64 → found n xs ≡ found n ys

  -- an attribute of one list is there in the other
  not_missing : (n : ℕ) (xs ys : List (ℕ × List A)) (d : Data) → n < 2 ^ 64 → found n xs ≡ Some d → found n ys ≡ None → Agree xs ys → ⊥
  not_missing n xs ys d hn there none agree =
      let some : ◌≡◌ {A = Option Data} (Some d) None = sym there ∙ agree n hn ∙ none in
      absurd (cc)

  firsts : (x y : ℕ × List A) (ys : List (ℕ × List A)) → x.0 < y.0 → Above y.0 ys → found x.0 (y ∷ ys) ≡ None
  firsts x y ys lt h =
      let other : (y.0 == x.0) ≡ false = grind (arith, nat_tests) in
      rw other (none_below x.0 y.0 ys (omega arith) h)

  tails_at : (n : ℕ) (x y : ℕ × List A) (xs ys : List (ℕ × List A)) (t : Bool) → (x.0 == n) ≡ t → x.0 ≡ y.0 → Above x.0 xs → Above y.0 ys
      → found n (x ∷ xs) ≡ found n (y ∷ ys) → found n xs ≡ found n ys
  tails_at n x y xs ys true is at hx hy h =
      let here_too : x.0 ≡ n = eqb-true x.0 n is in
      none_below n x.0 xs (omega arith) hx ∙ sym (none_below n y.0 ys (omega arith) hy)
  tails_at n x y xs ys false is at hx hy h =
      let is_y : (y.0 == n) ≡ false = ap (λ m. m == n) (sym at) ∙ is in
      sym (ap (λ t. cond t (Some (array_by f x.1)) (found n xs)) is) ∙ h ∙ ap (λ t. cond t (Some (array_by f y.1)) (found n ys)) is_y

  firsts_at : (x y : ℕ × List A) (xs ys : List (ℕ × List A)) → x.0 < 2 ^ 64 → y.0 < 2 ^ 64 → Above x.0 xs → Above y.0 ys
      → Agree (x ∷ xs) (y ∷ ys) → x.0 ≡ y.0
  firsts_at x y xs ys hx hy rx ry agree = by (cases_lt x.0 y.0) (cases_lt y.0 x.0)
    where
      by : (x.0 < y.0) ⊎ (y.0 ≤ x.0) → (y.0 < x.0) ⊎ (x.0 ≤ y.0) → x.0 ≡ y.0
      by (inl lt) o = absurd (not_missing x.0 (x ∷ xs) (y ∷ ys) (array_by f x.1) hx (here x xs) (firsts x y ys lt ry) agree)
      by (inr le) (inl lt) =
          absurd (not_missing y.0 (y ∷ ys) (x ∷ xs) (array_by f y.1) hy (here y ys) (firsts y x xs lt rx) (λ n hn. sym (agree n hn)))
      by (inr le) (inr ge) = omega arith

  firsts_told : (x y : ℕ × List A) (xs ys : List (ℕ × List A)) → x.0 ≡ y.0 → x.0 < 2 ^ 64 → Agree (x ∷ xs) (y ∷ ys)
      → array_by f x.1 ≡ array_by f y.1
  firsts_told x y xs ys at hx agree =
      some_same (array_by f x.1) (array_by f y.1) (sym (here x xs) ∙ agree x.0 hx ∙ ap (λ n. found n (y ∷ ys)) at ∙ here y ys)

  lists_same : (xs ys : List (ℕ × List A)) → All Q xs → All Q ys → AttributesRise xs → AttributesRise ys → Agree xs ys → xs ≡ ys
  unfolding IsStrictlySortedBy
  lists_same [] [] hx hy rx ry agree = refl
  lists_same [] (y ∷ ys) hx hy rx ry agree =
      absurd (not_missing y.0 (y ∷ ys) [] (array_by f y.1) (small y (All-head Q y ys hy)) (here y ys) refl (λ n hn. sym (agree n hn)))
  lists_same (x ∷ xs) [] hx hy rx ry agree =
      absurd (not_missing x.0 (x ∷ xs) [] (array_by f x.1) (small x (All-head Q x xs hx)) (here x xs) refl agree)
  lists_same (x ∷ xs) (y ∷ ys) hx hy rx ry agree =
      let first = All-head Q x xs hx in
      let second = All-head Q y ys hy in
      let at : x.0 ≡ y.0 = firsts_at x y xs ys (small x first) (small y second) rx.0 ry.0 agree in
      let values : x.1 ≡ y.1 = same x y first second at (firsts_told x y xs ys at (small x first) agree) in
      let rest : Agree xs ys = λ n hn. tails_at n x y xs ys (x.0 == n) refl at rx.0 ry.0 (agree n hn) in
      let more : xs ≡ ys = lists_same xs ys (All-tail Q x xs hx) (All-tail Q y ys hy) rx.1 ry.1 rest in
      λ i. (at i, values i) ∷ more i

  pub attributes_same : (xs ys : List (ℕ × List A)) → All Q xs → All Q ys → AttributesRise xs → AttributesRise ys
      → object_by f xs ≡ object_by f ys → xs ≡ ys
  attributes_same xs ys hx hy rx ry h =
      let inside : members no_members xs ≡ members no_members ys = cc in
      let agree : Agree xs ys = λ n hn.
      sym (lookup n no_members xs hn hx rx ∙ or_none (found n xs)) ∙ ap (named n) inside
      ∙ (lookup n no_members ys hn hy ry ∙ or_none (found n ys)) in
      lists_same xs ys hx hy rx ry agree
