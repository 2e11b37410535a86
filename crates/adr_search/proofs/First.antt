-- The first place of a piece is enough: what stands behind it has whatever stands behind a later one.
use Rattle.std.proofs.Common.{◌≡◌, ℕ, get_or, zero, suc, ◌+◌, ◌-◌, ◌<◌, List, [], ◌∷◌, length, drop, Bool, true, false, cond, ◌&&◌, ◌||◌, Option, Some, None, refl, sym, ap, ◌∙◌, subst, arith, length-drop}
use Rattle.std.specs.Prelude.{nat_eq}
use Rattle.std.proofs.lemmas.List.{drop_more}
use Rattle.std.specs.List.{ends_with}
use Rattle.std.specs.Cmp.Lexicographic.{pointwise}
use Rattle.std.specs.Option.{option_map_or}
use Rattle.adr_search.specs.Behind.{behind}
use Rattle.adr_search.specs.Pieces.{begins_with, somewhere, in_turn}

-- what holds of bytes holds of them behind a further one
abbrev pub IsKept : (List ℕ → Bool) → Type 0
IsKept test = (b : ℕ) (bs : List ℕ) → test bs ≡ true → test (b ∷ bs) ≡ true

earlier : (test : List ℕ → Bool) → IsKept test → (n : ℕ) (bs : List ℕ) → test (drop (suc n) bs) ≡ true → test (drop n bs) ≡ true
earlier test kept zero [] h = h
earlier test kept zero (b ∷ bs) h = kept b bs h
earlier test kept (suc n) [] h = h
earlier test kept (suc n) (b ∷ bs) h = earlier test kept n bs h

or_true : (a b : Bool) → b ≡ true → (a || b) ≡ true
or_true true b h = refl
or_true false b h = h

-- behind a later place it holds too, at the first
later : (piece : List ℕ) (test : List ℕ → Bool) → IsKept test → (b : ℕ) (bs : List ℕ) → somewhere piece test bs ≡ true → test (drop (length piece) (b ∷ bs)) ≡ true
later piece test kept b [] h = by (begins_with piece []) h
  where
    by : (is : Bool) → (is && test (drop (length piece) [])) ≡ true → test (drop (length piece) (b ∷ [])) ≡ true
    by true t = earlier test kept (length piece) (b ∷ []) t
    by false t = cc
later piece test kept b (c ∷ cs) h = by (later piece test kept c cs) (begins_with piece (c ∷ cs)) (test (drop (length piece) (c ∷ cs))) refl h
  where
    up : test (drop (length piece) (c ∷ cs)) ≡ true → test (drop (length piece) (b ∷ c ∷ cs)) ≡ true
    up t = earlier test kept (length piece) (b ∷ c ∷ cs) t

    by : (somewhere piece test cs ≡ true → test (drop (length piece) (c ∷ cs)) ≡ true) → (is there : Bool) → test (drop (length piece) (c ∷ cs)) ≡ there → ((is && there) || somewhere piece test cs) ≡ true → test (drop (length piece) (b ∷ c ∷ cs)) ≡ true
    by further true true e t = up e
    by further true false e t = up (further t)
    by further false there e t = up (further t)

or_none : (a b : Bool) → (b ≡ true → a ≡ true) → (a || b) ≡ a
or_none true b h = refl
or_none false true h = let no : false ≡ true = h refl in cc
or_none false false h = refl

pub first_is_enough : (piece : List ℕ) (test : List ℕ → Bool) → IsKept test → (bs : List ℕ) → somewhere piece test bs ≡ option_map_or test (behind piece bs) false
first_is_enough piece test kept [] = by (begins_with piece [])
  where
    by : (is : Bool) → (is && test (drop (length piece) [])) ≡ option_map_or test (cond is (Some (drop (length piece) [])) None) false
    by true = refl
    by false = refl
first_is_enough piece test kept (b ∷ bs) = by (begins_with piece (b ∷ bs)) (first_is_enough piece test kept bs)
  where
    by : (is : Bool) → somewhere piece test bs ≡ option_map_or test (behind piece bs) false
        → ((is && test (drop (length piece) (b ∷ bs))) || somewhere piece test bs) ≡ option_map_or test (cond is (Some (drop (length piece) (b ∷ bs))) (behind piece bs)) false
    by true rest = or_none (test (drop (length piece) (b ∷ bs))) (somewhere piece test bs) (later piece test kept b bs)
    by false rest = rest

same_length : (xs ys : List ℕ) → pointwise nat_eq xs ys ≡ true → length xs ≡ length ys
same_length [] [] h = refl
same_length [] (y ∷ ys) h = cc
same_length (x ∷ xs) [] h = cc
same_length (x ∷ xs) (y ∷ ys) h = by (same_length xs ys) (nat_eq x y) h
  where
    by : (pointwise nat_eq xs ys ≡ true → length xs ≡ length ys) → (is : Bool) → (is && pointwise nat_eq xs ys) ≡ true → suc (length xs) ≡ suc (length ys)
    by rest true t = ap suc (rest t)
    by rest false t = cc

ends_kept : (last : List ℕ) → IsKept (λ bs. ends_with nat_eq bs last)
ends_kept last b bs h =
    let long = same_length last (drop (length bs - length last) bs) h in
    let left = length-drop (length bs - length last) bs in
    let more : suc (length bs) - length last ≡ suc (length bs - length last) = omega arith in
    rw more h

turns_kept : (pieces : List (List ℕ)) (last : List ℕ) → IsKept (in_turn pieces last)
turns_kept [] last b bs h = ends_kept last b bs h
turns_kept (piece ∷ pieces) last b bs h = or_true (begins_with piece (b ∷ bs) && in_turn pieces last (drop (length piece) (b ∷ bs))) (somewhere piece (in_turn pieces last) bs) h

pub one_turn : (piece : List ℕ) (pieces : List (List ℕ)) (last bs : List ℕ) → in_turn (piece ∷ pieces) last bs ≡ option_map_or (in_turn pieces last) (behind piece bs) false
one_turn piece pieces last bs = first_is_enough piece (in_turn pieces last) (turns_kept pieces last) bs

-- ---- the loops

pub passed : (piece bs : List ℕ) (i : ℕ) → i < length bs → begins_with piece (drop i bs) ≡ false → behind piece (drop (i + 1) bs) ≡ behind piece (drop i bs)
passed piece bs i lt isnt =
    let e : drop i bs ≡ get_or bs i 0 ∷ drop (i + 1) bs = drop_more bs i 0 lt in
    sym (ap (behind piece) e ∙ ap (λ (b : Bool). cond b (Some (drop (length piece) (get_or bs i 0 ∷ drop (i + 1) bs))) (behind piece (drop (i + 1) bs))) (subst (λ (x : List ℕ). begins_with piece x ≡ false) e isnt))

pub here : (piece bs : List ℕ) (i : ℕ) → i < length bs → begins_with piece (drop i bs) ≡ true → behind piece (drop i bs) ≡ Some (drop (length piece) (drop i bs))
here piece bs i lt is =
    let e : drop i bs ≡ get_or bs i 0 ∷ drop (i + 1) bs = drop_more bs i 0 lt in
    ap (behind piece) e
    ∙ ap (λ (b : Bool). cond b (Some (drop (length piece) (get_or bs i 0 ∷ drop (i + 1) bs))) (behind piece (drop (i + 1) bs))) (subst (λ (x : List ℕ). begins_with piece x ≡ true) e is)
    ∙ ap (λ (x : List ℕ). Some (drop (length piece) x)) (sym e)

turn : (pieces : List (List ℕ)) (last rest p : List ℕ) (i : ℕ) → i < length pieces → p ≡ get_or pieces i p → in_turn (drop i pieces) last rest ≡ option_map_or (in_turn (drop (i + 1) pieces) last) (behind p rest) false
turn pieces last rest p i lt is =
    let e : drop i pieces ≡ p ∷ drop (i + 1) pieces = drop_more pieces i p lt ∙ ap (λ (q : List ℕ). q ∷ drop (i + 1) pieces) (sym is) in
    ap (λ (ps : List (List ℕ)). in_turn ps last rest) e ∙ one_turn p (drop (i + 1) pieces) last rest

pub turned : (pieces : List (List ℕ)) (last rest p further : List ℕ) (i : ℕ) → i < length pieces → p ≡ get_or pieces i p → behind p rest ≡ Some further → in_turn (drop (i + 1) pieces) last further ≡ in_turn (drop i pieces) last rest
turned pieces last rest p further i lt is found = sym (turn pieces last rest p i lt is ∙ ap (λ (o : Option (List ℕ)). option_map_or (in_turn (drop (i + 1) pieces) last) o false) found)

pub stuck : (pieces : List (List ℕ)) (last rest p : List ℕ) (i : ℕ) → i < length pieces → p ≡ get_or pieces i p → behind p rest ≡ None → false ≡ in_turn (drop i pieces) last rest
stuck pieces last rest p i lt is none = sym (turn pieces last rest p i lt is ∙ ap (λ (o : Option (List ℕ)). option_map_or (in_turn (drop (i + 1) pieces) last) o false) none)
