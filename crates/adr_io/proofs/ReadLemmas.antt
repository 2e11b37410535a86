-- Reading a source piece by piece.
use Rattle.std.proofs.Common.{◌≡◌, ℕ, ◌+◌, ◌≤◌, List, [], ◌++◌, length, take, drop, Option, Some, None, sym, ap, ◌∙◌, subst, arith, take_all, length-drop}
use Rattle.std.specs.Prelude.{IfSome}
use Rattle.std.proofs.Math.Seq.{take-add}
use Rattle.std.proofs.lemmas.List.{drop-drop, drop_all}

-- the bytes are the front of what was told at first, and the rest is told now
abbrev pub HasRead : Option (List ℕ) → Option (List ℕ) → List ℕ → Type 0
HasRead None now bytes = Unit {0}
HasRead (Some text) now bytes = (length bytes ≤ length text) × (bytes ≡ take (length bytes) text) × (now ≡ Some (drop (length bytes) text))

-- a piece was read
abbrev pub Piece : Option (List ℕ) → Option (List ℕ) → List ℕ → List ℕ → ℕ → Type 0
Piece now next bytes bytes' n = IfSome now (λ before. (n ≤ length before) × (next ≡ Some (drop n before)) × (bytes' ≡ bytes ++ take n before))

pub read_more : (first now next : Option (List ℕ)) (bytes bytes' : List ℕ) (n : ℕ) → HasRead first now bytes → Piece now next bytes bytes' n → length bytes' ≡ length bytes + n → HasRead first next bytes'
read_more None now next bytes bytes' n told piece len = tt
read_more (Some text) now next bytes bytes' n told piece len =
    let p = subst (λ (o : Option (List ℕ)). IfSome o (λ before. (n ≤ length before) × (next ≡ Some (drop n before)) × (bytes' ≡ bytes ++ take n before))) told.2 piece in
    let room : n ≤ length (drop (length bytes) text) = p.0 in (
      omega (arith, length-drop (length bytes) text),
      p.2 ∙ ap (λ (xs : List ℕ). xs ++ take n (drop (length bytes) text)) told.1 ∙ sym (take-add (length bytes) n text) ∙ ap (λ (m : ℕ). take m text) (sym len),
      p.1 ∙ ap Some (drop-drop n (length bytes) text ∙ ap (λ (m : ℕ). drop m text) (sym len)),
    )

-- there are as many as are wanted at most
pub read_most : (first now : Option (List ℕ)) (bytes : List ℕ) (most : ℕ) → HasRead first now bytes → length bytes ≡ most → IfSome first (λ text. bytes ≡ take most text)
read_most None now bytes most told len = tt
read_most (Some text) now bytes most told len = subst (λ k. bytes ≡ take k text) len told.1

pub left_most : (first now : Option (List ℕ)) (bytes : List ℕ) (most : ℕ) → HasRead first now bytes → length bytes ≡ most → IfSome first (λ text. now ≡ Some (drop most text))
left_most None now bytes most told len = tt
left_most (Some text) now bytes most told len = subst (λ k. now ≡ Some (drop k text)) len told.2

-- nothing was left
none_left : (text : List ℕ) (now : Option (List ℕ)) (n : ℕ) → now ≡ Some (drop n text) → IfSome now (λ before. before ≡ []) → length text ≤ n
none_left text now n is ended =
    let none : drop n text ≡ [] = subst (λ (o : Option (List ℕ)). IfSome o (λ before. before ≡ [])) is ended in
    let size : length (drop n text) ≡ 0 = ap length none in omega (arith, length-drop n text)

pub read_ended : (first now next : Option (List ℕ)) (bytes bytes' : List ℕ) (n most : ℕ) → HasRead first now bytes → Piece now next bytes bytes' n → length bytes' ≡ length bytes + n
    → IfSome now (λ before. before ≡ []) → length bytes ≤ most → IfSome first (λ text. bytes' ≡ take most text)
read_ended None now next bytes bytes' n most told piece len ended small = tt
read_ended (Some text) now next bytes bytes' n most told piece len ended small =
    let all = none_left text now (length bytes) told.2 ended in
    let more = read_more (Some text) now next bytes bytes' n told piece len in
    more.1 ∙ take_all (length bytes') text (omega arith) ∙ sym (take_all most text (omega arith))

pub left_ended : (first now next : Option (List ℕ)) (bytes bytes' : List ℕ) (n most : ℕ) → HasRead first now bytes → Piece now next bytes bytes' n → length bytes' ≡ length bytes + n
    → IfSome now (λ before. before ≡ []) → length bytes ≤ most → IfSome first (λ text. next ≡ Some (drop most text))
left_ended None now next bytes bytes' n most told piece len ended small = tt
left_ended (Some text) now next bytes bytes' n most told piece len ended small =
    let all = none_left text now (length bytes) told.2 ended in
    let more = read_more (Some text) now next bytes bytes' n told piece len in
    more.2 ∙ ap Some (drop_all (length bytes') text (omega arith) ∙ sym (drop_all most text (omega arith)))

-- no more is gone than there was room for
abbrev pub GoneAtMost : ℕ → Option (List ℕ) → Option (List ℕ) → Type 0
GoneAtMost most first now = IfSome first (λ text. (n : ℕ) × (n ≤ most) × (now ≡ Some (drop n text)))

pub gone_so_far : (first now : Option (List ℕ)) (bytes : List ℕ) (most : ℕ) → HasRead first now bytes → length bytes ≤ most → GoneAtMost most first now
gone_so_far None now bytes most told small = tt
gone_so_far (Some text) now bytes most told small = (length bytes, small, told.2)

pub gone_more : (first now next : Option (List ℕ)) (bytes : List ℕ) (room most : ℕ) → HasRead first now bytes → GoneAtMost room now next → length bytes + room ≤ most → GoneAtMost most first next
gone_more None now next bytes room most told gone small = tt
gone_more (Some text) now next bytes room most told gone small =
    let p = subst (λ (o : Option (List ℕ)). IfSome o (λ before. (n : ℕ) × (n ≤ room) × (next ≡ Some (drop n before)))) told.2 gone in
    let few : p.0 ≤ room = p.1 in (length bytes + p.0, omega arith, p.2 ∙ ap Some (drop-drop p.0 (length bytes) text))
