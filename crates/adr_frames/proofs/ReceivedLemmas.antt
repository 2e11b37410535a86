-- Receiving piece by piece.
use Rattle.std.proofs.Common.{◌≡◌, ℕ, ◌+◌, ◌≤◌, List, [], ◌++◌, length, take, drop, Option, Some, None, sym, ap, ◌∙◌, subst, arith, take_all, length-drop}
use Rattle.std.specs.Prelude.{IfSome}
use Rattle.std.proofs.Math.Seq.{take-add}
use Rattle.std.proofs.lemmas.List.{drop-drop, drop_all}
use Rattle.adr_outside.specs.Traffic.{Traffic}
use Rattle.adr_frames.specs.Hearing.{IsPartReceived}

abbrev pub with_left : Traffic → List ℕ → Traffic
with_left t left = record t { left = left }

pub part_none : (before after : Option Traffic) → after ≡ before → IsPartReceived before after
part_none None after same = tt
part_none (Some t) after same = (0, same)

pub part_more : (first now next : Option Traffic) → IsPartReceived first now → IsPartReceived now next → IsPartReceived first next
part_more None now next before after = tt
part_more (Some t) now next before after =
    let more = subst (λ (o : Option Traffic). IsPartReceived o next) before.1 after in
    (before.0 + more.0, more.1 ∙ ap (λ (xs : List ℕ). Some (with_left t xs)) (drop-drop more.0 before.0 t.left))

-- the bytes are the front of what was left at first, and the rest is left now
abbrev pub HasCome : Option Traffic → Option Traffic → List ℕ → Type 0
HasCome None now bytes = Unit {0}
HasCome (Some t) now bytes =
    (length bytes ≤ length t.left) × (bytes ≡ take (length bytes) t.left) × (now ≡ Some (with_left t (drop (length bytes) t.left)))

-- a piece came
abbrev pub Piece : Option Traffic → Option Traffic → List ℕ → List ℕ → ℕ → Type 0
Piece now next bytes more n = IfSome now (λ t. (n ≤ length t.left) × (next ≡ Some (with_left t (drop n t.left))) × (more ≡ bytes ++ take n t.left))

pub come_more : (first now next : Option Traffic) (bytes more : List ℕ) (n : ℕ) → HasCome first now bytes → Piece now next bytes more n
    → length more ≡ length bytes + n → HasCome first next more
come_more None now next bytes more n come piece len = tt
come_more (Some t) now next bytes more n come piece len =
    let p = subst (λ (o : Option Traffic). Piece o next bytes more n) come.2 piece in
    let room : n ≤ length (drop (length bytes) t.left) = p.0 in (
      omega (arith, length-drop (length bytes) t.left),
      p.2 ∙ ap (λ (xs : List ℕ). xs ++ take n (drop (length bytes) t.left)) come.1
          ∙ sym (take-add (length bytes) n t.left) ∙ ap (λ (m : ℕ). take m t.left) (sym len),
      p.1 ∙ ap (λ (xs : List ℕ). Some (with_left t xs)) (drop-drop n (length bytes) t.left ∙ ap (λ (m : ℕ). drop m t.left) (sym len)),
    )

pub come_part : (first now : Option Traffic) (bytes : List ℕ) → HasCome first now bytes → IsPartReceived first now
come_part None now bytes come = tt
come_part (Some t) now bytes come = (length bytes, come.2)

-- the bytes are those that were wanted at most, and so is what is left
abbrev pub Received : ℕ → Option Traffic → List ℕ → Type 0
Received most first bytes = IfSome first (λ t. bytes ≡ take most t.left)

abbrev pub Left : ℕ → Option Traffic → Option Traffic → Type 0
Left most first now = IfSome first (λ t. now ≡ Some (with_left t (drop most t.left)))

-- there are as many as were wanted
pub all_come : (first now : Option Traffic) (bytes : List ℕ) (most : ℕ) → HasCome first now bytes → length bytes ≡ most → Received most first bytes × Left most first now
all_come None now bytes most come len = (tt, tt)
all_come (Some t) now bytes most come len = (subst (λ n. bytes ≡ take n t.left) len come.1, subst (λ n. now ≡ Some (with_left t (drop n t.left))) len come.2)

-- nothing was left
none_left : (t : Traffic) (now : Option Traffic) (n : ℕ) → now ≡ Some (with_left t (drop n t.left))
    → IfSome now (λ u. u.left ≡ []) → length t.left ≤ n
none_left t now n is ended =
    let none : drop n t.left ≡ [] = subst (λ (o : Option Traffic). IfSome o (λ u. u.left ≡ [])) is ended in
    let size : length (drop n t.left) ≡ 0 = ap length none in
    omega (arith, length-drop n t.left)

pub all_ended : (first now next : Option Traffic) (bytes more : List ℕ) (n most : ℕ) → HasCome first now bytes → Piece now next bytes more n
    → length more ≡ length bytes + n → IfSome now (λ u. u.left ≡ []) → length bytes ≤ most → Received most first more × Left most first next
all_ended None now next bytes more n most come piece len ended small = (tt, tt)
all_ended (Some t) now next bytes more n most come piece len ended small =
    let all = none_left t now (length bytes) come.2 ended in
    let rest = come_more (Some t) now next bytes more n come piece len in (
      rest.1 ∙ take_all (length more) t.left (omega arith) ∙ sym (take_all most t.left (omega arith)),
      rest.2 ∙ ap (λ (xs : List ℕ). Some (with_left t xs)) (drop_all (length more) t.left (omega arith) ∙ sym (drop_all most t.left (omega arith))),
    )
