-- The lines of answers, written piece by piece.
use Rattle.std.proofs.Common.{◌≡◌, ◌<◌, List, [], ◌∷◌, ℕ, suc, ◌+◌, ◌++◌, Option, drop, drop-cons, get_or, length, take, sym, ap, ◌∙◌, subst, arith}
use Rattle.std.specs.Prelude.{flat_map}
use Rattle.std.proofs.lemmas.Grind.{flat_map-append}
use Rattle.std.proofs.lemmas.List.{append-nil, take_more}
use Rattle.adr_call.specs.declared.answer.Answer.{Answer}
use Rattle.adr_io.specs.Told.{Adds, AddsFront}
use Rattle.adr_answers.specs.Line.{line}
use Rattle.adr_answers.proofs.Due.{Remains, all_remains, rest_remains, adds_more, front_remains, less_remains}

module _ (first now next : Option (List ℕ)) (told more : List Answer) (so_far : Adds first now (flat_map line told)) where
  -- the lines of more answers are written
  pub lines_more : Adds now next (flat_map line more) → Adds first next (flat_map line (told ++ more))
  lines_more added = subst (λ (bytes : List ℕ). Adds first next bytes) (sym (flat_map-append line told more)) (adds_more first now next (flat_map line told) (flat_map line more) so_far added)

  -- or a front of them
  pub lines_front : AddsFront now next (flat_map line more) → AddsFront first next (flat_map line (told ++ more))
  lines_front front =
      let none : flat_map line told ++ (flat_map line more ++ []) ≡ flat_map line (told ++ more) = ap (λ (bytes : List ℕ). flat_map line told ++ bytes) (append-nil (flat_map line more)) ∙ sym (flat_map-append line told more) in
      front_remains first now next (flat_map line (told ++ more)) (flat_map line more) []
      (rest_remains first now (flat_map line (told ++ more)) (flat_map line told) (flat_map line more ++ []) so_far none) front

-- a front of the lines of some answers is one of those that begin with them
pub lines_begin : (first next : Option (List ℕ)) (all some rest : List Answer) → all ≡ some ++ rest → AddsFront first next (flat_map line some) → AddsFront first next (flat_map line all)
lines_begin first next all some rest is front =
    let lines : flat_map line some ++ flat_map line rest ≡ flat_map line all = sym (ap (λ (list : List Answer). flat_map line list) is ∙ flat_map-append line some rest) in
    front_remains first first next (flat_map line all) (flat_map line some) (flat_map line rest)
    (subst (λ (bytes : List ℕ). Remains first first (flat_map line all) bytes) (sym lines) (all_remains first (flat_map line all))) front

-- the line of the next answer
module _ (first now next : Option (List ℕ)) (answers : List Answer) (i : ℕ) (a : Answer) (inside : i < length answers) (is : a ≡ get_or answers i a)
    (so_far : Remains first now (flat_map line answers) (flat_map line (drop i answers))) where
  due_next : Remains first now (flat_map line answers) (line a ++ flat_map line (drop (suc i) answers))
  due_next =
      let here : drop i answers ≡ a ∷ drop (suc i) answers = drop-cons answers i a inside ∙ ap (λ (x : Answer). x ∷ drop (suc i) answers) (sym is) in
      subst (λ (list : List Answer). Remains first now (flat_map line answers) (flat_map line list)) here so_far

  pub line_front : AddsFront now next (line a) → AddsFront first next (flat_map line answers)
  line_front added = front_remains first now next (flat_map line answers) (line a) (flat_map line (drop (suc i) answers)) due_next added

  pub line_due : Adds now next (line a) → Remains first next (flat_map line answers) (flat_map line (drop (i + 1) answers))
  line_due added =
      let same : suc i ≡ i + 1 = omega arith in
      subst (λ (k : ℕ). Remains first next (flat_map line answers) (flat_map line (drop k answers))) same
      (less_remains first now next (flat_map line answers) (line a) (flat_map line (drop (suc i) answers)) due_next added)

-- the lines so far, and that of the next answer
pub line_more : (first now next : Option (List ℕ)) (answers : List Answer) (i : ℕ) (a : Answer) → i < length answers → a ≡ get_or answers i a → Adds first now (flat_map line (take i answers)) → Adds now next (line a)
    → Adds first next (flat_map line (take (i + 1) answers))
line_more first now next answers i a inside is told added =
    let here : take (i + 1) answers ≡ take i answers ++ (a ∷ []) = take_more answers i a inside ∙ ap (λ (x : Answer). take i answers ++ (x ∷ [])) (sym is) in
    subst (λ (list : List Answer). Adds first next (flat_map line list)) (sym here)
    (lines_more first now next (take i answers) (a ∷ []) told (subst (λ (bytes : List ℕ). Adds now next bytes) (sym (append-nil (line a))) added))
