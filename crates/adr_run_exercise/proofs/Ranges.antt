-- One more round, and what is made of one number more.
use Rattle.std.proofs.Common.{◌≡◌, ℕ, ◌+◌, List, [], ◌∷◌, ◌++◌, map, refl, sym, ap, ◌∙◌, add-one, append_assoc, arith}
use Rattle.std.specs.List.{range_with_len, flat_map}
use Rattle.std.proofs.lemmas.List.{map-id, append-nil}
use Rattle.std.proofs.lemmas.List.Concat.{flat_map-append}
use Rattle.std.proofs.lemmas.List.FromFn.{map-range_with_len_more}
use Rattle.adr_call.specs.declared.event.Event.{Event}
use Rattle.adr_run_exercise.specs.Generated.{round, rounds}

rounds_more : (n : ℕ) → rounds (n + 1) ≡ rounds n ++ round
unfolding rounds
rounds_more n = rw add-one refl

-- one more round stands at the end
pub grown_by_round : (n : ℕ) (start before after : List Event) → before ≡ start ++ rounds n → after ≡ before ++ round → after ≡ start ++ rounds (n + 1)
grown_by_round n start before after b a =
    a ∙ ap (λ xs. xs ++ round) b ∙ append_assoc start (rounds n) round ∙ ap (λ xs. start ++ xs) (sym (rounds_more n))

range_more : (k : ℕ) → range_with_len 0 (k + 1) ≡ range_with_len 0 k ++ k ∷ []
range_more k = sym (map-id (range_with_len 0 (k + 1))) ∙ map-range_with_len_more (λ (x : ℕ). x) 0 k k (omega arith) ∙ ap (λ xs. xs ++ k ∷ []) (map-id (range_with_len 0 k))

flat_map_more : {A : Type 0} (f : ℕ → List A) (k : ℕ) → flat_map f (range_with_len 0 (k + 1)) ≡ flat_map f (range_with_len 0 k) ++ f k
flat_map_more f k =
    ap (flat_map f) (range_more k) ∙ flat_map-append f (range_with_len 0 k) (k ∷ []) ∙ ap (λ xs. flat_map f (range_with_len 0 k) ++ xs) (append-nil (f k))

-- what is made of one number more stands at the end
pub grown : {A : Type 0} (f : ℕ → List A) (k : ℕ) (start before after : List A) → before ≡ start ++ flat_map f (range_with_len 0 k) → after ≡ before ++ f k
    → after ≡ start ++ flat_map f (range_with_len 0 (k + 1))
grown f k start before after b a =
    a ∙ ap (λ xs. xs ++ f k) b ∙ append_assoc start (flat_map f (range_with_len 0 k)) (f k) ∙ ap (λ xs. start ++ xs) (sym (flat_map_more f k))

pub grown_by_one : {A : Type 0} (f : ℕ → A) (k : ℕ) (start before after : List A) → before ≡ start ++ map f (range_with_len 0 k) → after ≡ before ++ f k ∷ []
    → after ≡ start ++ map f (range_with_len 0 (k + 1))
grown_by_one f k start before after b a =
    a ∙ ap (λ xs. xs ++ f k ∷ []) b ∙ append_assoc start (map f (range_with_len 0 k)) (f k ∷ [])
    ∙ ap (λ xs. start ++ xs) (sym (map-range_with_len_more f 0 k k (omega arith)))
