-- Records that are gathered make the bytes that they make one by one.
use Rattle.std.proofs.Common.{◌≡◌, ℕ, ◌+◌, ◌<◌, List, [], ◌∷◌, ◌++◌, length, take, drop, get_or, sym, ◌∙◌, ap, arith, append_assoc, length-append, take-append-drop}
use Rattle.std.proofs.lemmas.List.{drop-drop, drop_more, drop_at, take_at, length-take-le}
use Rattle.adr_disk.specs.Disk.{put}
use Rattle.adr_law_journal.specs.Log.{open_gate}
use Rattle.adr_law_group.specs.Batch.{OneMoreRecord}

-- over the bytes behind a front
put_at : (xs ys : List ℕ) (n : ℕ) (bytes : List ℕ) → length xs ≡ n → put (xs ++ ys) n bytes ≡ (xs ++ bytes) ++ drop (length bytes) ys
put_at xs ys n bytes is =
    ap (λ (l : List ℕ). (l ++ bytes) ++ drop (n + length bytes) (xs ++ ys)) (take_at xs ys n is)
    ∙ ap (λ (l : List ℕ). (xs ++ bytes) ++ l) (sym (drop-drop (length bytes) n (xs ++ ys)) ∙ ap (drop (length bytes)) (drop_at xs ys n is))

-- over one byte, and nothing behind it
put_one : (xs ys : List ℕ) (b c n : ℕ) → length xs ≡ n → put (xs ++ b ∷ ys) n (c ∷ []) ≡ (xs ++ c ∷ []) ++ ys
put_one xs ys b c n is = put_at xs (b ∷ ys) n (c ∷ []) is

module _ (there : List ℕ) (gate : ℕ) (within : gate < length there) where
  abbrev front : List ℕ
  front = take gate there

  abbrev behind : List ℕ
  behind = drop (gate + 1) there

  long : length front ≡ gate
  long = length-take-le gate there (omega (arith, within))

  parts : there ≡ (front ++ get_or there gate 0 ∷ []) ++ behind
  parts = sym (take-append-drop gate there) ∙ ap (λ (l : List ℕ). front ++ l) (drop_more there gate 0 within) ∙ sym (append_assoc front (get_or there gate 0 ∷ []) behind)

  -- what stands there where these bytes were written and the gate before them opened
  opened : (x : List ℕ) → put (put there (gate + 1) x) gate (open_gate ∷ []) ≡ (front ++ open_gate ∷ []) ++ (x ++ drop (length x) behind)
  opened x =
      let g = get_or there gate 0 in
      let n : length (front ++ g ∷ []) ≡ gate + 1 = omega (arith, length-append front (g ∷ []), long) in
      let first : put there (gate + 1) x ≡ front ++ g ∷ (x ++ drop (length x) behind) =
      ap (λ (l : List ℕ). put l (gate + 1) x) parts ∙ put_at (front ++ g ∷ []) behind (gate + 1) x n
      ∙ append_assoc (front ++ g ∷ []) x (drop (length x) behind) ∙ append_assoc front (g ∷ []) (x ++ drop (length x) behind) in
      ap (λ (l : List ℕ). put l gate (open_gate ∷ [])) first ∙ put_one front (x ++ drop (length x) behind) g open_gate gate long

  one_more : (held written : List ℕ)
      → put (put (put (put there (gate + 1) (held ++ 0 ∷ [])) gate (open_gate ∷ [])) (gate + 1 + length held + 1) written) (gate + 1 + length held) (open_gate ∷ [])
      ≡ put (put there (gate + 1) (held ++ open_gate ∷ written)) gate (open_gate ∷ [])
  one_more held written =
      let f : List ℕ = front ++ open_gate ∷ [] in
      let rest : List ℕ = drop (length (held ++ 0 ∷ [])) behind in
      let n : length (f ++ held) ≡ gate + 1 + length held = omega (arith, length-append f held, length-append front (open_gate ∷ []), long) in
      let m : length (f ++ (held ++ 0 ∷ [])) ≡ gate + 1 + length held + 1 = omega (arith, length-append f (held ++ 0 ∷ []), length-append held (0 ∷ []), length-append front (open_gate ∷ []), long) in
      let tail : List ℕ = written ++ drop (length written) rest in
      let second : put (put (put there (gate + 1) (held ++ 0 ∷ [])) gate (open_gate ∷ [])) (gate + 1 + length held + 1) written ≡ (f ++ held) ++ 0 ∷ tail =
      ap (λ (l : List ℕ). put l (gate + 1 + length held + 1) written) (opened (held ++ 0 ∷ []) ∙ sym (append_assoc f (held ++ 0 ∷ []) rest))
      ∙ put_at (f ++ (held ++ 0 ∷ [])) rest (gate + 1 + length held + 1) written m
      ∙ append_assoc (f ++ (held ++ 0 ∷ [])) written (drop (length written) rest)
      ∙ ap (λ (l : List ℕ). l ++ tail) (sym (append_assoc f held (0 ∷ [])))
      ∙ append_assoc (f ++ held) (0 ∷ []) tail in
      let same_rest : drop (length written) rest ≡ drop (length (held ++ open_gate ∷ written)) behind =
      drop-drop (length written) (length (held ++ 0 ∷ [])) behind
      ∙ ap (λ (k : ℕ). drop k behind) (omega (arith, length-append held (0 ∷ []), length-append held (open_gate ∷ written))) in
      ap (λ (l : List ℕ). put l (gate + 1 + length held) (open_gate ∷ [])) second
      ∙ put_one (f ++ held) tail 0 open_gate (gate + 1 + length held) n
      ∙ append_assoc (f ++ held) (open_gate ∷ []) tail
      ∙ append_assoc f held (open_gate ∷ tail)
      ∙ ap (λ (l : List ℕ). f ++ (held ++ open_gate ∷ (written ++ l))) same_rest
      ∙ ap (λ (l : List ℕ). f ++ l) (sym (append_assoc held (open_gate ∷ written) (drop (length (held ++ open_gate ∷ written)) behind)))
      ∙ sym (opened (held ++ open_gate ∷ written))

pub gathered : OneMoreRecord
gathered there gate held written within = one_more there gate within held written
