-- What a write leaves as it was.
use Rattle.std.proofs.Common.{◌≡◌, ℕ, ◌+◌, ◌≤◌, List, ◌++◌, length, take, drop, refl, sym, ◌∙◌, ap, subst, append_assoc}
use Rattle.std.proofs.lemmas.List.{take_at, drop_at, drop-take, drop-drop, take-take, length-take-le}
use Rattle.adr_disk.specs.Disk.{put, Torn}
use Rattle.adr_law_journal.specs.Areas.{window}

-- what stands before a place, and behind one, where that is the same
pub before : (at place n : ℕ) (old new : List ℕ) → place + n ≤ at → take at new ≡ take at old → window place n new ≡ window place n old
before at place n old new le same =
    let cut : (l : List ℕ) → window place n l ≡ drop place (take (place + n) (take at l)) = λ l. sym (drop-take place n l) ∙ ap (drop place) (sym (take-take (place + n) at l le)) in
    cut new ∙ ap (λ (l : List ℕ). drop place (take (place + n) l)) same ∙ sym (cut old)

pub behind : (at place n k : ℕ) (old new : List ℕ) → at + k ≡ place → drop at new ≡ drop at old → window place n new ≡ window place n old
behind at place n k old new is same =
    let cut : (l : List ℕ) → window place n l ≡ take n (drop k (drop at l)) = λ l. ap (take n) (ap (λ (p : ℕ). drop p l) (sym is) ∙ sym (drop-drop k at l)) in
    cut new ∙ ap (λ (l : List ℕ). take n (drop k l)) same ∙ sym (cut old)

module _ (at n : ℕ) (old new : List ℕ) (torn : Torn at n old new) where
  same_before : at ≤ length old → take at new ≡ take at old
  same_before within = subst (λ (k : ℕ). take k new ≡ take at old) (length-take-le at old within) torn.before

  pub torn_before : (place m : ℕ) → at ≤ length old → place + m ≤ at → window place m new ≡ window place m old
  torn_before place m within le = before at place m old new le (same_before within)

  pub torn_behind : (place m k : ℕ) → at + n + k ≡ place → window place m new ≡ window place m old
  torn_behind place m k is = behind (at + n) place m k old new is torn.after

-- what was written
pub written : (at : ℕ) (x old : List ℕ) → at ≤ length old → window at (length x) (put old at x) ≡ x
written at x old within =
    ap (λ (l : List ℕ). take (length x) (drop at l)) (append_assoc (take at old) x (drop (at + length x) old))
    ∙ ap (take (length x)) (drop_at (take at old) (x ++ drop (at + length x) old) at (length-take-le at old within)) ∙ take_at x (drop (at + length x) old) (length x) refl
