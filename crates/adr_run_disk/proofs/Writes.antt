-- The writes of a log, one after another, and torn ones.
use Rattle.std.proofs.Common.{◌≡◌, ℕ, ◌+◌, ◌-◌, ◌≤◌, ◌<◌, List, [], ◌∷◌, ◌++◌, length, take, drop, map, get_or, replicate, refl, sym, ◌∙◌, ap, subst, arith, append_assoc, length-append, length-take, take-append-drop}
use Rattle.std.proofs.lemmas.List.{append-nil, replicate_more, map_more, map_push, length-replicate, map-append}
use Rattle.adr_disk.specs.Disk.{put}
use Rattle.adr_disk.proofs.Bytes.{length-put, put-put}
use Rattle.adr_disk.specs.Memory.{Write, over, torn_half, torn_write}
use Rattle.adr_run_disk.specs.Entries.{write_of}
use Rattle.adr_run_disk.specs.declared.platter.Entry.{Entry}
use Rattle.adr_disk.proofs.Writes.{over-append, grows, length-over_torn}

-- after the write at a place of a list of writes, no more bytes than after all
module _ {E : Type 0} (f : E → Write) where
  pub over_more : (s : List ℕ) (es : List E) (i : ℕ) (d : E) → i < length es → over s (map f (take (i + 1) es)) ≡ put (over s (map f (take i es))) (f (get_or es i d)).at (f (get_or es i d)).bytes
  over_more s es i d lt = ap (over s) (map_more f es i d lt) ∙ over-append (map f (take i es)) (f (get_or es i d) ∷ []) s

  fits : (s : List ℕ) (es : List E) (n : ℕ) → length (over s (map f (take n es))) ≤ length (over s (map f es))
  fits s es n =
      let parts : map f es ≡ map f (take n es) ++ map f (drop n es) = ap (map f) (sym (take-append-drop n es)) ∙ map-append f (take n es) (drop n es) in
      omega (arith, grows (map f (drop n es)) (over s (map f (take n es))), ap length (over-append (map f (take n es)) (map f (drop n es)) s), ap (λ (ws : List Write). length (over s ws)) parts)

  pub fits_more : (s : List ℕ) (es : List E) (i : ℕ) (d : E) → i < length es → length (put (over s (map f (take i es))) (f (get_or es i d)).at (f (get_or es i d)).bytes) ≤ length (over s (map f es))
  fits_more s es i d lt = omega (arith, ap length (over_more s es i d lt), fits s es (i + 1))

-- the part of the log that holds a write's bytes
part_is : (log : List ℕ) (from len : ℕ) → take (from + len - from) (drop from log) ≡ take len (drop from log)
part_is log from len = let all : from + len - from ≡ len = omega arith in ap (λ (n : ℕ). take n (drop from log)) all

abbrev part : List ℕ → Entry → List ℕ
part log e = take (e.from + e.len - e.from) (drop e.from log)

kept_fits : (log s : List ℕ) (es : List Entry) (i : ℕ) (d : Entry) → i < length es → length (put (over s (map (write_of log) (take i es))) (get_or es i d).at (part log (get_or es i d))) ≤ length (over s (map (write_of log) es))
kept_fits log s es i d lt = subst (λ (l : List ℕ). length (put (over s (map (write_of log) (take i es))) (get_or es i d).at l) ≤ length (over s (map (write_of log) es))) (sym (part_is log (get_or es i d).from (get_or es i d).len)) (fits_more (write_of log) s es i d lt)

-- what stands past the end of a list of entries
abbrev pub no_entry : Entry
no_entry = record { at = 0; from = 0; len = 0; before = 0; covered_from = 0; covered_len = 0 }

-- one more of the writes in a log, over what those before it left
module _ (log s now : List ℕ) (es : List Entry) (i : ℕ) (d : Entry) (lt : i < length es) where
  pub tear_more : now ≡ over s (map torn_write (map (write_of log) (take i es))) → put now (get_or es i d).at (torn_half (part log (get_or es i d))) ≡ over s (map torn_write (map (write_of log) (take (i + 1) es)))
  tear_more is =
      ap (λ (l : List ℕ). put now (get_or es i d).at (torn_half l)) (part_is log (get_or es i d).from (get_or es i d).len)
      ∙ ap (λ (l : List ℕ). put l (get_or es i d).at (torn_half (write_of log (get_or es i d)).bytes)) is
      ∙ sym (over-append (map torn_write (map (write_of log) (take i es))) (torn_write (write_of log (get_or es i d)) ∷ []) s)
      ∙ ap (over s) (sym (map_push torn_write (map (write_of log) (take i es)) (write_of log (get_or es i d))))
      ∙ ap (λ (ws : List Write). over s (map torn_write ws)) (sym (map_more (write_of log) es i d lt))

  pub tear_fits : now ≡ over s (map torn_write (map (write_of log) (take i es))) → length (put now (get_or es i d).at (part log (get_or es i d))) ≤ length (over s (map (write_of log) es))
  tear_fits is =
      let whole = over s (map (write_of log) (take i es)) in
      let whole_fits : length (put whole (get_or es i d).at (part log (get_or es i d))) ≤ length (over s (map (write_of log) es)) = kept_fits log s es i d lt in
      omega (
        arith,
        ap length is,
        length-over_torn (map (write_of log) (take i es)) s s refl,
        length-put now (get_or es i d).at (part log (get_or es i d)),
        length-put whole (get_or es i d).at (part log (get_or es i d)),
        whole_fits,
      )

-- a torn write as far as a place behind its half
abbrev pub filled : ℕ → ℕ → List ℕ → List ℕ
filled half place new = take half new ++ replicate (place - half) 0xC3

length-filled : (half place : ℕ) (new : List ℕ) → half ≤ length new → half ≤ place → length (filled half place new) ≡ place
length-filled half place new within past = simp (length-append, length-take, length-replicate) (omega arith)

filled_more : (half place : ℕ) (new : List ℕ) → half ≤ place → filled half place new ++ 0xC3 ∷ [] ≡ filled half (place + 1) new
filled_more half place new past =
    append_assoc (take half new) (replicate (place - half) 0xC3) (0xC3 ∷ [])
    ∙ ap (λ (l : List ℕ). take half new ++ l) (replicate_more (place - half) 0xC3)
    ∙ ap (λ (n : ℕ). take half new ++ replicate n 0xC3) (omega arith)

pub filled_start : (half : ℕ) (new : List ℕ) → filled half half new ≡ take half new
filled_start half new = let none : half - half ≡ 0 = omega arith in ap (λ (n : ℕ). take half new ++ replicate n 0xC3) none ∙ append-nil (take half new)

module _ (s new : List ℕ) (at half place : ℕ) (within : half ≤ length new) (past : half ≤ place) where
  pub put-filled : put (put s at (filled half place new)) (at + place) (0xC3 ∷ []) ≡ put s at (filled half (place + 1) new)
  put-filled =
      ap (λ (n : ℕ). put (put s at (filled half place new)) (at + n) (0xC3 ∷ [])) (sym (length-filled half place new within past))
      ∙ put-put s at (filled half place new) (0xC3 ∷ [])
      ∙ ap (put s at) (filled_more half place new past)

  pub fits_filled : place < length new → length (put (put s at (filled half place new)) (at + place) (0xC3 ∷ [])) ≤ length (put s at new)
  fits_filled lt = omega (arith, ap length put-filled, length-put s at (filled half (place + 1) new), length-put s at new, length-filled half (place + 1) new within (omega arith))
