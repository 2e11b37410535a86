-- How many objects and links there are once a row is put over a base.
use Rattle.std.proofs.Common.{◌≡◌, ℕ, ◌+◌, List, Bool, true, false, cond, ◌&&◌, ◌||◌, Option, Some, None, refl, sym, ap, ◌∙◌, is_none, is_some, arith}
use Rattle.std.specs.Option.{option_or}
use Rattle.adr_model.specs.Store.{Held, row_held}
use Rattle.adr_model.specs.Update.{Key}
use Rattle.adr_model.specs.Write.{is_link_row}
use Rattle.adr_overlay.specs.Overlay.{is_birth_row, is_counted, left_below, one, told}
use Rattle.adr_overlay.proofs.Telling.{held_told}

pub birth_counts : (k : Key) → is_birth_row k ≡ true → is_counted k ≡ true
birth_counts k is = ap (λ b. b || is_link_row k) is

pub link_counts : (k : Key) → is_link_row k ≡ true → is_counted k ≡ true
link_counts k is = by (is_birth_row k) (is_link_row k) is
  where
    by : (a b : Bool) → b ≡ true → (a || b) ≡ true
    by true b e = refl
    by false b e = e

-- a row that counts and is new, over the base and below, is one more
pub counted : (over base rows : List Held) → told over base ≡ rows → (k : Key) (counts : Bool) → (counts ≡ true → is_counted k ≡ true)
    → (was : Bool) → was ≡ is_some (row_held over k) → (is_new : Bool) → is_new ≡ (is_counted k && is_none (left_below over base k))
    → (m n count result : ℕ) → m ≡ count → n ≡ m + one (counts && is_new) → result ≡ cond was m n → result ≡ count + one (counts && is_none (row_held rows k))
counted over base rows is k counts only was there is_new below m n count result so_far more told =
    told
    ∙ by (row_held over k) was there
    ∙ ap (λ r. m + one (counts && is_none r)) (sym (held_told over base k) ∙ ap (λ hs. row_held hs k) is)
    ∙ ap (λ i. i + one (counts && is_none (row_held rows k))) so_far
  where
    nothing : (b : Bool) → one (b && false) ≡ 0
    nothing true = refl
    nothing false = refl

    new_if : (b : Bool) → (b ≡ true → is_counted k ≡ true) → (b && is_new) ≡ (b && is_none (left_below over base k))
    new_if true c = below ∙ ap (λ d. d && is_none (left_below over base k)) (c refl)
    new_if false c = refl

    by : (r : Option Held) (w : Bool) → w ≡ is_some r → cond w m n ≡ m + one (counts && is_none (option_or r (left_below over base k)))
    by None false e = more ∙ ap (λ b. m + one b) (new_if counts only)
    by None true e = cc
    by (Some h) true e = omega (arith, nothing counts)
    by (Some h) false e = cc
