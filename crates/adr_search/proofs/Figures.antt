-- Numbers in figures only grow.
use Rattle.std.proofs.Common.{◌≡◌, ℕ, ◌+◌, ◌*◌, ◌<◌, Bool, true, false, List, [], ◌∷◌, Option, Some, None, refl, sym, arith}
use Rattle.std.proofs.lemmas.Bool.Decides.{nat_tests}
use Rattle.adr_token.specs.Gives.{◌>>=◌}
use Rattle.adr_token.specs.Numbers.{base, figure, figures_from, at_most, is_short, number_of}

-- one more figure doesn't bring a number back below the limit
behind : (hex : Bool) (limit n : ℕ) (d : Option ℕ) (go : ℕ → Option ℕ) → ((m : ℕ) → limit < m → (go m >>= at_most limit) ≡ None) → limit < n → ((d >>= λ e. go (n * base hex + e)) >>= at_most limit) ≡ None
behind hex limit n None go more h = refl
behind true limit n (Some e) go more h = more (n * 16 + e) (omega arith)
behind false limit n (Some e) go more h = more (n * 10 + e) (omega arith)

past : (limit n : ℕ) → limit < n → at_most limit n ≡ None
past limit n h = grind (arith, nat_tests)

-- a number that is past the limit stays so
pub too_large : (hex : Bool) (limit n : ℕ) (bs : List ℕ) → limit < n → (figures_from hex n bs >>= at_most limit) ≡ None
too_large hex limit n [] h = past limit n h
too_large hex limit n (b ∷ bs) h = behind hex limit n (figure hex b) (λ m. figures_from hex m bs) (λ m k. too_large hex limit m bs k) h

pub past_limit : (hex : Bool) (limit n : ℕ) (word bs : List ℕ) → is_short word ≡ true → figures_from hex n bs ≡ figures_from hex 0 word → limit < n → None ≡ number_of hex limit word
past_limit hex limit n word bs short same h = rw (short, ← same) (sym (too_large hex limit n bs h))
