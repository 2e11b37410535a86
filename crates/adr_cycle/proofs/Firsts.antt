-- The first of several refusals, taken two at a time.
use Rattle.std.proofs.Common.{◌≡◌, [], ◌∷◌, Option, ◌∙◌}
use Rattle.std.specs.Option.{option_or}
use Rattle.adr_values.specs.First.{first_of}
use Rattle.adr_model.proofs.Firsts.{first_of_one, first_of_more}

module _ {A : Type 0} where
  -- a chain of six is the first of six
  first_of_six : (a b c d e f : Option A) → option_or (option_or (option_or (option_or (option_or a b) c) d) e) f ≡ first_of (a ∷ b ∷ c ∷ d ∷ e ∷ f ∷ [])
  first_of_six a b c d e f =
      let two = option_or a b in
      let three = option_or two c in
      let four = option_or three d in
      let five = option_or four e in
      first_of_one (option_or five f) ∙ first_of_more five f [] ∙ first_of_more four e (f ∷ []) ∙ first_of_more three d (e ∷ f ∷ [])
      ∙ first_of_more two c (d ∷ e ∷ f ∷ []) ∙ first_of_more a b (c ∷ d ∷ e ∷ f ∷ [])

  -- so is a chain of calls that gave these six
  pub calls_of_six : {a b c d e f u v w x y z p q r s t : Option A} → u ≡ a → v ≡ b → w ≡ c → x ≡ d → y ≡ e → z ≡ f
      → p ≡ option_or u v → q ≡ option_or p w → r ≡ option_or q x → s ≡ option_or r y → t ≡ option_or s z → t ≡ first_of (a ∷ b ∷ c ∷ d ∷ e ∷ f ∷ [])
  calls_of_six {a} {b} {c} {d} {e} {f} one two three four five six o1 o2 o3 o4 o5 =
      rw (o5, o4, o3, o2, o1, one, two, three, four, five, six) (first_of_six a b c d e f)
