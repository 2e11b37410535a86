-- What a class must have is no reserved attribute.
use Rattle.std.proofs.Common.{◌≡◌, ℕ, ◌<◌, List, [], ◌∷◌, Bool, true, false, refl, ◌==◌, nat_le, ◌||◌, if◌then◌else◌, Some, cond, find, arith}
use Rattle.std.specs.Option.{option_map_or}
use Rattle.std.proofs.lemmas.Bool.{eqb-true}
use Rattle.adr_values.specs.Table.{Class, has, must_of}
use Rattle.adr_values.specs.Numbered.{numbered}
use Rattle.adr_values.specs.Schemas.{schema_1, schema_2}
use Rattle.adr_model.specs.Update.{deleted_attr}

abbrev AreAbove : List ℕ → Type 0
AreAbove ns = (attr : ℕ) → has ns attr ≡ true → deleted_attr < attr

abbrev HaveAbove : List Class → Type 0
HaveAbove [] = Unit {0}
HaveAbove (c ∷ cs) = AreAbove c.must × HaveAbove cs

none_above : AreAbove []
none_above attr h = cc

one_above : (n : ℕ) → deleted_attr < n → AreAbove (n ∷ [])
one_above n above attr h = by (n == attr) refl h
  where
    by : (b : Bool) → (n == attr) ≡ b → (b || false) ≡ true → deleted_attr < attr
    by true is e = omega (arith, above, eqb-true n attr is)
    by false is e = cc

found_above : (cs : List Class) (test : Class → Bool) → HaveAbove cs → AreAbove (option_map_or (λ (c : Class). c.must) (find test cs) [])
found_above [] test all = none_above
found_above (c ∷ cs) test all = by (test c) (found_above cs test all.1)
  where
    by : (b : Bool) → AreAbove (option_map_or (λ (x : Class). x.must) (find test cs) []) → AreAbove (option_map_or (λ (x : Class). x.must) (cond b (Some c) (find test cs)) [])
    by true rest = all.0
    by false rest = rest

first_above : HaveAbove schema_1.classes
unfolding schema_1
first_above = (none_above, (none_above, (one_above 10 (omega arith), (one_above 19 (omega arith), (one_above 10 (omega arith), tt)))))

newest_above : HaveAbove schema_2.classes
unfolding schema_2
newest_above = (none_above, (none_above, (one_above 10 (omega arith), (one_above 19 (omega arith), (one_above 10 (omega arith), (none_above, tt))))))

numbered_above : (schema : ℕ) → HaveAbove (numbered schema).classes
numbered_above schema = by (nat_le schema 1)
  where
    by : (b : Bool) → HaveAbove (if b then schema_1 else schema_2).classes
    by true = first_above
    by false = newest_above

pub must_above : (schema class attr : ℕ) → has (must_of (numbered schema) class) attr ≡ true → deleted_attr < attr
must_above schema class attr h = found_above (numbered schema).classes (λ (c : Class). c.number == class) (numbered_above schema) attr h
