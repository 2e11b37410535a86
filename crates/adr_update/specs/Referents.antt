-- What references refer to.
use Rattle.std.specs.Prelude.{List, map}
use denote.Ref.{Bor}

abbrev pub referents : {A : Type 0} → List (Bor A) → List A
referents xs = map (λ x. x.now) xs
