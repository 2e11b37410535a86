-- True, false and undefined (after RFC 4511, section 4.5.1.7): false lies below undefined, and undefined below true.
use Rattle.std.specs.Prelude.{Bool, true, false}
use Rattle.adr_search.specs.declared.truth.Truth.{Truth}
use Rattle.adr_search.specs.declared.truth.Truth.TheVariants.{False, Undefined, True}

-- the least of both
abbrev pub both : Truth → Truth → Truth
both False b = False
both Undefined False = False
both Undefined Undefined = Undefined
both Undefined True = Undefined
both True b = b

-- the greatest of both
abbrev pub either : Truth → Truth → Truth
either True b = True
either Undefined True = True
either Undefined Undefined = Undefined
either Undefined False = Undefined
either False b = b

abbrev pub swapped : Truth → Truth
swapped False = True
swapped Undefined = Undefined
swapped True = False

abbrev pub told : Bool → Truth
told true = True
told false = False

abbrev pub is_true : Truth → Bool
is_true True = true
is_true Undefined = false
is_true False = false
