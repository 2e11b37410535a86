-- Which entries are in a scope, as relations on the parents that entries show.
use Rattle.std.specs.Prelude.{◌≡◌, ℕ, zero, suc, List, Some}
use Rattle.adr_call.specs.declared.directory.Entry.{Entry}
use Rattle.adr_filter.specs.declared.filter.Scope.{Scope}
use Rattle.adr_filter.specs.declared.filter.Scope.TheVariants.{Base, One, Sub}
use Rattle.adr_search.specs.Scopes.{up_from}

-- the base lies so many steps up
abbrev pub IsAbove : List Entry → List ℕ → ℕ → List ℕ → Type 0
IsAbove es base zero guid = guid ≡ base
IsAbove es base (suc n) guid = (up : List ℕ) × (up_from es guid ≡ Some up) × IsAbove es base n up

-- right at the base, or anywhere below it
abbrev pub IsBelow : List Entry → List ℕ → List ℕ → Type 0
IsBelow es base guid = (n : ℕ) × IsAbove es base n guid

abbrev pub IsInScope : List Entry → List ℕ → Scope → Entry → Type 0
IsInScope es base Base e = e.guid ≡ base
IsInScope es base One e = e.parent ≡ base
IsInScope es base Sub e = IsBelow es base e.guid
