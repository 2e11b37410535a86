-- Small directories, and what is found there.
use Rattle.std.specs.Prelude.{ℕ, List, [], ◌∷◌, true, Option, option_map, map, codes, pos, negsuc}
use Rattle.std.specs.Int.{w128, to_be_bytes}
use Rattle.adr_values.specs.declared.content.Value.{Value}
use Rattle.adr_values.specs.declared.content.Value.TheVariants.{Text, Number, Flag, Octets, Ref}
use Rattle.adr_call.specs.declared.directory.Entry.{Entry}
use Rattle.adr_filter.specs.declared.filter.Scope.{Scope}
use Rattle.adr_filter.specs.declared.filter.Scope.TheVariants.{Sub}
use Rattle.adr_filter.specs.Places.{filter_of}
use Rattle.adr_search.specs.declared.line.Asking.{Asking}
use Rattle.adr_search.specs.Scopes.{found}
use Rattle.adr_search.specs.Searched.{Found, searched}

abbrev pub identifier : ℕ → List ℕ
identifier n = to_be_bytes w128 n

abbrev entry : ℕ → ℕ → ℕ → List ℕ → List (ℕ × List Value) → List (ℕ × List (List ℕ)) → Entry
entry guid class parent name values links = record { guid = identifier guid; class = class; parent = identifier parent; name = name; values = values; links = links }

-- what a text finds, if it is that of a filter
abbrev pub finds : List Entry → ℕ → Scope → List ℕ → Option (List (List ℕ))
finds es base scope text = option_map (found es (identifier base) scope) (filter_of text)

-- what a text is answered
abbrev pub answers : List Entry → ℕ → Scope → List ℕ → Found
answers es base scope text = searched es (identifier base) scope text

abbrev pub asking : ℕ → Scope → List ℕ → Asking
asking base scope text = record { base = identifier base; scope = scope; text = text }

-- one person under the root
abbrev pub one_person : List Entry
one_person = entry 16 5 1 (codes "Ann") ((10, Text (codes "ann") ∷ []) ∷ []) [] ∷ []

-- a person under LostAndFound, where the parent was deleted
abbrev pub lost_person : List Entry
lost_person = entry 17 5 2 (codes "Ann") ((10, Text (codes "ann") ∷ []) ∷ []) [] ∷ []

-- two units, each under the other
abbrev pub circle : List Entry
circle = entry 16 3 17 (codes "Sales") [] [] ∷ entry 17 3 16 (codes "Staff") [] [] ∷ []

-- a unit under the root; in it a group, with a person as its member; below the person a container
abbrev pub office : List Entry
office =
    entry 16 3 1 (codes "Sales") ((12, Text (codes "Old") ∷ Text (codes "new") ∷ []) ∷ []) []
    ∷ entry 17 6 16 (codes "Staff") ((19, Number (negsuc 2147483645) ∷ []) ∷ []) ((30, identifier 18 ∷ []) ∷ [])
    ∷ entry 18 5 16 (codes "Strasse")
    ((10, Text (codes "ann") ∷ []) ∷ (15, Number (pos 7) ∷ []) ∷ (16, Flag true ∷ []) ∷ (17, Octets (1 ∷ 42 ∷ 65 ∷ []) ∷ []) ∷ (18, Ref (identifier 16) ∷ []) ∷ [])
    ((31, identifier 17 ∷ []) ∷ [])
    ∷ entry 19 4 18 (codes "Box") [] []
    ∷ []

-- what each text finds in the office from the root on
abbrev pub found_there : List (List ℕ) → List (Option (List (List ℕ)))
found_there texts = map (finds office 1 Sub) texts
