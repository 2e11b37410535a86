-- What a search answers.
use Rattle.std.specs.Prelude.{ℕ, List, Option, Some, None, Result, Ok, Err, if◌then◌else◌}
use Rattle.adr_call.specs.declared.directory.Entry.{Entry}
use Rattle.adr_filter.specs.declared.filter.Scope.{Scope}
use Rattle.adr_filter.specs.Places.{bad_place, filter_of}
use Rattle.adr_filter.specs.Tree.{Tree}
use Rattle.adr_search.specs.declared.refusal.SearchRefusal.{SearchRefusal}
use Rattle.adr_search.specs.declared.refusal.SearchRefusal.TheVariants.{BadFilter, NoBase}
use Rattle.adr_search.specs.Scopes.{found, has_base}

-- what is found, or why nothing was looked for
abbrev pub Found : Type 0
Found = Result (List (List ℕ)) SearchRefusal

abbrev pub answered : List Entry → List ℕ → Scope → List ℕ → Option Tree → Found
answered es base scope text None = Err (BadFilter (bad_place text))
answered es base scope text (Some t) = if has_base es base then Ok (found es base scope t) else Err (NoBase base)

-- what a search with a filter's text answers: a text that is no filter is refused before a base that isn't there
abbrev pub searched : List Entry → List ℕ → Scope → List ℕ → Found
searched es base scope text = answered es base scope text (filter_of text)
