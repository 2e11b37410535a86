-- What is chosen by a filter that was read is what is found by the filter.
use Rattle.std.proofs.Common.{◌≡◌, ℕ, List, [], ◌∷◌, Bool, true, false, ◌&&◌, cond, map, filter, None, Err, refl, sym, ap, ◌∙◌}
use Rattle.adr_call.specs.declared.directory.Entry.{Entry}
use Rattle.adr_filter.specs.declared.filter.Filter.{Filter}
use Rattle.adr_filter.specs.declared.filter.Scope.{Scope}
use Rattle.adr_filter.specs.Places.{bad_place, filter_of}
use Rattle.adr_filter.specs.Seen.{tree, trees}
use Rattle.adr_filter.specs.Tree.{Tree, any, every, trees_of}
use Rattle.adr_search.specs.Match.{all_match, matches, some_match}
use Rattle.adr_search.specs.Plans.{all_true, chosen, one_true, Judgement}
use Rattle.adr_search.specs.Scopes.{found, is_in_scope}
use Rattle.adr_search.specs.declared.refusal.SearchRefusal.{SearchRefusal}
use Rattle.adr_search.specs.declared.refusal.SearchRefusal.TheVariants.{BadFilter}
use Rattle.adr_search.specs.Searched.{Found, answered, searched}
use Rattle.adr_search.specs.Truths.{both, either, is_true}

pub all_are : (fs : List Filter) → all_true (map (λ (f : Filter). matches (tree f)) fs) ≡ all_match (trees_of (trees fs))
all_are [] = refl
all_are (f ∷ fs) =
    let before : Judgement → Judgement = λ rest e. both (matches (tree f) e) (rest e) in
    ap before (all_are fs)

pub some_are : (fs : List Filter) → one_true (map (λ (f : Filter). matches (tree f)) fs) ≡ some_match (trees_of (trees fs))
some_are [] = refl
some_are (f ∷ fs) =
    let before : Judgement → Judgement = λ rest e. either (matches (tree f) e) (rest e) in
    ap before (some_are fs)

pub every_is : (v : List Filter) (t : Tree) → t ≡ every (trees_of (trees v)) → all_match (trees_of (trees v)) ≡ matches t
every_is v t is = sym (ap matches is)

pub any_is : (v : List Filter) (t : Tree) → t ≡ any (trees_of (trees v)) → some_match (trees_of (trees v)) ≡ matches t
any_is v t is = sym (ap matches is)

chosen_are : (judge : Judgement) (p : Entry → Bool) (es : List Entry) → chosen judge (map p es) es ≡ map (λ (e : Entry). e.guid) (filter (λ (e : Entry). p e && is_true (judge e)) es)
chosen_are judge p [] = refl
chosen_are judge p (e ∷ es) = by (p e && is_true (judge e)) (chosen_are judge p es)
  where
    by : (b : Bool) → chosen judge (map p es) es ≡ map (λ (x : Entry). x.guid) (filter (λ (x : Entry). p x && is_true (judge x)) es)
        → cond b (e.guid ∷ chosen judge (map p es) es) (chosen judge (map p es) es) ≡ map (λ (x : Entry). x.guid) (cond b (e ∷ filter (λ (x : Entry). p x && is_true (judge x)) es) (filter (λ (x : Entry). p x && is_true (judge x)) es))
    by true h = ap (λ (gs : List (List ℕ)). e.guid ∷ gs) h
    by false h = h

pub found_is : (es : List Entry) (base : List ℕ) (scope : Scope) (t : Tree) (judge : Judgement) (marks : List Bool) → judge ≡ matches t → marks ≡ map (is_in_scope es base scope) es → chosen judge marks es ≡ found es base scope t
found_is es base scope t judge marks h k =
    ap (λ (j : Judgement). chosen j marks es) h
    ∙ ap (λ (m : List Bool). chosen (matches t) m es) k
    ∙ chosen_are (matches t) (is_in_scope es base scope) es

-- a text that is no filter
pub bad_text : (es : List Entry) (base : List ℕ) (scope : Scope) (text : List ℕ) (place : ℕ) (refusal : SearchRefusal) → filter_of text ≡ None → bad_place text ≡ place → BadFilter place ≡ refusal → searched es base scope text ≡ Err refusal
bad_text es base scope text place refusal none is told =
    let wrong : ℕ → Found = λ p. Err (BadFilter p) in
    let err : SearchRefusal → Found = λ r. Err r in
    ap (answered es base scope text) none
    ∙ ap wrong is
    ∙ ap err told
