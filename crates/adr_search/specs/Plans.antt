-- What a filter that was read is of an entry.
use Rattle.std.specs.Prelude.{ℕ, List, [], ◌∷◌, Bool, ◌&&◌, if◌then◌else◌}
use Rattle.adr_call.specs.declared.directory.Entry.{Entry}
use Rattle.adr_search.specs.declared.truth.Truth.{Truth}
use Rattle.adr_search.specs.declared.truth.Truth.TheVariants.{False, Undefined, True}
use Rattle.adr_search.specs.declared.plan.Plan.{Plan, fold-Plan}
use Rattle.adr_search.specs.declared.plan.Plan.TheOpen.{Plan-F}
use Rattle.adr_search.specs.Truths.{both, either, is_true, swapped}
use Rattle.adr_search.specs.Match.{judged}
use Rattle.adr_search.specs.Seen.{test_in}
use Rattle.std.specs.Option.{option_map}

-- what something is of an entry
abbrev pub Judgement : Type 0
Judgement = Entry → Truth

abbrev pub all_true : List Judgement → Judgement
all_true [] e = True
all_true (f ∷ fs) e = both (f e) (all_true fs e)

abbrev pub one_true : List Judgement → Judgement
one_true [] e = False
one_true (f ∷ fs) e = either (f e) (one_true fs e)

-- one level, with each part already seen as what it is of an entry
abbrev pub judgement : Plan-F Judgement → Judgement
judgement (Plan-F.And parts) e = all_true parts.items e
judgement (Plan-F.Or parts) e = one_true parts.items e
judgement (Plan-F.Not part) e = swapped (part.value e)
judgement Plan-F.Unknown e = Undefined
judgement (Plan-F.Values place test) e = judged place (option_map test_in test) e

abbrev pub truth_in : Plan → Judgement
truth_in = fold-Plan Judgement judgement

abbrev pub guid_if : Bool → List ℕ → List (List ℕ) → List (List ℕ)
guid_if is guid guids = if is then guid ∷ guids else guids

-- the GUIDs of the entries that are marked and judged true
abbrev pub chosen : Judgement → List Bool → List Entry → List (List ℕ)
chosen judge (mark ∷ marks) (e ∷ es) = guid_if (mark && is_true (judge e)) e.guid (chosen judge marks es)
chosen judge [] es = []
chosen judge (mark ∷ marks) [] = []
