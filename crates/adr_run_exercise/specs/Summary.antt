-- The summary of the run of the schedule of a number, and its line.
use Rattle.std.specs.Prelude.{ℕ, List, [], ◌∷◌, ◌++◌, Bool, if◌then◌else◌, length, codes}
use Rattle.std.specs.Fmt.{decimal}
use Rattle.std.specs.List.{sum_by}
use Rattle.std.specs.Option.{unwrap_or}
use Rattle.adr_values.specs.Schemas.{spoken}
use Rattle.adr_values.specs.Table.{kind_at, is_forward}
use Rattle.adr_call.specs.declared.directory.Entry.{Entry}
use Rattle.adr_call.specs.declared.outcome.Outcome.{Outcome}
use Rattle.adr_call.specs.declared.outcome.Outcome.TheVariants as outcomes
use Rattle.adr_call.specs.declared.answer.Answer.{Answer}
use Rattle.adr_model.specs.Update.{Identifier}
use Rattle.adr_model.specs.World.{World, Name, empty_world, shown}
use Rattle.adr_model.specs.Step.{after_lines, answers}
use Rattle.adr_model.specs.Rings.{told_of, show_alike}
use Rattle.adr_answers.specs.Line.{truth_text}
use Rattle.adr_run_exercise.specs.Generated.{schedule}

-- what is counted: the entries and the forward links of one directory, the refused answers and the removed objects of a run, and whether
-- the four directories are equal
pub record Summary : Type 0 where
  pub objects : ℕ
  pub links : ℕ
  pub refused : ℕ
  pub collected : ℕ
  pub equal : Bool

-- the directory that a controller shows; none where it is not up
abbrev pub directory_of : World → Name → List Entry
directory_of w name = unwrap_or (told_of w (shown w) name) []

abbrev pub forward_links_under : ℕ × List Identifier → ℕ
forward_links_under link = if is_forward (kind_at spoken link.0) then length link.1 else 0

abbrev pub forward_links : Entry → ℕ
forward_links entry = sum_by forward_links_under entry.links

-- a refusal counts as one
abbrev pub refusals_in : Outcome → ℕ
refusals_in (outcomes.Refused number label fields) = 1
refusals_in _ = 0

-- what a collection removed
abbrev pub removals_in : Outcome → ℕ
removals_in (outcomes.Removed removed) = removed
removals_in _ = 0

abbrev pub four_names : List Name
four_names = codes "A" ∷ codes "B" ∷ codes "C" ∷ codes "D" ∷ []

-- what a run left, and what was answered on its way
abbrev pub summed_up : World → List Answer → Summary
summed_up w told = record {
  objects = length (directory_of w (codes "A"));
  links = sum_by forward_links (directory_of w (codes "A"));
  refused = sum_by (λ (a : Answer). refusals_in a.outcome) told;
  collected = sum_by (λ (a : Answer). removals_in a.outcome) told;
  equal = show_alike w four_names;
}

-- the summary of the run of the schedule of a number
unfoldable pub summary : ℕ → Summary
summary n = summed_up (after_lines empty_world (schedule n)) (answers empty_world (schedule n))

-- its line
unfoldable pub summary_line : ℕ → Summary → List ℕ
summary_line n s =
    (codes "exercise " ++ decimal n ++ codes ": objects=" ++ decimal s.objects ++ codes " links=" ++ decimal s.links)
    ++ ((codes " refused=" ++ decimal s.refused) ++ (codes " collected=" ++ decimal s.collected))
    ++ codes " equal=" ++ truth_text s.equal ++ codes "\n"
