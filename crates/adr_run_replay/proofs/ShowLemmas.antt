-- The output of a text, split where a controller is asked for its directory.
use Rattle.std.proofs.Common.{◌≡◌, ◌∙◌, ℕ, List, [], ◌∷◌, ◌++◌, Option, Some, None, refl, sym, ap, subst, append_assoc}
use Rattle.std.specs.Prelude.{flat_map, IfSome}
use Rattle.std.proofs.lemmas.List.{append-nil}
use Rattle.std.proofs.lemmas.Grind.{flat_map-append}
use Rattle.adr_call.specs.declared.report.Report.TheVariants.{Directory}
use Rattle.adr_call.specs.declared.event.Event.{Event}
use Rattle.adr_call.specs.declared.event.Event.TheVariants as events
use Rattle.adr_io.specs.Told.{Adds}
use Rattle.adr_model.specs.Member.{Member}
use Rattle.adr_model.specs.Replica.{Up, Replica}
use Rattle.adr_model.specs.World.{World, empty_world}
use Rattle.adr_model.specs.Step.{step, after_lines, answers}
use Rattle.adr_model.specs.Sound.{IsSoundWorld}
use Rattle.adr_law_convergence.proofs.Lines.{runs_are_sound}
use Rattle.adr_answers.specs.Line.{line}
use Rattle.adr_model.specs.Convergence.{behind}
use Rattle.adr_law_headline.proofs.Claimed.{first_may, show_so}
use Rattle.adr_law_headline.proofs.Following.{following_may}
use Rattle.adr_schedule.proofs.ScheduleLaws.{schedules_read, text_follows}
use Rattle.adr_run_replay.specs.Walked.{outcome, outcome_of}
use Rattle.adr_run_world.specs.Played.{output_from}
use Rattle.adr_run_replay.specs.Shown.{view_line, AtEachShow}

-- what an event gives, and then the others
output_next : (w : World) (e : Event) (es : List Event) → output_from w (e ∷ es) ≡ flat_map line (step w e).1 ++ output_from (step w e).0 es
output_next w e es = flat_map-append line (step w e).1 (answers (step w e).0 es)

-- what some events give, and then the others
output_split : (before after : List Event) (w : World) → output_from w (before ++ after) ≡ output_from w before ++ output_from (after_lines w before) after
output_split [] after w = refl
output_split (e ∷ before) after w =
    output_next w e (before ++ after)
    ∙ ap (λ (xs : List ℕ). flat_map line (step w e).1 ++ xs) (output_split before after (step w e).0)
    ∙ sym (append_assoc (flat_map line (step w e).1) (output_from (step w e).0 before) (output_from (after_lines (step w e).0 before) after))
    ∙ ap (λ (xs : List ℕ). xs ++ output_from (after_lines (step w e).0 before) after) (sym (output_next w e before))

show_output : (w : World) (r : Replica) (after : List Event) → IsSoundWorld w → Member r w.replicas → r.standing ≡ Up → output_from w (events.Asks r.name Directory ∷ after) ≡ view_line w r ++ output_from w after
show_output w r after sound m up =
    output_next w (events.Asks r.name Directory) after
    ∙ ap (λ (t : World × List _). flat_map line t.1 ++ output_from t.0 after) (show_so w r sound m up)
    ∙ ap (λ (xs : List ℕ). xs ++ output_from w after) (append-nil (view_line w r))

shown_at : (es before after : List Event) (r : Replica) → es ≡ before ++ events.Asks r.name Directory ∷ after → IsSoundWorld (behind before) → Member r (behind before).replicas → r.standing ≡ Up
    → output_from empty_world es ≡ output_from empty_world before ++ view_line (behind before) r ++ output_from (behind before) after
shown_at es before after r is sound m up =
    ap (output_from empty_world) is
    ∙ output_split before (events.Asks r.name Directory ∷ after) empty_world
    ∙ ap (λ (xs : List ℕ). output_from empty_world before ++ xs) (show_output (behind before) r after sound m up)
    ∙ sym (append_assoc (output_from empty_world before) (view_line (behind before) r) (output_from (behind before) after))

-- what holds of the whole output holds of it as it is split
pub at_each_show : (text : List ℕ) (P : List ℕ → Type 0) → P (outcome text).1 → AtEachShow text P
unfolding outcome
at_each_show text P p before after r said m up clean =
    let is = schedules_read text (before ++ events.Asks r.name Directory ∷ after) said in
    let may = following_may (before ++ events.Asks r.name Directory ∷ after) (text_follows text (before ++ events.Asks r.name Directory ∷ after) is) in
    let sound = (runs_are_sound before (first_may before (events.Asks r.name Directory ∷ after) empty_world may)).sound clean in
    subst P (ap (λ t. (outcome_of t).1) is ∙ shown_at (before ++ events.Asks r.name Directory ∷ after) before after r refl sound m up) p

-- the same of what was written for a text that was told
pub told_shown : (left before after : Option (List ℕ)) → IfSome left (λ text. Adds before after (outcome text).1) → IfSome left (λ text. AtEachShow text (Adds before after))
told_shown None before after written = tt
told_shown (Some text) before after written = at_each_show text (Adds before after) written
