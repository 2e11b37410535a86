-- Where memory is wanting for a line of an answer, and not in the sink, nothing was done.
use Rattle.std.proofs.Common.{◌≡◌, ◌⊎◌, inl, inr, refl, ℕ, ◌+◌, ◌≤◌, List, [], Option, Some, None, length, take, sym, ap, ◌∙◌, subst, arith}
use Rattle.std.specs.Prelude.{All, flat_map}
use Rattle.adr_call.specs.declared.answer.Answer.{Answer}
use Rattle.adr_call.specs.declared.event.Event.{Event}
use Rattle.adr_call.specs.declared.event.Event.TheVariants as events
use Rattle.adr_call.specs.declared.event.Exchange.TheVariants as exchanges
use Rattle.adr_call.specs.declared.report.Report.{Report}
use Rattle.adr_io.specs.Told.{Adds}
use Rattle.adr_law_convergence.proofs.Lines.{behind_is_on_the_way}
use Rattle.adr_model.specs.Convergence.{IsOnTheWay}
use Rattle.adr_model.specs.Cycles.{Pulled}
use Rattle.adr_model.specs.Rings.{compared}
use Rattle.adr_model.specs.Step.{step}
use Rattle.adr_model.specs.World.{Gone, Name, World, stays}
use Rattle.adr_answers.specs.Line.{line}
use Rattle.adr_answers.specs.Room.{IsWithin}
use Rattle.adr_answers.specs.Whole.{AddsFirstLines}
use Rattle.adr_answers.proofs.Due.{adds_more}
use Rattle.adr_run_world.specs.Door.{IsUndoneBy}
use Rattle.adr_run_world.specs.Pulls.{IsTurn}
use Rattle.adr_run_world.specs.Room.{names_room, room_beside}
use Rattle.adr_run_world.proofs.Brief.{called_brief}
use Rattle.adr_run_world.proofs.Fitting.{MayLack, turn_fits}
use Rattle.adr_run_world.proofs.Left.{AreTold}
use Rattle.adr_run_world.proofs.Turns.{IsFirst}

-- of one answer no line is written
none_written : (first now next : Option (List ℕ)) (told more : List Answer) → told ≡ [] → length more ≡ 1 → Adds first now (flat_map line told) → AddsFirstLines now next more → Adds first next []
none_written first now next told more none single added (n, within, front) =
    let zero : n ≡ 0 = omega arith in
    let so : Adds now next [] = subst (λ (k : ℕ). Adds now next (flat_map line (take k more))) zero front in
    adds_more first now next [] [] (subst (λ (list : List Answer). Adds first now (flat_map line list)) none added) so

-- a report changes nothing
report_stays : (w : World) (name : Name) (what : Report) → (step w (events.Asks name what)).0 ≡ w
report_stays w name what = called_brief (λ (g : Gone). g.0 ≡ w) (stays w) (λ o is. refl) w name _ (λ r. refl)

compared_once : (first : Name) (others : List Name) (rounds : ℕ) (v : World) (left : Option Answer) → length (compared first others rounds v left).1 ≡ 1
compared_once first others rounds v None = refl
compared_once first others rounds v (Some a) = refl

module _ (first now next : Option (List ℕ)) (told : List Answer) (added : Adds first now (flat_map line told)) where
  lacking : (w : World) (e : Event) (turn : ℕ) (v : World) (p : Pulled) → IsFirst w e v told → IsTurn turn v e p → MayLack e → AddsFirstLines now next p.1 → IsUndoneBy w e p.0 first next
  lacking w (events.Asks name what) turn v p begin is may front =
      let single : length p.1 ≡ 1 = ap (λ (q : Pulled). length q.1) is in
      (inl (ap (λ (q : Pulled). q.0) is ∙ report_stays v name what ∙ begin.0), none_written first now next told p.1 begin.1 single added front)
  lacking w (events.Goes name (exchanges.Ring others rounds max)) turn v p begin is may front =
      let e : Event = events.Goes name (exchanges.Ring others rounds max) in
      let single : length p.1 ≡ 1 = ap (λ (q : Pulled). length q.1) is ∙ compared_once name others rounds _ _ in
      let behind : p.0 ≡ (step w e).0 = ap (λ (q : Pulled). q.0) is ∙ ap (λ (x : World). (step x e).0) begin.0 in
      (inr (subst (λ (x : World). IsOnTheWay w e x) (sym behind) (behind_is_on_the_way w e)), none_written first now next told p.1 begin.1 single added front)
  lacking w e turn v p begin is may front = absurd may

pub undone_lines : {w : World} {e : Event} {turn : ℕ} {v : World} {first now : Option (List ℕ)} {Wants : Type 0} (t : AreTold w e turn v first now) (next : Option (List ℕ)) (p : Pulled) (list : List Answer) → list ≡ p.1
    → IsTurn turn v e p → (room : ℕ) → names_room e + room_beside ≤ room → AddsFirstLines now next list → (All (IsWithin room) list → Wants) → IsUndoneBy w e p.0 first next ⊎ Wants
undone_lines {w} {e} {turn} {v} {first} {now} {Wants} t next p list same is room enough front wants = by (turn_fits room turn v e p enough is)
  where
    by : MayLack e ⊎ All (IsWithin room) p.1 → IsUndoneBy w e p.0 first next ⊎ Wants
    by (inl may) = inl (lacking first now next t.told t.added w e turn v p t.so.first is may (subst (λ (answers : List Answer). AddsFirstLines now next answers) same front))
    by (inr all) = inr (wants (subst (λ (answers : List Answer). All (IsWithin room) answers) (sym same) all))
