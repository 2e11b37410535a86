-- The worked fold.
use Rattle.std.proofs.Common.{◌≡◌, inl, inr, ⊎_elim, ◌∙◌, refl, sym, ap, subst, Some, None}
use Rattle.std.specs.Option.{option_map, option_map_or}
use Rattle.adr_model.specs.Store.{State}
use Rattle.adr_model.specs.Change.{Change, after}
use Rattle.adr_law_journal.proofs.Told.{some_is}
use Rattle.adr_controller.specs.declared.refusal.Hindrance.TheVariants.{DiskFault}
use Rattle.adr_law_controller.specs.Called.{Call, change_of_call}
use Rattle.adr_law_controller.specs.Behind.{Calls, Reached, surely, behind_step, AreTrueOf, MayBe}
use Rattle.adr_law_controller.specs.Worked.{IsWorked}

-- a call that was answered, and one that met a fault
answered : (s : State) (c : Change) (call : Call) → change_of_call call s ≡ Some c → behind_step (surely s) (Calls call None) ≡ surely (after s c)
answered s c call makes = ap (λ m. surely (option_map_or (after s) m s)) makes

faulted : (s : State) (c : Change) (call : Call) → change_of_call call s ≡ Some c → behind_step (surely s) (Calls call (Some DiskFault)) ≡ record { state = s; or_else = Some (after s c) }
faulted s c call makes = ap (λ m. let x : Reached = record { state = s; or_else = option_map (after s) m } in x) makes

pub worked : IsWorked
unfolding AreTrueOf
worked s t one two c d first second =
    let done = answered s c one first in
    let met = ap (λ r. behind_step r (Calls two (Some DiskFault))) done ∙ faulted (after s c) d two second in
    record {
      answered = done;
      full = done;
      fault = met;
      start = refl;
      either = λ holds.
          let may : MayBe (record { state = after s c; or_else = Some (after (after s c) d) }) t = subst (λ r. MayBe r t) met holds.1.1.1.0 in
          ⊎_elim inl (λ is. inr (sym (some_is (after (after s c) d) t is))) may;
    }
