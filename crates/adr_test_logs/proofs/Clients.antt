-- What is found behind one call.
use Rattle.std.proofs.Common.{◌≡◌, inl, inr, ⊎_elim, refl, sym, Option, Some, None, Ok, [], ◌∷◌}
use Rattle.std.specs.Option.{option_map, option_map_or}
use Rattle.adr_model.specs.Store.{State}
use Rattle.adr_model.specs.Change.{Change, after}
use Rattle.adr_law_journal.proofs.Told.{some_is}
use Rattle.adr_controller.specs.declared.refusal.Hindrance.{Hindrance}
use Rattle.adr_controller.specs.declared.refusal.Hindrance.TheVariants.{Down, Failed, Full, DiskFault, NoMemory}
use Rattle.adr_law_controller.specs.Called.{Call, change_of_call}
use Rattle.adr_law_controller.specs.Behind.{Calls, Stops, Starts, surely, behind_step, AreTrueOf, MayBe}
use Rattle.adr_test_logs.specs.Client.{IsBeforeOrBehind}

module _ (call : Call) (s t : State) where
  -- its change was made
  made : (m : Option Change) → change_of_call call s ≡ m → t ≡ option_map_or (after s) m s → IsBeforeOrBehind (change_of_call call) s t
  made None is same = inl same
  made (Some c) is same = inr (c, is, same)

  -- or may have been
  made_so : (m : Option Change) → change_of_call call s ≡ m → option_map (after s) m ≡ Some t → IsBeforeOrBehind (change_of_call call) s t
  made_so None is same = absurd (cc same)
  made_so (Some c) is same = inr (c, is, sym (some_is (after s c) t same))

  of_surely : (x : State) → MayBe (surely x) t → t ≡ x
  of_surely x may = ⊎_elim (λ is. is) (λ none. let no : ⊥ = cc none in absurd no) may

  by : (how : Option Hindrance) → MayBe (behind_step (surely s) (Calls call how)) t → IsBeforeOrBehind (change_of_call call) s t
  by None may = made (change_of_call call s) refl (of_surely (option_map_or (after s) (change_of_call call s) s) may)
  by (Some DiskFault) may = ⊎_elim inl (λ so. made_so (change_of_call call s) refl so) may
  by (Some Down) may = inl (of_surely s may)
  by (Some Failed) may = inl (of_surely s may)
  by (Some Full) may = inl (of_surely s may)
  by (Some NoMemory) may = inl (of_surely s may)

  -- a call, a stop and a start
  pub found_behind : (how : Option Hindrance) → AreTrueOf (surely s) (Calls call how ∷ Stops ∷ Starts (Ok t) ∷ []) → IsBeforeOrBehind (change_of_call call) s t
  unfolding AreTrueOf
  found_behind how holds = by how holds.1.1.0
