-- Additions can be committed behind every state of a log.
use Rattle.std.proofs.Common.{◌≡◌, ℕ, [], Some, Result, Ok, Err, refl, sym, ap, ◌∙◌, lit<}
use Rattle.std.specs.List.Sorted.{IsStrictlySortedBy}
use Rattle.std.specs.Ordering.{nat_cmp}
use Rattle.adr_call.specs.declared.write.Write.{Write as Asked}
use Rattle.adr_call.specs.declared.refusal.WriteRefusal.{WriteRefusal}
use Rattle.adr_model.specs.Change.{Change}
use Rattle.adr_model.specs.Place.{root}
use Rattle.adr_model.specs.Replica.{change_in}
use Rattle.adr_model.specs.Store.{State}
use Rattle.adr_model.specs.Write.{Write, AddObject, write}
use Rattle.adr_controller.specs.Able.{written_in}
use Rattle.adr_records.specs.Logged.{IsLogged, MayBeRecorded}
use Rattle.adr_law_recorded.specs.Laws.{WrittenIsRecorded}
use Rattle.adr_law_recorded.specs.Typed.{IsTypedWrite}
use Rattle.adr_test_killed.specs.Objects.{IsAddition, guid_of}

none_rises : IsStrictlySortedBy nat_cmp []
unfolding IsStrictlySortedBy
none_rises = tt

said : (t : Result Change WriteRefusal) (c : Change) → change_in t ≡ Some c → t ≡ Ok c
said (Ok d) c e = let same : d ≡ c = cc in ap Ok same
said (Err x) c e = absurd (cc)

pub recorded : WrittenIsRecorded → (number : ℕ) (what : Asked) → IsAddition number what → (s : State) (c : Change) → IsLogged s → written_in what 0 s ≡ Some c → MayBeRecorded s c
recorded written number what is s c logged made =
    let meant : Write = AddObject (guid_of number) 4 root is.text [] in
    let typed : IsTypedWrite meant = (refl, refl, is.utf8, λ g m. absurd m) in
    written s meant 0 c logged none_rises typed (lit< tt) (said (write s meant 0) c (ap (λ (a : Asked). written_in a 0 s) (sym is.is) ∙ made))
