-- What a state of a log asks a partner is in range.
use Rattle.std.proofs.Common.{◌≡◌, ℕ, true, arith}
use Rattle.std.specs.BTreeMap.{is_at}
use Rattle.adr_values.specs.Order.{identifier_order}
use Rattle.adr_wire.specs.Headed.{is_version}
use Rattle.adr_wire.specs.Ranges.{IsU32, IsMark}
use Rattle.adr_model.specs.Update.{Identifier}
use Rattle.adr_model.specs.Place.{identifier}
use Rattle.adr_model.specs.Store.{PartnerMark, State, no_mark}
use Rattle.adr_model.specs.Serve.{ask}
use Rattle.adr_law_calls.proofs.Tables.{each_found}
use Rattle.adr_records.specs.Logged.{IsLogged}
use Rattle.adr_law_recorded.specs.Ranged.{IsRangedRequest}

pub no_mark_in_range : IsMark no_mark
no_mark_in_range = (omega arith, (omega arith, omega arith))

pub asked_in_range : (s : State) (partner : Identifier) (max version : ℕ) → IsLogged s → IsU32 max → is_version version ≡ true
    → IsRangedRequest (ask s partner max version)
asked_in_range s partner max version logged few known = record {
  version = known;
  mark = each_found (λ (k : PartnerMark). IsMark k.mark) (is_at (identifier_order partner)) s.store.marks
      (record { inv = identifier 0; mark = no_mark }) no_mark_in_range (λ k m. (logged.spelled.marks k m).1.1);
  max = few;
}
