-- What a sound store asks a partner.
use Rattle.std.proofs.Common.{ℕ, ◌≤◌, arith}
use Rattle.std.specs.BTreeMap.{is_at}
use Rattle.adr_values.specs.Order.{identifier_order}
use Rattle.adr_model.specs.Update.{Identifier}
use Rattle.adr_model.specs.Place.{identifier}
use Rattle.adr_model.specs.Store.{PartnerMark, State, no_mark, kept_of}
use Rattle.adr_model.specs.LocalLog.{IsOrdered}
use Rattle.adr_model.specs.Serve.{ask}
use Rattle.adr_model.specs.Replica.{Book}
use Rattle.adr_model.specs.Sound.{last_of, IsSoundStore, IsSoundRequest}
use Rattle.adr_law_calls.proofs.Tables.{each_found}

pub asked_is_sound : (book : Book) (s : State) (partner : Identifier) (max version : ℕ) → IsSoundStore book s.store → IsSoundRequest book (ask s partner max version)
asked_is_sound book s partner max version sound = record { bounded = sound.bounded; ordered = is.0; seen = is.1 }
  where
    is : IsOrdered (kept_of s.store partner).mark × ((kept_of s.store partner).mark.seen ≤ last_of book (kept_of s.store partner).inv)
    is = each_found (λ (k : PartnerMark). IsOrdered k.mark × (k.mark.seen ≤ last_of book k.inv)) (is_at (identifier_order partner)) s.store.marks (record { inv = identifier 0; mark = no_mark })
        (record { prop = omega arith; obj = omega arith }, omega arith) (λ p m. let mark = sound.marks p m in (mark.ordered, mark.seen))
