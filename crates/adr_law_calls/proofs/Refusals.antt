-- What isn't refused by a test.
use Rattle.std.proofs.Common.{◌≡◌, ℕ, ◌≤◌, Bool, true, false, not, None, refl}
use Rattle.std.specs.Prelude.{nat_lt}
use Rattle.std.proofs.lemmas.Bool.{not-false, ltb-false}
use Rattle.adr_call.specs.declared.refusal.Table.{Table}
use Rattle.adr_call.specs.declared.refusal.WriteRefusal.{WriteRefusal}
use Rattle.adr_call.specs.declared.refusal.WriteRefusal.TheVariants.{Full}
use Rattle.adr_model.specs.Write.{full_refusal}
use Rattle.std.specs.Bool.{then_some}

pub not_so : (b : Bool) (r : WriteRefusal) → then_some b r ≡ None → b ≡ false
not_so true r none = absurd (cc)
not_so false r none = refl

pub is_so : (b : Bool) (r : WriteRefusal) → then_some (not b) r ≡ None → b ≡ true
is_so b r none = not-false b (not_so (not b) r none)

pub not_full : (table : Table) (limit count : ℕ) → full_refusal table limit count ≡ None → count ≤ limit
not_full table limit count none = ltb-false limit count (not_so (nat_lt limit count) (Full table limit) none)
