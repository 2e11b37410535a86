-- Whence cursors are, and times: each that is raised or joined is one of before, or one that came.
use Rattle.std.proofs.Common.{◌≡◌, ◌⊎◌, inl, inr, ⊎_elim, ℕ, ◌≤◌, [], ◌∷◌, Bool, true, false, cond, refl, arith}
use Rattle.std.specs.BTreeMap.{insert_entry}
use Rattle.std.proofs.lemmas.Bool.{leb-false}
use Rattle.std.proofs.lemmas.Map.Lookups.{exact_bytes}
use Rattle.adr_values.specs.Order.{identifier_order}
use Rattle.adr_values.specs.Vector.{Cursors, at, covers, raised, joined}
use Rattle.adr_model.specs.Member.{Member}
use Rattle.adr_model.specs.Update.{Identifier}
use Rattle.adr_law_calls.proofs.Tables.{entry_from}

pub raised_from : (v : Cursors) (inv : Identifier) (usn : ℕ) (e : Identifier × ℕ) → Member e (raised v inv usn)
    → ((e ≡ (inv, usn)) × (1 ≤ usn)) ⊎ Member e v
raised_from v inv usn e m = by (covers v inv usn) refl m
  where
    by : (b : Bool) → covers v inv usn ≡ b → Member e (cond b v (insert_entry identifier_order v inv usn))
        → ((e ≡ (inv, usn)) × (1 ≤ usn)) ⊎ Member e v
    by true is n = inr n
    by false is n = let less = leb-false usn (at v inv) is in ⊎_elim (λ same. inl (same, omega (arith, less)))
        (λ old. inr old) (entry_from identifier_order exact_bytes v inv usn e n)

pub joined_from : (w v : Cursors) (e : Identifier × ℕ) → Member e (joined v w) → Member e w ⊎ Member e v
joined_from [] v e m = inr m
joined_from (c ∷ w) v e m = ⊎_elim (λ n. inl (inr n))
    (λ n. ⊎_elim (λ t. inl (inl t.0)) (λ o. inr o) (raised_from v c.0 c.1 e n))
    (joined_from w (raised v c.0 c.1) e m)
