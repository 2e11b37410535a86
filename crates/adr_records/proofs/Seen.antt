-- How much will have been seen.
use Rattle.std.proofs.Common.{◌≡◌, ℕ, List, Bool, true, false, cond, max, ap, arith}
use Rattle.adr_values.specs.Vector.{Cursors, at, raised}
use Rattle.adr_values.proofs.Joining.{at-raised}
use Rattle.adr_model.specs.Update.{same_identifier}

-- the number at an identifier, by whether it is the one that is raised
pub raised_at : (v : Cursors) (inv : List ℕ) (usn : ℕ) (q : List ℕ) (seen : ℕ) → seen ≡ at v q → (b : Bool) → same_identifier q inv ≡ b → cond b (max seen usn) seen ≡ at (raised v inv usn) q
raised_at v inv usn q seen is true e = omega (arith, is, at-raised v inv usn q, ap (λ b. max (at v q) (cond b usn 0)) e)
raised_at v inv usn q seen is false e = omega (arith, is, at-raised v inv usn q, ap (λ b. max (at v q) (cond b usn 0)) e)
