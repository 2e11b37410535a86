-- The partner that a frame names.
use Rattle.std.proofs.Common.{◌≡◌, ℕ, ◌+◌, eqb, Bool, true, List, ◌∷◌, ◌&&◌, length, take, Some, sym, ap, ◌∙◌, arith, take_all}
use Rattle.std.specs.Bool.{then_some}
use Rattle.std.proofs.lemmas.Bool.{eq-eqb}
use Rattle.adr_pull.specs.Fetch.{partner_in}

pub named : (bytes : List ℕ) (kind : ℕ) (rest dsa behind id : List ℕ) → bytes ≡ kind ∷ rest → dsa ≡ take 16 rest
    → length behind + 16 ≡ length rest
    → length behind ≡ 0 → kind ≡ 7 → id ≡ dsa → Some id ≡ partner_in bytes
named bytes kind rest dsa behind id is front long none seven same =
    let len : length rest ≡ 16 = omega (arith, long, none) in
    let all : dsa ≡ rest = front ∙ take_all 16 rest (omega (arith, len)) in
    let both : (eqb kind 7 && eqb (length rest) 16) ≡ true = ap (λ (b : Bool). b && eqb (length rest) 16)
    (eq-eqb kind 7 seven) ∙ eq-eqb (length rest) 16 len in
    ap Some (same ∙ all) ∙ sym (ap (λ (b : Bool). then_some b rest) both) ∙ sym (ap partner_in is)
