-- Octets that are read one after the other.
use Rattle.std.proofs.Common.{◌≡◌, ℕ, List, [], ◌∷◌, ◌++◌, Option, Some, None, refl, ap, append_assoc}
use Rattle.std.specs.Option.{option_map}
use Rattle.adr_token.specs.Gives.{◌>>=◌}
use Rattle.adr_token.specs.Values.{octet_of, octets_of}

octets_push : (front : List ℕ) (octet : ℕ) (o : Option (List ℕ))
    → option_map (λ more. (front ++ octet ∷ []) ++ more) o ≡ option_map (λ more. front ++ more) (o >>= λ octets. Some (octet ∷ octets))
octets_push front octet None = refl
octets_push front octet (Some octets) = ap Some (append_assoc front (octet ∷ []) octets)

-- an octet goes to those that were read
pub octet_read : (front : List ℕ) (first second octet : ℕ) (figures rest more left : List ℕ) → figures ≡ first ∷ rest → rest ≡ second ∷ more → octet_of first second ≡ Some octet → left ≡ front ++ octet ∷ []
    → option_map (λ octets. left ++ octets) (octets_of more) ≡ option_map (λ octets. front ++ octets) (octets_of figures)
octet_read front first second octet figures rest more left f r o l = rw (f, r, o, l) (octets_push front octet (octets_of more))
