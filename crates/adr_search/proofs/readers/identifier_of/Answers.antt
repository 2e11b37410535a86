use Rattle.std.proofs.Common.{◌≡◌, ℕ, List, ◌∷◌, length, refl, sym, ◌∙◌}
use Rattle.std.proofs.lemmas.Bool.{eq-eqb, ne_eqb}
use Rattle.adr_token.specs.Identifiers.{full_identifier, identifier_of, short_identifier}
use Rattle.adr_search.proofs.readers.identifier_of.Goals as goal

in_full : (b : ℕ) (rest : List ℕ) → b ≡ 35 → length rest ≡ 36 → identifier_of (b ∷ rest) ≡ full_identifier rest
in_full b rest e long = rw (e, eq-eqb _ 36 long) refl

in_short : (b : ℕ) (rest : List ℕ) → b ≡ 35 → (length rest ≡ 36 → ⊥) → identifier_of (b ∷ rest) ≡ short_identifier rest
in_short b rest e other = rw (e, ne_eqb _ 36 other) refl

pub returns-then-first-ne35 : goal.returns-then-first-ne35
returns-then-first-ne35 c = rw (c.in-Some.ensures.cases.0, ne_eqb _ 35 c.if-first-ne35.true) refl

pub returns-then-rest-eq36 : goal.returns-then-rest-eq36
returns-then-rest-eq36 c = rw c.in-Some.ensures.cases.0 (c.full_identifier.ensures ∙ sym (in_full _ c.in-Some.rest.now c.if-first-ne35.false c.if-rest-eq36.true))

pub returns-else-rest-eq36 : goal.returns-else-rest-eq36
returns-else-rest-eq36 c = rw c.in-Some.ensures.cases.0 (c.short_identifier.ensures ∙ sym (in_short _ c.in-Some.rest.now c.if-first-ne35.false c.if-rest-eq36.false))
