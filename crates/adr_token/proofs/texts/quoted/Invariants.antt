use Rattle.std.proofs.Common.{◌≡◌, drop}
use Rattle.adr_token.specs.declared.texts.Place.TheVariants.{Plain}
use Rattle.adr_token.specs.Texts.{quoted, IsHalfSmall}
use Rattle.adr_token.proofs.TextLemmas.{onto}
use Rattle.adr_token.proofs.texts.quoted.Given as goal

-- the text so far, and what is left, are the text
abbrev pub invariant-loop-index : goal.invariant-loop-index
invariant-loop-index l = record {
  small : IsHalfSmall l.place;
  same : onto l.text.items (quoted l.place (drop l.index l.bytes)) ≡ quoted Plain l.bytes;
}
