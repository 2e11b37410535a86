use Rattle.std.proofs.Common.{◌≡◌, refl, ◌∙◌, ap}
use Rattle.std.specs.Prelude.{codes}
use Rattle.std.specs.Str.{bytes_eq, chars}
use Rattle.caseless.proofs.Computing.{caseless}
use lib.Utf8.{encode}
use Rattle.adr_values.specs.Folding.{folded}
use Rattle.adr_update.proofs.fixed.is_lost_text.Goals as goal

folded_lost : codes "lostandfound" ≡ folded (codes "LostAndFound")
unfolding caseless chars encode
folded_lost = refl

pub returns : goal.returns
returns c = c.eq.ensures ∙ ap (bytes_eq c.args.name.now) (c.as_slice.ensures ∙ folded_lost)
