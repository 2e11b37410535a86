use Rattle.adr_law_headline.proofs.Texts.{every_text}
use Rattle.adr_law_headline.proofs.headline_holds_of_texts.Goals as goal

pub returns : goal.returns
returns c = every_text
