use Rattle.adr_view.proofs.FormedLinks.{formed_have}
use Rattle.adr_view.proofs.laws.formed_rows_have_back_links.Goals as goal

pub returns : goal.returns
returns c = formed_have
