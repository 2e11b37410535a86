use Rattle.adr_json.proofs.Told.{directory_back}
use Rattle.adr_json.proofs.laws.json_reads_back.Goals as goal

pub returns : goal.returns
returns c = directory_back
