use Rattle.adr_json.proofs.Told.{directories_same}
use Rattle.adr_json.proofs.laws.equal_json_means_equal_directories.Goals as goal

pub returns : goal.returns
returns c = directories_same
