use Rattle.adr_model.specs.Lengths.{area_version}
use Rattle.adr_image.proofs.Recorded.{change_short}
use Rattle.adr_records.proofs.records.RecordsForm.write_change.Goals as goal

pub encode_change-requires : goal.encode_change-requires
encode_change-requires c = change_short area_version c.requires.0.store.usn c.requires.0.store.schema c.args.change.now c.requires.1.body
