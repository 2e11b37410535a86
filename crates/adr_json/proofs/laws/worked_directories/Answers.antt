use Rattle.std.proofs.Common.{refl}
use Rattle.std.specs.Fmt.{digits}
use Rattle.json.specs.Print.{escape_byte}
use Rattle.uuid.specs.Text.{by_index}
use Rattle.adr_values.specs.Schemas.{schema_2}
use Rattle.adr_token.specs.Spelling.{attribute_token, class_token}
use Rattle.adr_json.specs.Text.{entry_json, json_text}
use Rattle.adr_json.proofs.laws.worked_directories.Goals as goal

pub returns-clause-none : goal.returns-clause-none
unfolding json_text
returns-clause-none c = refl

pub returns-clause-container : goal.returns-clause-container
unfolding json_text entry_json class_token schema_2 by_index escape_byte
returns-clause-container c = refl

pub returns-clause-objects : goal.returns-clause-objects
unfolding json_text entry_json class_token attribute_token schema_2 by_index escape_byte digits
returns-clause-objects c = refl
