use Rattle.std.proofs.Common.{refl}
use Rattle.caseless.proofs.Computing.{caseless}
use Rattle.std.specs.Str.{chars}
use lib.Utf8.{encode}
use Rattle.uuid.proofs.OnLiterals.{uuid_on_literals}
use Rattle.adr_values.specs.Schemas.{schema_1}
use Rattle.adr_values.specs.Names.{name_fault}
use Rattle.adr_values.specs.Values.{bad_place}
use Rattle.adr_values.specs.Rules.{add_refusal, modify_refusal, link_refusal, row_refusal}
use Rattle.adr_test_definitions.proofs.logs_end.Goals as goal

pub returns : goal.returns
unfolding caseless uuid_on_literals chars encode schema_1 name_fault bad_place add_refusal modify_refusal link_refusal row_refusal
returns c = record { new = refl; grown = refl; last = refl; none = refl; put_back = refl; shut_off = refl; unnoted = refl }
