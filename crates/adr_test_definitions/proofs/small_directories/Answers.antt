use Rattle.std.proofs.Common.{refl}
use Rattle.caseless.proofs.Computing.{caseless}
use Rattle.std.specs.Str.{chars}
use lib.Utf8.{encode}
use Rattle.uuid.proofs.OnLiterals.{uuid_on_literals}
use Rattle.adr_test_definitions.proofs.small_directories.Goals as goal

pub returns : goal.returns
unfolding caseless uuid_on_literals chars encode
returns c = record { user = refl; twice = refl; lost_name = refl; looped = refl; lost = refl; born_twice = refl; group = refl }
