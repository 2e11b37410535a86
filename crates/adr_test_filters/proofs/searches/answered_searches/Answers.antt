use Rattle.std.proofs.Common.{refl}
use Rattle.caseless.proofs.Computing.{caseless}
use Rattle.std.specs.Str.{chars, is_utf8}
use lib.Utf8.{encode}
use Rattle.uuid.proofs.OnLiterals.{uuid_on_literals}
use Rattle.adr_values.specs.Schemas.{schema_2}
use Rattle.adr_filter.specs.Machine.{step}
use Rattle.adr_test_filters.proofs.searches.answered_searches.Goals as goal

pub returns : goal.returns
unfolding caseless uuid_on_literals chars is_utf8 encode schema_2 step
returns c = record { named = refl; root = refl; denied = refl; unknown = refl; cut = refl; approximate = refl; no_base = refl; cut_before_base = refl; around = refl; within = refl }
