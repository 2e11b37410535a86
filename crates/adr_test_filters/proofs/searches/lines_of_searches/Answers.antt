use Rattle.std.proofs.Common.{refl}
use Rattle.caseless.proofs.Computing.{caseless}
use Rattle.std.specs.Str.{chars, is_utf8}
use lib.Utf8.{encode}
use Rattle.uuid.proofs.OnLiterals.{uuid_on_literals}
use Rattle.adr_values.specs.Schemas.{schema_2}
use Rattle.adr_filter.specs.Machine.{step}
use Rattle.adr_token.specs.Identifiers.{identifier_at}
use Rattle.adr_token.specs.Texts.{text_at}
use Rattle.adr_token.specs.Words.{name_at}
use Rattle.adr_search.specs.Line.{asking_at, scope_at, search_line, session_line}
use Rattle.adr_test_filters.proofs.searches.lines_of_searches.Goals as goal

pub returns : goal.returns
unfolding caseless uuid_on_literals chars is_utf8 encode schema_2 step name_at identifier_at text_at scope_at asking_at session_line search_line
returns c = record { named = refl; session = refl; no_filter = refl; scope = refl; more = refl; bare = refl }
