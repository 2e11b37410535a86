use Rattle.std.proofs.lemmas.Str.{is_utf8-from_IsUtf8}
use Rattle.adr_test_logs.proofs.written.description.Goals as goal

pub returns : goal.returns
returns c = is_utf8-from_IsUtf8 c.from_string-text.result c.items.ensures.text
