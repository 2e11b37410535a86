use Rattle.std.proofs.Common.{sym, ◌∙◌}
use Rattle.std.proofs.lemmas.Str.{IsUtf8-from_is_utf8}
use Rattle.adr_wire.proofs.reader.Reader.read_text.Goals as goal

pub of-requires : goal.of-requires
of-requires c = rw c.in_ok-from_slice.ensures.items (IsUtf8-from_is_utf8 c.in_ok-bytes.bytes.now (sym c.is_text.ensures ∙ c.if-not-is_text.false))
