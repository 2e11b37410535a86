use Rattle.std.proofs.Common.{ap, length, ◌∙◌, refl}
use Rattle.std.proofs.lemmas.Str.{is_utf8-from_IsUtf8}
use Rattle.adr_test_logs.proofs.written.addition.Goals as goal

pub returns : goal.returns
returns c = (
  c.requires.in_order,
  (
    ap (λ id. length id) c.from_u128.ensures ∙ refl,
    ap (λ id. length id) c.root.ensures ∙ refl,
    is_utf8-from_IsUtf8 c.from_string-text.result c.items.ensures.text,
    c.requires.typed,
  ),
)
