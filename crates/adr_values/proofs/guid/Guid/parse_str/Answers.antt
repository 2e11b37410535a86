use Rattle.std.proofs.Common.{◌≡◌, Option, Some, None, refl, sym}
use Rattle.uuid.specs.Text.{parsed}
use Rattle.adr_values.proofs.guid.Guid.parse_str.Goals as goal

nothing : {X : Type 0} (o : Option X) → ((x : X) × (o ≡ Some x) → ⊥) → o ≡ None
nothing None h = refl
nothing (Some x) h = absurd (h (x, refl))

pub returns-in-Err : goal.returns-in-Err
returns-in-Err c = sym (nothing (parsed c.args.text.now) (λ found. cc (c.in-Err.ensures.ok.1 found)))
