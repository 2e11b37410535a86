-- What a schema allows of an attribute is of what the attribute holds.
use Rattle.std.proofs.Common.{◌≡◌, true, get_or, Option, Some, refl, sym, subst}
use Rattle.std.proofs.lemmas.Option.{slice_get-get_or}
use Rattle.adr_values.specs.declared.content.Value.{Value as Item}
use Rattle.adr_values.specs.declared.content.Value.TheVariants.{Text, Number, Flag, Octets, Ref}
use Rattle.adr_values.specs.declared.table.Kind.{Kind}
use Rattle.adr_values.specs.declared.table.Kind.TheVariants.{Plain}
use Rattle.adr_values.specs.declared.table.Syntax.{Syntax}
use Rattle.adr_values.specs.declared.table.Syntax.TheVariants.{Text as OfText, Number as OfNumber, Flag as OfFlag, Octets as OfOctets, Ref as OfRef}
use Rattle.adr_values.specs.Schemas.{newest}
use Rattle.adr_values.specs.Table.{kind_at}
use Rattle.adr_values.specs.Values.{fits}
use Rattle.adr_values.proofs.Extending.{second_is_last}
use Rattle.adr_json.specs.Exportable.{is_of_kind, is_of_syntax}
use Rattle.adr_json.specs.Laws.{AllowedValuesAreOfKind}

fitting : (s : Syntax) (v : Item) → fits s v ≡ true → is_of_syntax s v ≡ true
fitting (OfText least greatest) (Text text) h = refl
fitting (OfNumber least greatest) (Number n) h = refl
fitting OfFlag (Flag flag) h = refl
fitting (OfOctets least greatest) (Octets octets) h = refl
fitting OfRef (Ref id) h = refl
fitting s v h = absurd (cc)

-- the newest schema has all that a schema has
pub of_kind : AllowedValuesAreOfKind
of_kind schema class attr values h = λ k d below.
    let plain : kind_at newest attr ≡ Some (Plain h.syntax h.most) = (second_is_last schema).kinds attr (Plain h.syntax h.most) h.plain in
    let fit = fitting h.syntax (get_or values k d) (h.right.fit k (get_or values k d) (slice_get-get_or values k d below)) in
    subst (λ (o : Option Kind). is_of_kind o (get_or values k d) ≡ true) (sym plain) fit
