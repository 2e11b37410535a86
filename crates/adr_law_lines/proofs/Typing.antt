-- What a line says is typed.
use Rattle.std.proofs.Common.{◌≡◌, ℕ, List, [], ◌∷◌, length, inl, inr, refl, sym, subst, true}
use Rattle.std.specs.Prelude.{nat_le}
use Rattle.std.specs.Str.{is_utf8}
use Rattle.std.proofs.lemmas.Bool.{and_parts}
use Rattle.adr_call.specs.declared.write.Write.{Write}
use Rattle.adr_call.specs.declared.write.Write.TheVariants.{Add, Modify, Rename, Delete, Link, Unlink}
use Rattle.adr_call.specs.declared.call.Call.TheVariants as calls
use Rattle.adr_call.specs.declared.event.Event.{Event}
use Rattle.adr_call.specs.declared.event.Event.TheVariants as events
use Rattle.adr_call.specs.declared.event.Coming.TheVariants as comings
use Rattle.adr_call.specs.declared.event.Use.TheVariants as uses
use Rattle.adr_call.specs.declared.event.Made.TheVariants as mades
use Rattle.adr_values.specs.Assignments.{Given}
use Rattle.adr_values.specs.declared.content.Value.{Value as Item}
use Rattle.adr_values.specs.declared.content.Value.TheVariants.{Text, Number, Flag, Octets, Ref}
use Rattle.adr_token.specs.Texts.{is_text}
use Rattle.adr_token.specs.Spelled.{SpellsValue, SpellsValues}
use Rattle.adr_schedule.specs.Grammar.{given_in, tokens_written, tokens_behind, sets, HaveSpellings, IsVersion, IsAllowed}
use Rattle.adr_wire.specs.Headed.{is_version}
use Rattle.adr_model.specs.Member.{Each}
use Rattle.adr_model.specs.Write.{write_meant}
use Rattle.adr_law_recorded.specs.Typed.{IsTypedValue, AreTypedValues, IsTypedWrite, IsTyped}

-- ---- values

text_typed : (text : List ℕ) → is_text text ≡ true → is_utf8 text ≡ true
text_typed text is = (and_parts (nat_le (length text) 65535) (is_utf8 text) is).1

value_typed : (v : Item) (bytes : List ℕ) → SpellsValue v bytes → IsTypedValue v
value_typed (Text text) bytes q = text_typed text q.0
value_typed (Number number) bytes q = q.0
value_typed (Flag flag) bytes q = tt
value_typed (Octets octets) bytes q = tt
value_typed (Ref id) bytes q = q.0.0

-- what each spelled value is, all values given are
module _ (P : Item → Type 0) (of_value : (v : Item) (bytes : List ℕ) → SpellsValue v bytes → P v) where
  values_so : (vs : List Item) (bytes : List ℕ) → SpellsValues vs bytes → Each P vs
  values_so [] bytes q v m = absurd m
  values_so (x ∷ []) bytes q v (inl e) = subst P (sym e) (of_value x bytes q)
  values_so (x ∷ []) bytes q v (inr m) = absurd m
  values_so (x ∷ y ∷ vs) bytes q v (inl e) = subst P (sym e) (of_value x q.0 q.2)
  values_so (x ∷ y ∷ vs) bytes q v (inr m) = values_so (y ∷ vs) q.1 q.3 v m

  pub given_so : (gs : List Given) → HaveSpellings (sets gs) → Each (λ (g : Given). Each P g.1) gs
  given_so [] h g m = absurd m
  given_so (x ∷ gs) h g (inl e) = subst (λ (z : Given). Each P z.1) (sym e) (values_so x.1 h.0.1.1 h.0.1.3)
  given_so (x ∷ gs) h g (inr m) = given_so gs h.1 g m

given_typed : (gs : List Given) → HaveSpellings (sets gs) → AreTypedValues gs
given_typed = given_so IsTypedValue value_typed

-- ---- events

-- a write whose tokens have spellings
write_typed : (what : Write) → HaveSpellings (tokens_written (given_in what) what) → IsTypedWrite (write_meant what)
write_typed (Add guid class parent text values) (of_guid, (of_class, (of_parent, (of_text, given)))) = (of_guid.1.0.0, of_parent.1.0.0, text_typed text of_text.1.0, given_typed values given)
write_typed (Modify guid values) (of_guid, given) = (of_guid.1.0.0, given_typed values given)
write_typed (Rename guid parent text) (of_guid, (of_parent, (of_text, end))) = (of_guid.1.0.0, of_parent.1.0.0, text_typed text of_text.1.0)
write_typed (Delete guid) (of_guid, end) = of_guid.1.0.0
write_typed (Link from attr to) (of_from, (of_attr, (of_to, end))) = (of_from.1.0.0, of_to.1.0.0)
write_typed (Unlink from attr to) (of_from, (of_attr, (of_to, end))) = (of_from.1.0.0, of_to.1.0.0)

version_known : (version : ℕ) → IsVersion version → is_version version ≡ true
version_known version (inl first) = rw first refl
version_known version (inr second) = rw second refl

pub event_typed : (e : Event) → IsAllowed e → IsTyped e
unfolding tokens_behind
event_typed (events.Comes name inv (comings.Fresh dsa)) (line, (verb, (to, (of_dsa, (of_inv, end))))) = (of_dsa.1.0.0, of_inv.1.0.0)
event_typed (events.Comes name inv (comings.Installed dsa image)) (line, (verb, (to, (of_dsa, (of_image, (of_inv, end)))))) = (of_dsa.1.0.0, of_inv.1.0.0)
event_typed (events.Comes name inv (comings.Restored image)) (line, (verb, (to, (of_image, (of_inv, end))))) = of_inv.1.0.0
event_typed (events.Calls name (calls.Write what)) (line, (verb, (to, behind))) = write_typed what behind
event_typed (events.Uses name (uses.Revive guid parent text) image) (line, (verb, (to, (of_guid, (of_image, (of_parent, (of_text, end))))))) = (of_guid.1.0.0, of_parent.1.0.0, text_typed text of_text.1.0)
event_typed (events.Binds name (mades.Ask partner max version) bind) allowed = version_known version allowed.0.1
event_typed _ allowed = tt
