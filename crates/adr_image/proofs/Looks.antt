-- A reader that looks at an object again only where it was refused.
use Rattle.std.proofs.Common.{List, ◌≡◌, ℕ, ◌≤◌, true, Result, Ok, Err, ◌∙◌}
use Rattle.std.specs.Prelude.{is_ok}
use Rattle.adr_values.specs.Table.{Table}
use Rattle.adr_values.specs.declared.failure.Failure.{Failure}
use Rattle.adr_wire.specs.declared.refusal.Malformed.{Malformed}
use Rattle.adr_values.specs.declared.stamp.Oid.{Oid}
use Rattle.adr_wire.specs.Reading.{Rest, Read, Tells}
use Rattle.adr_model.specs.Write.{usn_limit}
use Rattle.adr_image.specs.Image.{Rows, HeldLink, local_at, Earlier, object_with, object_at, Linked, local_and_key, link_behind, link_at}
use Rattle.adr_wire.proofs.Gathering.{refused_not}
use Rattle.adr_image.proofs.ImageLaws.{object_gives, seen_too}

module _ (usn : ℕ) (table : Table) (e : Earlier) (rest : Rest) where
  abbrev look : Read Rows
  look = object_with (local_at usn_limit) table e rest

  abbrev read : Read Rows
  read = object_with (local_at usn) table e rest

  pub ok_too : usn ≤ usn_limit → (y : Rows × Rest) → read ≡ Ok y → object_at usn table e rest ≡ Ok y
  unfolding object_at
  ok_too fits y h = refused_not rest.place look y read (object_gives usn table e fits rest y h) ∙ h

pub told_too : {X : Type 0} (r : Result X (Failure Malformed)) (rest : Rest) (a b : Read X) → is_ok r ≡ true → ((y : X × Rest) → a ≡ Ok y → b ≡ Ok y) → Tells r rest a → Tells r rest b
told_too (Ok x) rest a b ok to h = to (x, rest) h
told_too (Err e) rest a b ok to h = absurd (cc)

pub link_ok_too : (usn : ℕ) (table : Table) (dead : List Oid) (k : Linked) (rest : Rest) (y : HeldLink × Rest) → link_behind table usn dead k rest ≡ Ok y → link_at usn table dead k rest ≡ Ok y
unfolding link_at
link_ok_too usn table dead k rest y h =
    let z = seen_too dead usn k table rest y h in
    refused_not rest.place (local_and_key (λ _. true) usn dead k rest) z.0 (link_behind table usn dead k rest) z.1 ∙ h
