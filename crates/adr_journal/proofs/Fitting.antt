-- Whether a commit fits, decided part by part.
use Rattle.std.proofs.Common.{◌≡◌, ◌+◌, ◌≤◌, Bool, true, false, Option, Some, None, refl, sym, ◌∙◌, ap, arith, if◌then◌else◌}
use Rattle.std.specs.Prelude.{not, nat_lt, ◌&&◌, ◌||◌, unwrap_or}
use Rattle.adr_model.specs.Change.{Change}
use Rattle.std.proofs.lemmas.Bool.{ltb-false}
use Rattle.adr_model.specs.Lengths.{Log, area_version, change_length, image_bytes, record_bytes, is_due}

some_log : (l next : Log) → Some l ≡ Some next → next ≡ l
some_log l next is = sym (ap (λ (o : Option Log). unwrap_or o l) is)

-- a log that there is behind a change, and one that there isn't
pub after_some : (a b : Bool) (l next : Log) → (if a && b then Some l else None) ≡ Some next → (next ≡ l) × (a ≡ true) × (b ≡ true)
after_some true true l next is = (some_log l next is, refl, refl)
after_some true false l next is = absurd (cc is)
after_some false b l next is = absurd (cc is)

pub after_none : (a b c : Bool) (l : Log) → (if a && b then Some l else None) ≡ None → ((a && b) && c) ≡ false
after_none true true c l is = absurd (cc is)
after_none true false c l is = refl
after_none false b c l is = refl

pub fits_so : (a b due short : Bool) → a ≡ true → b ≡ true → (due ≡ true → short ≡ true) → ((a && b) && (not due || short)) ≡ true
fits_so a b true short is_a is_b is_short = ap (λ (x : Bool). (x && b) && short) is_a ∙ ap (λ (x : Bool). x && short) is_b ∙ is_short refl
fits_so a b false short is_a is_b is_short = ap (λ (x : Bool). (x && b) && true) is_a ∙ ap (λ (x : Bool). x && true) is_b

pub too_long : (a b due short : Bool) → due ≡ true → short ≡ false → ((a && b) && (not due || short)) ≡ false
too_long true true due short is_due is_short = ap (λ (x : Bool). not x || short) is_due ∙ is_short
too_long true false due short is_due is_short = refl
too_long false b due short is_due is_short = refl

pub log_due : (due : Bool) (l other : Log) → due ≡ true → (if due then other else l) ≡ other
log_due true l other is = refl
log_due false l other is = absurd (cc is)

pub log_undue : (due : Bool) (l other : Log) → due ≡ false → (if due then other else l) ≡ l
log_undue true l other is = absurd (cc is)
log_undue false l other is = refl

-- what fits, part by part
pub fits_parts : (a b due short : Bool) → ((a && b) && (not due || short)) ≡ true → (a ≡ true) × (b ≡ true) × (due ≡ true → short ≡ true)
fits_parts true true true short is = (refl, refl, λ due. is)
fits_parts true true false short is = (refl, refl, λ due. absurd (cc due))
fits_parts true false due short is = absurd (cc is)
fits_parts false b due short is = absurd (cc is)

neither : (a b : Bool) → (a || b) ≡ false → b ≡ false
neither true b is = absurd (cc is)
neither false b is = is

-- where no checkpoint is due, the area is of the version that is written
pub version_is : (l : Log) (c : Change) → is_due l c ≡ false → l.version ≤ area_version → l.version ≡ area_version
version_is l c undue most = omega (arith, most, ltb-false l.version area_version (neither (nat_lt 0 (record_bytes l) && nat_lt (image_bytes l + 65536) (record_bytes l + 5 + change_length c)) (nat_lt l.version area_version) undue))
