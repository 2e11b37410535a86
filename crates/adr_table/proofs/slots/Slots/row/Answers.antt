use Rattle.std.proofs.Common.{sym, ◌∙◌, ap, ◌≡◌, Some, None}
use Rattle.std.specs.Map.{lookup}
use Rattle.std.specs.BTreeMap.{is_at}
use Rattle.std.specs.Option.{option_copied}
use Rattle.adr_update.specs.Key.{key_of}
use Rattle.adr_shelves.specs.Place.{place_of, place_order}
use Rattle.adr_shelves.specs.Shelves.{flat}
use Rattle.adr_table.proofs.Seen.{found}
use Rattle.adr_table.proofs.slots.Slots.row.Goals as goal

pub returns-in-Some : goal.returns-in-Some
returns-in-Some c =
    let there : Some c.in-Some.slot.now ≡ lookup (is_at (place_order (place_of (key_of c.args.key.now)))) c.args.self.now.map =
    ap option_copied (sym c.in-Some.is) ∙ c.slot.ensures ∙ ap (λ p. lookup (is_at (place_order p)) c.args.self.now.map) c.of.ensures in
    c.as_ref.ensures.value ∙ ap flat there ∙ found c.args.self.now.map (key_of c.args.key.now) c.requires.ordered c.requires.home

pub returns-in-None : goal.returns-in-None
returns-in-None c =
    let there : None ≡ lookup (is_at (place_order (place_of (key_of c.args.key.now)))) c.args.self.now.map =
    ap option_copied (sym c.in-None.is) ∙ c.slot.ensures ∙ ap (λ p. lookup (is_at (place_order p)) c.args.self.now.map) c.of.ensures in
    ap flat there ∙ found c.args.self.now.map (key_of c.args.key.now) c.requires.ordered c.requires.home
