use Rattle.std.proofs.Common.{◌+◌, ◌/◌, List, ℕ, [], ◌∷◌, length, take, sym, ap, ◌∙◌, arith, length-take}
use Rattle.adr_disk.specs.Disk.{put}
use Rattle.adr_disk.proofs.Bytes.{length-put}
use Rattle.adr_run_disk.proofs.Writes.{filled_start, fits_filled, put-filled}
use Rattle.adr_run_disk.proofs.platter.put_torn.Goals as goal

pub put-requires : goal.put-requires
put-requires c =
    let bytes = c.args.bytes.now.items in
    let new = c.args.new.now in
    let half = take (length new / 2) new in
    omega (arith, length-put bytes c.args.at half, length-put bytes c.args.at new, length-take (length new / 2) new, c.requires.room)

pub put-requires-in-rest : goal.put-requires-in-rest
put-requires-in-rest c =
    let new = c.args.new.now in
    let place = c.rest.place in
    omega (
      arith,
      ap (λ (l : List ℕ). length (put l (c.args.at + place) (0xC3 ∷ []))) c.rest.invariant.items,
      fits_filled c.args.bytes.now.items new c.args.at (length new / 2) place (omega arith) (omega arith) c.rest-test.true,
      c.rest.invariant.capacity,
      c.requires.room,
    )

pub rest-init : goal.rest-init
rest-init c = record {
  items = c.put.ensures.items ∙ ap (put c.args.bytes.now.items c.args.at) (sym (filled_start (length c.args.new.now / 2) c.args.new.now));
  capacity = c.put.ensures.capacity;
}

pub rest-preserved : goal.rest-preserved
rest-preserved c = record {
  items =
      c.put-in-rest.ensures.items
      ∙ ap (λ (l : List ℕ). put l (c.args.at + c.rest.place) (0xC3 ∷ [])) c.rest.invariant.items
      ∙ put-filled c.args.bytes.now.items c.args.new.now c.args.at (length c.args.new.now / 2) c.rest.place (omega arith) (omega arith);
  capacity = omega arith;
}
