use Rattle.std.proofs.Common.{sym, ap, ◌∙◌, refl, subst}
use Rattle.std.specs.Option.{option_map}
use Rattle.adr_model.specs.Store.{Held}
use Rattle.adr_update.specs.Key.{key_of}
use Rattle.adr_shelves.specs.Place.{is_proper, place_of}
use Rattle.adr_table.specs.Slots.{HasSlot, row_at}
use Rattle.adr_table.proofs.Listed.{listed_held}
use Rattle.adr_shelves.proofs.Places.{proper_place}
use Rattle.adr_table.proofs.Rooms.{hinted_held, kept_more, mapped_some, numbered_more, room_more}
use Rattle.adr_table.proofs.table.Table.reserve_one.Goals as goal

pub returns-in_err-remember-clause-kept : goal.returns-in_err-remember-clause-kept
returns-in_err-remember-clause-kept c = kept_more c.args.self.now _ c.requires.kept c.requires.kept.tidy refl (λ q. refl) (λ k is. is) (λ k is. is)

pub returns-in_err-remember-clause-numbered : goal.returns-in_err-remember-clause-numbered
returns-in_err-remember-clause-numbered c =
    numbered_more c.args.self.now.slots c.args.self.now.slots c.args.self.now.locals c.remember.new.locals c.requires.numbered refl c.remember.ensures.more

pub returns-in_err-remember-clause-more : goal.returns-in_err-remember-clause-more
returns-in_err-remember-clause-more c h = room_more c.args.self.now _ h (λ q is. is) (λ k is. is) (λ k is. is) c.remember.ensures.more

pub reserve-requires-clause-proper : goal.reserve-requires-clause-proper
reserve-requires-clause-proper c = ap is_proper c.of.ensures ∙ proper_place (key_of c.key-key.result)

pub returns-in_err-usn-clause-kept : goal.returns-in_err-usn-clause-kept
returns-in_err-usn-clause-kept c = kept_more c.args.self.now _ c.requires.kept c.reserve.ensures.tidy c.reserve.ensures.seen c.reserve.ensures.same (λ k is. is) (λ k is. is)

pub returns-in_err-usn-clause-numbered : goal.returns-in_err-usn-clause-numbered
returns-in_err-usn-clause-numbered c =
    numbered_more c.args.self.now.slots c.reserve.new.self c.args.self.now.locals c.remember.new.locals c.requires.numbered c.reserve.ensures.seen c.remember.ensures.more

pub returns-in_err-usn-clause-more : goal.returns-in_err-usn-clause-more
returns-in_err-usn-clause-more c h = room_more c.args.self.now _ h c.reserve.ensures.more (λ k is. is) (λ k is. is) c.remember.ensures.more

pub returns-in-Some-clause-kept : goal.returns-in-Some-clause-kept
returns-in-Some-clause-kept c = kept_more c.args.self.now _ c.requires.kept c.reserve.ensures.tidy c.reserve.ensures.seen c.reserve.ensures.same (λ k is. is) (λ k is. is)

pub returns-in-Some-clause-numbered : goal.returns-in-Some-clause-numbered
returns-in-Some-clause-numbered c =
    numbered_more c.args.self.now.slots c.reserve.new.self c.args.self.now.locals c.remember.new.locals c.requires.numbered c.reserve.ensures.seen c.remember.ensures.more

pub returns-in-Some-clause-more : goal.returns-in-Some-clause-more
returns-in-Some-clause-more c h = room_more c.args.self.now _ h c.reserve.ensures.more (λ k is. is) (λ k is. is) c.remember.ensures.more

pub returns-in_err-remember-2-clause-kept : goal.returns-in_err-remember-2-clause-kept
returns-in_err-remember-2-clause-kept c = kept_more c.args.self.now _ c.requires.kept c.reserve.ensures.tidy c.reserve.ensures.seen c.reserve.ensures.same c.remember-2.ensures.more (λ k is. is)

pub returns-in_err-remember-2-clause-numbered : goal.returns-in_err-remember-2-clause-numbered
returns-in_err-remember-2-clause-numbered c =
    numbered_more c.args.self.now.slots c.reserve.new.self c.args.self.now.locals c.remember.new.locals c.requires.numbered c.reserve.ensures.seen c.remember.ensures.more

pub returns-in_err-remember-2-clause-more : goal.returns-in_err-remember-2-clause-more
returns-in_err-remember-2-clause-more c h = room_more c.args.self.now _ h c.reserve.ensures.more c.remember-2.ensures.more (λ k is. is) c.remember.ensures.more

pub returns-in_err-remember-3-clause-kept : goal.returns-in_err-remember-3-clause-kept
returns-in_err-remember-3-clause-kept c =
    kept_more c.args.self.now _ c.requires.kept c.reserve.ensures.tidy c.reserve.ensures.seen c.reserve.ensures.same c.remember-2.ensures.more c.remember-3.ensures.more

pub returns-in_err-remember-3-clause-numbered : goal.returns-in_err-remember-3-clause-numbered
returns-in_err-remember-3-clause-numbered c =
    numbered_more c.args.self.now.slots c.reserve.new.self c.args.self.now.locals c.remember.new.locals c.requires.numbered c.reserve.ensures.seen c.remember.ensures.more

pub returns-in_err-remember-3-clause-more : goal.returns-in_err-remember-3-clause-more
returns-in_err-remember-3-clause-more c h =
    room_more c.args.self.now _ h c.reserve.ensures.more c.remember-2.ensures.more c.remember-3.ensures.more c.remember.ensures.more

pub returns-clause-kept : goal.returns-clause-kept
returns-clause-kept c = kept_more c.args.self.now _ c.requires.kept c.reserve.ensures.tidy c.reserve.ensures.seen c.reserve.ensures.same c.remember-2.ensures.more c.remember-3.ensures.more

pub returns-clause-numbered : goal.returns-clause-numbered
returns-clause-numbered c =
    numbered_more c.args.self.now.slots c.reserve.new.self c.args.self.now.locals c.remember.new.locals c.requires.numbered c.reserve.ensures.seen c.remember.ensures.more

pub returns-clause-more : goal.returns-clause-more
returns-clause-more c h = room_more c.args.self.now _ h c.reserve.ensures.more c.remember-2.ensures.more c.remember-3.ensures.more c.remember.ensures.more

pub returns-in-Some-clause-ok : goal.returns-in-Some-clause-ok
returns-in-Some-clause-ok c =
    let place = c.of.ensures ∙ ap place_of c.key-key.ensures in
    let held = mapped_some (λ (h : Held). h.local) (row_at c.args.self.now.slots (place_of c.args.row.now.update.key)) c.in-Some.usn
    (sym c.in-Some.is ∙ c.in_ok-usn.ensures.local ∙ ap (λ p. option_map (λ (h : Held). h.local) (row_at c.args.self.now.slots p)) place) in
    record {
      slot = subst (HasSlot c.reserve.new.self) place c.in_ok-usn.ensures.ok;
      hinted = hinted_held c.args.self.now.slots c.args.self.now.back c.requires.kept.backed c.args.row.now.update.key held;
      listed = listed_held c.args.self.now.slots c.args.self.now.dead c.requires.kept.tidy c.requires.kept.listed c.args.row.now.update.key held;
      located = c.in_ok-remember.ensures.ok;
    }
