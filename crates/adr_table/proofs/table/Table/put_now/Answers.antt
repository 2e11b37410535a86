use Rattle.std.proofs.Common.{◌∙◌, ap, refl, subst, Some}
use Rattle.std.specs.Prelude.{is_some}
use Rattle.adr_table.specs.Back.{IsHinted}
use Rattle.adr_table.specs.Deaths.{IsListed}
use Rattle.adr_table.specs.Table.{IsKept}
use Rattle.adr_table.specs.declared.table.Table.{Table}
use Rattle.adr_table.proofs.Rooms.{backed_more, backed_same, kept_more, kept_put, kept_stripped}
use Rattle.adr_table.proofs.Seen.{found}
use Rattle.adr_table.proofs.table.Table.put_now.Goals as goal

pub returns-in_err-remember-clause-kept : goal.returns-in_err-remember-clause-kept
returns-in_err-remember-clause-kept c = kept_more c.args.self.now _ c.requires c.requires.tidy refl (λ q. refl) c.remember.ensures.more (λ k is. is)

pub returns-in_err-remember-2-clause-kept : goal.returns-in_err-remember-2-clause-kept
returns-in_err-remember-2-clause-kept c = kept_more c.args.self.now _ c.requires c.requires.tidy refl (λ q. refl) c.remember.ensures.more c.remember-2.ensures.more

pub returns-in_err-was-clause-kept : goal.returns-in_err-was-clause-kept
returns-in_err-was-clause-kept c =
    kept_more c.args.self.now _ c.requires c.insert.ensures.tidy c.in_err-was.ensures.unseen c.in_err-was.ensures.same c.remember.ensures.more c.remember-2.ensures.more

pub returns-in_default-clause-kept : goal.returns-in_default-clause-kept
returns-in_default-clause-kept c =
    kept_put c.args.self.now _ c.args.row c.requires c.insert.ensures.tidy c.in_ok-was.ensures.seen c.in_ok-was.ensures.rows c.remember.ensures.more c.remember-2.ensures.more
    (subst (IsHinted c.remember.new.back) c.key-key.ensures c.in_ok-remember.ensures.ok) (subst (IsListed c.remember-2.new.dead) c.key-key.ensures c.in_ok-remember-2.ensures.ok)

pub strip-requires-clause-backed : goal.strip-requires-clause-backed
strip-requires-clause-backed c =
    backed_more c.args.self.now.slots c.insert.new.self c.remember.new.back c.args.row
    (backed_same c.args.self.now.slots c.args.self.now.slots c.args.self.now.back c.remember.new.back c.requires.backed c.remember.ensures.more (λ q. refl))
    (subst (IsHinted c.remember.new.back) c.key-key.ensures c.in_ok-remember.ensures.ok) c.in_ok-was.ensures.rows

pub returns-in-Some-clause-kept : goal.returns-in-Some-clause-kept
returns-in-Some-clause-kept c =
    let put : Table = record { slots = c.insert.new.self; back = c.remember.new.back; dead = c.remember-2.new.dead; locals = c.args.self.now.locals } in
    let kept : IsKept put = kept_put c.args.self.now put c.args.row c.requires c.insert.ensures.tidy c.in_ok-was.ensures.seen c.in_ok-was.ensures.rows
    c.remember.ensures.more c.remember-2.ensures.more
    (subst (IsHinted c.remember.new.back) c.key-key.ensures c.in_ok-remember.ensures.ok) (subst (IsListed c.remember-2.new.dead) c.key-key.ensures c.in_ok-remember-2.ensures.ok) in
    kept_stripped c.insert.new.self c.strip.new.slots c.remember.new.back c.remember-2.new.dead c.args.self.now.locals (Some c.in-Some.object) kept
    c.strip.ensures.tidy c.strip.ensures.seen c.strip.ensures.fewer

pub returns-in_default-clause-was : goal.returns-in_default-clause-was
returns-in_default-clause-was c = c.in_ok-was.ensures.was ∙ ap is_some (found c.args.self.now.slots.map c.args.row.update.key c.requires.tidy.ordered c.requires.tidy.home)

pub returns-in-Some-clause-was : goal.returns-in-Some-clause-was
returns-in-Some-clause-was c = c.in_ok-was.ensures.was ∙ ap is_some (found c.args.self.now.slots.map c.args.row.update.key c.requires.tidy.ordered c.requires.tidy.home)
