use Rattle.std.proofs.Common.{List, ℕ, Result, Ok, Err, IfOk, ◌∙◌, ap, length, subst, sym}
use Rattle.adr_model.specs.Formed.{IsFormedStore}
use Rattle.adr_model.specs.Store.{Store}
use Rattle.adr_image.specs.Stored.{IsSpelled, image}
use Rattle.adr_image.proofs.Counted.{store_long}
use Rattle.adr_records.proofs.contents.image_of.Goals as goal

if_ok_so : {X E : Type 0} (P Q : X → Type 0) (r : Result X E) → IfOk r P → ((x : X) → P x → Q x) → IfOk r Q
if_ok_so P Q (Ok x) p f = f x p
if_ok_so P Q (Err e) p f = tt

pub encode-requires-clause-formed : goal.encode-requires-clause-formed
encode-requires-clause-formed c = subst IsFormedStore (sym c.contents_of-contents.ensures) c.requires.formed.store

pub encode-requires-clause-spelled : goal.encode-requires-clause-spelled
encode-requires-clause-spelled c = subst IsSpelled (sym c.contents_of-contents.ensures) c.requires.spelled

pub returns-clause-written : goal.returns-clause-written
returns-clause-written c = if_ok_so _ _ c.encode.result c.encode.ensures (λ bytes is. is ∙ ap (λ (s : Store). image s) c.contents_of-contents.ensures)

pub returns-clause-long : goal.returns-clause-long
returns-clause-long c =
    if_ok_so _ _ c.encode.result c.encode.ensures (λ bytes is.
    ap (λ (l : List ℕ). length l) (is ∙ ap (λ (s : Store). image s) c.contents_of-contents.ensures)
    ∙ store_long c.args.state.now.store c.requires.formed.store c.requires.spelled)
