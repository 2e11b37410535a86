-- What an adoption comes to.
use Rattle.std.proofs.Common.{◌≡◌, ◌<◌, ◌∷◌, [], Bool, true, false, Some, None, Ok, Err, length, sym, ap, ◌∙◌}
use Rattle.std.specs.Bool.{then_some}
use Rattle.std.specs.Prelude.{nat_lt}
use Rattle.std.proofs.lemmas.Bool.{lt-ltb}
use Rattle.adr_values.specs.First.{first_of}
use Rattle.adr_values.specs.Vector.{cursor_limit, raised}
use Rattle.adr_call.specs.declared.refusal.Table.TheVariants.{Cursors}
use Rattle.adr_call.specs.declared.refusal.AdoptRefusal.TheVariants.{IdentifierUsed, Full}
use Rattle.adr_call.specs.declared.refusal.AdoptRefusal.{AdoptRefusal}
use Rattle.adr_model.specs.Collect.{adopt, adopt_refusal, names_inv, woken}
use Rattle.adr_model.specs.Refusing.{unless}
use Rattle.adr_model.specs.Store.{State, Store}
use Rattle.adr_model.specs.Update.{Identifier}

-- where nothing is refused, neither reason holds
not_full : (named many : Bool) → None ≡ first_of (then_some named IdentifierUsed ∷ then_some many (Full Cursors cursor_limit) ∷ []) → many ≡ true → ⊥
not_full true many e is = cc
not_full false true e is = cc
not_full false false e is = cc

module _ (image : Store) (dsa inv : Identifier) where
  pub fits : None ≡ adopt_refusal image inv (woken image dsa inv) → cursor_limit < length (raised image.vector inv image.usn) → ⊥
  fits e many =
      let n = length (raised image.vector inv image.usn) in
      not_full (names_inv image inv) (nat_lt cursor_limit n) e (lt-ltb cursor_limit n many)

  pub refused_so : (refusal : AdoptRefusal) → Some refusal ≡ adopt_refusal image inv (woken image dsa inv) → adopt image dsa inv ≡ Err refusal
  refused_so refusal e = ap (λ o. unless o (woken image dsa inv)) (sym e)

  pub adopted_so : (s : State) → None ≡ adopt_refusal image inv (woken image dsa inv) → s ≡ woken image dsa inv → adopt image dsa inv ≡ Ok s
  adopted_so s e is = ap (λ o. unless o (woken image dsa inv)) (sym e) ∙ ap Ok (sym is)
