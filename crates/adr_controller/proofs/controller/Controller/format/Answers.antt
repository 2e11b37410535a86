use Rattle.std.proofs.Common.{inl, inr, ⊎_elim, sym, subst}
use Rattle.adr_controller.proofs.controller.Controller.format.Goals as goal

pub returns-in-Err-clause-again : goal.returns-in-Err-clause-again
returns-in-Err-clause-again g c = ⊎_elim
    (λ fault. inl (cc fault))
    (λ rest. inr (⊎_elim (λ full. subst g.K.Keeper.is_empty (sym (c.in-Err.ensures.full full).0) c.requires.empty) (λ none. c.in-Err.ensures.again none) rest))
    c.in-Err.ensures.refused
