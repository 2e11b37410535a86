-- What is told of a controller of a name.
use Rattle.std.proofs.Common.{◌≡◌, ◌∙◌, sym, ap, Some}
use Rattle.std.specs.Option.{option_and_then}
use Rattle.adr_model.specs.Replica.{Up, Replica}
use Rattle.adr_model.specs.Rings.{told_of, where_standing}
use Rattle.adr_model.specs.Store.{State}
use Rattle.adr_model.specs.World.{World, Name, replica_at}

module _ {A : Type 0} (w : World) (tell : State → A) (name : Name) where
  module _ (r : Replica) (is : replica_at w name ≡ Some r) where
    told_where : told_of w tell name ≡ where_standing r.standing (tell r.safe)
    told_where = ap (option_and_then (λ (q : Replica). where_standing q.standing (tell q.safe))) is

    -- it is up
    pub up_tells : (x : A) → r.standing ≡ Up → x ≡ tell r.safe → Some x ≡ told_of w tell name
    up_tells x up made = ap (λ (y : A). Some y) made ∙ sym (told_where ∙ ap (λ s. where_standing s (tell r.safe)) up)
