-- What hanging up leaves of a network, and what the next connection that is opened is.
use Rattle.std.proofs.Common.{◌≡◌, ◌∙◌, refl, sym, ap, ℕ, List, [], ◌∷◌, ◌++◌, Bool, true, false, Option, Some, None, IfSome}
use Rattle.std.specs.Prelude.{if◌then◌else◌}
use Rattle.std.specs.Option.{option_map}
use Rattle.adr_outside.specs.Traffic.{Traffic, Opens, closed, hung_up, open_line}

-- the open connection is done
abbrev shut : Traffic → Traffic
shut t = closed t.waiting (t.done ++ t.sent ∷ [])

waiting_by : (o : Bool) (t : Traffic) → (if o then shut t else t).waiting ≡ t.waiting
waiting_by true t = refl
waiting_by false t = refl

twice_by : (o : Bool) (t : Traffic) → t.is_open ≡ o → hung_up (if o then shut t else t) ≡ (if o then shut t else t)
twice_by true t is = refl
twice_by false t is = ap (λ (o : Bool). if o then shut t else t) is

-- nothing is open then
pub hung_twice : (o : Option Traffic) → option_map hung_up (option_map hung_up o) ≡ option_map hung_up o
hung_twice None = refl
hung_twice (Some t) = ap (λ (x : Traffic). let y : Option Traffic = Some x in y) (twice_by t.is_open t refl)

-- all that was sent is done
pub hung_line : (waiting done : List (List ℕ)) (left sent : List ℕ) (net new : Option Traffic) → new ≡ option_map hung_up net
    → net ≡ Some (open_line waiting done left sent) → new ≡ Some (closed waiting (done ++ sent ∷ []))
hung_line waiting done left sent net new hung is = hung ∙ ap (option_map hung_up) is

-- the next connection, where the one before it is hung up
pub record OpensNext (waiting done : List (List ℕ)) (after : Option Traffic) : Type 0 where
  pub came : List ℕ
  pub rest : List (List ℕ)
  pub opens : waiting ≡ came ∷ rest
  pub net : after ≡ Some (open_line rest done came [])

same_traffic : (s t : Traffic) → Some s ≡ Some t → s ≡ t
same_traffic s t is = cc

pub opens_next : (waiting done : List (List ℕ)) (before after : Option Traffic) → option_map hung_up before ≡ Some (closed waiting done)
    → IfSome before (λ t. Opens t after) → OpensNext waiting done after
opens_next waiting done None after at opens = absurd (cc at)
opens_next waiting done (Some t) after at opens =
    let e : hung_up t ≡ closed waiting done = same_traffic (hung_up t) (closed waiting done) at in
    record {
      came = opens.0;
      rest = opens.1;
      opens = sym (ap (λ (x : Traffic). x.waiting) e) ∙ waiting_by t.is_open t ∙ opens.2;
      net = opens.3 ∙ ap (λ (x : Traffic). let y : Option Traffic = Some (open_line opens.1 x.done opens.0 []) in y) e;
    }
