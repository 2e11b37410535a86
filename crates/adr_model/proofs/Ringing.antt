-- What whole cycles keep, a ring keeps, and what holds of each answer to one holds of the answer to a ring.
use Rattle.std.proofs.Common.{◌≡◌, inl, inr, ℕ, List, [], ◌∷◌, Bool, not, Option, Some, None, refl, sym, subst}
use Rattle.std.specs.Prelude.{codes}
use Rattle.adr_call.specs.declared.answer.Answer.{Answer}
use Rattle.adr_call.specs.declared.outcome.Outcome.TheVariants as outcomes
use Rattle.adr_model.specs.Member.{Each}
use Rattle.adr_model.specs.World.{World, Name, answer}
use Rattle.adr_model.specs.Cycles.{pulls, cycle, reply_limit}
use Rattle.adr_model.specs.Rings.{is_fine, unfinished, or_else, if_whole, Connection, cycles, ring, times, show_alike, vectors_alike, compared, rings}
use Rattle.adr_model.specs.Convergence.{IsAmidCycles}
use Rattle.adr_model.proofs.Members.{found_member}

module _ (I : World → Type 0) (P : Answer → Type 0) (keeps : (w : World) (dest source : Name) (max : ℕ) → I w → I (cycle w dest source max).0 × Each P (cycle w dest source max).1) where
  -- an answer that is left has it
  abbrev Left : World × Option Answer → Type 0
  Left t = I t.0 × ((a : Answer) → t.1 ≡ Some a → P a)

  if_whole_so : (t : World × List Answer) (go : World → World × Option Answer) → I t.0 × Each P t.1 → ((v : World) → I v → Left (go v)) → Left (if_whole t go)
  if_whole_so t go is goes = by (unfinished t.1) refl
    where
      by : (o : Option Answer) → unfinished t.1 ≡ o → Left (or_else o t.0 go)
      by (Some a) e = (is.0, λ b f. let same : a ≡ b = cc in subst P same (is.1 a (found_member (λ (x : Answer). not (is_fine x.outcome)) t.1 a e).0))
      by None e = goes t.0 is.0

  pub cycles_so : (cs : List Connection) (max : ℕ) (w : World) → I w → Left (cycles cs max w)
  cycles_so [] max w is = (is, λ a e. absurd (cc))
  cycles_so (c ∷ cs) max w is = if_whole_so (cycle w c.0 c.1 max) (λ v. cycles cs max v) (keeps w c.0 c.1 max is) (λ v h. cycles_so cs max v h)

  pub rings_so : (first : Name) (others : List Name) (rounds max : ℕ) → ((v : World) (directories vectors : Bool) → P (answer (codes "ring") first (outcomes.Compared rounds directories vectors)))
      → (w : World) → I w → I (rings w first others rounds max).0 × Each P (rings w first others rounds max).1
  rings_so first others rounds max comparing w is = by t.0 t.1 (cycles_so (times rounds (ring first others)) max w is)
    where
      t : World × Option Answer
      t = cycles (times rounds (ring first others)) max w

      by : (v : World) (o : Option Answer) → Left (v, o) → I (compared first others rounds v o).0 × Each P (compared first others rounds v o).1
      by v (Some a) left = (left.0, one)
        where
          one : Each P (a ∷ [])
          one b (inl e) = subst P (sym e) (left.1 a refl)
          one b (inr m) = absurd m
      by v None left = (left.0, one)
        where
          one : Each P (answer (codes "ring") first (outcomes.Compared rounds (show_alike v (first ∷ others)) (vectors_alike v (first ∷ others))) ∷ [])
          one b (inl e) = subst P (sym e) (comparing v (show_alike v (first ∷ others)) (vectors_alike v (first ∷ others)))
          one b (inr m) = absurd m

-- what pulls keep holds of each world on the way
pub amid_so : (I : World → Type 0) → ((w : World) (dest source : Name) (max n : ℕ) → I w → I (pulls n w dest source max).0)
    → (cs : List Connection) (max : ℕ) (w : World) → I w → (v : World) → IsAmidCycles cs max w v → I v
amid_so I keeps [] max w is v way = subst I (sym way) is
amid_so I keeps (c ∷ cs) max w is v (inl (n, e)) = subst I (sym e) (keeps w c.0 c.1 max n is)
amid_so I keeps (c ∷ cs) max w is v (inr way) = amid_so I keeps cs max (cycle w c.0 c.1 max).0 (keeps w c.0 c.1 max reply_limit is) v way

-- and the world behind a ring is one of these
amid_behind : (cs : List Connection) (max : ℕ) (w : World) → IsAmidCycles cs max w (cycles cs max w).0
amid_behind [] max w = refl
amid_behind (c ∷ cs) max w = by (amid_behind cs max (cycle w c.0 c.1 max).0) (unfinished (cycle w c.0 c.1 max).1)
  where
    by : IsAmidCycles cs max (cycle w c.0 c.1 max).0 (cycles cs max (cycle w c.0 c.1 max).0).0 → (o : Option Answer)
        → IsAmidCycles (c ∷ cs) max w (or_else o (cycle w c.0 c.1 max).0 (λ v. cycles cs max v)).0
    by rest (Some a) = inl (reply_limit, refl)
    by rest None = inr rest

pub behind_is_amid : (first : Name) (others : List Name) (rounds max : ℕ) (w : World) → IsAmidCycles (times rounds (ring first others)) max w (rings w first others rounds max).0
behind_is_amid first others rounds max w = by t.0 t.1 (amid_behind (times rounds (ring first others)) max w)
  where
    t : World × Option Answer
    t = cycles (times rounds (ring first others)) max w

    by : (v : World) (o : Option Answer) → IsAmidCycles (times rounds (ring first others)) max w v → IsAmidCycles (times rounds (ring first others)) max w (compared first others rounds v o).0
    by v (Some a) is = is
    by v None is = is
