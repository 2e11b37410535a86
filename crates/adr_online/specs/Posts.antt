-- A server's connections: where it stands between two of them, and what each comes to.
use Rattle.std.specs.Prelude.{◌≡◌, ◌⊎◌, ℕ, zero, suc, ◌<◌, List, [], ◌∷◌, ◌++◌, take}
use Rattle.adr_outside.specs.Traffic.{IsShort, Traffic, closed, hung_up}
use Rattle.adr_model.specs.Store.{State}
use Rattle.adr_law_journal.specs.Areas.{Found, Started}
use Rattle.adr_law_journal.specs.Kept.{FindsState}
use Rattle.adr_session.specs.declared.ending.End.{End}
use Rattle.adr_session.specs.declared.ending.End.TheVariants as ended
use Rattle.adr_session.specs.Talk.{Hung, Limit, Malformed, Point, Reaches, message_limit, talk}
use Rattle.adr_session.specs.Told.{FindsBehind, IsNear}
use Rattle.adr_online.specs.Lines.{connection_line}

-- where a server stands between two connections
pub record Post : Type 0 where
  pub stands : Found State  -- its state, and its log
  pub moments : List ℕ  -- the moments that its clock is going to give
  pub net : Traffic  -- what comes in its connections, and what was sent in them
  pub faults : ℕ  -- how many calls have failed in its connections
  pub written : List ℕ  -- the lines

-- what was sent in each connection before the next one, which hangs up the open one
abbrev pub done : Post → List (List ℕ)
done p = (hung_up p.net).done

-- a connection was opened in which this comes
abbrev pub opened : Post → List ℕ → Point
opened p came = record { stands = p.stands; moments = p.moments; left = came; sent = [] }

-- Behind so many messages a connection ended so, where the node stood at q, and this was sent. A fault of the line came behind fewer
-- than a connection may have. It may have come when the next message was done, and then a front of its answer was sent, not all.
abbrev pub Comes : Point → ℕ → End → Point → List ℕ → Type 0
Comes p n ended.Hung q sent = (talk message_limit p ≡ (q, n, Hung)) × (sent ≡ q.sent)
Comes p n ended.Malformed q sent = (talk message_limit p ≡ (q, n, Malformed)) × (sent ≡ q.sent)
Comes p n ended.Limit q sent = (talk message_limit p ≡ (q, n, Limit)) × (sent ≡ q.sent)
Comes p n ended.Fault q sent =
    (n < message_limit) × (r : Point) × Reaches n p r × IsNear r q
    × ((due : List ℕ) × (count : ℕ) × (q.sent ≡ r.sent ++ due) × IsShort count due × (sent ≡ r.sent ++ take count due))

-- so many calls had failed in connections before one, and so many behind it: one failed in it just where it ended as a fault
abbrev pub Fails : End → ℕ → ℕ → Type 0
Fails ended.Fault before after = before < after
Fails end before after = after ≡ before

-- the connection of this number was served and hung up, and its line written
abbrev pub Connects : ℕ → Post → Post → Type 0
Connects number p q =
    (came : List ℕ) × (rest : List (List ℕ)) × (p.net.waiting ≡ came ∷ rest)
    × ((n : ℕ) × (end : End) × (r : Point) × (sent : List ℕ) × (faults : ℕ) × Comes (opened p came) n end r sent × Fails end p.faults faults
    × (q ≡ record {
      stands = r.stands;
      moments = r.moments;
      net = closed rest (done p ++ sent ∷ []);
      faults = faults;
      written = p.written ++ connection_line number n end;
    }))

-- so many connections were served, one after the other
abbrev pub Behind : ℕ → Post → Post → Type 0
Behind zero p q = q ≡ p
Behind (suc n) p q = (r : Post) × Behind n p r × Connects (suc n) r q

-- ---- what a start finds

-- where the node stands, or behind some messages of the next connection
abbrev pub FindsFrom : Post → Started State → Type 0
FindsFrom p s =
    FindsState p.stands.state s
    ⊎ ((came : List ℕ) × (rest : List (List ℕ)) × (p.net.waiting ≡ came ∷ rest) × FindsBehind (opened p came) s)

-- the same behind some of so many connections; behind the last, where the node stands
abbrev pub FindsWithin : ℕ → Post → Started State → Type 0
FindsWithin count p s =
    (n : ℕ) × (q : Post) × Behind n p q × (((n < count) × FindsFrom q s) ⊎ ((n ≡ count) × FindsState q.stands.state s))
