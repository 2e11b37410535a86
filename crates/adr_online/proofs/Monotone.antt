-- What a server came to, where it is said in other words where its node stands.
use Rattle.std.proofs.Common.{inl, inr, ℕ, suc, Result, Ok, Err}
use Rattle.adr_model.specs.Store.{State}
use Rattle.adr_law_journal.specs.Areas.{Found}
use Rattle.adr_session.specs.Talk.{Point}
use Rattle.adr_online.specs.declared.ended.Stop.{Stop}
use Rattle.adr_online.specs.declared.ended.Stop.TheVariants as stops
use Rattle.adr_online.specs.declared.ended.Online.{Online}
use Rattle.adr_online.specs.declared.ended.Online.TheVariants as online
use Rattle.adr_online.specs.Posts.{Post}
use Rattle.adr_online.specs.Served.{Outside, ServesAll, StopsAt}
use Rattle.adr_online.specs.Serves.{ServesFrom, online_of}

module _ (at so : Found State → Type 0) (fallen fell : Point → Type 0) (stands : (f : Found State) → at f → so f) (falls : (x : Point) → fallen x → fell x) where
  pub stops_so : (number : ℕ) (p : Post) (stop : Stop) (o : Outside) → StopsAt at fallen number p stop o → StopsAt so fell number p stop o
  stops_so number p stops.Link o s = (stands p.stands s.0, s.1)
  stops_so number p stops.Write o s = (s.0, s.1, stands s.0.stands s.2, s.3)
  stops_so number p stops.Disk o s = (s.0, s.1, falls s.0 s.2, s.3)
  stops_so number p stops.Clock o s = (s.0, s.1, s.2, stands s.0.stands s.3, s.4)
  stops_so number p stops.NoMemory o (inl s) = inl (stands p.stands s.0, s.1)
  stops_so number p stops.NoMemory o (inr (inl s)) = inr (inl (s.0, s.1, s.2, s.3, s.4, stands s.1.stands s.5))
  stops_so number p stops.NoMemory o (inr (inr s)) = inr (inr (s.0, s.1, stands s.0.stands s.2, s.3))

  pub serves_so : (count : ℕ) (p : Post) (r : Result Unit Stop) (o : Outside) → ServesAll at fallen count p r o → ServesAll so fell count p r o
  serves_so count p (Ok u) o s = (s.0, s.1, stands s.0.stands s.2, s.3)
  serves_so count p (Err stop) o s = (s.0, s.1, s.2, s.3, stops_so (suc s.0) s.1 stop o s.4)

  pub serves_from_so : (count : ℕ) (p : Post) (how : Online) (o : Outside) → ServesFrom at fallen count p how o → ServesFrom so fell count p how o
  serves_from_so count p online.Done o s = serves_so count p (Ok tt) o s
  serves_from_so count p online.WriteFault o s = serves_so count p (Err stops.Write) o s
  serves_from_so count p online.DiskFault o s = serves_so count p (Err stops.Disk) o s
  serves_from_so count p online.LinkFault o s = serves_so count p (Err stops.Link) o s
  serves_from_so count p online.NoMemory o s = serves_so count p (Err stops.NoMemory) o s
  serves_from_so count p (online.Damaged place) o s = absurd s
  serves_from_so count p online.ClockFault o s = serves_so count p (Err stops.Clock) o s

-- how the command ends
pub ends_so : (at : Found State → Type 0) (fallen : Point → Type 0) (count : ℕ) (p : Post) (r : Result Unit Stop) (o : Outside) → ServesAll at fallen count p r o → ServesFrom at fallen count p (online_of r) o
ends_so at fallen count p (Ok u) o s = s
ends_so at fallen count p (Err stops.Write) o s = s
ends_so at fallen count p (Err stops.Disk) o s = s
ends_so at fallen count p (Err stops.Link) o s = s
ends_so at fallen count p (Err stops.Clock) o s = s
ends_so at fallen count p (Err stops.NoMemory) o s = s
