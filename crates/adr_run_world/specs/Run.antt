-- What the code's run stands for.
use Rattle.std.specs.Prelude.{◌≢◌, List, [], ◌∷◌}
use Rattle.adr_model.specs.Spelled.{IsSpelledReply}
use Rattle.adr_law_recorded.specs.Ranged.{IsRangedRequest, IsRangedReply}
use Rattle.adr_model.specs.Member.{Each}
use Rattle.adr_model.specs.Replica.{Replica}
use Rattle.adr_model.specs.Serve.{Request, Reply}
use Rattle.adr_model.specs.World.{World, Name}
use Rattle.adr_model.specs.Sound.{IsWorldOfRun}
use Rattle.adr_run_replica.specs.Past.{Past}
use Rattle.adr_run_world.specs.declared.run.Run.{Run}

abbrev pub world_of : Run → World
world_of r =
    record {
      time = r.time;
      clean = r.clean;
      book = r.past.book;
      last_replies = r.past.last_replies;
      replicas = r.controllers.items;
      requests = r.requests;
      replies = r.replies;
      images = r.images;
      snapshots = r.snapshots;
      given = r.past.given;
    }

-- a world with another past
abbrev pub with_past : Past → World → World
with_past p w = record w { book = p.book; last_replies = p.last_replies; given = p.given }

-- no two controllers have one name
abbrev pub AreApart : List Replica → Type 0
AreApart [] = Unit {0}
AreApart (r ∷ rs) = Each (λ (q : Replica). r.name ≢ q.name) rs × AreApart rs

abbrev pub AreRanged : List (Name × Request) → Type 0
AreRanged requests = Each (λ (q : Name × Request). IsRangedRequest q.1) requests

abbrev pub AreSpelled : List (Name × Reply) → Type 0
AreSpelled replies = Each (λ (p : Name × Reply). IsSpelledReply p.1 × IsRangedReply p.1) replies

-- names differ, and what is bound is spelled and in the ranges of its form
pub record IsTidy (r : Run) : Type 0 where
  pub apart : AreApart r.controllers.items
  pub requests : AreRanged r.requests
  pub replies : AreSpelled r.replies

pub record IsSoundRun (r : Run) : Type 0 where
  pub of_run : IsWorldOfRun (world_of r)
  pub tidy : IsTidy r
