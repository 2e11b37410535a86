-- The empty world is that of a run.
use Rattle.std.proofs.Common.{rules, subst}
use Rattle.adr_model.specs.Member.{Member}
use Rattle.adr_model.specs.World.{empty_world}
use Rattle.adr_model.specs.Sound.{IsSoundBook, AreIdentifiersSound, IsSoundWorld, IsOrderlyWorld}
use Rattle.adr_model.specs.Convergence.{BeginsSound}
use Rattle.adr_law_calls.proofs.Beginning.{nothing_stood}

book_is_sound : IsSoundBook empty_world.book
book_is_sound = record {
  one_content = λ u m. absurd m;
  once = λ u m. absurd m;
  one_change = λ u m. absurd m;
  born = λ u m. absurd m;
  births = λ u m. absurd m;
  kept = λ i. record { start = λ x m. absurd m; changes = tt };
  logged = λ i usn h m. absurd (subst (Member h) (nothing_stood usn) m);
}

identifiers_are_sound : AreIdentifiersSound empty_world
identifiers_are_sound = search rules

world_is_sound : IsSoundWorld empty_world
world_is_sound = search rules

world_is_orderly : IsOrderlyWorld empty_world
world_is_orderly = search rules

pub begins_sound : BeginsSound
begins_sound = record { orderly = world_is_orderly; sound = λ clean. world_is_sound }
