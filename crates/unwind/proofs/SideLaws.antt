-- The blocks of handlers and of routes in scratch.
--     land_propagate, land_resume, land_handler    an end that propagates, one that resumes, and one that is a handler
--     lands_none, lands_more       the ends, one by one
--     guards_none, guards_more     the routes, one by one
-- Assumes nothing.
use mathlib.Core.Path.{◌≡◌, ◌∙◌}
use mathlib.Core.List.{List, []}
use Prim.Native.Nat.{ℕ, ◌+◌, ◌<◌}
use native.Mathlib.Nat.{not-suc-le-zero}
use native.Mathlib.Decide.{ℕ_discrete}
use native.Mathlib.Omega.{arith}
use borrow.Author.Tests.{eq-eqb, ne_eqb}
use lib.ListN.{length, get_or, set}
use lib.Seq.{get_or-set_same, get_or-set_other}
use Rattle.image.specs.Record.{route_from}
use Rattle.image.specs.Image.{RouteImage}
use Rattle.image.specs.Deal.{end_of}
use Rattle.image.specs.declared.record.Path.{Path}
use Rattle.graph.specs.Graph.{Graph}
use Rattle.graph.proofs.RouteLaws.{route_is}
use Rattle.addition.specs.Blocks.{block_in, block_of, leading}
use Rattle.unwind.specs.Stands.{Guards}
use Rattle.unwind.specs.Nodes.{branch_in, path_record}
use Rattle.unwind.specs.Placed.{set_at, SetChanged}
use Rattle.unwind.specs.Sides.{landing, Lands, GuardsIn}

module _ (g : Graph) where
  pub land_propagate : (p : Path) → p.end ≡ 1 → landing g (end_of p) ≡ 65535
  unfolding landing end_of
  land_propagate p e = rw e

  pub land_resume : (p : Path) → (p.end ≡ 0 → ⊥) → (p.end ≡ 1 → ⊥) → landing g (end_of p) ≡ 65534
  unfolding landing end_of
  land_resume p ne other = rw (ne_eqb p.end 0 ne, ne_eqb p.end 1 other)

  pub land_handler : (p : Path) → p.end ≡ 0 → landing g (end_of p) ≡ block_in (leading g p.handler)
  unfolding landing end_of block_of
  land_handler p e = rw (eq-eqb p.end 0 e)

  module _ (m : RouteImage) where
    pub lands_none : (ends landings : List ℕ) → Lands g m ends landings 0
    lands_none ends landings = record { land = λ k h. absurd (not-suc-le-zero h) }

    pub lands_more : (ends landings : List ℕ) (n b : ℕ) → n < length landings → b ≡ landing g (end_of (path_record m (branch_in ends n).what))
        → Lands g m ends landings n → Lands g m ends (set landings n b) (n + 1)
    lands_more ends landings n b h is old =
        record {
          land = λ k lt.
              elim (ℕ_discrete k n) [
                | yes e ↦ rw e (get_or-set_same landings n b 0 h ∙ is)
                | no ne ↦ get_or-set_other landings n k b 0 ne ∙ old.land k (omega arith)
              ];
        }

    pub guards_none : (guards : List ℕ) → GuardsIn g m guards 0
    guards_none guards = record { has = λ r h. absurd (not-suc-le-zero h) }

    pub guards_more : (guards guards' : List ℕ) (n : ℕ) → n < length m.routes → Guards g (get_or m.routes n (route_from [] 0)).start (get_or m.routes n (route_from [] 0)).end (set_at guards' n)
        → SetChanged guards n guards' → GuardsIn g m guards n → GuardsIn g m guards' (n + 1)
    guards_more guards guards' n h found p old =
        record {
          has = λ r lt.
              elim (ℕ_discrete r n) [
                | yes e ↦ rw (e, route_is m n h) (found _)
                | no ne ↦ rw (p.others r ne) (old.has r (omega arith))
              ];
        }
