-- `add_hop_if_room` meets its contract: a hop is added, or there is no room. Assumes nothing.
use native.Mathlib.Omega.{arith}
use borrow.Author.Tests.{lt-ltb, le-ltb}
use lib.ListN.{length}
use Rattle.unwind.specs.HopWords.{rows_in}
use Rattle.unwind.proofs.HopLaws.{hops_none}
use Rattle.unwind.proofs.hops.add_hop_if_room.Goals as goal

pub returns-then-hop_count-lt-HOP_MOST : goal.returns-then-hop_count-lt-HOP_MOST
returns-then-hop_count-lt-HOP_MOST c = let l = c.args.h.now in rw (lt-ltb (length (rows_in l).hops) 2048 (omega arith)) c.add_hop.ensures

pub returns-else-hop_count-lt-HOP_MOST : goal.returns-else-hop_count-lt-HOP_MOST
returns-else-hop_count-lt-HOP_MOST c = let l = c.args.h.now in rw (le-ltb (length (rows_in l).hops) 2048 (omega arith)) (hops_none l)
