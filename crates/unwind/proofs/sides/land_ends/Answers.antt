use mathlib.Core.Path.{refl, ◌∙◌}
use native.Mathlib.Omega.{arith}
use lib.ListN.{length-set}
use Rattle.image.specs.Image.{routes_in}
use Rattle.graph.specs.Lent.{held_of}
use Rattle.unwind.proofs.SideLaws.{lands_none, lands_more}
use Rattle.unwind.proofs.sides.land_ends.Goals as goal

pub loop-k-init : goal.loop-k-init
loop-k-init c = (refl, lands_none (held_of c.args.g.now).graph (routes_in c.args.s.now c.args.y) c.args.ends.now c.args.landings.now)

pub loop-k-preserved : goal.loop-k-preserved
loop-k-preserved c = let here = rw c.branch_in.ensures.is at c.land-b.ensures.lands in
    (length-set c.loop-k.landings c.loop-k.k _ ∙ c.loop-k.invariant.0, lands_more (held_of c.args.g.now).graph (routes_in c.args.s.now c.args.y) c.args.ends.now c.loop-k.landings c.loop-k.k _ (omega (arith, c.loop-k.invariant.0, c.requires.landings_fit)) here c.loop-k.invariant.1)
