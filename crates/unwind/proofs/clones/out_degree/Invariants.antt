-- `out_degree` meets its contract. The loop's invariant: what is counted and what is left on the chain are all edges out of b. Assumes nothing.
use mathlib.Core.Path.{◌≡◌}
use Prim.Native.Nat.{◌+◌}
use lib.ListN.{length}
use Rattle.graph.specs.Lent.{held_of}
use Rattle.addition.specs.Part.{outgoing}
use Rattle.unwind.proofs.ChainLaws.{chain, OnChain}
use Rattle.unwind.proofs.clones.out_degree.Given as goal

abbrev pub invariant-loop-at : goal.invariant-loop-at
invariant-loop-at l = OnChain (held_of l.g).graph l.b l.at × (l.count + length (chain (held_of l.g).graph l.b l.at) ≡ length (outgoing (held_of l.g).graph l.b))

abbrev pub decreases-loop-at : goal.decreases-loop-at
decreases-loop-at l = length (chain (held_of l.g).graph l.b l.at)
