-- A node's edges and ends are few, and so are blocks. Assumes nothing.
use Prim.Native.Nat.{◌+◌, ◌≤◌}
use native.Mathlib.Nat.{mul-le-mul}
use native.Mathlib.Omega.{arith}
use Rattle.unwind.proofs.add.most.ways_out.Goals as goal

pub overflow_mul-result : goal.overflow_mul-result
overflow_mul-result c =
    let each : c.node_in-x.result.edges + c.node_in-x.result.ends ≤ 131072 = omega arith in
    omega (arith, mul-le-mul each c.requires.blocks_most)

pub returns-clause-small : goal.returns-clause-small
returns-clause-small c =
    let each : c.node_in-x.result.edges + c.node_in-x.result.ends ≤ 131072 = omega arith in
    omega (arith, mul-le-mul each c.requires.blocks_most)
