-- Counted entries are hops behind those that there were. Assumes nothing.
use native.Mathlib.Omega.{arith}
use Rattle.unwind.proofs.SizeLaws.{sizes_both_law}
use Rattle.unwind.proofs.emit.sink.SizesSink.take.Goals as goal

pub returns : goal.returns
returns c = λ m hs old p.
    let q = c.sizes_of.ensures in
    let h = p.hops in
    let l = p.lists in
    let k = p.blocks in
    rw c.sizes_both.ensures
    record {
      hops = omega (arith, q.hops_most, c.requires.few);
      lists = omega (arith, q.lists_most, c.requires.few);
      blocks = omega (arith, q.blocks_most, c.requires.few);
      of = sizes_both_law _ _ _ _ p.of (q.of m c.args.b);
    }
