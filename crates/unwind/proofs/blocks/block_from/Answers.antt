-- `block_from` meets its contract: the built blocks begin one behind the other. Assumes nothing.
use native.Mathlib.Omega.{arith}
use lib.Dec.{ltb}
use lib.ListN.{length, get_or, take}
use mathlib.Core.Path.{◌≡◌}
use Prim.Native.Nat.{ℕ, ◌≤◌, ◌<◌}
use lib.Seq.{get_or-take, length-take-le}
use Rattle.std.proofs.Common.{rules, of_calls}
use Rattle.std.proofs.lemmas.Fn.{always_returns_same}
use Rattle.graph.specs.declared.record.Block.{Block}
use Rattle.graph.specs.Graph.{block, no_block}
use Rattle.graph.specs.Lent.{held_of}
use Rattle.unwind.proofs.Standing.{less_point, block_rises}
use Rattle.unwind.proofs.blocks.block_from.Goals as goal

pub returns : goal.returns
returns c =
    let g = (held_of c.args.g.now).graph in
    let n = c.args.built in
    let l = take n g.blocks in
    let point = rw c.blocks-2.ensures at (c.partition_point.ensures.partitioned (λ r. ltb r.first c.args.p) (always_returns_same _ _ _ (λ a r f k. search (rules, of_calls)))) in
    let long : length l ≡ n = length-take-le n g.blocks c.requires.built.0 in
    let at : (k : ℕ) → k < n → get_or l k no_block ≡ block g k = λ k h. get_or-take n g.blocks k no_block h in
    let rise : (i j : ℕ) → i < j → j < length l → (get_or l i no_block).first < (get_or l j no_block).first = λ i j lt h. rw (at i (omega arith), at j (omega arith)) (block_rises g c.requires.stands n c.requires.built i j lt (omega arith)) in
    let bound : c.partition_point.result ≤ length l = rw c.blocks-2.ensures at c.partition_point.ensures.bound in
    let cut = less_point (λ (r : Block). r.first) l no_block c.args.p c.partition_point.result rise point in
    record {
      most = omega (arith, bound);
      before = λ b h. rw (at b (omega arith)) at (cut.0 b h);
      behind = λ b le h. rw (at b h) at (cut.1 b le (omega arith));
    }
