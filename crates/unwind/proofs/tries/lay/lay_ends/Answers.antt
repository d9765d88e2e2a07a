use mathlib.Core.List.{List}
use Prim.Native.Nat.{ℕ, suc, ◌+◌, ◌≤◌}
use native.Mathlib.Omega.{arith}
use lib.ListN.{length}
use Rattle.image.specs.Image.{routes_in}
use Rattle.image.specs.Deal.{UnwindEnd}
use Rattle.addition.specs.Order.{Tagged}
use Rattle.unwind.specs.Interning.{left_at, paths_of}
use Rattle.unwind.specs.Laid.{ends_list}
use Rattle.addition.proofs.Lists.{flat-suc, flat_le}
use Rattle.unwind.proofs.TrieLaid.{ends_flat, ends_start, ends_more, ends_all}
use borrow.Author.Rules.{rules}
use Rattle.unwind.proofs.tries.lay.lay_ends.Goals as goal

pub loop-k-init : goal.loop-k-init
loop-k-init c = (search rules, ends_start _ _ _ _)

pub overflow_add-g : goal.overflow_add-g
overflow_add-g c = omega (arith, c.requires.group.paths, c.requires.accepted.paths_most)

pub lay_end-n-requires-clause-room : goal.lay_end-n-requires-clause-room
lay_end-n-requires-clause-room c = let m = routes_in c.args.s.now c.args.y in
    let g = c.args.g in
    let ends : ℕ → List (Tagged UnwindEnd) = λ (i : ℕ). ends_list (left_at m g (g.first + i)) in
    let room : c.loop-k.n + length (ends c.loop-k.k) ≤ length (ends_list (paths_of m g)) =
    rw (ends_flat m g) (omega (arith, c.loop-k.invariant.1.most, flat-suc ends c.loop-k.k, flat_le ends (suc c.loop-k.k) g.count c.loop-k-test.true)) in
    omega (arith, room, c.requires.room, c.loop-k.invariant.1.long)

pub loop-k-preserved : goal.loop-k-preserved
loop-k-preserved c = let m = routes_in c.args.s.now c.args.y in
    (search rules, ends_more m c.args.g c.args.ends.now c.args.at c.loop-k.ends _ c.loop-k.n _ c.loop-k.k c.loop-k.invariant.1 c.lay_end-n.auto.ends c.lay_end-n.ensures)

pub shape_of-ends : goal.shape_of-ends
shape_of-ends c = c.loop-k.invariant.1.long

pub returns : goal.returns
returns c = let m = routes_in c.args.s.now c.args.y in
    ends_all m c.args.g c.args.ends.now c.args.at c.loop-k.ends c.loop-k.n c.loop-k.k (omega arith) c.loop-k.invariant.1
