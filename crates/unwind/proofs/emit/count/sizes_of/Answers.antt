use mathlib.Core.Path.{◌≡◌, refl, sym, ap, ◌∙◌, subst}
use mathlib.Core.List.{[]}
use Prim.Native.Nat.{◌+◌, ◌*◌}
use native.Mathlib.Omega.{arith}
use Rattle.unwind.specs.declared.emit.count.Sizes.{Sizes}
use Rattle.unwind.specs.declared.tries.store.Branch.{Branch}
use Rattle.unwind.specs.Nodes.{branch_in}
use Rattle.unwind.specs.Sources.{hops_on}
use Rattle.unwind.specs.Entries.{exits_in}
use Rattle.unwind.specs.Sizes.{HopsSize, sizes_then}
use Rattle.unwind.proofs.SizeLaws.{size_none, size_next, then_most, last_next}
use Rattle.unwind.proofs.emit.count.sizes_of.Goals as goal

pub loop-k-init : goal.loop-k-init
unfolding branch_in
loop-k-init c = (omega arith, record { hops = omega arith; lists = omega arith; blocks = omega arith; ends = refl; of = λ m b. size_none m b c.args.exits.now (λ k. omega (arith, c.type_inv.exits (3 * k + 2))) })

pub with_entry-sizes-requires : goal.with_entry-sizes-requires
with_entry-sizes-requires c = let few = c.requires.1 in
    (omega (arith, c.loop-k.invariant.0, c.loop-k.invariant.1.hops), omega (arith, c.loop-k.invariant.0, c.loop-k.invariant.1.lists), omega (arith, c.loop-k.invariant.0, c.loop-k.invariant.1.blocks))

pub loop-k-preserved : goal.loop-k-preserved
unfolding branch_in
loop-k-preserved c = let l = c.args.exits.now in
    let was = c.loop-k.invariant.1 in
    let read = ap (λ (x : Branch). x.what) c.branch_in-end.ensures.is in
    let next = c.with_entry-sizes.ensures in
    let most = then_most c.loop-k.sizes c.loop-k.last c.branch_in-end.result.what in (
      omega (arith, c.loop-k-test.true),
      record {
        hops = rw next (omega (arith, most.0, was.hops));
        lists = rw next (omega (arith, most.1, was.lists));
        blocks = rw next (omega (arith, most.2, was.blocks));
        ends = read ∙ last_next l c.loop-k.k;
        of = λ m b.
            subst (λ (z : Sizes). HopsSize (hops_on [] (exits_in m b l (c.loop-k.k + 1))) z)
            (sym (next ∙ (λ i. sizes_then c.loop-k.sizes (was.ends i) (read i))))
            (size_next m b l (λ k. omega (arith, c.type_inv.exits (3 * k + 2))) c.loop-k.k c.loop-k.sizes (was.of m b));
      },
    )

pub returns : goal.returns
returns c = let all : c.loop-k.k ≡ c.args.n = omega (arith, c.loop-k.invariant.0) in
    let end = c.loop-k.invariant.1 in
    record { of = rw all at end.of; hops_most = omega (arith, end.hops); lists_most = omega (arith, end.lists); blocks_most = omega (arith, end.blocks) }
