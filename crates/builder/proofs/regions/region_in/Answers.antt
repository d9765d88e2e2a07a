use mathlib.Core.Path.{sym, ◌∙◌}
use lib.ListN.{take}
use lib.Seq.{get_or-take}
use Rattle.builder.proofs.DraftLaws.{counted_size}
use Rattle.builder.proofs.RegionLaws.{region_here, region_on, region_end}
use native.Mathlib.Omega.{arith}
use borrow.Author.Rules.{rules}
use Rattle.builder.proofs.regions.region_in.Goals as goal

pub returns-then-same_range : goal.returns-then-same_range
returns-then-same_range c = let gs = take c.args.count c.args.list.now in
    let size = counted_size c.requires.counted in
    λ m e.
    omega (arith, c.loop-k.invariant.1 m e, region_here m gs c.args.h c.loop-k.k (omega arith) (rw (get_or-take c.args.count c.args.list.now c.loop-k.k 0 (omega arith)) (sym (c.same_range.ensures m e) ∙ c.if-same_range.true)))

pub loop-k-preserved : goal.loop-k-preserved
loop-k-preserved c = let gs = take c.args.count c.args.list.now in
    let size = counted_size c.requires.counted in
    (search rules, λ m e. c.loop-k.invariant.1 m e ∙ region_on m gs c.args.h c.loop-k.k (omega arith) (rw (get_or-take c.args.count c.args.list.now c.loop-k.k 0 (omega arith)) (sym (c.same_range.ensures m e) ∙ c.if-same_range.false)))

pub returns : goal.returns
returns c = let size = counted_size c.requires.counted in
    λ m e. omega (arith, c.loop-k.invariant.1 m e, region_end m (take c.args.count c.args.list.now) c.args.h c.loop-k.k (omega arith))
