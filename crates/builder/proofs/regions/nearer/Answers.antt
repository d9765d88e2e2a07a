-- Region k where there is no parent yet, or a wider one. Assumes nothing.
use mathlib.Core.Path.{ap, ◌∙◌}
use native.Mathlib.Omega.{arith}
use borrow.Author.Tests.{lt-ltb, le-ltb}
use Rattle.graph.specs.Regions.{span, draft, smaller}
use Rattle.builder.proofs.regions.nearer.Goals as goal

pub returns-in_default-clause-nearer : goal.returns-in_default-clause-nearer
unfolding smaller
returns-in_default-clause-nearer c = λ m e at. rw c.in_default.is

pub returns-then-span-clause-nearer : goal.returns-then-span-clause-nearer
unfolding smaller
returns-then-span-clause-nearer c = let k = c.args.k in
    let j = c.in-Some.j in
    let before = rw c.in-Some.is at c.requires.parent in
    λ m e at.
    let own = c.span.ensures m e ∙ ap (span m) (at k (omega arith)) in
    let old = c.span-2.ensures m e ∙ ap (span m) (at j (omega arith)) in
    rw (c.in-Some.is, lt-ltb (span m (draft m k)) (span m (draft m j)) (omega arith))

pub returns-clause-nearer : goal.returns-clause-nearer
unfolding smaller
returns-clause-nearer c = let k = c.args.k in
    let j = c.in-Some.j in
    let before = rw c.in-Some.is at c.requires.parent in
    λ m e at.
    let own = c.span.ensures m e ∙ ap (span m) (at k (omega arith)) in
    let old = c.span-2.ensures m e ∙ ap (span m) (at j (omega arith)) in
    rw (c.in-Some.is, le-ltb (span m (draft m k)) (span m (draft m j)) (omega arith))
