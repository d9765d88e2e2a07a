use mathlib.Core.Path.{◌≡◌}
use mathlib.Core.List.{[], ◌∷◌}
use Prim.Native.Nat.{◌<◌}
use lib.ListN.{length}
use Rattle.builder.specs.Code.{image_of}
use Rattle.graph.specs.Fold.{flat}
use Rattle.graph.specs.Transfer.{given_at, given}
use Rattle.graph.specs.Edges.{given_edge}
use Rattle.graph.proofs.AddingLaws.{added_none, edges_more}
use Rattle.graph.proofs.BuiltChecks.{given_starts}
use Rattle.builder.proofs.EdgeLaws.{given_next, given_inside, given_fits, given_edges}
use native.Mathlib.Omega.{arith}
use borrow.Author.Rules.{rules}
use Rattle.builder.proofs.edges.add_given_edges.Goals as goal

pub loop-k-init : goal.loop-k-init
unfolding flat
loop-k-init c = (search rules, added_none _)

pub overflow_add-first : goal.overflow_add-first
overflow_add-first c = omega (arith, given_fits (image_of c.args.numbered.now.code) c.args.numbered.now.emitting.sourced c.args.c c.requires.cursor c.requires.at_in c.requires.is_given)

pub add_given-requires-clause-target : goal.add_given-requires-clause-target
add_given-requires-clause-target c = let m = image_of c.args.numbered.now.code in
    let k = c.loop-k.k in
    let h : k < length (given_at m c.args.c.at) = omega arith in
    rw (given_next m c.args.numbered.now.emitting.sourced c.args.c c.requires.cursor c.requires.at_in c.requires.is_given k h)
    (given_starts m c.args.numbered.now.emitting.given c.args.c.at c.requires.at_in c.requires.is_given k h)

pub add_given-requires-clause-e_in : goal.add_given-requires-clause-e_in
add_given-requires-clause-e_in c = let m = image_of c.args.numbered.now.code in
    let k = c.loop-k.k in
    let h : k < length (given_at m c.args.c.at) = omega arith in
    omega (arith, h, given_inside m c.args.numbered.now.emitting.sourced c.args.c c.requires.cursor c.requires.at_in c.requires.is_given)

pub loop-k-preserved : goal.loop-k-preserved
loop-k-preserved c = let m = image_of c.args.numbered.now.code in
    let k = c.loop-k.k in
    let h : k < length (given_at m c.args.c.at) = omega arith in (
      search rules,
      edges_more (λ i. given_edge m c.args.c.at (given m c.args.c.at i) ∷ []) k c.loop-k.invariant.1
          (rw (given_next m c.args.numbered.now.emitting.sourced c.args.c c.requires.cursor c.requires.at_in c.requires.is_given k h) at c.add_given.ensures),
    )

pub returns : goal.returns
returns c = let m = image_of c.args.numbered.now.code in
    let all : c.loop-k.k ≡ length (given_at m c.args.c.at) = omega arith in
    rw (given_edges m c.args.c.at c.requires.is_given, ← all) c.loop-k.invariant.1
