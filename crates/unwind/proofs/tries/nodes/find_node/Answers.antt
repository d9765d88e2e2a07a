use mathlib.Core.Bool.{false}
use mathlib.Core.Path.{◌≡◌, sym, ◌∙◌}
use Prim.Native.Nat.{◌<◌}
use native.Mathlib.Decide.{dec_lt}
use native.Mathlib.Omega.{arith}
use Rattle.image.specs.Image.{routes_in}
use Rattle.graph.specs.BlockSet.{member}
use Rattle.unwind.specs.Nodes.{funclet_in, value_of, node_in, nodes_in}
use Rattle.unwind.specs.Seen.{mark_of}
use Rattle.unwind.proofs.TrieNodes.{place_first, place-nothing, length_nodes, node_of_law}
use Rattle.unwind.proofs.LowerLaws.{low_differs}
use Rattle.unwind.proofs.SeenLaws.{unseen_differs}
use borrow.Author.Tests.{not-true}
use Rattle.unwind.proofs.tries.nodes.find_node.Goals as goal

pub returns-then-n-low : goal.returns-then-n-low
returns-then-n-low c = let m = routes_in c.args.s.now c.args.y in
    place-nothing m c.args.nodes.now c.args.edges.now c.args.ends.now c.args.n (node_in m c.args.edges.now c.args.ends.now c.args.x)
    (λ j lt. low_differs m c.args.nodes.now c.args.edges.now c.args.ends.now c.args.n c.requires.lower c.args.x c.behind_children-low.result c.behind_children-low.ensures j (omega arith) lt)

pub returns-then-not-has_in : goal.returns-then-not-has_in
returns-then-not-has_in c = let m = routes_in c.args.s.now c.args.y in
    let out : member c.args.seen.now (mark_of (value_of (funclet_in m c.args.x.funclet))) ≡ false =
    rw (← c.funclet_value-value.ensures, ← c.mark_of.ensures, ← c.has_in.ensures) (not-true _ c.if-not-has_in.true-raw) in
    place-nothing m c.args.nodes.now c.args.edges.now c.args.ends.now c.args.n (node_in m c.args.edges.now c.args.ends.now c.args.x)
    (unseen_differs m c.args.nodes.now c.args.n c.args.seen.now c.requires.seen c.args.x c.args.edges.now c.args.ends.now out)

pub loop-i-init : goal.loop-i-init
loop-i-init c = low_differs (routes_in c.args.s.now c.args.y) c.args.nodes.now c.args.edges.now c.args.ends.now c.args.n c.requires.lower c.args.x c.behind_children-low.result c.behind_children-low.ensures

pub returns-then-stands_at : goal.returns-then-stands_at
returns-then-stands_at c = let m = routes_in c.args.s.now c.args.y in
    let l = c.args.nodes.now in
    let e = c.args.edges.now in
    let d = c.args.ends.now in
    let n = c.args.n in
    let own = node_in m e d c.args.x in
    let i = c.loop-i.i in
    let inside : i < n = c.loop-i-test.true in
    let here = sym c.stands_at.ensures ∙ c.if-stands_at.true in
    sym
    (place_first own (nodes_in m l e d n) i own (rw (length_nodes m l e d n) inside)
    (λ j h. let lt : j < n = omega arith in rw (node_of_law m l e d n j own lt) (c.loop-i.invariant j h lt))
    (rw (node_of_law m l e d n i own inside) here))

pub loop-i-preserved : goal.loop-i-preserved
loop-i-preserved c = let here = sym c.stands_at.ensures ∙ c.if-stands_at.false in
    λ j h lt. elim (dec_lt j c.loop-i.i) [ yes before ↦ c.loop-i.invariant j before lt | no ge ↦ let z : j ≡ c.loop-i.i = omega arith in rw z here ]

pub returns : goal.returns
returns c = let m = routes_in c.args.s.now c.args.y in
    place-nothing m c.args.nodes.now c.args.edges.now c.args.ends.now c.args.n (node_in m c.args.edges.now c.args.ends.now c.args.x)
    (λ j lt. c.loop-i.invariant j (omega arith) lt)
