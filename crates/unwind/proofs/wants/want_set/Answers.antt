use mathlib.Core.Path.{◌≡◌}
use mathlib.Core.List.{List}
use Prim.Native.Nat.{ℕ}
use native.Mathlib.Omega.{arith}
use lib.ListN.{length}
use Rattle.image.specs.Image.{RouteImage}
use Rattle.graph.proofs.NextLaws.{left-all, left_lowest, left-none, left_next, left_less}
use Rattle.addition.specs.Ways.{Way}
use Rattle.unwind.specs.Placed.{set_at, returns_in}
use Rattle.unwind.specs.Wanters.{wanter_set}
use Rattle.unwind.proofs.WantLaws.{hops_join, wanting_start, wanting_stands, wanting_next, wanting_end, out_of, set_ways_law}
use Rattle.unwind.proofs.WanterLaws.{set_sixteen}
use Rattle.unwind.proofs.wants.want_set.Goals as goal

pub loop-o-init : goal.loop-o-init
loop-o-init c =
    let own : List ℕ = wanter_set c.args.guards.now (returns_in c.args.parts.now c.args.returners.now) c.args.routes c.args.k in
    let out : RouteImage → List ℕ → ℕ → List Way = λ m ends. out_of m c.args.nodes.now c.args.edges.now ends c.args.heads.now c.args.landings.now c.args.x.node c.args.x.route c.args.x.base (set_at c.args.parts.now c.args.x.node) in
    let long : length (own) ≡ 16 = set_sixteen c.args.guards.now (returns_in c.args.parts.now c.args.returners.now) c.args.routes c.args.k in
    rw (left-all (own)) (λ m ends. wanting_start c.args.h.now (out m ends) (own) c.args.g.now c.args.done.now (long))

pub next_block-requires : goal.next_block-requires
next_block-requires c = (c.requires.5, c.requires.4, c.requires.6, c.requires.7)

pub returns : goal.returns
returns c =
    let own : List ℕ = wanter_set c.args.guards.now (returns_in c.args.parts.now c.args.returners.now) c.args.routes c.args.k in
    let out : RouteImage → List ℕ → ℕ → List Way = λ m ends. out_of m c.args.nodes.now c.args.edges.now ends c.args.heads.now c.args.landings.now c.args.x.node c.args.x.route c.args.x.base (set_at c.args.parts.now c.args.x.node) in
    let long : length (own) ≡ 16 = set_sixteen c.args.guards.now (returns_in c.args.parts.now c.args.returners.now) c.args.routes c.args.k in
    λ m ends. rw (set_ways_law m c.args.nodes.now c.args.edges.now ends c.args.heads.now c.args.landings.now c.args.x.node c.args.x.route c.args.x.base (set_at c.args.parts.now c.args.x.node) (own))
    (wanting_end (out m ends) (c.loop-o.invariant m ends) (left-none (own) (long) c.loop-o.from (rw c.in_default.is at c.next_block.ensures)))

pub overflow_add-from : goal.overflow_add-from
overflow_add-from c = let low = rw c.in-Some.is at c.next_block.ensures in omega (arith, low.0)

pub place_of-b-requires : goal.place_of-b-requires
place_of-b-requires c = let low = rw c.in-Some.is at c.next_block.ensures in
    (c.requires.2, low.0, c.requires.8)

pub want_from-requires : goal.want_from-requires
want_from-requires c =
    let own : List ℕ = wanter_set c.args.guards.now (returns_in c.args.parts.now c.args.returners.now) c.args.routes c.args.k in
    let long : length (own) ≡ 16 = set_sixteen c.args.guards.now (returns_in c.args.parts.now c.args.returners.now) c.args.routes c.args.k in
    let out : RouteImage → List ℕ → ℕ → List Way = λ m ends. out_of m c.args.nodes.now c.args.edges.now ends c.args.heads.now c.args.landings.now c.args.x.node c.args.x.route c.args.x.base (set_at c.args.parts.now c.args.x.node) in
    let m = c.requires.0.0 in
    let ends = c.requires.0.1 in
    let low = left_lowest (own) (long) c.loop-o.from _ (rw c.in-Some.is at c.next_block.ensures) in
    let all = rw (set_ways_law m c.args.nodes.now c.args.edges.now ends c.args.heads.now c.args.landings.now c.args.x.node c.args.x.route c.args.x.base (set_at c.args.parts.now c.args.x.node) (own)) at c.requires.0.2 in (
      (m, ends, rw c.place_of-b.ensures.0 (wanting_stands (out m ends) (c.loop-o.invariant m ends) _ low all)),
      hops_join (c.loop-o.invariant m ends).wants.runs c.requires.1,
      c.place_of-b.ensures.1,
      c.requires.3,
    )

pub loop-o-smaller : goal.loop-o-smaller
loop-o-smaller c =
    let own : List ℕ = wanter_set c.args.guards.now (returns_in c.args.parts.now c.args.returners.now) c.args.routes c.args.k in
    let long : length (own) ≡ 16 = set_sixteen c.args.guards.now (returns_in c.args.parts.now c.args.returners.now) c.args.routes c.args.k in
    left_less (own) (long) c.loop-o.from _ (rw c.in-Some.is at c.next_block.ensures)

pub loop-o-preserved : goal.loop-o-preserved
loop-o-preserved c =
    let own : List ℕ = wanter_set c.args.guards.now (returns_in c.args.parts.now c.args.returners.now) c.args.routes c.args.k in
    let long : length (own) ≡ 16 = set_sixteen c.args.guards.now (returns_in c.args.parts.now c.args.returners.now) c.args.routes c.args.k in
    let out : RouteImage → List ℕ → ℕ → List Way = λ m ends. out_of m c.args.nodes.now c.args.edges.now ends c.args.heads.now c.args.landings.now c.args.x.node c.args.x.route c.args.x.base (set_at c.args.parts.now c.args.x.node) in
    let low = rw c.in-Some.is at c.next_block.ensures in
    let at = left_lowest (own) (long) c.loop-o.from _ low in
    rw (left_next (own) (long) c.loop-o.from _ low)
    (λ m ends. wanting_next (out m ends) (c.loop-o.invariant m ends) _ at (rw c.place_of-b.ensures.0 at (c.want_from.ensures m ends)))
