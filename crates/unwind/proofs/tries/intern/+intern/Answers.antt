use mathlib.Core.Path.{◌∙◌}
use native.Mathlib.Omega.{arith}
use Rattle.image.specs.Image.{routes_in}
use Rattle.unwind.proofs.TrieWork.{work_start, next_falls, child_grouped, child_room, push_room, left_falls, branch_small, work_next, close_few, work_done}
use Rattle.unwind.proofs.tries.intern.+intern.Goals as goal

pub loop-key-init : goal.loop-key-init
loop-key-init t c = (work_start _ _ _ _ _ _ _ _ c.requires.stored c.requires.lower, c.requires.seen)

pub shape_of-nodes : goal.shape_of-nodes
shape_of-nodes t c = c.close_node-closed.auto.nodes ∙ c.loop-key.invariant.0.nodes_long

pub shape_of-edges : goal.shape_of-edges
shape_of-edges t c = c.close_node-closed.auto.edges ∙ c.loop-key.invariant.0.edges_long

pub shape_of-ends : goal.shape_of-ends
shape_of-ends t c = c.close_node-closed.auto.ends ∙ c.loop-key.invariant.0.ends_long

pub shape_of-stack : goal.shape_of-stack
shape_of-stack t c = c.loop-key.invariant.0.stack_long

pub group_behind-behind-requires-clause-behind : goal.group_behind-behind-requires-clause-behind
group_behind-behind-requires-clause-behind t c = c.in-Some.ensures.stands.behind

pub group_behind-behind-requires-clause-steps : goal.group_behind-behind-requires-clause-steps
group_behind-behind-requires-clause-steps t c = omega (arith, c.in-Some.ensures.stands.within, c.requires.grouped.accepted.steps_most)

pub group_behind-behind-requires-clause-order : goal.group_behind-behind-requires-clause-order
group_behind-behind-requires-clause-order t c = c.in-Some.ensures.spans.mid

pub group_behind-behind-requires-clause-paths : goal.group_behind-behind-requires-clause-paths
group_behind-behind-requires-clause-paths t c = omega (arith, c.in-Some.ensures.spans.high, c.requires.grouped.within.paths, c.requires.grouped.accepted.paths_most)

pub overflow_add-top : goal.overflow_add-top
overflow_add-top t c = let next = c.in-Some.ensures in
    omega (arith, (push_room _ _ _ _ _ _ _ _ c.requires.room _ _ _ _ _ _ _ c.loop-key.invariant.0 _ next).0)

pub overflow_add-top-in-Some : goal.overflow_add-top-in-Some
overflow_add-top-in-Some t c = let next = c.in-Some.ensures in
    omega (arith, (push_room _ _ _ _ _ _ _ _ c.requires.room _ _ _ _ _ _ _ c.loop-key.invariant.0 _ next).0)

pub put_branch-requires : goal.put_branch-requires
put_branch-requires t c = let next = c.in-Some.ensures in
    let inv = c.loop-key.invariant.0 in
    let done = rw c.group_behind-behind.ensures at c.intern-child.ensures.interns in
    (omega (arith, (push_room _ _ _ _ _ _ _ _ c.requires.room _ _ _ _ _ _ _ inv _ next).1, c.intern-child.auto.stack), branch_small _ _ _ _ _ _ _ _ c.requires.room _ _ _ _ _ _ _ inv _ next _ _ _ _ _ done c.requires.grouped.accepted.steps_most)

pub overflow_add-n : goal.overflow_add-n
overflow_add-n t c = let next = c.in-Some.ensures in
    omega (arith, (push_room _ _ _ _ _ _ _ _ c.requires.room _ _ _ _ _ _ _ c.loop-key.invariant.0 _ next).0)

pub loop-key-smaller : goal.loop-key-smaller
loop-key-smaller t c = let next = c.in-Some.ensures in
    left_falls _ _ _ _ _ _ _ _ c.requires.room _ _ _ _ _ _ _ c.loop-key.invariant.0 _ next

pub loop-key-preserved : goal.loop-key-preserved
loop-key-preserved t c = let next = c.in-Some.ensures in
    let done = rw c.group_behind-behind.ensures at c.intern-child.ensures.interns in (
      work_next _ _ _ _ _ _ _ _ c.requires.room _ _ _ _ _ _ _ c.loop-key.invariant.0 _ next _ _ _ _ _ done _ c.put_branch.ensures
          c.intern-child.auto.nodes c.intern-child.auto.edges c.intern-child.auto.ends c.intern-child.auto.stack,
      c.intern-child.ensures.seen,
    )

pub intern-child-requires : goal.intern-child-requires
intern-child-requires t c = let next = c.in-Some.ensures in
    let inv = c.loop-key.invariant in
    rw c.group_behind-behind.ensures (
      omega (arith, next_falls _ _ _ _ next),
      (child_grouped _ _ _ _ next _ c.requires.grouped, (inv.0.stored, (child_room _ _ _ _ _ _ _ _ c.requires.room _ _ _ _ _ _ _ inv.0 _ next, (inv.0.lower, (inv.1, c.requires.there))))),
    )

pub close_node-closed-requires-clause-few : goal.close_node-closed-requires-clause-few
close_node-closed-requires-clause-few t c = close_few (routes_in c.args.s.now c.args.y) c.args.g c.args.nodes.now c.args.edges.now c.args.ends.now c.args.stack.now c.args.counts.now c.args.top c.requires.room c.loop-key.nodes c.loop-key.edges c.loop-key.ends c.loop-key.stack _ c.loop-key.n c.loop-key.last c.loop-key.invariant.0 (rw c.in_default.is at c.next_key.ensures)

pub returns-clause-interns : goal.returns-clause-interns
returns-clause-interns t c = work_done (routes_in c.args.s.now c.args.y) c.args.g c.args.nodes.now c.args.edges.now c.args.ends.now c.args.stack.now c.args.counts.now c.args.top c.requires.room c.loop-key.nodes c.loop-key.edges c.loop-key.ends c.loop-key.stack _ c.loop-key.n c.loop-key.last c.loop-key.invariant.0 (rw c.in_default.is at c.next_key.ensures) _ _ _ c.close_node-closed.result c.close_node-closed.ensures.closes
