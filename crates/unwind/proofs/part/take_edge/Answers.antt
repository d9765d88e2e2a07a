-- `take_edge` meets its contract, test by test. Assumes nothing.
use mathlib.Core.Path.{sym, ap, ◌∙◌}
use Prim.Native.Nat.{◌<◌}
use native.Mathlib.Omega.{arith}
use borrow.Author.Tests.{not-true, not-false}
use Rattle.graph.specs.declared.record.Edge.{Edge}
use Rattle.graph.specs.Lent.{held_of}
use Rattle.graph.proofs.RecordLaws.{block_most}
use Rattle.graph.proofs.SearchLaws.{target_lt}
use Rattle.unwind.specs.Placed.{set_at}
use Rattle.unwind.proofs.MemberLaws.{in_set_law}
use Rattle.unwind.specs.PartSearch.{Takes}
use Rattle.unwind.proofs.part.take_edge.Goals as goal
use Rattle.unwind.proofs.part.take_edge.Goals.{else-is_followed-via-then-is_followed+else-not-in_set, else-is_followed-via-else-is_followed}

pub in_set-requires : goal.in_set-requires
in_set-requires c =
    let small : c.edge_in-e.result.target < 1024 = omega (arith, ap (λ (x : Edge). x.target) c.edge_in-e.ensures, target_lt (held_of c.args.g.now).graph c.requires.ends c.args.k c.requires.edge, block_most c.args.g.now) in
    (c.requires.parts_fit, small)

pub put_block-requires : goal.put_block-requires
put_block-requires c =
    let small : c.edge_in-e.result.target < 1024 = omega (arith, ap (λ (x : Edge). x.target) c.edge_in-e.ensures, target_lt (held_of c.args.g.now).graph c.requires.ends c.args.k c.requires.edge, block_most c.args.g.now) in
    (c.requires.parts_fit, small)

pub returns-then-not-in_set-clause-takes : goal.returns-then-not-in_set-clause-takes
returns-then-not-in_set-clause-takes c = let follows = sym c.is_followed.ensures ∙ c.if-is_followed.true in
    let new = sym (c.in_set.ensures ∙ in_set_law c.args.parts.now c.args.i _ c.requires.parts_fit) ∙ not-true _ c.if-not-in_set.true-raw in
    let took : Takes c.args.barriers.now c.edge_in-e.result (set_at c.args.parts.now c.args.i) c.args.pending.now (set_at c.put_block.new.sets c.args.i) c.put_in.new.w =
    record { sees = rw (follows, new) c.put_block.ensures.here; pends = rw (follows, new) c.put_in.ensures } in
    rw c.edge_in-e.ensures at took

pub returns-else-is_followed-clause-takes : goal.returns-else-is_followed-clause-takes
returns-else-is_followed-clause-takes c = let set = set_at c.args.parts.now c.args.i in
    let took : Takes c.args.barriers.now c.edge_in-e.result set c.args.pending.now set c.args.pending.now =
    elim c.else-is_followed.branch [
      | else-is_followed-via-then-is_followed+else-not-in_set w ↦
          let follows = sym c.is_followed.ensures ∙ w.if-is_followed.true in
          let was = sym (w.in_set.ensures ∙ in_set_law c.args.parts.now c.args.i _ c.requires.parts_fit) ∙ not-false _ w.if-not-in_set.false-raw in
          record { sees = rw (follows, was); pends = rw (follows, was) }
      | else-is_followed-via-else-is_followed w ↦
          let follows = sym c.is_followed.ensures ∙ w.if-is_followed.false in
          record { sees = rw follows; pends = rw follows }
    ] in
    rw c.edge_in-e.ensures at took
