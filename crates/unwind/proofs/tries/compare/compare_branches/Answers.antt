-- `compare_branches` meets its contract: the tags decide, or what comes after them. Assumes nothing.
use mathlib.Core.Path.{sym, ◌∙◌}
use Prim.Native.Nat.{compare}
use Rattle.image.specs.Image.{routes_in}
use Rattle.addition.specs.Order.{compare_ends}
use Rattle.unwind.specs.Nodes.{edge_of, end_at}
use Rattle.unwind.proofs.TrieCompare.{number_cmp, tagged_second, branches_first}
use Rattle.unwind.proofs.tries.compare.compare_branches.Goals as goal

pub returns-then-is_ne : goal.returns-then-is_ne
returns-then-is_ne c = branches_first (routes_in c.args.s.now c.args.y) c.args.a c.args.b c.compare_calls-calls.result c.compare_calls-calls.ensures (sym c.is_ne.ensures ∙ c.if-is_ne.true) c.args.kind

pub returns-in-Edges : goal.returns-in-Edges
unfolding edge_of
returns-in-Edges c = let m = routes_in c.args.s.now c.args.y in
    rw c.in-Edges.is
    (number_cmp c.args.a.what c.args.b.what c.cmp.result c.cmp.ensures ∙ tagged_second compare (edge_of m c.args.a) (edge_of m c.args.b) c.compare_calls-calls.result c.compare_calls-calls.ensures (sym c.is_ne.ensures ∙ c.if-is_ne.false))

pub returns-in-Ends : goal.returns-in-Ends
unfolding end_at
returns-in-Ends c = let m = routes_in c.args.s.now c.args.y in
    rw c.in-Ends.is
    (c.compare_ends.ensures ∙ tagged_second compare_ends (end_at m c.args.a) (end_at m c.args.b) c.compare_calls-calls.result c.compare_calls-calls.ensures (sym c.is_ne.ensures ∙ c.if-is_ne.false))
