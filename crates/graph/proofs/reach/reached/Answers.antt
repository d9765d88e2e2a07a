-- `reached` meets its contract: words that hold a graph have the ends that `reach` asks for. Assumes nothing.
use mathlib.Core.Path.{refl, sym, ◌∙◌}
use mathlib.Core.Bool.{true≢false}
use borrow.Author.Tests.{not-true, not-false}
use Rattle.graph.specs.Lent.{held_of}
use Rattle.graph.proofs.RecordLaws.{block_most}
use Rattle.graph.proofs.BlockLaws.{size_none}
use Rattle.graph.proofs.SearchLaws.{ends_of}
use Rattle.graph.proofs.ReachedLaws.{size_listed}
use Rattle.graph.proofs.reach.reached.Goals as goal

pub returns-then-not-is_graph : goal.returns-then-not-is_graph
returns-then-not-is_graph c = let no = sym c.is_graph.ensures ∙ not-true _ c.if-not-is_graph.true-raw in
    record { finds = λ yes. absurd (true≢false (sym yes ∙ no)); nothing = λ e. (refl, c.empty.ensures); count = rw c.empty.ensures (sym size_none) }

pub reach-blocks-requires : goal.reach-blocks-requires
reach-blocks-requires c = ends_of (held_of c.args.g.now) (sym c.is_graph.ensures ∙ not-false _ c.if-not-is_graph.false-raw)

pub returns : goal.returns
returns c = let l = c.args.g.now in
    let yes = sym c.is_graph.ensures ∙ not-false _ c.if-not-is_graph.false-raw in
    let many = size_listed (held_of l).graph (ends_of (held_of l) yes) c.reach-blocks.result.words c.reach-blocks.ensures (block_most l) in
    record { finds = λ e. (refl, c.reach-blocks.ensures, c.size.ensures ∙ many); nothing = λ no. absurd (true≢false (sym yes ∙ no)); count = c.size.ensures }
