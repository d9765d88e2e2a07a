use mathlib.Core.Path.{◌≡◌, sym, ap}
use mathlib.Core.List.{List, []}
use Prim.Native.Nat.{ℕ, ◌+◌}
use native.Mathlib.Omega.{arith}
use borrow.Author.Tests.{ne_eqb}
use lib.ListN.{length, get_or}
use Rattle.std.proofs.lemmas.List.{get_or_default}
use Rattle.graph.specs.Fold.{sum}
use Rattle.graph.specs.Graph.{region, no_region}
use Rattle.graph.specs.Lent.{held_of}
use Rattle.graph.specs.declared.record.Region.{Region}
use Rattle.graph.proofs.RuleLaws.{sum_more, sum_le, rest-none}
use Rattle.graph.proofs.rule.all_counted.Goals as goal

-- what a read behind the slice would give
abbrev unread : Region
unread = record { has_parent = 0; parent = 0; start = 0; end = 0; handlers = 0; protected = [] }

pub loop-r-init : goal.loop-r-init
unfolding sum
loop-r-init c = omega arith

pub returns-then-left-r : goal.returns-then-left-r
returns-then-left-r c = let g = (held_of c.args.g.now).graph in
    let f : ℕ → ℕ = λ k. (region g k).handlers in
    let many = ap length c.regions-r-items.ensures in
    let own = ap (λ (l : List Region). (get_or l c.loop-r.r-index unread).handlers) c.regions-r-items.ensures in
    let same = ap (λ (r : Region). r.handlers) (get_or_default g.regions c.loop-r.r-index unread no_region (omega arith)) in
    sym (ne_eqb (sum f (length g.regions)) (length g.handlers) (λ e. omega (arith, sum_more f c.loop-r.r-index, sum_le f (c.loop-r.r-index + 1) (length g.regions) (omega arith), e)))

pub loop-r-preserved : goal.loop-r-preserved
loop-r-preserved c = let g = (held_of c.args.g.now).graph in
    let many = ap length c.regions-r-items.ensures in
    let own = ap (λ (l : List Region). (get_or l c.loop-r.r-index unread).handlers) c.regions-r-items.ensures in
    let same = ap (λ (r : Region). r.handlers) (get_or_default g.regions c.loop-r.r-index unread no_region (omega arith)) in
    omega (arith, sum_more (λ k. (region g k).handlers) c.loop-r.r-index)

pub returns : goal.returns
returns c = let g = (held_of c.args.g.now).graph in
    let many = ap length c.regions-r-items.ensures in
    let whole : c.loop-r.r-index ≡ length g.regions = omega arith in
    rest-none _ c.loop-r.left (length g.handlers) (rw whole at c.loop-r.invariant)
