-- 'Its part is the blocks reached from that entry', and the blocks of it that return.
use Rattle.std.specs.Prelude.{Bool, not, ◌&&◌, ◌||◌, List, [], map, ℕ, zero, suc, eqb, length}
use Rattle.image.specs.Deal.{UnwindRoute}
use Rattle.graph.specs.declared.record.Edge.{Edge}
use Rattle.graph.specs.Graph.{Graph}
use Rattle.graph.specs.Fold.{among}
use Rattle.graph.specs.Flow.{Flow, Kind}
use Rattle.graph.specs.Route.{funclets as on_path}
use Rattle.graph.specs.WellFormed.{is_built}
use Rattle.addition.specs.Lists.{keep, joined, upto, is_empty}
use Rattle.addition.specs.Blocks.{first_of, last_of}

-- 'A funclet is an address that one of their steps names'
unfoldable pub funclets : List UnwindRoute → List ℕ
funclets rs = joined (λ r. joined on_path r.paths) rs

-- 'the built block that starts another funclet of the routes'
unfoldable pub barred : Graph → List ℕ → ℕ → ℕ → Bool
barred g fs f b = is_built g b && among fs (first_of g b).address && not (eqb (first_of g b).address f)

-- 'without an ExceptionUnwind or Call edge'
unfoldable pub ordinary : Edge → Bool
ordinary e = not (eqb e.kind Kind.exception_unwind) && not (eqb e.kind Kind.call)

-- the edges that go out of a block, in their order
unfoldable pub outgoing : Graph → ℕ → List Edge
outgoing g b = keep (λ e. eqb e.source b) g.edges

-- the blocks that ordinary edges lead to from those of l, where no other funclet starts
unfoldable pub onward : Graph → List ℕ → ℕ → List ℕ → List ℕ
onward g fs f l =
    keep (λ t. not (barred g fs f t)) (map (λ e. e.target) (keep (λ e. ordinary e && among l e.source) g.edges))

-- 'the blocks reached from that entry, itself among them': a round takes the entry, the blocks of l and those a step further
unfoldable pub round : Graph → List ℕ → ℕ → ℕ → List ℕ → List ℕ
round g fs f e l = keep (λ b. eqb b e || among l b || among (onward g fs f l) b) (upto (length g.blocks))

unfoldable pub rounds : Graph → List ℕ → ℕ → ℕ → ℕ → List ℕ
rounds g fs f e zero = []
rounds g fs f e (suc n) = round g fs f e (rounds g fs f e n)

-- as many rounds as blocks reach all that can be reached
unfoldable pub part : Graph → List ℕ → ℕ → ℕ → List ℕ
part g fs f e = rounds g fs f e (length g.blocks)

-- 'A returning block ends in Return, or in a Jump with no outgoing edge but those two kinds.'
unfoldable pub returning : Graph → ℕ → Bool
returning g b = eqb (last_of g b).flow Flow.return || eqb (last_of g b).flow Flow.jump && is_empty (keep ordinary (outgoing g b))
