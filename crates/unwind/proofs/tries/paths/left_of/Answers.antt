-- `left_of` meets its contract: the path has too few steps, or begins with those of the group, or with others. Assumes nothing.
use mathlib.Core.Path.{◌≡◌, sym, ◌∙◌}
use mathlib.Core.List.{List}
use Prim.Native.Nat.{ℕ, ◌+◌, ◌-◌, ◌<◌, ◌≤◌}
use native.Mathlib.Omega.{arith}
use lib.ListN.{length, get_or}
use Rattle.image.specs.Image.{RouteImage, routes_in}
use Rattle.image.specs.Accepted.{AcceptedRoutes}
use Rattle.graph.specs.Route.{steps_before, path_in}
use Rattle.graph.proofs.RouteLaws.{steps_in_law, steps_next}
use Rattle.unwind.specs.Nodes.{path_record}
use Rattle.unwind.specs.Interning.{steps_in, Starts, left_steps}
use Rattle.unwind.proofs.TriePaths.{path_steps, strip_short, strip-same, strip_other, same_run}
use Rattle.unwind.proofs.tries.paths.left_of.Goals as goal

-- the steps of path q stand between its start and the next one
own_steps : (m : RouteImage) → AcceptedRoutes m → (l : List ℕ) → Starts m l → (q : ℕ) → q < length m.paths → (a b : ℕ) → a ≡ get_or l q 0 → b ≡ get_or l (q + 1) 0 → ((path_in m q).steps ≡ steps_in m a (b - a)) × (a ≤ b) × (b ≤ length m.steps)
own_steps m ok l starts q h a b e f =
    let first : a ≡ steps_before m q = e ∙ starts.at q (omega arith) in
    let last : b ≡ steps_before m (q + 1) = f ∙ starts.at (q + 1) (omega arith) in
    let count : b - a ≡ (path_record m q).steps = omega (arith, steps_next m q) in (
      path_steps m ok q h ∙ rw (count, first),
      omega (arith, steps_next m q),
      omega (arith, steps_next m q, steps_in_law m ok q h),
    )

pub overflow_sub-count : goal.overflow_sub-count
overflow_sub-count c = let h = own_steps _ c.requires.accepted _ c.requires.starts _ c.requires.path _ _ c.number_in-first.ensures.0 c.number_in.ensures.0 in h.1

pub returns-then-count-depth : goal.returns-then-count-depth
unfolding left_steps
returns-then-count-depth c = let m = routes_in c.args.s.now c.args.y in
    let h = own_steps m c.requires.accepted _ c.requires.starts _ c.requires.path _ _ c.number_in-first.ensures.0 c.number_in.ensures.0 in
    record { is = rw h.0 (strip_short m c.args.g.from c.number_in-first.result c.args.g.depth (c.number_in.result - c.number_in-first.result) c.if-count-depth.true); stands = tt }

pub same_steps-requires-clause-second : goal.same_steps-requires-clause-second
same_steps-requires-clause-second c = let h = own_steps _ c.requires.accepted _ c.requires.starts _ c.requires.path _ _ c.number_in-first.ensures.0 c.number_in.ensures.0 in omega (arith, h.1, h.2)

pub returns-then-not-same_steps : goal.returns-then-not-same_steps
unfolding left_steps
returns-then-not-same_steps c = let m = routes_in c.args.s.now c.args.y in
    let h = own_steps m c.requires.accepted _ c.requires.starts _ c.requires.path _ _ c.number_in-first.ensures.0 c.number_in.ensures.0 in
    record { is = rw h.0 (strip_other m c.args.g.from c.number_in-first.result c.args.g.depth (c.number_in.result - c.number_in-first.result) (omega arith) (sym c.same_steps.ensures ∙ c.if-not-same_steps.true)); stands = tt }

pub returns : goal.returns
unfolding left_steps
returns c = let m = routes_in c.args.s.now c.args.y in
    let h = own_steps m c.requires.accepted _ c.requires.starts _ c.requires.path _ _ c.number_in-first.ensures.0 c.number_in.ensures.0 in
    let g = c.args.g in
    let first = c.number_in-first.result in
    let same = sym c.same_steps.ensures ∙ c.if-not-same_steps.false in
    let back : first + g.depth - g.depth ≡ first = omega arith in
    record {
      is = rw h.0 (strip-same m g.from first g.depth (c.number_in.result - first) (omega arith) same);
      stands = (omega (arith, h.1, h.2), omega arith, rw back (same_run m g.from first g.depth same));
    }
