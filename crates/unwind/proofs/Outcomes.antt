-- The outcome of an addition by its checks, in their order.
--     first_refused, nodes_refused the first refusal is a route's, or a node's
--     size-outcome                 neither: the sizes decide
--     size_refused                 and refuse
-- Assumes nothing.
use mathlib.Core.Path.{◌≡◌, ap, ◌∙◌}
use mathlib.Core.List.{List}
use lib.ListN.{length}
use Rattle.image.specs.Refusal.{Refusal, Check, clear}
use Rattle.image.specs.Deal.{UnwindRoute}
use Rattle.graph.specs.Graph.{Graph}
use Rattle.graph.specs.Fold.{checks}
use Rattle.addition.specs.Trie.{node_at, tries}
use Rattle.addition.specs.Add.{route_check, node_check, addition, size_check, Outcome, outcome, add_routes_to}

module _ (g : Graph) (rs : List UnwindRoute) where
  pub first_refused : (r : Refusal) → checks (route_check g rs) (length rs) ≡ Check.refused r → add_routes_to g rs ≡ Outcome.refused r
  unfolding add_routes_to outcome
  first_refused r e = rw e

  module _ (routes : checks (route_check g rs) (length rs) ≡ clear) where
    pub nodes_refused : (r : Refusal) → checks (λ i. node_check g (node_at (tries rs).nodes i)) (length (tries rs).nodes) ≡ Check.refused r → add_routes_to g rs ≡ Outcome.refused r
    unfolding add_routes_to outcome
    nodes_refused r e = rw (routes, e)

    module _ (nodes : checks (λ i. node_check g (node_at (tries rs).nodes i)) (length (tries rs).nodes) ≡ clear) where
      pub size-outcome : add_routes_to g rs ≡ outcome (size_check (addition g rs)) (addition g rs)
      unfolding add_routes_to
      size-outcome = rw (routes, nodes)

      pub size_refused : (r : Refusal) → size_check (addition g rs) ≡ Check.refused r → add_routes_to g rs ≡ Outcome.refused r
      unfolding outcome
      size_refused r e = size-outcome ∙ ap (λ (c : Check). outcome c (addition g rs)) e
