-- What a chart shows of a sequence.
--     lines_of     the lines of what an image gives
--     drawn       are those of its chart
-- Assumes nothing.
use mathlib.Core.Path.{◌≡◌, refl}
use mathlib.Core.Bool.{Bool, true, false, cond}
use mathlib.Core.List.{List, [], ◌∷◌}
use Prim.Native.Nat.{ℕ}
use lib.Dec.{eqb}
use Rattle.image.specs.Little.{le1}
use Rattle.graph.specs.Graph.{Graph, held}
use Rattle.graph.specs.Build.{Outcome as Building, built, refused as not_built, build_from}
use Rattle.addition.specs.Add.{Outcome as Adding, added, refused as not_added, add_routes}
use Rattle.text.specs.Chart.{refused_line, chart_lines, chart_of, added_chart, route_bytes, with_routes as chart_with, chart_from}
use Rattle.sequence.specs.Sequences.{Outcome, whole, unrouted, refused, routed, with_routes, sequence_from}

abbrev pub lines_of : Outcome → List (List ℕ)
lines_of (whole a) = chart_lines a.graph a.hops
lines_of (unrouted g r) = refused_line r ∷ []
lines_of (refused r) = refused_line r ∷ []

module _ (l : List ℕ) where
  with_mode : (plain : Bool) (g : Graph) (o : Adding) → lines_of (cond plain (whole (record { graph = g; hops = [] })) (routed g o)) ≡ cond plain (chart_of (built g)) (added_chart o)
  unfolding chart_of added_chart
  with_mode true g o = refl
  with_mode false g (added a) = refl
  with_mode false g (not_added r) = refl

  with_routes_law : (x : Building) → lines_of (with_routes l x) ≡ chart_with l x
  unfolding with_routes chart_with chart_of
  with_routes_law (built g) = with_mode (eqb (le1 l 1) 0) g (add_routes (held g) (route_bytes l))
  with_routes_law (not_built r) = refl

  pub drawn : lines_of (sequence_from l) ≡ chart_from l
  unfolding sequence_from chart_from
  drawn = with_routes_law (build_from l)
