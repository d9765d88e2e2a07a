-- What a chart shows, as a graph and hops that are lent hold it after a build, or a build and an addition.
use Rattle.std.specs.Prelude.{List, [], ◌∷◌, ℕ, Result, Ok, Err}
use Rattle.image.specs.Read.{read_routes}
use Rattle.graph.specs.Lent.{held_of}
use Rattle.graph.specs.declared.store.Graph.{Graph as Lent}
use Rattle.graph.specs.Error.{refusal_of}
use Rattle.unwind.specs.HopWords.{hops_in}
use Rattle.unwind.specs.Answers.{image_of}
use Rattle.text.specs.Chart.{refused_line, chart_lines, route_bytes}
use Rattle.graph.specs.declared.error.AddressBuildError.{AddressBuildError}

-- for an image l: the lines of the graph and of the hops, whose lists are steps of the image's routes; or the refusal
abbrev pub drawn_lines : List ℕ → Lent → List ℕ → Result Unit AddressBuildError → List (List ℕ)
drawn_lines l w h (Ok _) = chart_lines (held_of w).graph (hops_in (image_of (read_routes (route_bytes l))) h)
drawn_lines l w h (Err e) = refused_line (refusal_of e) ∷ []
