-- The start that it names. Assumes nothing.
use mathlib.Core.Bool.{◌&&◌}
use Prim.Native.Nat.{ℕ}
use lib.Dec.{eqb}
use mathlib.Core.List.{List, []}
use mathlib.Core.Path.{ap, ap₂, ◌∙◌}
use lib.ListN.{get_or}
use Rattle.image.specs.Image.{RouteImage}
use Rattle.image.specs.Record.{path_from}
use Rattle.image.specs.declared.record.Path.{Path}
use Rattle.builder.specs.Code.{image_of}
use Rattle.graph.proofs.TableLaws.{entry_address}
use Rattle.builder.specs.Marks.{path_mark}
use Rattle.builder.proofs.MarkLaws.{mark_as}
use Rattle.builder.proofs.leaders.routes.mark_path_end.Goals as goal

pub returns : goal.returns
returns c = let m = image_of c.args.checked.now.code in
    mark_as (path_mark m c.args.k) (λ p h. ap₂ (λ (x : Path) (b : ℕ). eqb x.end 0 && eqb b x.handler) (c.get-path.ensures ∙ ap (λ (l : List Path). get_or l c.args.k (path_from [] 0)) (c.paths.ensures ∙ ap (λ (r : RouteImage). r.paths) c.routes.ensures)) (entry_address m p)) c.mark_target_if.ensures
