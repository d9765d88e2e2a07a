-- The start that it names. Assumes nothing.
use mathlib.Core.Bool.{◌&&◌}
use Prim.Native.Nat.{ℕ}
use lib.Dec.{eqb}
use mathlib.Core.List.{List, []}
use mathlib.Core.Path.{ap, ap₂, ◌∙◌}
use lib.ListN.{get_or}
use Rattle.image.specs.Image.{RouteImage}
use Rattle.image.specs.Record.{step_from}
use Rattle.image.specs.declared.record.Step.{Step}
use Rattle.builder.specs.Code.{image_of}
use Rattle.graph.proofs.TableLaws.{entry_address}
use Rattle.builder.specs.Marks.{step_mark}
use Rattle.builder.proofs.MarkLaws.{mark_as}
use Rattle.builder.proofs.leaders.routes.mark_funclet.Goals as goal

pub returns : goal.returns
returns c = let m = image_of c.args.checked.now.code in
    mark_as (step_mark m c.args.k) (λ p h. ap₂ (λ (x : Step) (b : ℕ). eqb x.code 0 && eqb b x.value) (c.get-step.ensures ∙ ap (λ (l : List Step). get_or l c.args.k (step_from [] 0)) (c.steps.ensures ∙ ap (λ (r : RouteImage). r.steps) c.routes.ensures)) (entry_address m p)) c.mark_target_if.ensures
