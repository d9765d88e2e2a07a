-- What an image holds: its records, section by section.
use Rattle.std.specs.Prelude.{List, [], ◌∷◌, ◌++◌, ℕ, zero, suc, ◌+◌, ◌*◌}
use Rattle.image.specs.Record.{instruction_from, case_from, source_from, edge_from, handler_from, route_from, path_from, step_from}
use Rattle.image.specs.declared.record.Header.{Header}
use Rattle.image.specs.declared.record.Instruction.{Instruction}
use Rattle.image.specs.declared.record.Case.{Case}
use Rattle.image.specs.declared.record.GivenSource.{GivenSource}
use Rattle.image.specs.declared.record.GivenEdge.{GivenEdge}
use Rattle.image.specs.declared.record.Handler.{Handler}
use Rattle.image.specs.declared.record.Route.{Route}
use Rattle.image.specs.declared.record.Path.{Path}
use Rattle.image.specs.declared.record.Step.{Step}
use Rattle.image.specs.declared.section.Section.{Section}
use Rattle.image.specs.declared.section.RouteLayout.{RouteLayout}
use Rattle.image.specs.declared.section.Layout.{Layout}

-- 'Routes for a later call are the last three sections alone.'
pub record RouteImage : Type 0 where
  pub routes : List Route
  pub paths : List Path
  pub steps : List Step

pub record Image : Type 0 where
  pub header : Header
  pub instructions : List Instruction
  pub cases : List Case
  pub sources : List GivenSource
  pub edges : List GivenEdge
  pub handlers : List Handler
  pub routes : RouteImage

-- f 0, f 1, .. below n
unfoldable pub table : {A : Type 0} → (ℕ → A) → ℕ → List A
table f zero = []
table f (suc n) = table f n ++ (f n ∷ [])

abbrev pub place_in : Section → ℕ → ℕ
place_in s i = s.at + s.width * i

-- the records of a section
unfoldable pub records_in : {A : Type 0} → (List ℕ → ℕ → A) → List ℕ → Section → List A
records_in from l s = table (λ i. from l (place_in s i)) s.count

abbrev pub routes_in : List ℕ → RouteLayout → RouteImage
routes_in l y =
    record {
      routes = records_in route_from l y.routes;
      paths = records_in path_from l y.paths;
      steps = records_in step_from l y.steps;
    }

abbrev pub image_in : List ℕ → Layout → Image
image_in l y =
    let c = y.code in
    record {
      header = y.header;
      instructions = records_in instruction_from l c.instructions;
      cases = records_in case_from l c.cases;
      sources = records_in source_from l c.sources;
      edges = records_in edge_from l c.edges;
      handlers = records_in handler_from l c.handlers;
      routes = routes_in l y.routes;
    }
