-- What holds of each image that was read: its limits, sums and sets of values, as later crates use them.
use Rattle.std.specs.Prelude.{◌≡◌, [], ℕ, suc, ◌≤◌, ◌<◌, length, get_or}
use Rattle.image.specs.Record.{instruction_from, source_from, edge_from, handler_from, route_from, path_from, step_from}
use Rattle.image.specs.Image.{Image, RouteImage}
use Rattle.image.specs.Deal.{total}

-- children add up, section by section, within the limits
pub record AcceptedRoutes (m : RouteImage) : Type 0 where
  pub routes_most : length m.routes ≤ 32
  pub paths_most : length m.paths ≤ 128
  pub steps_most : length m.steps ≤ 512
  pub paths_add : total (λ r. (get_or m.routes r (route_from [] 0)).paths) (length m.routes) ≡ length m.paths
  pub steps_add : total (λ p. (get_or m.paths p (path_from [] 0)).steps) (length m.paths) ≡ length m.steps
  pub ends : (p : ℕ) → (get_or m.paths p (path_from [] 0)).end ≤ 2
  pub codes : (s : ℕ) → (get_or m.steps s (step_from [] 0)).code ≤ 1

pub record Accepted (m : Image) : Type 0 where
  pub instructions_most : length m.instructions ≤ 512
  pub cases_most : length m.cases ≤ 512
  pub sources_most : length m.sources ≤ 512
  pub edges_most : length m.edges ≤ 512
  pub handlers_most : length m.handlers ≤ 32
  pub cases_add : total (λ p. (get_or m.instructions p (instruction_from [] 0)).cases) (length m.instructions) ≡ length m.cases
  pub edges_add : total (λ s. (get_or m.sources s (source_from [] 0)).edges) (length m.sources) ≡ length m.edges
  pub sources_rise : (s : ℕ) → suc s < length m.sources → (get_or m.sources s (source_from [] 0)).address < (get_or m.sources (suc s) (source_from [] 0)).address
  pub modes : m.header.mode ≤ 2
  pub policies : m.header.calls ≤ 1
  pub flows : (p : ℕ) → (get_or m.instructions p (instruction_from [] 0)).flow ≤ 12
  pub edge_kinds : (e : ℕ) → (get_or m.edges e (edge_from [] 0)).kind ≤ 7
  pub handler_kinds : (h : ℕ) → (get_or m.handlers h (handler_from [] 0)).kind ≤ 4
  pub not_given : m.header.mode < 2 → m.sources ≡ []
  pub not_routed : m.header.mode ≡ 0 → m.routes.routes ≡ []
  pub routed : AcceptedRoutes m.routes
