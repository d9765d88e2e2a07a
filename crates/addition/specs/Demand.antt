-- Demand 3: 'The hops returned by add_unwind_routes spell the listed paths and nothing else.'
use Rattle.std.specs.Prelude.{◌≡◌, ◌↔◌, List, ℕ}
use Rattle.image.specs.Image.{RouteImage}
use Rattle.image.specs.Read.{read, read_routes}
use Rattle.image.specs.Deal.{UnwindPath, UnwindRoute, routes_of}
use Rattle.graph.specs.Graph.{Graph, Held}
use Rattle.addition.specs.Walk.{Funclet, Handler, Begins, Reach, Part, Returning, Guarded, Lists, Walk, May}
use Rattle.addition.specs.Add.{Addition, added, add_routes}

-- The conditions, over the graph before the addition. Blocks are built ones here, and a handler lies in a part where the
-- block that it begins does: that asks less than to count copies too, and instructions within blocks.
pub record Conditions (g : Graph) (rs : List UnwindRoute) : Type 0 where
  -- 'the parts of different funclets share no block'
  pub apart : (f f' b : ℕ) → Funclet rs f → Funclet rs f' → Part g rs f b → Part g rs f' b → f ≡ f'
  -- 'each part has a returning block'
  pub returns : (f e : ℕ) → Funclet rs f → Begins g f e → (b : ℕ) × Reach g rs f e b × Returning g b
  -- 'no protected block that keeps its exception edge lies in a part'
  pub outside : (f b : ℕ) → Funclet rs f → Part g rs f b → Guarded g rs b → ⊥
  -- 'no handler address begins such a block or lies in a part'
  pub unguarded : (h b : ℕ) → Handler rs h → Begins g h b → Guarded g rs b → ⊥
  pub unreached : (h b f : ℕ) → Handler rs h → Begins g h b → Funclet rs f → Part g rs f b → ⊥

-- The conclusion, over the graph and the hops afterwards.
pub record Demand3 (rs : List UnwindRoute) (a : Addition) : Type 0 where
  -- a covering route lists the path exactly when some walk spells it
  pub exactly : (b : ℕ) → Guarded a.graph rs b → (p : UnwindPath)
      → Lists a.graph rs b p ↔ Walk a.graph rs a.hops b p.steps p.end
  -- 'from each returning block that a walk may take it can go on to an end'
  pub ends : (b y : ℕ) → Guarded a.graph rs b → May a.graph rs a.hops b y
      → (p : UnwindPath) × Walk a.graph rs a.hops y p.steps p.end

-- Of every graph that 21 lets pass and every routes for whose addition no refusal is named.
abbrev pub Demanded : Type 0
Demanded =
    (h : Held) (l : List ℕ) (m : RouteImage) (a : Addition) → read_routes l ≡ read m → add_routes h l ≡ added a
    → Conditions h.graph (routes_of m) → Demand3 (routes_of m) a
