-- What the interning asks and answers on the way.
use Rattle.std.specs.Prelude.{◌≡◌, Bool, true, false, cond, ◌&&◌, List, [], ◌∷◌, ◌++◌, map, eqb, length, get_or, Option, Some, None}
use Rattle.std.specs.declared.cmp.Ordering.{Ordering as StdOrdering}
use Rattle.std.specs.declared.cmp.Ordering.TheVariants.{Less, Equal, Greater}
use Rattle.std.proofs.Math.Option as maybe
use Rattle.std.proofs.Math.Option.{none, some}
use Prim.Native.Nat.{ℕ, zero, suc, ◌+◌, ◌-◌, ◌≤◌, ◌<◌, compare, Ordering}
use Rattle.image.specs.Image.{RouteImage}
use Rattle.image.specs.Deal.{UnwindStep, funclet, call, UnwindEnd, UnwindPath, step_of}
use Rattle.graph.specs.Fold.{flat}
use Rattle.graph.specs.Route.{steps_before, path_in}
use Rattle.unwind.specs.declared.tries.compare.Kind.{Kind}
use Rattle.unwind.specs.declared.tries.compare.Kind.TheVariants.{Edges, Ends}
use Rattle.unwind.specs.declared.tries.store.Branch.{Branch}
use Rattle.unwind.specs.declared.tries.paths.Group.{Group}
use Rattle.unwind.specs.declared.tries.paths.Steps.{Steps}
use Rattle.addition.specs.Trie.{Cut, over, enters, cut}
use Rattle.addition.specs.Order.{Tagged, compare_tagged, compare_ends}
use Rattle.unwind.specs.Nodes.{step_in, tags_in, edge_of, end_at}

-- what `cmp` answers, as the comparisons of specs/ answer it
abbrev pub ordering_of : StdOrdering → Ordering
ordering_of Less = Ordering.lt
ordering_of Equal = Ordering.eq
ordering_of Greater = Ordering.gt

-- what a branch of a kind stands for, and how those are ordered
abbrev pub Meant : Kind → Type 0
Meant Edges = Tagged ℕ
Meant Ends = Tagged UnwindEnd

abbrev pub ordered : (k : Kind) → Meant k → Meant k → Ordering
ordered Edges = compare_tagged compare
ordered Ends = compare_tagged compare_ends

abbrev pub meaning : RouteImage → (k : Kind) → Branch → Meant k
meaning m Edges = edge_of m
meaning m Ends = end_at m

abbrev pub is_lt : Ordering → Bool
is_lt Ordering.lt = true
is_lt Ordering.eq = false
is_lt Ordering.gt = false

-- ---- the next of a list in order: the least of those that come after `last`

module _ {A : Type 0} (c : A → A → Ordering) where
  abbrev pub after : maybe.Option A → A → Bool
  after none x = true
  after (some k) x = is_lt (c k x)

  abbrev pub before : A → maybe.Option A → Bool
  before x none = true
  before x (some b) = is_lt (c x b)

  unfoldable pub nearer : maybe.Option A → maybe.Option A → A → maybe.Option A
  nearer last best x = cond (after last x && before x best) (some x) best

  unfoldable pub nearest : maybe.Option A → maybe.Option A → List A → maybe.Option A
  nearest last best [] = best
  nearest last best (x ∷ l) = nearest last (nearer last best x) l

-- ---- what is left of steps that begin with others

abbrev pub same_step : UnwindStep → UnwindStep → Bool
same_step (funclet a) (funclet b) = eqb a b
same_step (funclet a) (call b) = false
same_step (call a) (funclet b) = false
same_step (call a) (call b) = eqb a b

unfoldable pub strip : List UnwindStep → List UnwindStep → maybe.Option (List UnwindStep)
strip [] s = some s
strip (x ∷ p) [] = none
strip (x ∷ p) (y ∷ s) = cond (same_step x y) (strip p s) none

abbrev pub left_with : UnwindEnd → maybe.Option (List UnwindStep) → List UnwindPath
left_with e none = []
left_with e (some s) = record { steps = s; end = e } ∷ []

module _ (m : RouteImage) where
  -- the n steps from a on
  unfoldable pub steps_in : ℕ → ℕ → List UnwindStep
  steps_in a zero = []
  steps_in a (suc n) = step_of (step_in m a) ∷ steps_in (suc a) n

  -- the n steps from a on and from b on are the same
  unfoldable pub same_steps : ℕ → ℕ → ℕ → Bool
  same_steps a b zero = true
  same_steps a b (suc n) = same_step (step_of (step_in m a)) (step_of (step_in m b)) && same_steps (suc a) (suc b) n

  -- where the steps of each path start, and where those of the last one end
  pub record Starts (l : List ℕ) : Type 0 where
    pub long : length m.paths < length l
    pub at : (p : ℕ) → p ≤ length m.paths → get_or l p 0 ≡ steps_before m p

  -- ---- a group: the paths of a route that begin with the same steps

  -- its paths stand among all, and so do the steps that they begin with
  pub record GroupIn (g : Group) : Type 0 where
    pub paths : g.first + g.count ≤ length m.paths
    pub steps : g.from + g.depth ≤ length m.steps

  unfoldable pub left_at : Group → ℕ → List UnwindPath
  left_at g q = left_with (path_in m q).end (strip (steps_in g.from g.depth) (path_in m q).steps)

  unfoldable pub paths_of : Group → List UnwindPath
  paths_of g = flat (λ k. left_at g (g.first + k)) g.count

  -- steps that stand among all
  unfoldable pub left_steps : Option Steps → maybe.Option (List UnwindStep)
  left_steps (Some l) = some (steps_in l.first l.count)
  left_steps None = none

  abbrev pub LeftIn : Group → Option Steps → Type 0
  LeftIn g (Some l) = (l.first + l.count ≤ length m.steps) × (g.depth ≤ l.first) × (steps_in (l.first - g.depth) g.depth ≡ steps_in g.from g.depth)
  LeftIn g None = Unit {0}

  pub record LeftOf (g : Group) (q : ℕ) (r : Option Steps) : Type 0 where
    pub is : strip (steps_in g.from g.depth) (path_in m q).steps ≡ left_steps r
    pub stands : LeftIn g r

  -- a cut of the n steps from a on, of which so many are calls before the first funclet, if there is one
  unfoldable pub cut_of : ℕ → ℕ → Option ℕ → Cut
  cut_of a n None = over (tags_in m a n)
  cut_of a n (Some c) = enters (tags_in m a c) (step_in m (a + c)).value (steps_in (a + c + 1) (n - (c + 1)))

  abbrev pub CutIn : ℕ → ℕ → Option ℕ → Type 0
  CutIn a n None = Unit {0}
  CutIn a n (Some c) = (c < n) × (steps_in a (c + 1) ≡ map call (tags_in m a c) ++ funclet (step_in m (a + c)).value ∷ [])

  pub record Cuts (a n : ℕ) (r : Option ℕ) : Type 0 where
    pub is : cut (steps_in a n) ≡ cut_of a n r
    pub stands : CutIn a n r
