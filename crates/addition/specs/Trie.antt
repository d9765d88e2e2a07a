-- `trie.rs`: what the runtime can still do after it entered a funclet, one node for equal states.
use Rattle.std.specs.Prelude.{Bool, true, false, cond, ◌&&◌, List, [], ◌∷◌, ◌++◌, eqb, length, get_or}
use Rattle.std.proofs.Math.Option.{Option, none, some, map}
use Prim.Native.Nat.{ℕ, zero, suc, max, compare}
use Rattle.std.proofs.Math.Dec.{compare_is_eq}
use Rattle.image.specs.Deal.{UnwindStep, funclet, call, UnwindEnd, UnwindPath, UnwindRoute}
use Rattle.addition.specs.Lists.{joined}
use Rattle.addition.specs.Order.{Tagged, tagged, compare_tagged, compare_ends, sorted, same}

-- The funclet that the runtime entered (none at the root of a route: the protected instruction), the next funclets as the
-- nodes after them, and the ends; and the route whose interning created the node.
pub record Node : Type 0 where
  pub funclet : Option ℕ
  pub edges : List (Tagged ℕ)
  pub ends : List (Tagged UnwindEnd)
  pub route : ℕ

-- Steps up to the first funclet: the tags before it, and the steps after it; or there is none.
pub data Cut : Type 0 where
  over : List ℕ → Cut
  enters : List ℕ → ℕ → List UnwindStep → Cut

unfoldable pub behind : ℕ → Cut → Cut
behind c (over l) = over (c ∷ l)
behind c (enters l f s) = enters (c ∷ l) f s

unfoldable pub cut : List UnwindStep → Cut
cut [] = over []
cut (funclet f ∷ s) = enters [] f s
cut (call c ∷ s) = behind c (cut s)

-- the ends of a node with these paths left, sorted
unfoldable pub end_on : Cut → UnwindEnd → List (Tagged UnwindEnd)
end_on (over l) e = tagged l e ∷ []
end_on (enters l f s) e = []

unfoldable pub ends_of : List UnwindPath → List (Tagged UnwindEnd)
ends_of ps = sorted (compare_tagged compare_ends) (joined (λ p. end_on (cut p.steps) p.end) ps)

-- the groups of its paths: the calls before the next funclet, and the funclet, sorted
unfoldable pub group_on : Cut → List (Tagged ℕ)
group_on (over l) = []
group_on (enters l f s) = tagged l f ∷ []

unfoldable pub groups : List UnwindPath → List (Tagged ℕ)
groups ps = sorted (compare_tagged compare) (joined (λ p. group_on (cut p.steps)) ps)

-- what is left of the paths of one group, in their order
unfoldable pub rest_on : Tagged ℕ → Cut → UnwindEnd → List UnwindPath
rest_on k (over l) e = []
rest_on k (enters l f s) e = cond (compare_is_eq (compare_tagged compare k (tagged l f))) (record { steps = s; end = e } ∷ []) []

unfoldable pub rest : Tagged ℕ → List UnwindPath → List UnwindPath
rest k ps = joined (λ p. rest_on k (cut p.steps) p.end) ps

-- equal nodes: all but the route
unfoldable pub same_funclet : Option ℕ → Option ℕ → Bool
same_funclet none none = true
same_funclet none (some b) = false
same_funclet (some a) none = false
same_funclet (some a) (some b) = eqb a b

unfoldable pub same_node : Node → Node → Bool
same_node n m =
    same_funclet n.funclet m.funclet
    && same (compare_tagged compare) n.edges m.edges
    && same (compare_tagged compare_ends) n.ends m.ends

unfoldable pub place_of : Node → List Node → Option ℕ
place_of n [] = none
place_of n (m ∷ t) = cond (same_node n m) (some 0) (map suc (place_of n t))

-- the nodes in creation order, and the place of one of them
pub record Interned : Type 0 where
  pub trie : List Node
  pub place : ℕ

-- a node that stands already is not created again
unfoldable pub created : Node → List Node → Option ℕ → Interned
created n t none = record { trie = t ++ (n ∷ []); place = length t }
created n t (some i) = record { trie = t; place = i }

unfoldable pub create : Node → List Node → Interned
create n t = created n t (place_of n t)

-- each group interned in order: the node's edges, and the nodes afterwards
pub record Children : Type 0 where
  pub edges : List (Tagged ℕ)
  pub trie : List Node

unfoldable pub intern_each : (Option ℕ → List UnwindPath → List Node → Interned) → List UnwindPath → List (Tagged ℕ) → List Node → Children
intern_each go ps [] t = record { edges = []; trie = t }
intern_each go ps (k ∷ ks) t =
    let i = go (some k.what) (rest k ps) t in
    let c = intern_each go ps ks i.trie in
    record { edges = tagged k.calls i.place ∷ c.edges; trie = c.trie }

unfoldable pub node_of : ℕ → Option ℕ → List UnwindPath → List (Tagged ℕ) → Node
node_of r f ps es = record { funclet = f; edges = sorted (compare_tagged compare) es; ends = ends_of ps; route = r }

-- `intern`: no path has more than the given number of steps left
unfoldable pub intern : ℕ → ℕ → Option ℕ → List UnwindPath → List Node → Interned
intern zero r f ps t = create (node_of r f ps []) t
intern (suc k) r f ps t =
    let c = intern_each (intern k r) ps (groups ps) t in
    create (node_of r f ps c.edges) c.trie

unfoldable pub longest : List UnwindPath → ℕ
longest [] = 0
longest (p ∷ ps) = max (length p.steps) (longest ps)

-- All nodes of all routes, and the root of each route.
pub record Tries : Type 0 where
  pub nodes : List Node
  pub roots : List ℕ

unfoldable pub intern_routes : ℕ → List UnwindRoute → List Node → Tries
intern_routes r [] t = record { nodes = t; roots = [] }
intern_routes r (u ∷ us) t =
    let i = intern (longest u.paths) r none u.paths t in
    let more = intern_routes (suc r) us i.trie in
    record { nodes = more.nodes; roots = i.place ∷ more.roots }

unfoldable pub tries : List UnwindRoute → Tries
tries rs = intern_routes 0 rs []

unfoldable pub node_at : List Node → ℕ → Node
node_at z i = get_or z i (record { funclet = none; edges = []; ends = []; route = 0 })
