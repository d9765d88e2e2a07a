-- The routes, one after the other.
--     steps_below, paths_all, rooted_lt     where the children of a route and a path start; roots stand among the nodes
--     root_paths, root_count, root_weight, root_funclet     the group of a route's paths
--     Routed, route_start, route_grouped, route_room, place_small, route_next, route_done     the routes before r are interned
-- Assumes nothing.
use mathlib.Core.Path.{◌≡◌, refl, sym, ap, ap₂, subst, ◌∙◌}
use mathlib.Core.List.{List, [], ◌∷◌, ◌++◌, append-nil}
use mathlib.Core.Option.{Option, none}
use Prim.Native.Nat.{ℕ, zero, suc, ◌+◌, ◌≤◌, ◌<◌}
use native.Mathlib.Numerals.{add-one}
use native.Mathlib.Decide.{dec_lt}
use native.Mathlib.Omega.{arith}
use lib.ListN.{length, get_or, take, drop, set, length-set, drop_of_length-le}
use lib.Seq.{ext_get_or, drop-cons, take-suc-set, append_snoc, length-take-le, get_or-take}
use Rattle.image.specs.Record.{route_from, path_from}
use Rattle.image.specs.Image.{RouteImage, table}
use Rattle.image.specs.Deal.{total, propagate, UnwindPath, UnwindRoute, routes_of}
use Rattle.image.specs.Accepted.{AcceptedRoutes}
use Rattle.image.proofs.Deals.{total-within}
use Rattle.graph.specs.Fold.{flat, sum}
use Rattle.graph.specs.Route.{route_at, paths_before, steps_before, path_in}
use Rattle.graph.proofs.FoldLaws.{length-table, get_or_table}
use Rattle.graph.proofs.RouteLaws.{length-routes, paths_of_law, path_of, paths_in, paths_next, steps_of, steps_next}
use Rattle.unwind.specs.declared.tries.store.Counts.{Counts}
use Rattle.unwind.specs.declared.tries.paths.Group.{Group}
use Rattle.unwind.specs.declared.tries.nodes.Interned.{Interned}
use Rattle.addition.specs.Trie.{Node, Interned as Made, Tries, intern_routes, tries}
use Rattle.unwind.specs.Nodes.{funclet_in, nodes_in, Stored}
use Rattle.unwind.specs.Interning.{strip, steps_in, left_at, paths_of, Starts}
use Rattle.unwind.specs.Lower.{Lower}
use Rattle.unwind.specs.Interns.{interned, weight, root_group, funclet_of, Grouped, Room, Interns}
use Rattle.unwind.specs.Routed.{Scratch, TriesIn}
use Rattle.addition.proofs.Lists.{at_lt}
use Rattle.addition.proofs.Intern.{Rooted, no_more, rooted, tries_law}
use Rattle.unwind.proofs.TrieNodes.{length_nodes}
use Rattle.unwind.proofs.LowerLaws.{lower_none, interned_lower}
use Rattle.unwind.proofs.TrieIntern.{funclet_none}

-- ---- where the children start

below : (f : ℕ → ℕ) (n p : ℕ) → p ≤ n → total f p ≤ total f n
below f n p h = elim (dec_lt p n) [
  | yes lt ↦ omega (arith, total-within f n p lt)
  | no ge ↦ let e : p ≡ n = omega arith in rw e (omega arith)
]

module _ (m : RouteImage) (ok : AcceptedRoutes m) where
  pub steps_below : (p : ℕ) → p ≤ length m.paths → steps_before m p ≤ length m.steps
  unfolding steps_before
  steps_below p h = omega (arith, below (λ q. (get_or m.paths q (path_from [] 0)).steps) (length m.paths) p h, ok.steps_add)

  pub paths_all : paths_before m (length m.routes) ≤ length m.paths
  unfolding paths_before
  paths_all = omega (arith, ok.paths_add)

-- each root stands among the nodes
pub rooted_lt : (rs : List UnwindRoute) (z : List Node) {us : List UnwindRoute} {is : List ℕ} → Rooted rs z us is → (k : ℕ) → k < length is → get_or is k 0 < length z
rooted_lt rs z no_more k h = absurd (omega arith)
rooted_lt rs z (rooted {i = i} n here says more) zero h = at_lt z i here
rooted_lt rs z (rooted n here says more) (suc k) h = rooted_lt rs z more k (omega arith)

-- ---- the group of a route's paths

flat-table : {A : Type 0} (f : ℕ → A) (n : ℕ) → flat (λ (k : ℕ). f k ∷ []) n ≡ table f n
unfolding flat table
flat-table f zero = refl
flat-table f (suc n) = ap (λ (l : List _). l ++ (f n ∷ [])) (flat-table f n)

weight_append : (l k : List UnwindPath) → weight (l ++ k) ≡ weight l + weight k
unfolding weight
weight_append [] k = omega arith
weight_append (p ∷ l) k = omega (arith, weight_append l k)

module _ (m : RouteImage) (r first count : ℕ) where
  root_table : paths_of m (root_group r first count) ≡ table (λ (k : ℕ). path_in m (first + k)) count
  unfolding paths_of left_at steps_in strip
  root_table = flat-table (λ (k : ℕ). path_in m (first + k)) count

  pub root_count : length (paths_of m (root_group r first count)) ≡ count
  root_count = ap length root_table ∙ length-table (λ (k : ℕ). path_in m (first + k)) count

  pub root_funclet : funclet_in m (funclet_of (root_group r first count)) ≡ none
  unfolding funclet_in
  root_funclet = rw (← funclet_none (root_group r first count) refl)

module _ (m : RouteImage) (ok : AcceptedRoutes m) (first : ℕ) where
  table-weight : (n : ℕ) → first + n ≤ length m.paths → steps_before m first + weight (table (λ (k : ℕ). path_in m (first + k)) n) ≡ steps_before m (first + n)
  unfolding table weight
  table-weight zero h = let e : first + 0 ≡ first = omega arith in rw e (omega arith)
  table-weight (suc n) h =
      let e : first + suc n ≡ first + n + 1 = omega arith in
      rw (e, weight_append (table (λ (k : ℕ). path_in m (first + k)) n) (path_in m (first + n) ∷ []), steps_next m (first + n))
      (omega (arith, table-weight n (omega arith), steps_of m ok (first + n) (omega arith)))

  pub root_weight : (r count : ℕ) → first + count ≤ length m.paths → steps_before m first + weight (paths_of m (root_group r first count)) ≡ steps_before m (first + count)
  root_weight r count h = rw (root_table m r first count) (table-weight count h)

module _ (m : RouteImage) (ok : AcceptedRoutes m) (r : ℕ) (h : r < length m.routes) where
  abbrev count : ℕ
  count = (get_or m.routes r (route_from [] 0)).paths

  pub root_paths : paths_of m (root_group r (paths_before m r) count) ≡ (route_at (routes_of m) r).paths
  root_paths =
      root_table m r (paths_before m r) count
      ∙ ext_get_or (record { steps = []; end = propagate }) _ _ (size ∙ sym (paths_of_law m ok r h))
      (λ k lt. let inside : k < count = omega (arith, size) in get_or_table (λ (i : ℕ). path_in m (paths_before m r + i)) count k _ inside ∙ sym (path_of m ok r h k inside))
    where
      size : length (table (λ (k : ℕ). path_in m (paths_before m r + k)) count) ≡ count
      size = length-table (λ (k : ℕ). path_in m (paths_before m r + k)) count

-- ---- the routes before r are interned

pub record Routed (m : RouteImage) (nodes₀ edges₀ ends₀ stack₀ roots₀ nodes edges ends stack roots : List ℕ) (c : Counts) (first r : ℕ) : Type 0 where
  pub nodes_long : length nodes ≡ length nodes₀
  pub edges_long : length edges ≡ length edges₀
  pub ends_long : length ends ≡ length ends₀
  pub stack_long : length stack ≡ length stack₀
  pub roots_long : length roots ≡ length roots₀
  pub first_is : first ≡ paths_before m r
  pub stored : Stored nodes edges ends c
  pub lower : Lower (nodes_in m nodes edges ends c.nodes)
  pub nodes_done : (tries (routes_of m)).nodes ≡ (intern_routes r (drop r (routes_of m)) (nodes_in m nodes edges ends c.nodes)).nodes
  pub roots_done : (tries (routes_of m)).roots ≡ take r roots ++ (intern_routes r (drop r (routes_of m)) (nodes_in m nodes edges ends c.nodes)).roots
  pub nodes_most : c.nodes ≤ r + steps_before m first
  pub edges_most : c.edges ≤ steps_before m first
  pub ends_most : c.ends ≤ first

module _ (m : RouteImage) (ok : AcceptedRoutes m) (starts₀ nodes₀ edges₀ ends₀ stack₀ roots₀ : List ℕ)
    (scratch : Scratch m starts₀ nodes₀ edges₀ ends₀ stack₀ roots₀) where
  pub route_start : Routed m nodes₀ edges₀ ends₀ stack₀ roots₀ nodes₀ edges₀ ends₀ stack₀ roots₀ (record { nodes = 0; edges = 0; ends = 0 }) 0 0
  unfolding tries paths_before total nodes_in table sum
  route_start =
      record {
        nodes_long = refl;
        edges_long = refl;
        ends_long = refl;
        stack_long = refl;
        roots_long = refl;
        first_is = refl;
        stored = record {
          nodes_fit = omega arith;
          edges_fit = omega arith;
          ends_fit = omega arith;
          edges_within = λ i h. absurd (omega arith);
          ends_within = λ i h. absurd (omega arith);
          ways_within = omega arith;
        };
        lower = lower_none;
        nodes_done = refl;
        roots_done = refl;
        nodes_most = omega arith;
        edges_most = omega arith;
        ends_most = omega arith;
      }

  module _ (nodes edges ends stack roots : List ℕ) (c : Counts) (first r : ℕ) (so_far : Routed m nodes₀ edges₀ ends₀ stack₀ roots₀ nodes edges ends stack roots c first r) (h : r < length m.routes) where
    abbrev size : ℕ
    size = (get_or m.routes r (route_from [] 0)).paths

    abbrev group : Group
    group = root_group r first size

    among : first + size ≤ length m.paths
    among = omega (arith, paths_in m ok r h, so_far.first_is)

    -- the steps before those of the next route
    steps_then : steps_before m first + weight (paths_of m group) ≤ length m.steps
    steps_then = omega (arith, root_weight m ok first r size among, steps_below m ok (first + size) among)

    pub route_grouped : (l : List ℕ) → Starts m l → Grouped m l group
    route_grouped l starts =
        record {
          accepted = ok;
          starts = starts;
          within = record { paths = among; steps = omega arith };
          route = omega (arith, ok.routes_most);
        }

    pub route_room : Room nodes edges ends stack c 0 (suc (weight (paths_of m group))) (weight (paths_of m group)) (length (paths_of m group))
    route_room =
        let k = root_count m r first size in
        record {
          nodes_few = omega (arith, so_far.nodes_most, steps_then, ok.routes_most, ok.steps_most);
          edges_few = omega (arith, so_far.edges_most, steps_then, ok.steps_most);
          ends_few = omega (arith, so_far.ends_most, among, ok.paths_most);
          stack_few = omega (arith, steps_then, ok.steps_most);
          nodes_fit = omega (arith, so_far.nodes_most, steps_then, scratch.nodes_fit, so_far.nodes_long);
          edges_fit = omega (arith, so_far.edges_most, steps_then, scratch.edges_fit, so_far.edges_long);
          ends_fit = omega (arith, so_far.ends_most, among, scratch.ends_fit, so_far.ends_long);
          stack_fit = omega (arith, steps_then, scratch.stack_fit, so_far.stack_long);
        }

    module _ (nodes' edges' ends' stack' : List ℕ) (i : Interned) (done : Interns m group nodes edges ends stack c 0 nodes' edges' ends' stack' i) where
      pub place_small : i.place < 65536
      place_small = omega (arith, done.within, done.grown.nodes_most, so_far.nodes_most, steps_then, ok.routes_most, ok.steps_most)

      abbrev own : UnwindRoute
      own = route_at (routes_of m) r

      abbrev trie : List Node
      trie = nodes_in m nodes edges ends c.nodes

      made : Made
      made = interned r none own.paths trie

      is_made : interned r (funclet_in m (funclet_of group)) (paths_of m group) trie ≡ made
      unfolding made
      is_made = ap₂ (λ (f : Option ℕ) (ps : List UnwindPath). interned r f ps trie) (root_funclet m r first size) (rw so_far.first_is (root_paths m ok r h))

      here : intern_routes r (drop r (routes_of m)) trie ≡ record { nodes = (intern_routes (suc r) (drop (suc r) (routes_of m)) made.trie).nodes; roots = made.place ∷ (intern_routes (suc r) (drop (suc r) (routes_of m)) made.trie).roots }
      unfolding intern_routes made interned
      here = rw (drop-cons (routes_of m) r (record { start = 0; end = 0; paths = [] }) (rw (length-routes m) h))

      then_is : made.trie ≡ nodes_in m nodes' edges' ends' i.counts.nodes
      then_is = sym (done.trie ∙ ap (λ (x : Made). x.trie) is_made)

      then_lower : Lower (nodes_in m nodes' edges' ends' i.counts.nodes)
      unfolding made
      then_lower = subst Lower then_is (interned_lower r none own.paths trie so_far.lower)

      place_is : made.place ≡ i.place
      place_is = sym (done.place ∙ ap (λ (x : Made). x.place) is_made)

      pub route_next : length nodes' ≡ length nodes → length edges' ≡ length edges → length ends' ≡ length ends → length stack' ≡ length stack → Routed m nodes₀ edges₀ ends₀ stack₀ roots₀ nodes' edges' ends' stack' (set roots r i.place) i.counts (first + size) (r + 1)
      route_next ln le ld ls =
          let room : r < length roots = omega (arith, scratch.roots_fit, so_far.roots_long) in
          let w = root_weight m ok first r size among in
          record {
            nodes_long = ln ∙ so_far.nodes_long;
            edges_long = le ∙ so_far.edges_long;
            ends_long = ld ∙ so_far.ends_long;
            stack_long = ls ∙ so_far.stack_long;
            roots_long = length-set roots r i.place ∙ so_far.roots_long;
            first_is = omega (arith, paths_next m r, so_far.first_is);
            stored = done.stored;
            lower = then_lower;
            nodes_done =
                so_far.nodes_done
                ∙ ap (λ (x : Tries). x.nodes) here
                ∙ ap₂ (λ (k : ℕ) (t : List Node). (intern_routes k (drop k (routes_of m)) t).nodes) (sym (add-one r)) then_is;
            roots_done =
                so_far.roots_done
                ∙ ap (λ (x : Tries). take r roots ++ x.roots) here
                ∙ sym (append_snoc (take r roots) made.place (intern_routes (suc r) (drop (suc r) (routes_of m)) made.trie).roots)
                ∙ ap₂ (λ (l k : List ℕ). l ++ k)
                (ap (λ (x : ℕ). take r roots ++ (x ∷ [])) place_is ∙ sym (ap (λ (k : ℕ). take k (set roots r i.place)) (add-one r) ∙ take-suc-set roots r i.place room))
                (ap₂ (λ (k : ℕ) (t : List Node). (intern_routes k (drop k (routes_of m)) t).roots) (sym (add-one r)) then_is);
            nodes_most = omega (arith, done.grown.nodes_most, so_far.nodes_most);
            edges_most = omega (arith, done.grown.edges_most, so_far.edges_most);
            ends_most = omega (arith, done.grown.ends_most, so_far.ends_most, root_count m r first size);
          }

  -- ---- all of them are

  pub route_done : (nodes edges ends stack roots : List ℕ) (c : Counts) (first r : ℕ) → Routed m nodes₀ edges₀ ends₀ stack₀ roots₀ nodes edges ends stack roots c first r → r ≡ length m.routes → TriesIn m nodes edges ends roots c
  unfolding intern_routes
  route_done nodes edges ends stack roots c first r so_far all =
      let none_left : drop r (routes_of m) ≡ [] = drop_of_length-le (routes_of m) {i = r} (omega (arith, length-routes m)) in
      let nodes_are : nodes_in m nodes edges ends c.nodes ≡ (tries (routes_of m)).nodes = sym (so_far.nodes_done ∙ rw none_left) in
      let roots_are : take (length m.routes) roots ≡ (tries (routes_of m)).roots =
      sym (so_far.roots_done ∙ rw (none_left, all) (append-nil (take (length m.routes) roots))) in
      let whole : first ≤ length m.paths = rw (so_far.first_is, all) (paths_all m ok) in
      let few : steps_before m first ≤ length m.steps = steps_below m ok first whole in
      record {
        nodes_are = nodes_are;
        roots_are = roots_are;
        roots_in = λ q h.
            let size : length (take (length m.routes) roots) ≡ length m.routes = length-take-le (length m.routes) roots (omega (arith, scratch.roots_fit, so_far.roots_long)) in
            rw (← get_or-take (length m.routes) roots q 0 h, roots_are)
            (omega (arith, rooted_lt (routes_of m) (tries (routes_of m)).nodes (tries_law (routes_of m)).roots q (omega (arith, ap length roots_are)), ap length nodes_are, length_nodes m nodes edges ends c.nodes));
        stored = so_far.stored;
        nodes_most = omega (arith, so_far.nodes_most, few, ok.routes_most, ok.steps_most);
        edges_most = omega (arith, so_far.edges_most, few, ok.steps_most);
        ends_most = omega (arith, so_far.ends_most, whole, ok.paths_most);
      }
