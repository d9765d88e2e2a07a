-- The nodes of an image's own routes pass 14 and 17 against the graph that is built of it: the build asks 14 of each address
-- that a route names, and its leaders' marks put a block there. So the routes are refused for want of room alone.
--     entry_in                     what a path names is among the entries of its route
--     entry_leads                  an entry of the image's routes leads its block
--     own_nodes                    14 and 17 refuse none of the nodes
--     Limit                        18, 19 or 20
--     size_limits, own_limits      nothing else refuses the sizes of an addition, or the image's own routes
-- Assumes nothing.
use mathlib.Core.Path.{◌≡◌, refl, ap, ◌∙◌, subst}
use mathlib.Core.Bool.{Bool, true, false, ◌&&◌}
use mathlib.Core.List.Memᴰ
use mathlib.Core.List.{List, [], ◌++◌}
use mathlib.Core.Option.{Option, none, some}
use Prim.Native.Nat.{ℕ, ◌≤◌, ◌<◌}
use native.Mathlib.Omega.{arith}
use lib.Dec.{leb}
use lib.ListN.{length}
use Rattle.image.specs.Refusal.{Refusal, refusal, Check, clear, ◌then◌, unless}
use Rattle.image.specs.Image.{Image}
use Rattle.image.specs.Deal.{UnwindEnd, handler, propagate, resume, UnwindPath, UnwindRoute, routes_of}
use Rattle.image.proofs.Checks.{then_left, then_right, unless_clear}
use Rattle.graph.specs.Fold.{among, checks, check_each}
use Rattle.graph.specs.Table.{entry_at, is_start}
use Rattle.graph.specs.Transfer.{table_of, address_at}
use Rattle.graph.specs.Route.{route_at, path_at, funclets as on_path, handler_of, entries}
use Rattle.graph.specs.Leaders.{range_mark, routes, route_mark}
use Rattle.graph.specs.Build.{build_check, graph_from}
use Rattle.graph.proofs.FoldLaws.{some_at}
use Rattle.graph.proofs.TableLaws.{start_has, entry_address}
use Rattle.graph.proofs.CheckLaws.{checks_clear}
use Rattle.addition.specs.Lists.{joined}
use Rattle.addition.specs.Order.{Tagged, tagged}
use Rattle.addition.specs.Trie.{Node, node_at, tries}
use Rattle.addition.specs.Add.{lead_check, funclet_check, end_check, node_check, Addition, addition, size_check, refused, outcome, add_routes_to}
use Rattle.addition.specs.Walk.{◌∈◌, Funclet, Handler}
use Rattle.addition.proofs.Lists.{or_right, mem_flat, mem_at, mem_get_or, at_lt, lt_at, at_get_or, mem_among}
use Rattle.addition.proofs.Intern.{Fit, tries_law}
use Rattle.addition.proofs.Closure.{on_path_law}
use Rattle.addition.proofs.Own.{route_leader, led_clear, entries_clear, own_passed}

-- ---- the entries of a route

pub entry_in : (r : UnwindRoute) (p : UnwindPath) (a : ℕ) → p ∈ r.paths → a ∈ on_path p ++ handler_of p.end → a ∈ entries r
unfolding entries
entry_in r p a written named =
    let k = mem_at written in
    let is : path_at r k.0 ≡ p = at_get_or r.paths k.0 _ k.1 in
    mem_flat (λ (k : ℕ). on_path (path_at r k) ++ handler_of (path_at r k).end) (length r.paths) k.0 (at_lt r.paths k.0 k.1) (rw is named)

-- each of a list's checks that are clear is clear
each_in : (f : ℕ → Check) {a : ℕ} {l : List ℕ} → a ∈ l → check_each f l ≡ clear → f a ≡ clear
unfolding check_each
each_in f (Memᴰ.head {x = b} {xs = l} e) h = ap f e ∙ then_left (f b) (check_each f l) h
each_in f (Memᴰ.tail {x = b} {xs = l} k) h = each_in f k (then_right (f b) (check_each f l) h)

-- ---- sizes

-- blocks, edges or hops
abbrev pub Limit : Refusal → Type 0
Limit r = (18 ≤ r.number) × (r.number ≤ 20)

pub size_limits : (a : Addition) (r : Refusal) → size_check a ≡ Check.refused r → Limit r
unfolding size_check
size_limits a r e =
    go (leb (length a.graph.blocks) 1024) (leb (length a.graph.edges) 4096) (leb (length a.hops) 2048 && leb (length (joined (λ h. h.calls) a.hops)) 4096) e
  where
    go : (blocks edges hops : Bool) → (unless blocks (refusal 18 0 0) then unless edges (refusal 19 0 0) then unless hops (refusal 20 0 0)) ≡ Check.refused r → Limit r
    go false edges hops e = let is : refusal 18 0 0 ≡ r = cc in rw (← is) (omega arith, omega arith)
    go true false hops e = let is : refusal 19 0 0 ≡ r = cc in rw (← is) (omega arith, omega arith)
    go true true false e = let is : refusal 20 0 0 ≡ r = cc in rw (← is) (omega arith, omega arith)
    go true true true e = absurd (let z : ◌≡◌ {A = ℕ} 0 1 = cc in omega arith)

outcome_refused : (c : Check) (a : Addition) (r : Refusal) → outcome c a ≡ refused r → c ≡ Check.refused r
unfolding outcome
outcome_refused clear a r e = absurd (let z : ◌≡◌ {A = ℕ} 0 1 = cc in omega arith)
outcome_refused (Check.refused s) a r e = cc

-- ---- the routes of an image

module _ (m : Image) (clears : build_check m ≡ clear) where
  module _ (r : UnwindRoute) (listed : r ∈ routes m) (a : ℕ) (named : a ∈ entries r) where
    abbrev k : ℕ
    k = (mem_at listed).0

    exists : k < length (routes m)
    exists = at_lt (routes m) k (mem_at listed).1

    is_entry : a ∈ entries (route_at (routes m) k)
    is_entry = rw (at_get_or (routes m) k (record { start = 0; end = 0; paths = [] }) (mem_at listed).1) named

    starts : is_start (table_of m) a ≡ true
    starts =
        unless_clear (is_start (table_of m) a) (refusal 14 a 0)
        (each_in (λ b. unless (is_start (table_of m) b) (refusal 14 b 0)) is_entry (entries_clear m clears k exists))

    entry_marked : (p : ℕ) → (entry_at (table_of m) p).address ≡ a → route_mark m p ≡ true
    unfolding route_mark
    entry_marked p here =
        let named : among (entries (route_at (routes m) k)) (address_at m p) ≡ true = rw (← (entry_address m p), here) (mem_among is_entry) in
        some_at _ (length (routes m)) k exists (or_right (range_mark m (route_at (routes m) k).start (route_at (routes m) k).end p) named)

    pub entry_leads : lead_check (graph_from m) a ≡ clear
    entry_leads =
        let p = start_has (table_of m) a starts in
        subst (λ (b : ℕ). lead_check (graph_from m) b ≡ clear) p.2 (led_clear m clears p.0 p.1 (route_leader m p.0 (entry_marked p.0 p.2)))

  -- ---- what a node names

  funclet_leads : (f : ℕ) → Funclet (routes m) f → lead_check (graph_from m) f ≡ clear
  funclet_leads f x =
      entry_leads x.route x.listed f
      (entry_in x.route x.path f x.written (Memᴰ.append_left (handler_of x.path.end) (on_path_law f x.path x.named)))

  handler_leads : (h : ℕ) → Handler (routes m) h → lead_check (graph_from m) h ≡ clear
  handler_leads h x =
      entry_leads x.route x.listed h
      (entry_in x.route x.path h x.written (Memᴰ.append_right (on_path x.path) (rw x.named (Memᴰ.head refl))))

  abbrev z : List Node
  z = (tries (routes m)).nodes

  module _ (i : ℕ) (n : Node) (fits : Fit (routes m) z i n) where
    funclet_clear : (f : Option ℕ) → n.funclet ≡ f → funclet_check (graph_from m) f ≡ clear
    unfolding funclet_check
    funclet_clear none e = refl
    funclet_clear (some f) e = funclet_leads f (fits.named f e)

    end_clear : (d : Tagged UnwindEnd) → d ∈ n.ends → (e : UnwindEnd) → d.what ≡ e → end_check (graph_from m) e ≡ clear
    unfolding end_check
    end_clear d listed (handler h) e = handler_leads h (fits.handled d h listed e)
    end_clear d listed propagate e = refl
    end_clear d listed resume e = refl

    node_clear : node_check (graph_from m) n ≡ clear
    unfolding node_check
    node_clear =
        rw (funclet_clear n.funclet refl)
        (checks_clear _ (length n.ends) (λ j h. end_clear _ (mem_get_or n.ends j (tagged [] propagate) h) _ refl))

  pub own_nodes : checks (λ i. node_check (graph_from m) (node_at (tries (routes_of m.routes)).nodes i)) (length (tries (routes_of m.routes)).nodes) ≡ clear
  unfolding routes node_at
  own_nodes =
      checks_clear _ (length z)
      (λ i h.
      let n = lt_at z i h in
      ap (node_check (graph_from m)) (at_get_or z i _ n.1) ∙ node_clear i n.0 ((tries_law (routes m)).fits.fit i n.0 n.1))

  pub own_limits : (r : Refusal) → add_routes_to (graph_from m) (routes_of m.routes) ≡ refused r → Limit r
  unfolding add_routes_to
  own_limits r e =
      let a = addition (graph_from m) (routes_of m.routes) in
      size_limits a r (outcome_refused (size_check a) a r (rw (own_passed m clears, own_nodes) at e))
