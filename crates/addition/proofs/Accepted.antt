-- What an accepted addition tells: what was checked, that every funclet and handler of a node leads a block, and a route's
-- guarded blocks.
--     Accepted, accepted, Passed, passed     the checks that were clear, and the routes that were read
--     built_mem, mem_built         the built blocks
--     head_mem                     the first of a list stands in it
--     lead_begins, lead_starts     an address that leads a block begins the block looked up, and starts an instruction
--     then_clear, check_at, node_clear     every check of a clear row is clear, and so is that of a node
--     funclet_begins, funclet_starts, handler_begins      the addresses of a node
--     mem_guarded, guarded_mem     the guarded blocks of a route
use mathlib.Core.Path.{◌≡◌, refl, sym, ◌∙◌, ap}
use mathlib.Core.Bool.{Bool, true, false, cond, ◌&&◌}
use mathlib.Core.List.Memᴰ
use mathlib.Core.List.{List, [], ◌∷◌}
use mathlib.Core.Option.{Option, none, some}
use Prim.Native.Nat.{ℕ, zero, suc, ◌<◌}
use native.Mathlib.Nat.{not-suc-le-zero}
use native.Mathlib.Decide.{dec_lt}
use native.Mathlib.Omega.{arith}
use borrow.Author.Tests.{eqb-true, eq-eqb, leb-true, le-leb, ltb-true, lt-ltb}
use lib.Dec.{eqb, leb, ltb}
use lib.ListN.{length, get_or}
use Rattle.image.specs.Refusal.{refusal, Check, clear, refused, ◌then◌}
use Rattle.image.specs.Image.{RouteImage}
use Rattle.image.specs.Read.{Reading, read, refusing, read_routes}
use Rattle.image.specs.Deal.{UnwindEnd, handler, propagate, UnwindRoute, routes_of}
use Rattle.graph.specs.Graph.{Graph, Held}
use Rattle.graph.specs.Fold.{checks}
use Rattle.graph.specs.Table.{is_start}
use Rattle.graph.specs.WellFormed.{is_built, well_formed}
use Rattle.addition.specs.Lists.{keep, upto, head}
use Rattle.addition.specs.Order.{Tagged, tagged}
use Rattle.addition.specs.Blocks.{built_blocks, first_of, leading_by, leading, block_in, block_of, within, keeps_edge, guarded}
use Rattle.addition.specs.Trie.{Node, node_at, tries}
use Rattle.addition.specs.Add.{lead_found, lead_check, route_check, funclet_check, end_check, node_check, Addition, addition, size_check, Outcome, added, outcome, add_routes_to, add_read, add_routes}
use Rattle.addition.specs.Walk.{◌∈◌, Built, Begins, Covers}
use Rattle.addition.proofs.Lists.{at, and_both, and_true, mem_keep, keep_mem, mem_upto, upto_mem, mem_at, at_lt, at_get_or}

-- ---- checks

pub then_clear : (a b : Check) → a then b ≡ clear → (a ≡ clear) × (b ≡ clear)
then_clear clear b e = (refl, e)
then_clear (refused r) b e = absurd (let z : ◌≡◌ {A = ℕ} 0 1 = cc in omega arith)

pub check_at : (f : ℕ → Check) (n i : ℕ) → checks f n ≡ clear → i < n → f i ≡ clear
unfolding checks
check_at f zero i e h = absurd (not-suc-le-zero h)
check_at f (suc n) i e h = go (dec_lt i n) (λ (k : i < n). check_at f n i (then_clear (checks f n) (f n) e).0 k)
  where
    go : Dec (i < n) → (i < n → f i ≡ clear) → f i ≡ clear
    go (yes k) below = below k
    go (no k) below = let p : i ≡ n = omega arith in ap f p ∙ (then_clear (checks f n) (f n) e).1

pub node_clear : (g : Graph) (z : List Node) → checks (λ i. node_check g (node_at z i)) (length z) ≡ clear → (i : ℕ) (n : Node) → at z i ≡ some n → node_check g n ≡ clear
unfolding node_at
node_clear g z ok i n e = sym (ap (node_check g) (at_get_or z i _ e)) ∙ check_at (λ (k : ℕ). node_check g (node_at z k)) (length z) i ok (at_lt z i e)

-- ---- the checks of an addition

pub record Accepted (g : Graph) (rs : List UnwindRoute) (a : Addition) : Type 0 where
  pub nodes : checks (λ i. node_check g (node_at (tries rs).nodes i)) (length (tries rs).nodes) ≡ clear
  pub sizes : size_check (addition g rs) ≡ clear
  pub is : addition g rs ≡ a

outcome_added : (c : Check) (x a : Addition) → outcome c x ≡ added a → (c ≡ clear) × (x ≡ a)
unfolding outcome
outcome_added clear x a e = (refl, cc)
outcome_added (refused r) x a e = absurd (let q : ◌≡◌ {A = ℕ} 0 1 = cc in omega arith)

pub accepted : (g : Graph) (rs : List UnwindRoute) (a : Addition) → add_routes_to g rs ≡ added a → Accepted g rs a
unfolding add_routes_to
accepted g rs a e =
    let nodes : Check = checks (λ i. node_check g (node_at (tries rs).nodes i)) (length (tries rs).nodes) in
    let x = outcome_added (checks (route_check g rs) (length rs) then nodes then size_check (addition g rs)) (addition g rs) a e in
    let y = then_clear (checks (route_check g rs) (length rs) then nodes) (size_check (addition g rs)) x.0 in
    record { nodes = (then_clear (checks (route_check g rs) (length rs)) nodes y.0).1; sizes = y.1; is = x.1 }

-- 21 lets the graph pass, and the routes that were read are added
pub record Passed (h : Held) (l : List ℕ) (a : Addition) : Type 0 where
  pub graph : well_formed h ≡ true
  pub image : RouteImage
  pub routes : read_routes l ≡ read image
  pub adds : add_routes_to h.graph (routes_of image) ≡ added a

pub passed : (h : Held) (l : List ℕ) (a : Addition) → add_routes h l ≡ added a → Passed h l a
unfolding add_routes add_read
passed h l a e = go (well_formed h) refl (read_routes l) refl e
  where
    go : (b : Bool) → well_formed h ≡ b → (x : Reading RouteImage) → read_routes l ≡ x → cond b (add_read h.graph x) (Outcome.refused (refusal 21 0 0)) ≡ added a → Passed h l a
    go true w (read m) r q = record { graph = w; image = m; routes = r; adds = q }
    go true w (refusing x) r q = absurd (let z : ◌≡◌ {A = ℕ} 0 1 = cc in omega arith)
    go false w x r q = absurd (let z : ◌≡◌ {A = ℕ} 0 1 = cc in omega arith)

-- ---- leading blocks

pub built_mem : (g : Graph) (b : ℕ) → b ∈ built_blocks g → Built g b
unfolding built_blocks
built_mem g b m = let k = keep_mem (is_built g) (upto (length g.blocks)) m in record { exists = upto_mem (length g.blocks) k.0; original = k.1 }

pub mem_built : (g : Graph) (b : ℕ) → Built g b → b ∈ built_blocks g
unfolding built_blocks
mem_built g b x = mem_keep (is_built g) (mem_upto (length g.blocks) b x.exists) x.original

pub head_mem : (l : List ℕ) (b : ℕ) → head l ≡ some b → b ∈ l
unfolding head
head_mem [] b e = absurd (let z : ◌≡◌ {A = ℕ} 0 1 = cc in omega arith)
head_mem (x ∷ l) b e = let p : b ≡ x = cc in Memᴰ.head p

pub lead_begins : (g : Graph) (a : ℕ) → lead_check g a ≡ clear → Begins g a (block_of g a)
unfolding lead_check leading block_of lead_found leading_by block_in
lead_begins g a e = go (head found) refl (is_start g.table a) e
  where
    starts : ℕ → Bool
    starts b = eqb (first_of g b).address a

    found : List ℕ
    found = keep starts (built_blocks g)

    go : (o : Option ℕ) → head found ≡ o → (s : Bool) → lead_found a (leading_by o s) ≡ clear → Begins g a (block_in (leading_by o s))
    go (some b) q true k =
        let m = keep_mem starts (built_blocks g) (head_mem found b q) in
        record { built = built_mem g b m.0; address = eqb-true _ a m.1 }
    go (some b) q false k = absurd (let z : ◌≡◌ {A = ℕ} 0 1 = cc in omega arith)
    go none q true k = absurd (let z : ◌≡◌ {A = ℕ} 0 1 = cc in omega arith)
    go none q false k = absurd (let z : ◌≡◌ {A = ℕ} 0 1 = cc in omega arith)

pub lead_starts : (g : Graph) (a : ℕ) → lead_check g a ≡ clear → is_start g.table a ≡ true
unfolding lead_check leading lead_found leading_by
lead_starts g a e = go (head (keep (λ b. eqb (first_of g b).address a) (built_blocks g))) (is_start g.table a) e
  where
    go : (o : Option ℕ) (s : Bool) → lead_found a (leading_by o s) ≡ clear → s ≡ true
    go o true k = refl
    go (some b) false k = absurd (let z : ◌≡◌ {A = ℕ} 0 1 = cc in omega arith)
    go none false k = absurd (let z : ◌≡◌ {A = ℕ} 0 1 = cc in omega arith)

module _ (g : Graph) (n : Node) (ok : node_check g n ≡ clear) where
  abbrev end_check_law : ℕ → Check
  end_check_law j = end_check g (get_or n.ends j (tagged [] propagate)).what

  split : (funclet_check g n.funclet ≡ clear) × (checks end_check_law (length n.ends) ≡ clear)
  unfolding node_check
  split = then_clear (funclet_check g n.funclet) (checks end_check_law (length n.ends)) ok

  funclet_leads : (f : ℕ) → n.funclet ≡ some f → lead_check g f ≡ clear
  unfolding funclet_check
  funclet_leads f e = rw e at split.0

  pub funclet_begins : (f : ℕ) → n.funclet ≡ some f → Begins g f (block_of g f)
  funclet_begins f e = lead_begins g f (funclet_leads f e)

  pub funclet_starts : (f : ℕ) → n.funclet ≡ some f → is_start g.table f ≡ true
  funclet_starts f e = lead_starts g f (funclet_leads f e)

  pub handler_begins : (d : Tagged UnwindEnd) (h : ℕ) → d ∈ n.ends → d.what ≡ handler h → Begins g h (block_of g h)
  unfolding end_check
  handler_begins d h m e =
      let j = mem_at m in
      let x : get_or n.ends j.0 (tagged [] propagate) ≡ d = at_get_or n.ends j.0 (tagged [] propagate) j.1 in
      let c : end_check g (get_or n.ends j.0 (tagged [] propagate)).what ≡ clear = check_at end_check_law (length n.ends) j.0 split.1 (at_lt n.ends j.0 j.1) in
      lead_begins g h (sym (ap (end_check g) (ap (λ (y : Tagged UnwindEnd). y.what) x ∙ e)) ∙ c)

-- ---- guarded blocks

module _ (g : Graph) (u : UnwindRoute) where
  abbrev guards : ℕ → Bool
  guards b = within u (first_of g b).address && keeps_edge g b

  pub mem_guarded : (b : ℕ) → Built g b → (first_of g b).keeps ≡ 1 → Covers g u b → b ∈ guarded g u
  unfolding guarded within keeps_edge
  mem_guarded b h k c =
      mem_keep guards (mem_built g b h)
      (and_true (and_true (le-leb u.start (first_of g b).address c.from) (lt-ltb (first_of g b).address u.end c.before)) (eq-eqb (first_of g b).keeps 1 k))

  pub guarded_mem : (b : ℕ) → b ∈ guarded g u → Built g b × ((first_of g b).keeps ≡ 1) × Covers g u b
  unfolding guarded within keeps_edge
  guarded_mem b m =
      let x = keep_mem guards (built_blocks g) m in
      let y = and_both (within u (first_of g b).address) (keeps_edge g b) x.1 in
      let w = and_both (leb u.start (first_of g b).address) (ltb (first_of g b).address u.end) y.0 in
      (built_mem g b x.0, eqb-true _ 1 y.1, record { from = leb-true _ _ w.0; before = ltb-true _ _ w.1 })
