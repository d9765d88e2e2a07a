-- The funclets of the routes are those of the nodes.
--     spelled_node                 a node that spells a funclet leads to one that entered it
--     funclet_node, node_funclet   a funclet of the routes, and that of a node
-- Assumes nothing.
use mathlib.Core.Path.{◌≡◌, sym, ◌∙◌, ap}
use mathlib.Core.Logic.{◌⊎◌, inl, inr}
use mathlib.Core.List.Memᴰ
use mathlib.Core.List.{List, ◌∷◌, map}
use mathlib.Core.Option.{some}
use Prim.Native.Nat.{ℕ, ◌<◌}
use native.Mathlib.Omega.{arith}
use lib.ListN.{length}
use Rattle.image.specs.Deal.{UnwindStep, funclet, call, UnwindEnd, UnwindRoute}
use Rattle.addition.specs.Part.{funclets}
use Rattle.addition.specs.Trie.{Node, tries, node_at}
use Rattle.addition.specs.Walk.{◌∈◌}
use Rattle.addition.proofs.Lists.{at, none_in, map_mem, at_lt, lt_at, at_get_or}
use Rattle.addition.proofs.Trie.{Spelled, stops, goes, Says}
use Rattle.addition.proofs.Intern.{Rooted, no_more, rooted, tries_law}
use Rattle.addition.proofs.Closure.{mem_funclets, funclets_mem}

-- some node entered a
abbrev SomeNode : List Node → ℕ → Type 0
SomeNode z a = (i : ℕ) × (n : Node) × (at z i ≡ some n) × (n.funclet ≡ some a)

no_call : (l : List ℕ) (a : ℕ) → funclet a ∈ map call l → ⊥
no_call l a m = let e = (map_mem call l m).2 in let z : ◌≡◌ {A = ℕ} 0 1 = cc in omega arith

spelled_node : (z : List Node) (a : ℕ) {n : Node} {s : List UnwindStep} {e : UnwindEnd} → Spelled z n s e → funclet a ∈ s → SomeNode z a
spelled_node z a (stops d m p q) i = absurd (no_call d.calls a (rw p at i))
spelled_node z a (goes d m c here f fun t more p) i = go (Memᴰ.append_cases (map call d.calls) (rw p at i)) (spelled_node z a more)
  where
    go : (funclet a ∈ map call d.calls) ⊎ (funclet a ∈ funclet f ∷ t) → (funclet a ∈ t → SomeNode z a) → SomeNode z a
    go (inl k) below = absurd (no_call d.calls a k)
    go (inr (Memᴰ.head k)) below = let same : f ≡ a = cc in (d.what, c, here, fun ∙ ap some same)
    go (inr (Memᴰ.tail k)) below = below k

module _ (rs : List UnwindRoute) where
  abbrev z : List Node
  z = (tries rs).nodes

  -- the root of a route
  root_of : {us : List UnwindRoute} {is : List ℕ} → Rooted rs z us is → (u : UnwindRoute) → u ∈ us → (n : Node) × Says z n u.paths
  root_of no_more u m = absurd (none_in m)
  root_of (rooted n here says more) u (Memᴰ.head e) = (n, rw e says)
  root_of (rooted n here says more) u (Memᴰ.tail m) = root_of more u m

  pub funclet_node : (a : ℕ) → a ∈ funclets rs → (i : ℕ) × (i < length z) × ((node_at z i).funclet ≡ some a)
  unfolding node_at
  funclet_node a m =
      let x = funclets_mem rs a m in
      let root = root_of (tries_law rs).roots x.route x.listed in
      let n = spelled_node z a ((root.1 x.path).0 x.written) x.named in
      (n.0, at_lt z n.0 n.2, ap (λ (y : Node). y.funclet) (at_get_or z n.0 _ n.2) ∙ n.3)

  pub node_funclet : (i a : ℕ) → i < length z → (node_at z i).funclet ≡ some a → a ∈ funclets rs
  unfolding node_at
  node_funclet i a h e =
      let n = lt_at z i h in
      mem_funclets rs a (((tries_law rs).fits.fit i n.0 n.1).named a (sym (ap (λ (y : Node). y.funclet) (at_get_or z i _ n.1)) ∙ e))
