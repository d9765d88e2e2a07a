-- The chart of an image with routes.
--     added_hops        what an addition that is not refused gives
--     lines_told        its hops are told line for line
-- Assumes nothing.
use mathlib.Core.Path.{◌≡◌, refl, sym}
use mathlib.Core.Bool.{Bool, true, false, cond}
use mathlib.Core.List.{List}
use Prim.Native.Nat.{ℕ}
use native.Mathlib.Omega.{arith}
use lib.ListN.{length}
use Rattle.image.specs.Refusal.{Check, clear, refusal, ◌then◌}
use Rattle.image.specs.Image.{RouteImage, table}
use Rattle.image.specs.Read.{Reading, read, refusing, read_routes}
use Rattle.image.specs.Deal.{UnwindRoute, routes_of}
use Rattle.image.proofs.Accepted.{accepted_routes}
use Rattle.graph.specs.Fold.{flat, checks}
use Rattle.graph.specs.Graph.{Graph, Held}
use Rattle.graph.specs.WellFormed.{well_formed}
use Rattle.addition.specs.Trie.{tries, node_at}
use Rattle.addition.specs.Add.{Addition, addition, added, refused, outcome, route_check, node_check, size_check, add_routes_to, add_read, add_routes}
use Rattle.text.specs.Chart.{hop_lines}
use Rattle.text.specs.HopText.{hop_in, told_at}
use Rattle.text.proofs.HopTextLaws.{all_told}
use Rattle.text.proofs.ShortLaws.{hops_short}

outcome_is : (c : Check) (x a : Addition) → outcome c x ≡ added a → x ≡ a
unfolding outcome
outcome_is clear x a e = cc
outcome_is (Check.refused r) x a e = absurd (let q : ◌≡◌ {A = ℕ} 0 1 = cc in omega arith)

to_is : (g : Graph) (rs : List UnwindRoute) (a : Addition) → add_routes_to g rs ≡ added a → addition g rs ≡ a
unfolding add_routes_to
to_is g rs a e =
    outcome_is (checks (route_check g rs) (length rs) then checks (λ (i : ℕ). node_check g (node_at (tries rs).nodes i)) (length (tries rs).nodes) then size_check (addition g rs)) (addition g rs) a e

pub added_hops : (h : Held) (l : List ℕ) (a : Addition) → add_routes h l ≡ added a → (m : RouteImage) × (read_routes l ≡ read m) × (addition h.graph (routes_of m) ≡ a)
unfolding add_routes add_read
added_hops h l a e = go (well_formed h) (read_routes l) refl e
  where
    go : (b : Bool) (x : Reading RouteImage) → read_routes l ≡ x → cond b (add_read h.graph x) (refused (refusal 21 0 0)) ≡ added a → (m : RouteImage) × (read_routes l ≡ read m) × (addition h.graph (routes_of m) ≡ a)
    go true (read m) r p = (m, r, to_is h.graph (routes_of m) a p)
    go true (refusing q) r p = absurd (let z : ◌≡◌ {A = ℕ} 0 1 = cc in omega arith)
    go false x r p = absurd (let z : ◌≡◌ {A = ℕ} 0 1 = cc in omega arith)

pub lines_told : (h : Held) (l : List ℕ) (a : Addition) → add_routes h l ≡ added a → flat (λ i. table (told_at a.hops i) (length (hop_in a.hops i).calls)) (length a.hops) ≡ hop_lines a.hops
unfolding addition
lines_told h l a e =
    let x = added_hops h l a e in
    all_told a.hops (rw (sym x.2) (hops_short h.graph x.0 (accepted_routes l x.0 x.1)))
