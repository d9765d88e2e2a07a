-- The route edges of an accepted addition: their ends exist afterwards.
--     entry_lt                     the entry of an instance
--     Ends, turn_ends, way_ends    the ends of a way
--     way_table                    where there is a way, the table has an instruction
--     route_fine                   the route edges are fine
use mathlib.Core.Path.{◌≡◌, refl, sym, ◌∙◌, ap, subst}
use mathlib.Core.Logic.{◌⊎◌, inl, inr}
use mathlib.Core.List.{List, []}
use mathlib.Core.Option.{Option, none, some}
use Prim.Native.Nat.{ℕ, ◌+◌, ◌<◌}
use native.Mathlib.Decide.{dec_lt}
use native.Mathlib.Omega.{arith}
use lib.ListN.{length, get_or-eq_default}
use Rattle.image.specs.Refusal.{clear}
use Rattle.image.specs.Deal.{UnwindRoute}
use Rattle.graph.specs.declared.record.TableEntry.{TableEntry}
use Rattle.graph.specs.declared.record.Edge.{Edge}
use Rattle.graph.specs.Graph.{Graph, block as block_at}
use Rattle.graph.specs.Table.{no_entry}
use Rattle.graph.specs.Fold.{flat, checks}
use Rattle.graph.specs.Table.{entry_at}
use Rattle.graph.proofs.TableLaws.{start_has}
use Rattle.addition.specs.Blocks.{first_of, block_of}
use Rattle.addition.specs.Part.{funclets}
use Rattle.addition.specs.Trie.{Node, node_at, tries}
use Rattle.addition.specs.Instance.{part_of, blocks_of, entry_of, clone_blocks}
use Rattle.addition.specs.Ways.{HopEnd, block, Way, route_ways, node_ways, ways, Leap, route_edge, route_edges}
use Rattle.addition.specs.Add.{node_check}
use Rattle.addition.specs.Walk.{◌∈◌, Begins, start}
use Rattle.addition.proofs.Lists.{at, none_in, at_lt, lt_at, at_get_or}
use Rattle.addition.proofs.Sound.{Sound}
use Rattle.addition.proofs.Intern.{tries_law}
use Rattle.addition.proofs.Instance.{returns_mem}
use Rattle.addition.proofs.NewEdges.{new_routed}
use Rattle.addition.proofs.Parts
use Rattle.addition.proofs.Walks.{entering, handling, leaving, resuming}
use Rattle.addition.proofs.HopWays
use Rattle.addition.proofs.Accepted.{node_clear, funclet_begins, funclet_starts, handler_begins, guarded_mem}
use Rattle.addition.proofs.AgainEdges.{Fine, place_lt}

module _ (g : Graph) (rs : List UnwindRoute) (sound : Sound g)
    (ok : checks (λ i. node_check g (node_at (tries rs).nodes i)) (length (tries rs).nodes) ≡ clear) where
  abbrev z : List Node
  z = (tries rs).nodes

  abbrev fs : List ℕ
  fs = funclets rs

  -- how many blocks there are afterwards
  abbrev count : ℕ
  count = length g.blocks + length (clone_blocks g fs z)

  node_at_law : (i : ℕ) (n : Node) → at z i ≡ some n → node_at z i ≡ n
  unfolding node_at
  node_at_law i n e = at_get_or z i _ e

  entry_lt : (i : ℕ) (n : Node) (f : ℕ) → at z i ≡ some n → n.funclet ≡ some f → entry_of g fs z i < count
  entry_lt i n f e q =
      let h : i < length z = at_lt z i e in
      let enters : (node_at z i).funclet ≡ some f = ap (λ (x : Node). x.funclet) (node_at_law i n e) ∙ q in
      let begins : Begins g f (block_of g f) = funclet_begins g n (node_clear g z ok i n e) f q in
      let is = Parts.entry_is g rs z [] (λ d m. absurd (none_in m)) sound i f h enters begins in
      omega (arith, is, place_lt g rs z i (block_of g f) h (Parts.part_in g rs z [] (λ d m. absurd (none_in m)) sound i f h enters begins start))

  -- a way whose source exists, and its end where that is a block
  pub record Ends (b : ℕ) (e : HopEnd) : Type 0 where
    pub source : b < count
    pub end : (t : ℕ) → e ≡ block t → t < count

  same_end : {t u : ℕ} {e : HopEnd} → e ≡ block t → e ≡ block u → t ≡ u
  same_end p q = cc

  turn_ends : (b i : ℕ) (n : Node) (c : List ℕ) (e : HopEnd) → b < count → at z i ≡ some n → HopWays.Turns-to g g rs [] b n c e → Ends b e
  turn_ends b i n c e h here (entering d m p q) =
      let k = ((tries_law rs).fits.fit i n here).child d m in
      record { source = h; end = λ t r. omega (arith, same_end q r, entry_lt d.what k.0 k.1 k.2 k.3) }
  turn_ends b i n c e h here (handling d a m p w q) =
      let x = handler_begins g n (node_clear g z ok i n here) d a m w in
      record { source = h; end = λ t r. omega (arith, same_end q r, x.built.exists) }
  turn_ends b i n c e h here (leaving d m p w q) = record { source = h; end = λ t r. absurd (let y : ◌≡◌ {A = ℕ} 0 1 = cc in omega arith) }
  turn_ends b i n c e h here (resuming d m p w q) = record { source = h; end = λ t r. omega (arith, same_end q r) }

  pub way_ends : (w : Way) → w ∈ ways g rs → Ends w.source w.end
  way_ends w m = go (HopWays.ways_split g g rs [] w m)
    where
      go : (w ∈ route_ways g rs 0 rs (tries rs).roots) ⊎ (w ∈ flat (node_ways g rs) (length z)) → Ends w.source w.end
      go (inl k) =
          let o = HopWays.route_way g g rs [] 0 (tries_law rs).roots w k in
          let t = HopWays.way_turn g g rs [] o.number o.block o.state w o.among in
          let b = guarded_mem g o.route o.block o.inside in
          let h : o.block < count = omega (arith, b.0.exists) in
          subst (λ (s : ℕ). Ends s w.end) (sym t.0) (turn_ends o.block o.node o.state w.calls w.end h o.here t.1)
      go (inr k) =
          let o = HopWays.node_way g g rs [] w k in
          let n = lt_at z o.node o.inside in
          let t = HopWays.way_turn g g rs [] (node_at z o.node).route o.block (node_at z o.node) w o.among in
          let b = returns_mem g rs z o.node o.block o.return in
          let h : o.block < count = omega (arith, b.3, place_lt g rs z o.node b.0 o.inside b.1) in
          let here : at z o.node ≡ some (node_at z o.node) = n.1 ∙ ap some (sym (node_at_law o.node n.0 n.1)) in
          subst (λ (s : ℕ). Ends s w.end) (sym t.0) (turn_ends o.block o.node (node_at z o.node) w.calls w.end h here t.1)

  keeps_there : (b : ℕ) → (first_of g b).keeps ≡ 1 → 0 < length g.table
  unfolding first_of entry_at
  keeps_there b e =
      elim (dec_lt 0 (length g.table)) [
        | yes lt ↦ lt
        | no ge ↦ absurd (omega (arith, e, ap (λ (x : TableEntry). x.keeps) (get_or-eq_default g.table no_entry {n = (block_at g b).first} (omega arith))))
      ]

  part_there : (i : ℕ) → i < length z → (f : Option ℕ) → (node_at z i).funclet ≡ f → {b : ℕ} → b ∈ part_of g fs f → 0 < length g.table
  unfolding part_of
  part_there i h none q m = absurd (none_in m)
  part_there i h (some f) q m =
      let n = lt_at z i h in
      omega (arith, (start_has g.table f (funclet_starts g n.0 (node_clear g z ok i n.0 n.1) f (ap (λ (x : Node). x.funclet) (sym (node_at_law i n.0 n.1)) ∙ q))).1)

  pub way_table : (w : Way) → w ∈ ways g rs → 0 < length g.table
  unfolding blocks_of
  way_table w m = go (HopWays.ways_split g g rs [] w m)
    where
      go : (w ∈ route_ways g rs 0 rs (tries rs).roots) ⊎ (w ∈ flat (node_ways g rs) (length z)) → 0 < length g.table
      go (inl k) =
          let o = HopWays.route_way g g rs [] 0 (tries_law rs).roots w k in
          keeps_there o.block (guarded_mem g o.route o.block o.inside).1
      go (inr k) =
          let o = HopWays.node_way g g rs [] w k in
          part_there o.node o.inside _ refl (returns_mem g rs z o.node o.block o.return).1

  pub route_fine : (g' : Graph) (seen : List Leap) (d : Edge) → d ∈ route_edges g' seen (ways g rs) → Fine count d
  unfolding route_edge
  route_fine g' seen d m =
      let x = new_routed g' d seen (ways g rs) m in
      let e = way_ends x.way x.among in
      let is : d ≡ route_edge g' x.way.route x.way.source x.to = x.is in
      record {
        source = omega (arith, ap (λ (y : Edge). y.source) is, e.source);
        target = omega (arith, ap (λ (y : Edge). y.target) is, e.end x.to x.end);
        kind = omega (arith, ap (λ (y : Edge). y.kind) is);
        role = omega (arith, ap (λ (y : Edge). y.role) is);
      }
