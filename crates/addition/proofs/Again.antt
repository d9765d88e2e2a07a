-- An accepted addition leaves a graph that 21 lets pass.
--     new_old, unstarted           each new block repeats one that stood, and to an empty table none is added
--     limits_after                 the limits, by 18 and 19
--     stands_after                 each phrase of the rule
--     again                        the theorem, of a graph and routes that were read
--     passes_again, words_again    of what is held where nothing is cut, and of what words hold
use mathlib.Core.Path.{◌≡◌, refl, sym, ◌∙◌, ap, subst}
use mathlib.Core.Logic.{inl, inr}
use mathlib.Core.Bool.{Bool, true, false, cond, false≢true}
use mathlib.Core.List.Memᴰ
use mathlib.Core.List.{List, [], ◌∷◌, ◌++◌, map}
use mathlib.Core.Option.{Option, none, some}
use Prim.Native.Nat.{ℕ, ◌+◌, ◌<◌}
use native.Mathlib.Omega.{arith}
use borrow.Author.Tests.{leb-true, le-leb}
use lib.Dec.{leb}
use lib.ListN.{length, length-append}
use Rattle.graph.specs.declared.store.Graph.{Graph as Lent}
use Rattle.image.specs.Refusal.{refusal, Check, clear, ◌then◌, unless}
use Rattle.image.specs.Deal.{UnwindRoute, routes_of}
use Rattle.image.proofs.Checks.{unless_clear}
use Rattle.graph.specs.declared.record.TableEntry.{TableEntry}
use Rattle.graph.specs.declared.record.Block.{Block}
use Rattle.graph.specs.declared.record.Edge.{Edge}
use Rattle.graph.specs.Graph.{Graph, Held, held, block as block_at}
use Rattle.graph.specs.Fold.{flat, checks}
use Rattle.graph.specs.Table.{is_start}
use Rattle.graph.specs.Lent.{held_of}
use Rattle.graph.specs.WellFormed.{within_limits, parents_exist, names_handler, same_reference, references_match, well_formed}
use Rattle.graph.proofs.FoldLaws.{flat-none}
use Rattle.graph.proofs.StoredLaws.{all_held}
use Rattle.graph.proofs.RuleLaws.{Stands, stands, stands_so}
use Rattle.addition.specs.Part.{funclets}
use Rattle.addition.specs.Trie.{Node, node_at, tries}
use Rattle.addition.specs.Instance.{part_of, blocks_of, later, copied, clone_blocks, clone_edges}
use Rattle.addition.specs.Ways.{ways, route_edges}
use Rattle.addition.specs.Add.{extended, Addition, addition, node_check, size_check, added, add_routes_to, add_routes}
use Rattle.addition.specs.Walk.{◌∈◌}
use Rattle.addition.proofs.Lists.{at, and_l, and_r, and_true, map_mem, flat_mem, lt_at, at_get_or}
use Rattle.addition.proofs.Sound.{Sound, sound as well_formed_law}
use Rattle.addition.proofs.Instance.{mem_copied, blocks_lt}
use Rattle.addition.proofs.Accepted.{then_clear, node_clear, funclet_starts, accepted, passed}
use Rattle.addition.proofs.AgainBlocks.{Old, block_up, regions_after, covers_after, copies_after, runs_after}
use Rattle.addition.proofs.AgainEdges.{Fine, ends_after, sets_after, clone_fine}
use Rattle.addition.proofs.AgainWays.{route_fine}

module _ (g : Graph) (rs : List UnwindRoute) where
  abbrev z : List Node
  z = (tries rs).nodes

  abbrev fs : List ℕ
  fs = funclets rs

  abbrev bs : List Block
  bs = clone_blocks g fs z

  abbrev es : List Edge
  es = clone_edges g fs z ++ route_edges (extended g bs []) [] (ways g rs)

  -- ---- the new blocks

  pub new_old : (x : Block) → x ∈ bs → Old g x
  unfolding clone_blocks
  new_old x m =
      let b = map_mem (block_at g) (flat (copied g fs z) (length z)) m in
      let i = flat_mem (copied g fs z) (length z) b.1 in
      (b.0, blocks_lt g rs z i.0 b.0 (mem_copied g rs z i.0 b.0 i.2).1, b.2)

  module _ (ok : checks (λ i. node_check g (node_at z i)) (length z) ≡ clear) where
    starts_nowhere : (t : List TableEntry) (a : ℕ) → length t ≡ 0 → is_start t a ≡ true → ⊥
    unfolding is_start
    starts_nowhere [] a h e = false≢true e
    starts_nowhere (x ∷ t) a h e = omega arith

    -- no funclet starts in an empty table, so no node has a block
    unstarted : length g.table ≡ 0 → length bs ≡ 0
    unfolding clone_blocks copied blocks_of part_of node_at
    unstarted h = ap (λ (l : List ℕ). length (map (block_at g) l)) (flat-none (copied g fs z) (length z) none_copied)
      where
        empty : (i : ℕ) (n : Node) → at z i ≡ some n → (o : Option ℕ) → n.funclet ≡ o → part_of g fs o ≡ []
        empty i n e none q = refl
        empty i n e (some f) q = absurd (starts_nowhere g.table f h (funclet_starts g n (node_clear g z ok i n e) f q))

        none_copied : (i : ℕ) → i < length z → copied g fs z i ≡ []
        none_copied i k =
            let n = lt_at z i k in
            go (later g fs z i) (ap (λ (y : Node). part_of g fs y.funclet) (at_get_or z i _ n.1) ∙ empty i n.0 n.1 n.0.funclet refl)
          where
            go : (x : Bool) → blocks_of g fs z i ≡ [] → cond x (blocks_of g fs z i) [] ≡ []
            go true e = e
            go false e = refl

  -- ---- the limits

  sizes : (a : Addition) → size_check a ≡ clear → (leb (length a.graph.blocks) 1024 ≡ true) × (leb (length a.graph.edges) 4096 ≡ true)
  unfolding size_check
  sizes a e =
      let blocks : Check = unless (leb (length a.graph.blocks) 1024) (refusal 18 0 0) in
      let edges : Check = unless (leb (length a.graph.edges) 4096) (refusal 19 0 0) in
      let x = then_clear blocks edges (then_clear (blocks then edges) _ e).0 in
      (unless_clear (leb (length a.graph.blocks) 1024) _ x.0, unless_clear (leb (length a.graph.edges) 4096) _ x.1)

  limits_after : within_limits (held g).counts ≡ true → size_check (addition g rs) ≡ clear → within_limits (held (extended g bs es)).counts ≡ true
  unfolding within_limits held addition extended
  limits_after e s =
      let x = sizes (addition g rs) s in
      let blocks : leb (length (g.blocks ++ bs)) 1024 ≡ true = x.0 in
      let edges : leb (length (g.edges ++ es)) 4096 ≡ true = x.1 in
      let old : leb 1 (length g.blocks) ≡ true = search (and_l, and_r) depth 12 in
      let first : leb 1 (length (g.blocks ++ bs)) ≡ true = le-leb 1 (length (g.blocks ++ bs)) (omega (arith, leb-true 1 (length g.blocks) old, length-append g.blocks bs)) in
      search (and_l, and_r, and_true) depth 20

  -- ---- the rule

  -- what 21 asks of regions and handlers alone
  same_parents : parents_exist (extended g bs es) ≡ parents_exist g
  unfolding parents_exist extended
  same_parents = refl

  same_references : references_match (extended g bs es) ≡ references_match g
  unfolding references_match names_handler same_reference extended
  same_references = refl

  stands_after : Stands (held g) → Sound g → checks (λ i. node_check g (node_at z i)) (length z) ≡ clear → size_check (addition g rs) ≡ clear → Stands (held (extended g bs es))
  unfolding held extended
  stands_after s sound ok size =
      record {
        limits = limits_after s.limits size;
        table = s.table;
        entry = block_up g bs es g.entry s.entry;
        edges = ends_after g bs es s.edges s.sets new_fine;
        regions = regions_after g bs es s.regions;
        parents = same_parents ∙ s.parents;
        references = same_references ∙ s.references;
        sets = sets_after g bs es s.edges s.sets new_fine;
        covers = covers_after g bs es sound s.covers;
        copies = copies_after g bs es new_old s.copies;
        runs = runs_after g bs es new_old (unstarted ok) s.runs;
      }
    where
      new_fine : (d : Edge) → d ∈ es → Fine (length g.blocks + length bs) d
      new_fine d m =
          elim (Memᴰ.append_cases (clone_edges g fs z) m) [
            | inl k ↦ clone_fine g rs z s.edges s.sets d k
            | inr k ↦ route_fine g rs sound ok (extended g bs []) [] d k
          ]

pub again : (g : Graph) (rs : List UnwindRoute) (a : Addition) → well_formed (held g) ≡ true → add_routes_to g rs ≡ added a → well_formed (held a.graph) ≡ true
unfolding held addition
again g rs a e adds =
    let x = accepted g rs a adds in
    subst (λ (a : Addition). well_formed (held a.graph) ≡ true) x.is
    (stands_so _ (stands_after g rs (stands (held g) e) (well_formed_law (held g) e) x.nodes x.sizes))

-- h ≡ held (h.graph): nothing of the graph is cut, and the counts are its lengths. Words that 21 lets pass hold such a graph.
pub passes_again : (h : Held) (l : List ℕ) (a : Addition) → h ≡ held h.graph → add_routes h l ≡ added a → well_formed (held a.graph) ≡ true
passes_again h l a whole e =
    let x = passed h l a e in
    again h.graph (routes_of x.image) a (sym (ap well_formed whole) ∙ x.graph) x.adds

pub words_again : (w : Lent) (l : List ℕ) (a : Addition) → add_routes (held_of w) l ≡ added a → well_formed (held a.graph) ≡ true
words_again w l a e = passes_again (held_of w) l a (all_held w (stands (held_of w) (passed (held_of w) l a e).graph).limits) e
