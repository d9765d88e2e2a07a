-- The hops that are counted of a node's copies are those that leave them.
--     copy_is                      those of one copy
--     copies_are                   those of all copies of a node
--     total_hops                   those of all blocks and copies are the hops of all ways
use mathlib.Core.Path.{◌≡◌, refl, sym, ◌∙◌, ap}
use mathlib.Core.Logic.{◌⊎◌, inl, inr}
use mathlib.Core.Bool.{Bool, true, false, cond, false≢true}
use mathlib.Core.List.{List, [], ◌++◌, map}
use Prim.Native.Nat.{ℕ, ◌+◌, ◌≤◌, ◌<◌}
use native.Mathlib.Omega.{arith}
use borrow.Author.Tests.{ne_eqb}
use lib.Dec.{eqb}
use lib.ListN.{length, get_or}
use Rattle.image.specs.Image.{RouteImage}
use Rattle.image.specs.Deal.{routes_of}
use Rattle.graph.specs.Graph.{Graph}
use Rattle.graph.specs.Fold.{flat, among}
use Rattle.graph.proofs.FoldLaws.{flat-same, decided}
use Rattle.unwind.specs.declared.tries.store.Counts.{Counts}
use Rattle.addition.specs.Lists.{keep, upto}
use Rattle.addition.specs.Order.{sorted}
use Rattle.addition.specs.Part.{funclets, returning}
use Rattle.addition.specs.Trie.{Node, tries}
use Rattle.unwind.specs.Nodes.{record_in}
use Rattle.unwind.specs.Routed.{TriesIn}
use Rattle.addition.specs.Instance.{blocks_of, later, copied, base, place}
use Rattle.addition.specs.Ways.{Hop, ways, hops_of}
use Rattle.unwind.specs.Sources.{Exit, exit, compare_exits, exits_at, hops_on}
use Rattle.unwind.specs.Gather.{record_exits, in_set}
use Rattle.unwind.specs.Lent.{Leads, Sides, PartsIn, block_hops}
use Rattle.unwind.specs.Copies.{copy_number, hops_from, hops_if, copy_hops, node_hops}
use Rattle.addition.specs.Walk.{◌∈◌}
use Rattle.addition.proofs.Lists.{mem_keep, keep_mem, mem_among, among_mem}
use Rattle.addition.proofs.Instance.{copied_later, from_above}
use Rattle.unwind.proofs.Leaving.{place-below}
use Rattle.unwind.proofs.LentLaws.{count_is, copy_records, standing_hops}
use Rattle.unwind.proofs.AllHops.{hops_parts, copy_number_law, flat_chosen, part_is, place_is}

among-keep : (f : ℕ → Bool) (l : List ℕ) (o : ℕ) → o ∈ l → among (keep f l) o ≡ f o
among-keep f l o h = go (f o) refl (among (keep f l) o) refl
  where
    go : (a : Bool) → f o ≡ a → (b : Bool) → among (keep f l) o ≡ b → b ≡ a
    go true e true p = refl
    go true e false p = absurd (false≢true (sym p ∙ mem_among (mem_keep f h e)))
    go false e true p = absurd (false≢true (sym e ∙ (keep_mem f l (among_mem (keep f l) o p)).1))
    go false e false p = refl

none_kept : (f : ℕ → Bool) (l : List ℕ) (o : ℕ) → among l o ≡ false → among (keep f l) o ≡ false
none_kept f l o n = go (among (keep f l) o) refl
  where
    go : (b : Bool) → among (keep f l) o ≡ b → b ≡ false
    go true p = absurd (false≢true (sym n ∙ mem_among (keep_mem f l (among_mem (keep f l) o p)).0))
    go false p = refl

if_hops : (t : Bool) (xs : List Exit) → hops_on [] (sorted compare_exits (cond t xs [])) ≡ cond t (hops_on [] (sorted compare_exits xs)) []
unfolding hops_on sorted
if_hops true xs = refl
if_hops false xs = refl

module _ (g : Graph) (m : RouteImage) (nodes edges ends roots heads landings guards bases parts returns : List ℕ) (c : Counts) (t : TriesIn m nodes edges ends roots c) (s : Leads g m ends heads landings c) (k : Sides g m guards bases returns c) (q : PartsIn g m parts c) where
  abbrev z : List Node
  z = (tries (routes_of m)).nodes

  abbrev fs : List ℕ
  fs = funclets (routes_of m)

  abbrev out : ℕ → List Hop
  out b = hops_on [] (exits_at (map exit (ways g (routes_of m))) b)

  module _ (few : length g.blocks + length (flat (copied g fs z) (length z)) ≤ 65535) (i : ℕ) (inside : i < c.nodes) (copies : later g fs z i ≡ true) where
    abbrev own : List ℕ
    own = blocks_of g fs z i

    abbrev first : ℕ
    first = base g fs z i

    abbrev here : ℕ → List Hop
    here = copy_hops m nodes edges ends heads landings parts returns i first

    pub copy_is : (o : ℕ) → here o ≡ cond (in_set parts i o) (out (first + length (keep (in_set parts i) (upto o)))) []
    unfolding copy_hops hops_if hops_from
    copy_is o = go (decided (among own o))
      where
        go : (among own o ≡ true) ⊎ (among own o ≡ false) → here o ≡ cond (in_set parts i o) (out (first + length (keep (in_set parts i) (upto o)))) []
        go (inl e) =
            let mine : o ∈ own = among_mem own o e in
            let b : ℕ = copy_number parts i first o in
            let long : length z ≡ c.nodes = count_is g m nodes edges ends roots heads landings guards bases returns c t s in
            let at : place g fs z i o ≡ b = place_is g m parts c q i inside o first copies refl mine in
            let low : b < 65535 = omega (arith, place-below g (routes_of m) i o (omega arith) mine) in
            let exits = copy_records g m nodes edges ends roots heads landings guards bases returns c t s b low i o inside copies mine at in
            let same : in_set returns i o ≡ returning g o = k.returns_are i o inside ∙ among-keep (returning g) own o mine in
            ap (λ (u : Bool). cond u (hops_on [] (sorted compare_exits (record_exits m b edges ends heads landings (record_in nodes i)))) []) same
            ∙ sym (if_hops (returning g o) (record_exits m b edges ends heads landings (record_in nodes i)))
            ∙ ap (hops_on []) exits
            ∙ ap out (copy_number_law parts i first o)
            ∙ ap (λ (u : Bool). cond u (out (first + length (keep (in_set parts i) (upto o)))) []) (sym (q.parts_are i o inside ∙ e))
        go (inr e) =
            let no : in_set returns i o ≡ false = k.returns_are i o inside ∙ none_kept (returning g) own o e in
            rw (no, q.parts_are i o inside ∙ e)

    pub copies_are : flat here (length g.blocks) ≡ flat (λ n. out (first + n)) (length (copied g fs z i))
    copies_are =
        flat-same here (λ o. cond (in_set parts i o) (out (first + length (keep (in_set parts i) (upto o)))) []) (length g.blocks) (λ o h. copy_is o)
        ∙ flat_chosen (in_set parts i) (λ n. out (first + n)) (length g.blocks)
        ∙ ap (λ (l : List ℕ). flat (λ n. out (first + n)) (length l)) (sym (copied_later g (routes_of m) z i copies ∙ part_is g m parts c q i inside))

  -- ---- all that is counted

  module _ (few : length g.blocks + length (flat (copied g fs z) (length z)) ≤ 65535) (some : 0 < length g.blocks) where
    node_is : (i : ℕ) → i < c.nodes → node_hops m nodes edges ends heads landings bases parts returns (length g.blocks) i ≡ flat (λ n. out (base g fs z i + n)) (length (copied g fs z i))
    unfolding node_hops copied flat
    node_is i h = go (later g fs z i) refl
      where
        go : (x : Bool) → later g fs z i ≡ x → cond (eqb (get_or bases i 0) 0) [] (flat (copy_hops m nodes edges ends heads landings parts returns i (get_or bases i 0)) (length g.blocks)) ≡ flat (λ n. out (base g fs z i + n)) (length (cond (later g fs z i) (blocks_of g fs z i) []))
        go true l =
            let e : get_or bases i 0 ≡ base g fs z i = k.bases_are i h ∙ ap (λ (x : Bool). cond x (base g fs z i) 0) l in
            let n : eqb (base g fs z i) 0 ≡ false = ne_eqb (base g fs z i) 0 (λ p. omega (arith, from_above g (routes_of m) z i)) in
            rw (e, n) (copies_are few i h l)
        go false l =
            let e : get_or bases i 0 ≡ 0 = k.bases_are i h ∙ ap (λ (x : Bool). cond x (base g fs z i) 0) l in
            rw (e, l) refl

    pub total_hops : flat (block_hops m nodes edges ends heads landings roots guards bases returns c) (length g.blocks) ++ flat (node_hops m nodes edges ends heads landings bases parts returns (length g.blocks)) c.nodes ≡ hops_of (ways g (routes_of m))
    total_hops =
        let stood = flat-same (block_hops m nodes edges ends heads landings roots guards bases returns c) out (length g.blocks) (λ b h. standing_hops g m nodes edges ends roots heads landings guards bases returns c t s b (omega arith) k h) in
        let others = flat-same (node_hops m nodes edges ends heads landings bases parts returns (length g.blocks)) (λ i. flat (λ n. out (base g fs z i + n)) (length (copied g fs z i))) c.nodes node_is
        ∙ ap (flat (λ i. flat (λ n. out (base g fs z i + n)) (length (copied g fs z i)))) (sym (count_is g m nodes edges ends roots heads landings guards bases returns c t s)) in
        (λ i. stood i ++ others i) ∙ sym (hops_parts g (routes_of m))
