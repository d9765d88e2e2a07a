-- All that is gathered of one block, and room for it.
--     mem_put_all                  what stands after others were put
--     pool_length, pooled_most     there are no more entries than edges and ends
--     node_room                    room for a node's
--     adds_none, adds-some, adds_record, adds_next, adds_both     nothing, a node's, one more, and more behind others
--     set_in, set-none             a set among many
--     route_in, route_out, node_in_law, node_out       whose are gathered
--     node_own, node_copy, node_off    of a node with the original blocks, of one with copies, and of one that does not return
use mathlib.Core.Path.{◌≡◌, sym, ◌∙◌, ap, subst}
use mathlib.Core.Logic.{◌⊎◌, inl, inr}
use mathlib.Core.Bool.{true, false, and-false}
use mathlib.Core.List.Memᴰ
use mathlib.Core.List.{List, [], ◌∷◌, ◌++◌}
use Prim.Native.Nat.{ℕ, ◌+◌, ◌*◌, ◌/◌, ◌%◌, ◌^◌, ◌≤◌, ◌<◌, Ordering}
use native.Mathlib.Nat.{zero-div}
use native.Mathlib.Decide.{dec_lt}
use native.Mathlib.Omega.{arith}
use borrow.Author.Tests.{eq-eqb, ne_eqb}
use lib.Dec.{eqb}
use lib.ListN.{length, get_or, take, drop, length-append, length-take, get_or-eq_default}
use lib.Seq.{get_or-take, get_or-drop}
use Rattle.image.specs.Image.{RouteImage}
use Rattle.graph.specs.BlockSet.{member}
use Rattle.graph.specs.Fold.{flat}
use Rattle.graph.proofs.FoldLaws.{length-table, flat-more}
use Rattle.unwind.specs.declared.tries.store.NodeRecord.{NodeRecord}
use Rattle.addition.specs.Order.{put}
use Rattle.unwind.specs.Nodes.{branch_in, record_in, NodeFits}
use Rattle.unwind.specs.Sources.{Exit, compare_exits}
use Rattle.unwind.specs.Entries.{exit_in, exits_in}
use Rattle.unwind.specs.Gather.{put_all, exit_to, edge_exits, end_number, end_exits, record_exits, Gathers, in_set, route_records, return_records, node_records, pool, Pooled, Adds}
use Rattle.addition.specs.Walk.{◌∈◌}
use Rattle.addition.proofs.Order.{put_mem}
use Rattle.unwind.proofs.Rising.{rising_length, total_exits}
use Rattle.unwind.proofs.EntryLaws.{table_mem, mem_table, table_rising}
use Rattle.unwind.proofs.GatherLaws.{gather_none, gather_both}

pub mem_put_all : {A : Type 0} (c : A → A → Ordering) {x : A} (xs l : List A) → x ∈ put_all c xs l → (x ∈ xs) ⊎ (x ∈ l)
unfolding put_all
mem_put_all c [] l m = inr m
mem_put_all {A} c {x} (y ∷ xs) l m = go (mem_put_all c xs (put c y l) m)
  where
    old : (x ≡ y) ⊎ (x ∈ l) → (x ∈ y ∷ xs) ⊎ (x ∈ l)
    old (inl e) = inl (Memᴰ.head e)
    old (inr k) = inr k

    go : (x ∈ xs) ⊎ (x ∈ put c y l) → (x ∈ y ∷ xs) ⊎ (x ∈ l)
    go (inl k) = inl (Memᴰ.tail k)
    go (inr k) = old (put_mem c y l k)

module _ (m : RouteImage) (b : ℕ) (edges ends heads landings : List ℕ) where
  abbrev all : List Exit
  all = pool m b edges ends heads landings

  abbrev Here : List ℕ → ℕ → Type 0
  Here = Pooled m b edges ends heads landings

  abbrev More : List ℕ → ℕ → List Exit → List ℕ → ℕ → Type 0
  More = Adds m b edges ends heads landings

  pub pool_length : length all ≡ length edges / 3 + length ends / 3
  unfolding pool edge_exits end_exits
  pool_length = length-append (edge_exits m b edges heads 0 (length edges / 3)) (end_exits m b ends landings 0 (length ends / 3)) ∙ rw (length-table _ (length edges / 3), length-table _ (length ends / 3))

  pub pooled_most : (l : List ℕ) (n : ℕ) → Here l n → n ≤ length edges / 3 + length ends / 3
  unfolding exits_in
  pooled_most l n p =
      let e : length (exits_in m b l n) ≡ n = length-table (λ k. exit_in m b (branch_in l k)) n in
      let h = rising_length compare_exits total_exits (exits_in m b l n) all (table_rising compare_exits (λ k. exit_in m b (branch_in l k)) n (p.ordered.rises b)) p.within in
      omega (arith, pool_length)

  pub node_room : (l : List ℕ) (n : ℕ) (x : NodeRecord) → Here l n → NodeFits edges ends x → 3 * (n + (x.edges + x.ends)) ≤ length l
  node_room l n x p f =
      let h = pooled_most l n p in
      let a = f.edges_within in
      let d = f.ends_within in
      let r = p.room in
      omega arith

  record_pool : (x : NodeRecord) → NodeFits edges ends x → (y : Exit) → y ∈ record_exits m b edges ends heads landings x → y ∈ all
  unfolding record_exits pool edge_exits end_exits
  record_pool x f y k = go (Memᴰ.append_cases (edge_exits m b edges heads x.first_edge x.edges) k)
    where
      edge : ℕ → Exit
      edge k = exit_to m b (branch_in edges k) (get_or heads (branch_in edges k).what 0)

      end : ℕ → Exit
      end k = exit_to m b (branch_in ends k) (end_number b landings k)

      go : (y ∈ edge_exits m b edges heads x.first_edge x.edges) ⊎ (y ∈ end_exits m b ends landings x.first_end x.ends) → y ∈ edge_exits m b edges heads 0 (length edges / 3) ++ end_exits m b ends landings 0 (length ends / 3)
      go (inl i) =
          let t = mem_table (λ k. edge (x.first_edge + k)) x.edges i in
          let h : t.0 < x.edges = t.1 in
          let q : 0 + (x.first_edge + t.0) ≡ x.first_edge + t.0 = omega arith in
          Memᴰ.append_left (end_exits m b ends landings 0 (length ends / 3))
          (Memᴰ.cast (t.2 ∙ ap edge (sym q)) (table_mem (λ k. edge (0 + k)) (length edges / 3) (x.first_edge + t.0) (let a = f.edges_within in omega arith)))
      go (inr i) =
          let t = mem_table (λ k. end (x.first_end + k)) x.ends i in
          let h : t.0 < x.ends = t.1 in
          let q : 0 + (x.first_end + t.0) ≡ x.first_end + t.0 = omega arith in
          Memᴰ.append_right (edge_exits m b edges heads 0 (length edges / 3))
          (Memᴰ.cast (t.2 ∙ ap end (sym q)) (table_mem (λ k. end (0 + k)) (length ends / 3) (x.first_end + t.0) (let a = f.ends_within in omega arith)))

  pub adds_none : (l : List ℕ) (n : ℕ) → Here l n → More l n [] l n
  adds_none l n p = record { gathers = gather_none m b l n p.ordered; pooled = p }

  -- the same, by another name
  pub adds-some : {l l' : List ℕ} {n r : ℕ} {xs ys : List Exit} → xs ≡ ys → More l n xs l' r → More l n ys l' r
  adds-some {l} {l'} {n} {r} e p = subst (λ (zs : List Exit). More l n zs l' r) e p

  pub adds_record : {l l' : List ℕ} {n r : ℕ} (x : NodeRecord) → Here l n → NodeFits edges ends x → Gathers m b l n (record_exits m b edges ends heads landings x) l' r → More l n (record_exits m b edges ends heads landings x) l' r
  adds_record {l} {l'} {n} {r} x p f s =
      record {
        gathers = s;
        pooled =
            record {
              ordered = s.ordered;
              within = λ y k. go y (mem_put_all compare_exits (record_exits m b edges ends heads landings x) (exits_in m b l n) (rw s.is at k));
              room = let e = s.long in let q = p.room in omega arith;
            };
      }
    where
      go : (y : Exit) → (y ∈ record_exits m b edges ends heads landings x) ⊎ (y ∈ exits_in m b l n) → y ∈ all
      go y (inl k) = record_pool x f y k
      go y (inr k) = p.within y k

  pub adds_both : {l l₁ l₂ : List ℕ} {n n₁ r : ℕ} (xs ys : List Exit) → More l n xs l₁ n₁ → More l₁ n₁ ys l₂ r → More l n (xs ++ ys) l₂ r
  adds_both {l} {n = n} xs ys s p = record { gathers = gather_both m b l n xs ys s.gathers p.gathers; pooled = p.pooled }

  pub adds_next : {l l₁ l₂ : List ℕ} {n n₁ r : ℕ} (f : ℕ → List Exit) (k : ℕ) → More l n (flat f k) l₁ n₁ → More l₁ n₁ (f k) l₂ r → More l n (flat f (k + 1)) l₂ r
  adds_next f k s p = rw (flat-more f k) (adds_both (flat f k) (f k) s p)

  -- ---- whose are gathered

  module _ (nodes roots guards : List ℕ) (r : ℕ) where
    pub route_in : true ≡ in_set guards r b → record_exits m b edges ends heads landings (record_in nodes (get_or roots r 0)) ≡ route_records m b edges ends heads landings nodes roots guards r
    unfolding route_records
    route_in e = rw (sym e)

    pub route_out : false ≡ in_set guards r b → [] ≡ route_records m b edges ends heads landings nodes roots guards r
    unfolding route_records
    route_out e = rw (sym e)

  module _ (nodes returns : List ℕ) (i : ℕ) where
    pub node_in_law : true ≡ in_set returns i b → record_exits m b edges ends heads landings (record_in nodes i) ≡ return_records m b edges ends heads landings nodes returns i
    unfolding return_records
    node_in_law e = rw (sym e)

    pub node_out : false ≡ in_set returns i b → [] ≡ return_records m b edges ends heads landings nodes returns i
    unfolding return_records
    node_out e = rw (sym e)

  module _ (nodes bases returns : List ℕ) (i : ℕ) where
    pub node_own : get_or bases i 0 ≡ 0 → return_records m b edges ends heads landings nodes returns i ≡ node_records m b edges ends heads landings nodes bases returns i
    unfolding return_records node_records
    node_own z = rw (eq-eqb (get_or bases i 0) 0 z)

    pub node_copy : (get_or bases i 0 ≡ 0 → ⊥) → [] ≡ node_records m b edges ends heads landings nodes bases returns i
    unfolding node_records
    node_copy z = rw (ne_eqb (get_or bases i 0) 0 z)

    pub node_off : false ≡ in_set returns i b → [] ≡ node_records m b edges ends heads landings nodes bases returns i
    unfolding node_records
    node_off e = rw (sym e, and-false (eqb (get_or bases i 0) 0))

-- ---- sets

module _ (l : List ℕ) (i b : ℕ) where
  pub set_in : b < 1024 → eqb (get_or l (16 * i + b / 64) 0 / 2 ^ (b % 64) % 2) 1 ≡ in_set l i b
  unfolding member
  set_in h =
      let e : get_or (take 16 (drop (16 * i) l)) (b / 64) 0 ≡ get_or l (16 * i + b / 64) 0 = get_or-take 16 (drop (16 * i) l) (b / 64) 0 (omega arith) ∙ get_or-drop (16 * i) l (b / 64) 0 in
      ap (λ (w : ℕ). eqb (w / 2 ^ (b % 64) % 2) 1) (sym e)

  zero_word : (w : ℕ) → w ≡ 0 → false ≡ eqb (w / 2 ^ (b % 64) % 2) 1
  zero_word w e = rw (e, zero-div (2 ^ (b % 64)))

  set_outside : 1024 ≤ b → false ≡ in_set l i b
  unfolding member
  set_outside h = zero_word (get_or (take 16 (drop (16 * i) l)) (b / 64) 0) (get_or-eq_default (take 16 (drop (16 * i) l)) 0 (rw (length-take 16 (drop (16 * i) l)) (omega arith)))

  pub set-none : get_or l (16 * i + b / 64) 0 ≡ 0 → false ≡ in_set l i b
  set-none e =
      elim (dec_lt b 1024) [
        | yes low ↦ zero_word (get_or l (16 * i + b / 64) 0) e ∙ set_in low
        | no high ↦ set_outside (omega arith)
      ]
