-- Blocks in a row with the same ways out.
--     or_none, and_digit           digits of an or and of an and
--     steady_none, steady_more     the sets, one by one
--     steady_returns               what parts and the blocks that return have in common
--     Marked, marks_none, marks_more, marks_turning    the words, one by one
--     held_on                      what holds the ways out of one block holds those of the next
use mathlib.Core.Path.{◌≡◌, refl, sym, ap, ◌∙◌, subst}
use mathlib.Core.Bool.{Bool, true, false, cond, ◌&&◌}
use mathlib.Core.List.Memᴰ
use mathlib.Core.List.{List, [], ◌++◌, map, map-append}
use Prim.Native.Nat.{ℕ, zero, suc, ◌+◌, ◌*◌, ◌/◌, ◌%◌, ◌^◌, ◌≤◌, ◌<◌, min}
use native.Mathlib.Nat.{not-suc-le-zero}
use native.Mathlib.Numerals.{add-one}
use native.Mathlib.Decide.{ℕ_discrete}
use native.Mathlib.Omega.{arith}
use borrow.Author.Tests.{eqb-false}
use lib.Bits.{bit_and, bit_or, bit_xor, differ, and_step, and_shr}
use lib.Dec.{eqb}
use lib.ListN.{length, get_or, set}
use lib.Seq.{get_or-set_same, get_or-set_other}
use Rattle.image.specs.Image.{RouteImage, table}
use Rattle.graph.specs.Fold.{flat}
use Rattle.graph.specs.BlockSet.{member}
use Rattle.graph.proofs.FoldLaws.{table_same, flat-same}
use Rattle.graph.proofs.Bit.{bit, bit_shift, bit_or_law, bit_xor_law}
use Rattle.unwind.specs.declared.tries.store.NodeRecord.{NodeRecord}
use Rattle.unwind.specs.declared.tries.store.Counts.{Counts}
use Rattle.addition.specs.Walk.{◌∈◌}
use Rattle.addition.proofs.Lists.{mem_map, map_mem}
use Rattle.addition.proofs.Order.{mem_sorted, sorted_mem}
use Rattle.unwind.specs.Nodes.{branch_in, record_in}
use Rattle.unwind.specs.Routed.{TriesIn}
use Rattle.unwind.specs.Sources.{Exit, compare_exits}
use Rattle.unwind.specs.Entries.{exit_in, exits_in}
use Rattle.unwind.specs.Gather.{exit_to, edge_exits, end_number, end_exits, record_exits, in_set, route_records, node_records}
use Rattle.unwind.specs.Placed.{returns_in}
use Rattle.unwind.specs.Lent.{block_records, Holds}
use Rattle.unwind.specs.Alike.{Moves, Steady, Turning, GoesOn}
use Rattle.unwind.proofs.Rising.{rising_is, total_exits}
use Rattle.unwind.proofs.EntryLaws.{table_rising}
use Rattle.unwind.proofs.GatherLaws.{number_lands}
use Rattle.unwind.proofs.PoolLaws.{set_in}
use Rattle.unwind.proofs.ReturnLaws.{returns_word}
use Rattle.unwind.proofs.Leaving.{map-flat}
use Rattle.unwind.proofs.LentLaws.{map-table}

-- ---- bits

pub or_none : (a b j : ℕ) → bit_or a b / 2 ^ j % 2 ≡ 0 → (a / 2 ^ j % 2 ≡ 0) × (b / 2 ^ j % 2 ≡ 0)
or_none a b j e =
    let none : bit (bit_or a b) j ≡ 0 = sym (bit_shift (bit_or a b) j) ∙ e in
    let p : bit a j ≡ 0 = omega (arith, bit_or_law a b j) in
    let q : bit b j ≡ 0 = omega (arith, bit_or_law a b j) in
    (bit_shift a j ∙ p, bit_shift b j ∙ q)

differ_none : (p q : ℕ) → differ p q ≡ 0 → p ≡ q
differ_none zero q e = sym e
differ_none (suc p) zero e = absurd (omega arith)
differ_none (suc p) (suc q) e = ap suc (differ_none p q e)

bit_half : (x j : ℕ) → bit (x / 2) j ≡ bit x (suc j)
unfolding bit
bit_half x j = refl

turn_none : (x j : ℕ) → bit_xor x (x / 2) / 2 ^ j % 2 ≡ 0 → x / 2 ^ j % 2 ≡ x / 2 ^ (j + 1) % 2
turn_none x j e =
    rw (add-one j)
    (bit_shift x j
    ∙ differ_none (bit x j) (bit (x / 2) j) (sym (bit_xor_law x (x / 2) j) ∙ sym (bit_shift (bit_xor x (x / 2)) j) ∙ e)
    ∙ bit_half x j
    ∙ sym (bit_shift x (suc j)))

pub and_digit : (x y j : ℕ) → bit_and x y / 2 ^ j % 2 ≡ min (x / 2 ^ j % 2) (y / 2 ^ j % 2)
and_digit x y j =
    let last : bit_and (x / 2 ^ j) (y / 2 ^ j) % 2 ≡ min (x / 2 ^ j % 2) (y / 2 ^ j % 2) = omega (arith, and_step (x / 2 ^ j) (y / 2 ^ j)) in
    ap (λ (n : ℕ). n % 2) (and_shr x y j) ∙ last

both_none : (x y j : ℕ) → x / 2 ^ j % 2 ≡ x / 2 ^ (j + 1) % 2 → y / 2 ^ j % 2 ≡ y / 2 ^ (j + 1) % 2 → bit_and x y / 2 ^ j % 2 ≡ bit_and x y / 2 ^ (j + 1) % 2
both_none x y j p q = and_digit x y j ∙ (λ u. min (p u) (q u)) ∙ sym (and_digit x y (j + 1))

no_mark : (t : List ℕ) (b : ℕ) → member t b ≡ false → get_or t (b / 64) 0 / 2 ^ (b % 64) % 2 ≡ 0
unfolding member
no_mark t b e = let ne = eqb-false (get_or t (b / 64) 0 / 2 ^ (b % 64) % 2) 1 e in omega arith

-- ---- sets

module _ (sets : List ℕ) where
  pub steady_none : (k t : ℕ) → Steady sets 0 k t
  steady_none k t = record { same = λ i j h. absurd (not-suc-le-zero h) }

  pub steady_more : (n k t : ℕ) {w : ℕ} → w ≡ bit_xor (get_or sets (16 * n + k) 0) (get_or sets (16 * n + k) 0 / 2) → Steady sets n k t → Steady sets (n + 1) k (bit_or t w)
  steady_more n k t {w} is old =
      record {
        same = λ i j h e.
            let none = or_none t w j e in
            elim (ℕ_discrete i n) [
              | yes at ↦ rw at (turn_none (get_or sets (16 * n + k) 0) j (ap (λ (x : ℕ). x / 2 ^ j % 2) (sym is) ∙ none.1))
              | no ne ↦ old.same i j (omega arith) none.0
            ];
      }

  -- fewer marks say more
  steady_left : (n k t u : ℕ) → Steady sets n k t → Steady sets n k (bit_or t u)
  steady_left n k t u p = record { same = λ i j h e. p.same i j h (or_none t u j e).0 }

  steady_right : (n k t u : ℕ) → Steady sets n k u → Steady sets n k (bit_or t u)
  steady_right n k t u p = record { same = λ i j h e. p.same i j h (or_none t u j e).1 }

  -- two blocks in a row
  steady_in : (n b : ℕ) (t : List ℕ) → b < 1023 → b % 64 < 63 → member t b ≡ false → Steady sets n (b / 64) (get_or t (b / 64) 0) → (i : ℕ) → i < n → in_set sets i b ≡ in_set sets i (b + 1)
  steady_in n b t low in-word out p i h =
      let word : (b + 1) / 64 ≡ b / 64 = omega arith in
      let place : (b + 1) % 64 ≡ b % 64 + 1 = omega arith in
      sym (set_in sets i b (omega arith))
      ∙ ap (λ (x : ℕ). eqb x 1) (p.same i (b % 64) h (no_mark t b out))
      ∙ (λ u. eqb (get_or sets (16 * i + sym word u) 0 / 2 ^ sym place u % 2) 1)
      ∙ set_in sets i (b + 1) (omega arith)

-- where neither the parts turn nor the blocks that return do, what they have in common does not
pub steady_returns : (parts returners : List ℕ) (n k t : ℕ) {w : ℕ} → k < 16 → w ≡ bit_xor (get_or returners k 0) (get_or returners k 0 / 2) → Steady parts n k t → Steady (returns_in parts returners) n k (bit_or t w)
steady_returns parts returners n k t {w} low is p =
    record {
      same = λ i j h e.
          let none = or_none t w j e in
          rw (returns_word parts returners i k low)
          (both_none (get_or parts (16 * i + k) 0) (get_or returners k 0) j (p.same i j h none.0) (turn_none (get_or returners k 0) j (ap (λ (x : ℕ). x / 2 ^ j % 2) (sym is) ∙ none.1)));
    }

-- ---- words

-- the first w words are marked
pub record Marked (guards : List ℕ) (routes : ℕ) (returns : List ℕ) (nodes : ℕ) (t : List ℕ) (w : ℕ) : Type 0 where
  pub guards_steady : (k : ℕ) → k < w → Steady guards routes k (get_or t k 0)
  pub returns_steady : (k : ℕ) → k < w → Steady returns nodes k (get_or t k 0)

module _ (guards : List ℕ) (routes : ℕ) (returns : List ℕ) (nodes : ℕ) where
  pub marks_none : (t : List ℕ) → Marked guards routes returns nodes t 0
  marks_none t = record { guards_steady = λ k h. absurd (not-suc-le-zero h); returns_steady = λ k h. absurd (not-suc-le-zero h) }

  pub marks_more : (t : List ℕ) (w g u : ℕ) → w < length t → Steady guards routes w g → Steady returns nodes w u → Marked guards routes returns nodes t w → Marked guards routes returns nodes (set t w (bit_or g u)) (w + 1)
  marks_more t w g u fit p q old =
      let here : get_or (set t w (bit_or g u)) w 0 ≡ bit_or g u = get_or-set_same t w (bit_or g u) 0 fit in
      record {
        guards_steady = λ k h. elim (ℕ_discrete k w) [
          | yes e ↦ rw (e, here) (steady_left guards routes w g u p)
          | no ne ↦ rw (get_or-set_other t w k (bit_or g u) 0 ne) (old.guards_steady k (omega arith))
        ];
        returns_steady = λ k h. elim (ℕ_discrete k w) [
          | yes e ↦ rw (e, here) (steady_right returns nodes w g u q)
          | no ne ↦ rw (get_or-set_other t w k (bit_or g u) 0 ne) (old.returns_steady k (omega arith))
        ];
      }

  pub marks_turning : (blocks : ℕ) (t : List ℕ) (w : ℕ) → blocks ≤ 1024 → (blocks + 63) / 64 ≤ w → Marked guards routes returns nodes t w → Turning guards routes returns nodes blocks t
  marks_turning blocks t w few all p =
      record {
        guards_same = λ r b h low in-word out. steady_in guards routes b t (omega arith) in-word out (p.guards_steady (b / 64) (omega arith)) r h;
        returns_same = λ i b h low in-word out. steady_in returns nodes b t (omega arith) in-word out (p.returns_steady (b / 64) (omega arith)) i h;
      }

-- ---- the same exits out of another block

abbrev from : ℕ → Exit → Exit
from b x = record { leap = record { source = b; end = x.leap.end }; calls = x.calls }

map_if : (f : Exit → Exit) (x : Bool) (l : List Exit) → map f (cond x l []) ≡ cond x (map f l) []
map_if f true l = refl
map_if f false l = refl

holds_alike : (m : RouteImage) (a b : ℕ) (xs : List Exit) (l : List ℕ) (n : ℕ) → Holds m a xs l n → Holds m b (map (from b) xs) l n
unfolding exits_in exit_in
holds_alike m a b xs l n p =
    record {
      ordered = p.ordered;
      is = sym (rising_is compare_exits total_exits (exits_in m b l n) (map (from b) xs) (table_rising compare_exits (λ k. exit_in m b (branch_in l k)) n (p.ordered.rises b)) into back);
    }
  where
    moved : exits_in m b l n ≡ map (from b) (exits_in m a l n)
    moved = sym (map-table (from b) (λ k. exit_in m a (branch_in l k)) n)

    into : (x : Exit) → x ∈ exits_in m b l n → x ∈ map (from b) xs
    into x i =
        let y = map_mem (from b) (exits_in m a l n) (subst (λ (k : List Exit). x ∈ k) moved i) in
        Memᴰ.cast y.2 (mem_map (from b) (sorted_mem compare_exits xs (subst (λ (k : List Exit). y.0 ∈ k) p.is y.1)))

    back : (x : Exit) → x ∈ map (from b) xs → x ∈ exits_in m b l n
    back x i =
        let y = map_mem (from b) xs i in
        subst (λ (k : List Exit). x ∈ k) (sym moved)
        (Memᴰ.cast y.2 (mem_map (from b) (subst (λ (k : List Exit). y.0 ∈ k) (sym p.is) (mem_sorted compare_exits total_exits.exact y.1))))

module _ (m : RouteImage) (nodes edges ends heads landings roots guards bases returns : List ℕ) (c : Counts) (t : TriesIn m nodes edges ends roots c) (moves : Moves landings c.ends) (a b : ℕ) where
  number_same : (k : ℕ) → k < c.ends → end_number b landings k ≡ end_number a landings k
  number_same k h = sym (number_lands b landings k (moves.moves k h)) ∙ number_lands a landings k (moves.moves k h)

  abbrev out : ℕ → NodeRecord → List Exit
  out d x = record_exits m d edges ends heads landings x

  record_alike : (i : ℕ) → i < c.nodes → out b (record_in nodes i) ≡ map (from b) (out a (record_in nodes i))
  unfolding record_exits edge_exits end_exits
  record_alike i h =
      let x : NodeRecord = record_in nodes i in
      let edge : ℕ → Exit = λ k. exit_to m a (branch_in edges (x.first_edge + k)) (get_or heads (branch_in edges (x.first_edge + k)).what 0) in
      let end : ℕ → Exit = λ k. exit_to m a (branch_in ends (x.first_end + k)) (end_number a landings (x.first_end + k)) in
      let e : edge_exits m b edges heads x.first_edge x.edges ≡ map (from b) (table edge x.edges) = sym (map-table (from b) edge x.edges) in
      let f : end_exits m b ends landings x.first_end x.ends ≡ map (from b) (table end x.ends) =
      table_same _ (λ k. from b (end k)) x.ends (λ k j. ap (exit_to m b (branch_in ends (x.first_end + k))) (number_same (x.first_end + k) (let all = t.stored.ends_within i h in omega arith)))
      ∙ sym (map-table (from b) end x.ends) in
      (λ u. e u ++ f u) ∙ sym (map-append (from b) (table edge x.edges) (table end x.ends))

  route_alike : (r : ℕ) → r < length m.routes → in_set guards r a ≡ in_set guards r b → route_records m b edges ends heads landings nodes roots guards r ≡ map (from b) (route_records m a edges ends heads landings nodes roots guards r)
  unfolding route_records
  route_alike r h same = (λ u. cond (sym same u) (record_alike (get_or roots r 0) (t.roots_in r h) u) []) ∙ sym (map_if (from b) (in_set guards r a) (out a (record_in nodes (get_or roots r 0))))

  node_alike : (i : ℕ) → i < c.nodes → in_set returns i a ≡ in_set returns i b → node_records m b edges ends heads landings nodes bases returns i ≡ map (from b) (node_records m a edges ends heads landings nodes bases returns i)
  unfolding node_records
  node_alike i h same =
      (λ u. cond (eqb (get_or bases i 0) 0 && sym same u) (record_alike i h u) []) ∙ sym (map_if (from b) (eqb (get_or bases i 0) 0 && in_set returns i a) (out a (record_in nodes i)))

  module _ (routed : (r : ℕ) → r < length m.routes → in_set guards r a ≡ in_set guards r b) (returned : (i : ℕ) → i < c.nodes → in_set returns i a ≡ in_set returns i b) where
    records_alike : block_records m b nodes edges ends heads landings roots guards bases returns c ≡ map (from b) (block_records m a nodes edges ends heads landings roots guards bases returns c)
    unfolding block_records
    records_alike =
        let routes = route_records m a edges ends heads landings nodes roots guards in
        let others = node_records m a edges ends heads landings nodes bases returns in
        let p : flat (route_records m b edges ends heads landings nodes roots guards) (length m.routes) ≡ map (from b) (flat routes (length m.routes)) =
        flat-same _ _ (length m.routes) (λ r h. route_alike r h (routed r h)) ∙ sym (map-flat (from b) routes (length m.routes)) in
        let q : flat (node_records m b edges ends heads landings nodes bases returns) c.nodes ≡ map (from b) (flat others c.nodes) =
        flat-same _ _ c.nodes (λ i h. node_alike i h (returned i h)) ∙ sym (map-flat (from b) others c.nodes) in
        (λ u. p u ++ q u) ∙ sym (map-append (from b) (flat routes (length m.routes)) (flat others c.nodes))

  pub held_on : {worth : Bool} (routes blocks : ℕ) (turns : List ℕ) → length m.routes ≡ routes → Turning guards routes returns c.nodes blocks turns → GoesOn worth turns a b → b < blocks → {l : List ℕ} {n : ℕ} → Holds m a (block_records m a nodes edges ends heads landings roots guards bases returns c) l n → Holds m b (block_records m b nodes edges ends heads landings roots guards bases returns c) l n
  held_on routes blocks turns count p g low {l} {n} old =
      let next = g.next in
      subst (λ (xs : List Exit). Holds m b xs l n)
      (sym (records_alike
      (λ r h. p.guards_same r a (omega (arith, count)) (omega arith) g.low g.steady ∙ ap (in_set guards r) (sym next))
      (λ i h. p.returns_same i a h (omega arith) g.low g.steady ∙ ap (in_set returns i) (sym next))))
      (holds_alike m a b (block_records m a nodes edges ends heads landings roots guards bases returns c) l n old)
