-- The most ways out of blocks bound the hops and their lists.
--     Fits                         so many hops and lists at most
--     members_less, members_next   a set has no more blocks below fewer; a word more of it
--     sum_more                     one more of a sum
--     sum-part, sum_each           a number of a sum, and a sum of numbers that are m or less
--     sum_most                     a sum of products with the sizes of sets
--     most_hops                    all hops that routes give
-- Assumes nothing.
use mathlib.Core.Path.{◌≡◌, refl, sym, ap, ◌∙◌}
use mathlib.Core.Bool.{Bool, true, false, cond, ◌&&◌}
use mathlib.Core.Logic.{⊎_elim}
use mathlib.Core.List.{List, [], ◌∷◌, ◌++◌}
use Prim.Native.Nat.{ℕ, zero, suc, ◌+◌, ◌-◌, ◌*◌, ◌^◌, ◌≤◌, ◌<◌}
use native.Mathlib.Nat.{mul-suc, zero-mul, mul-le-mul_left}
use native.Mathlib.Numerals.{add-one}
use native.Mathlib.Decide.{dec_lt}
use native.Mathlib.Omega.{arith}
use lib.Count.{ones}
use lib.Dec.{eqb, compare_is_eq}
use lib.ListN.{length, get_or, length-append}
use Rattle.image.specs.Image.{RouteImage}
use Rattle.graph.specs.Fold.{flat, count, sum}
use Rattle.graph.specs.BlockSet.{member}
use Rattle.graph.proofs.FoldLaws.{length-table, decided, count_yes, count_no, count_add, count_le}
use Rattle.graph.proofs.BlockLaws.{size-more}
use Rattle.addition.specs.Lists.{joined}
use Rattle.addition.specs.Order.{sorted}
use Rattle.addition.specs.Ways.{Hop, compare_leaps}
use Rattle.unwind.proofs.TrieKeys.{joined_append}
use Rattle.unwind.specs.declared.tries.store.NodeRecord.{NodeRecord}
use Rattle.unwind.specs.declared.tries.store.Counts.{Counts}
use Rattle.unwind.specs.Nodes.{record_in, ways_of}
use Rattle.unwind.specs.Placed.{set_at}
use Rattle.unwind.specs.Sources.{Exit, compare_exits, leap_of, first_hop, with_list, hops_then, hops_on}
use Rattle.unwind.specs.Gather.{in_set, edge_exits, end_exits, record_exits, route_records, node_records}
use Rattle.unwind.specs.Lent.{block_records, block_hops}
use Rattle.unwind.specs.Copies.{hops_from, hops_if, copy_hops, copy_number, node_hops}
use Rattle.unwind.specs.Most.{members_of, guarded_ways, returned_ways}
use Rattle.unwind.proofs.Rising.{sorted-length}
use Rattle.unwind.proofs.Sources.{lists_then}
use Rattle.unwind.proofs.MemberLaws.{in_set_law}
use Rattle.unwind.proofs.SlotLaws.{set_word}

-- ---- so many hops at most

pub record Fits (hs : List Hop) (n : ℕ) : Type 0 where
  pub hops : length hs ≤ n
  pub lists : length (joined (λ h. h.calls) hs) ≤ n

fits_none : (n : ℕ) → Fits [] n
unfolding joined
fits_none n = record { hops = omega arith; lists = omega arith }

fits_more : {hs : List Hop} {n k : ℕ} → n ≤ k → Fits hs n → Fits hs k
fits_more h x = record { hops = omega (arith, x.hops); lists = omega (arith, x.lists) }

fits_both : (hs ks : List Hop) (n k : ℕ) → Fits hs n → Fits ks k → Fits (hs ++ ks) (n + k)
fits_both hs ks n k x y =
    record {
      hops = omega (arith, length-append hs ks, x.hops, y.hops);
      lists = omega (arith, ap length (joined_append (λ (h : Hop). h.calls) hs ks), length-append (joined (λ (h : Hop). h.calls) hs) (joined (λ (h : Hop). h.calls) ks), x.lists, y.lists);
    }

then_length : (hs : List Hop) (x : Exit) → length (hops_then hs x) ≤ length hs + 1
unfolding hops_then
then_length [] x = omega arith
then_length (h ∷ []) x = go (compare_is_eq (compare_leaps (leap_of h) x.leap))
  where
    go : (t : Bool) → length (cond t (with_list h x.calls ∷ []) (h ∷ first_hop x ∷ [])) ≤ 2
    go true = omega arith
    go false = omega arith
then_length (h ∷ k ∷ l) x = omega (arith, then_length (k ∷ l) x)

fits_on : (hs : List Hop) (n : ℕ) (xs : List Exit) → Fits hs n → Fits (hops_on hs xs) (n + length xs)
unfolding hops_on
fits_on hs n [] f = fits_more (omega arith) f
fits_on hs n (x ∷ xs) f =
    let one : Fits (hops_then hs x) (n + 1) = record { hops = omega (arith, then_length hs x, f.hops); lists = omega (arith, lists_then hs x, f.lists) } in
    fits_more (omega arith) (fits_on (hops_then hs x) (n + 1) xs one)

fits_sorted : (xs : List Exit) (n : ℕ) → length xs ≤ n → Fits (hops_on [] (sorted compare_exits xs)) n
fits_sorted xs n h = fits_more (omega (arith, sorted-length compare_exits xs)) (fits_on [] 0 (sorted compare_exits xs) (fits_none 0))

fits_flat : (f : ℕ → List Hop) (w : ℕ → ℕ) (n : ℕ) → ((k : ℕ) → k < n → Fits (f k) (w k)) → Fits (flat f n) (sum w n)
unfolding flat sum
fits_flat f w zero fits = fits_none 0
fits_flat f w (suc n) fits = fits_both (flat f n) (f n) (sum w n) (w n) (fits_flat f w n (λ k h. fits k (omega arith))) (fits n (omega arith))

-- ---- sums

sum_next : (f : ℕ → ℕ) (n : ℕ) → sum f (n + 1) ≡ sum f n + f n
unfolding sum
sum_next f n = ap (sum f) (add-one n)

-- a product more, or what is no less
pub sum_more : (f : ℕ → ℕ) (n most a k b : ℕ) → f n ≡ a * k → k ≤ b → sum f n ≤ most → sum f (n + 1) ≤ most + a * b
sum_more f n most a k b is above h = omega (arith, sum_next f n, is, mul-le-mul_left a above)

pub sum-part : (w : ℕ → ℕ) (n k : ℕ) → k < n → w k ≤ sum w n
unfolding sum
sum-part w zero k h = absurd (omega arith)
sum-part w (suc n) k h = elim (dec_lt k n) [
  | yes lt ↦ omega (arith, sum-part w n k lt)
  | no ge ↦ let z : k ≡ n = omega arith in rw z (omega arith)
]

pub sum_each : (w : ℕ → ℕ) (m n : ℕ) → ((k : ℕ) → k < n → w k ≤ m) → sum w n ≤ n * m
unfolding sum
sum_each w m zero each = omega arith
sum_each w m (suc n) each = omega (arith, sum_each w m n (λ k h. each k (omega arith)), each n (omega arith))

-- n products, each with how many of b blocks a set has
pub sum_most : (w : ℕ → ℕ) (f : ℕ → ℕ → Bool) (b n : ℕ) → sum (λ k. w k * count (f k) b) n ≤ sum w n * b
unfolding sum
sum_most w f b zero = omega arith
sum_most w f b (suc n) = omega (arith, sum_most w f b n, mul-le-mul_left (w n) (count_le (f n) b))

sum_add : (f h s : ℕ → ℕ) (n : ℕ) → ((k : ℕ) → k < n → f k + h k ≡ s k) → sum f n + sum h n ≡ sum s n
unfolding sum
sum_add f h s zero each = refl
sum_add f h s (suc n) each = omega (arith, sum_add f h s n (λ k lt. each k (omega arith)), each n (omega arith))

length-flat : {A : Type 0} (f : ℕ → List A) (w : ℕ → ℕ) (n : ℕ) → ((k : ℕ) → k < n → length (f k) ≡ w k) → length (flat f n) ≡ sum w n
unfolding flat sum
length-flat f w zero each = refl
length-flat f w (suc n) each = omega (arith, length-append (flat f n) (f n), length-flat f w n (λ k h. each k (omega arith)), each n (omega arith))

pub members_less : (w : List ℕ) (m n : ℕ) → m ≤ n → count (member w) m ≤ count (member w) n
members_less w m n h =
    let rest : n ≡ m + (n - m) = omega arith in
    omega (arith, ap (count (member w)) rest, count_add (member w) m (n - m))

-- one word more
pub members_next : (sets : List ℕ) (i k : ℕ) → k < 16 → get_or sets (16 * i + k) 0 < 2 ^ 64 → count (member (set_at sets i)) (64 * (k + 1)) ≡ count (member (set_at sets i)) (64 * k) + ones (get_or sets (16 * i + k) 0)
members_next sets i k h fits =
    let here = set_word sets i k h in
    size-more (set_at sets i) k (rw here fits) ∙ ap (λ (x : ℕ). count (member (set_at sets i)) (64 * k) + ones x) here

-- one block more
counted_more : (f : ℕ → Bool) (x b : ℕ) → x * count f b + cond (f b) x 0 ≡ x * count f (suc b)
counted_more f x b =
    ⊎_elim
    (λ e. omega (arith, ap (λ (t : Bool). cond t x 0) e, ap (λ (n : ℕ). x * n) (count_yes f b e), mul-suc x (count f b)))
    (λ e. omega (arith, ap (λ (t : Bool). cond t x 0) e, ap (λ (n : ℕ). x * n) (count_no f b e)))
    (decided (f b))

-- ---- the ways of a node out of one block, if it has any

if_length : {A : Type 0} (t : Bool) (l : List A) (n : ℕ) → length l ≡ n → length (cond t l []) ≡ cond t n 0
if_length true l n e = e
if_length false l n e = refl

both_length : {A : Type 0} (t u : Bool) (l : List A) (n : ℕ) → length l ≡ n → length (cond (t && u) l []) ≡ cond u (cond t n 0) 0
both_length true true l n e = e
both_length true false l n e = refl
both_length false true l n e = refl
both_length false false l n e = refl

if_fits : (t : Bool) (hs : List Hop) (n : ℕ) → Fits hs n → Fits (cond t hs []) (cond t n 0)
if_fits true hs n f = f
if_fits false hs n f = fits_none 0

either : (t : Bool) (x k : ℕ) → cond t x 0 * k + cond t 0 x * k ≡ x * k
either true x k = omega (arith, zero-mul k)
either false x k = omega (arith, zero-mul k)

module _ (m : RouteImage) (nodes edges ends heads landings roots guards bases parts returns : List ℕ) (c : Counts) (guards_fit : 16 * length m.routes ≤ length guards) (returns_fit : 16 * c.nodes ≤ length returns) where
  -- the ways of node i where it has the original blocks, and where it has copies
  abbrev original : ℕ → ℕ
  original i = cond (eqb (get_or bases i 0) 0) (ways_of nodes i) 0

  abbrev clone : ℕ → ℕ
  clone i = cond (eqb (get_or bases i 0) 0) 0 (ways_of nodes i)

  record_length : (b : ℕ) (x : NodeRecord) → length (record_exits m b edges ends heads landings x) ≡ x.edges + x.ends
  unfolding record_exits edge_exits end_exits
  record_length b x = length-append (edge_exits m b edges heads x.first_edge x.edges) (end_exits m b ends landings x.first_end x.ends) ∙ rw (length-table _ x.edges, length-table _ x.ends)

  route_length : (b r : ℕ) → r < length m.routes → length (route_records m b edges ends heads landings nodes roots guards r) ≡ cond (member (set_at guards r) b) (ways_of nodes (get_or roots r 0)) 0
  unfolding route_records
  route_length b r h =
      if_length (in_set guards r b) (record_exits m b edges ends heads landings (record_in nodes (get_or roots r 0))) _ (record_length b (record_in nodes (get_or roots r 0)))
      ∙ ap (λ (t : Bool). cond t (ways_of nodes (get_or roots r 0)) 0) (in_set_law guards r b (omega arith))

  node_length : (b i : ℕ) → i < c.nodes → length (node_records m b edges ends heads landings nodes bases returns i) ≡ cond (member (set_at returns i) b) (original i) 0
  unfolding node_records
  node_length b i h =
      both_length (eqb (get_or bases i 0) 0) (in_set returns i b) (record_exits m b edges ends heads landings (record_in nodes i)) _ (record_length b (record_in nodes i))
      ∙ ap (λ (t : Bool). cond t (original i) 0) (in_set_law returns i b (omega arith))

  -- ---- the blocks that stood

  records-length : (b : ℕ) → length (block_records m b nodes edges ends heads landings roots guards bases returns c)
      ≡ sum (λ r. cond (member (set_at guards r) b) (ways_of nodes (get_or roots r 0)) 0) (length m.routes) + sum (λ i. cond (member (set_at returns i) b) (original i) 0) c.nodes
  unfolding block_records
  records-length b =
      let routes = route_records m b edges ends heads landings nodes roots guards in
      let others = node_records m b edges ends heads landings nodes bases returns in
      omega (arith, length-append (flat routes (length m.routes)) (flat others c.nodes), length-flat routes _ (length m.routes) (route_length b), length-flat others _ c.nodes (node_length b))

  stood_fit : (b : ℕ) → Fits (flat (block_hops m nodes edges ends heads landings roots guards bases returns c) b) (guarded_ways nodes roots guards b (length m.routes) + sum (λ i. original i * members_of returns b i) c.nodes)
  unfolding flat block_hops
  stood_fit zero = fits_none _
  stood_fit (suc b) =
      let guarded = sum_add (λ r. ways_of nodes (get_or roots r 0) * members_of guards b r) (λ r. cond (member (set_at guards r) b) (ways_of nodes (get_or roots r 0)) 0) (λ r. ways_of nodes (get_or roots r 0) * members_of guards (suc b) r) (length m.routes)
      (λ r h. counted_more (member (set_at guards r)) (ways_of nodes (get_or roots r 0)) b) in
      let returned = sum_add (λ i. original i * members_of returns b i) (λ i. cond (member (set_at returns i) b) (original i) 0) (λ i. original i * members_of returns (suc b) i) c.nodes
      (λ i h. counted_more (member (set_at returns i)) (original i) b) in
      fits_more (omega (arith, guarded, returned, records-length b))
      (fits_both (flat (block_hops m nodes edges ends heads landings roots guards bases returns c) b) _ _ (length (block_records m b nodes edges ends heads landings roots guards bases returns c)) (stood_fit b)
      (fits_sorted (block_records m b nodes edges ends heads landings roots guards bases returns c) _ (omega arith)))

  -- ---- the copies

  copies_fit : (i from n : ℕ) → i < c.nodes → Fits (flat (copy_hops m nodes edges ends heads landings parts returns i from) n) (ways_of nodes i * members_of returns n i)
  unfolding flat copy_hops hops_if hops_from
  copies_fit i from zero h = fits_none _
  copies_fit i from (suc o) h =
      let b : ℕ = copy_number parts i from o in
      let own = fits_sorted (record_exits m b edges ends heads landings (record_in nodes i)) (ways_of nodes i) (omega (arith, record_length b (record_in nodes i))) in
      let here : Fits (copy_hops m nodes edges ends heads landings parts returns i from o) (cond (member (set_at returns i) o) (ways_of nodes i) 0) = rw (sym (in_set_law returns i o (omega arith))) (if_fits (in_set returns i o) _ (ways_of nodes i) own) in
      fits_more (omega (arith, counted_more (member (set_at returns i)) (ways_of nodes i) o)) (fits_both (flat (copy_hops m nodes edges ends heads landings parts returns i from) o) _ _ _ (copies_fit i from o h) here)

  node_fit : (blocks i : ℕ) → i < c.nodes → Fits (node_hops m nodes edges ends heads landings bases parts returns blocks i) (clone i * members_of returns blocks i)
  unfolding node_hops
  node_fit blocks i h = go (eqb (get_or bases i 0) 0)
    where
      go : (t : Bool) → Fits (cond t [] (flat (copy_hops m nodes edges ends heads landings parts returns i (get_or bases i 0)) blocks)) (cond t 0 (ways_of nodes i) * members_of returns blocks i)
      go true = fits_none _
      go false = copies_fit i (get_or bases i 0) blocks h

  -- ---- all

  pub most_hops : (blocks : ℕ) → Fits (flat (block_hops m nodes edges ends heads landings roots guards bases returns c) blocks ++ flat (node_hops m nodes edges ends heads landings bases parts returns blocks) c.nodes) (guarded_ways nodes roots guards blocks (length m.routes) + returned_ways nodes returns blocks c.nodes)
  most_hops blocks =
      fits_more (omega (arith, sum_add (λ i. original i * members_of returns blocks i) (λ i. clone i * members_of returns blocks i) (λ i. ways_of nodes i * members_of returns blocks i) c.nodes (λ i h. either (eqb (get_or bases i 0) 0) (ways_of nodes i) (members_of returns blocks i))))
      (fits_both (flat (block_hops m nodes edges ends heads landings roots guards bases returns c) blocks) _ _ _ (stood_fit blocks) (fits_flat (node_hops m nodes edges ends heads landings bases parts returns blocks) (λ i. clone i * members_of returns blocks i) c.nodes (node_fit blocks)))
