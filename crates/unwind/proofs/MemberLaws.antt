-- Blocks gone over by the members of a set: the others give nothing.
--     flat_quiet                   f gives nothing from k on
--     Walked, walked_start, walked_here, walked_below, walked_next     the members below k are gone over
--     Taking, taking_start, taking_here, taking_next, taking_end     the hops of members are taken
--     LowestIs, in_set_law             a set as it is read
--     copy_rank, copy_rises, copy_more     the number of a copy by the members below
--     copy_here, copy_quiet        the hops out of a copy, and of a block from which the node does not return
--     sets_quiet, sets_below, sets_few, sets_number, sets_here, sets_more     the same by the sets of a node
--     routes_quiet                 no route gives a way out of a block that none guards
--     originals_none, originals_more, originals_skip     the nodes on the original blocks, one after the other
--     originals_records            they give what all nodes give
--     busy_quiet                   no hop goes out of a block that is not busy
--     nodes_sets, block_sets       the sets of nodes that are placed, and of routes
-- Assumes nothing.
use mathlib.Core.Path.{◌≡◌, refl, sym, ap, ◌∙◌}
use mathlib.Core.Logic.{◌⊎◌, ⊎_elim}
use mathlib.Core.Bool.{Bool, true, false, cond, false≢true}
use mathlib.Core.List.{List, [], ◌++◌, append-nil}
use Prim.Native.Nat.{ℕ, zero, suc, ◌+◌, ◌*◌, ◌/◌, ◌%◌, ◌^◌, ◌≤◌, ◌<◌}
use native.Mathlib.Nat.{not-suc-le-zero}
use native.Mathlib.Numerals.{add-one}
use native.Mathlib.Decide.{ℕ_discrete, dec_lt}
use native.Mathlib.Omega.{arith}
use borrow.Author.Tests.{eq-eqb, ne_eqb}
use lib.Dec.{eqb}
use lib.ListN.{length, get_or, set}
use lib.Seq.{get_or-set_same, get_or-set_other}
use Rattle.image.specs.Image.{RouteImage}
use Rattle.image.specs.Deal.{routes_of}
use Rattle.graph.specs.Graph.{Graph}
use Rattle.graph.specs.Fold.{flat, some, count}
use Rattle.graph.specs.Route.{route_at}
use Rattle.graph.specs.BlockSet.{member, excluding}
use Rattle.graph.proofs.FoldLaws.{decided, some-none, flat-none, flat-same, flat-more, count_yes, count_no}
use Rattle.graph.proofs.BlockLaws.{member-excluding, length-excluding}
use Rattle.unwind.specs.declared.tries.store.Counts.{Counts}
use Rattle.addition.specs.Order.{sorted}
use Rattle.addition.specs.Part.{returning}
use Rattle.addition.specs.Trie.{tries}
use Rattle.unwind.specs.Nodes.{record_in}
use Rattle.addition.specs.Ways.{Hop}
use Rattle.unwind.specs.Sources.{Exit, compare_exits, hops_on}
use Rattle.unwind.specs.Placed.{set_at}
use Rattle.unwind.specs.Gather.{in_set, record_exits, route_records, return_records, node_records}
use Rattle.unwind.specs.Lent.{Sides, block_records, block_hops}
use Rattle.unwind.specs.Copies.{copy_number, hops_from, hops_if, copy_hops}
use Rattle.unwind.specs.HopWords.{ReturnsWithin}
use Rattle.unwind.specs.Members.{NodeSets, NodesSets, Joins, BlockSets, Originals, BusyIn}
use Rattle.addition.proofs.Lists.{keep_mem, among_mem}
use Rattle.addition.proofs.Accepted.{guarded_mem}
use Rattle.addition.proofs.Instance.{blocks_lt}
use Rattle.unwind.proofs.SlotLaws.{set_run}
use Rattle.unwind.proofs.PlaceLaws.{rank_most}
use Rattle.unwind.proofs.PoolLaws.{node_own, node_copy, node_off, set-none}

pub flat_quiet : {A : Type 0} (f : ℕ → List A) (k n : ℕ) → k ≤ n → ((c : ℕ) → k ≤ c → c < n → f c ≡ []) → flat f n ≡ flat f k
unfolding flat
flat_quiet f k zero h none = let e : 0 ≡ k = omega arith in ap (flat f) e
flat_quiet {A} f k (suc n) h none =
    elim (dec_lt n k) [
      | yes lt ↦ (let e : suc n ≡ k = omega arith in ap (flat f) e)
      | no ge ↦
          ap (λ (t : List A). flat f n ++ t) (none n (omega arith) (omega arith))
          ∙ append-nil (flat f n)
          ∙ flat_quiet f k n (omega arith) (λ c a b. none c a (omega arith))
    ]

-- ---- a set that is gone over

-- left are the members of w from k on, all of which are below `blocks`
pub record Walked (w left : List ℕ) (blocks k : ℕ) : Type 0 where
  pub long : length left ≡ 16
  pub within : k ≤ blocks
  pub below : (c : ℕ) → member w c ≡ true → c < blocks
  pub passed : (c : ℕ) → c < k → member left c ≡ false
  pub rest : (c : ℕ) → k ≤ c → member left c ≡ member w c

abbrev pub LowestIs : List ℕ → ℕ → Type 0
LowestIs left o = (o < 1024) × (member left o ≡ true) × ((c : ℕ) → c < o → member left c ≡ false)

pub walked_start : (w : List ℕ) (blocks : ℕ) → length w ≡ 16 → ((c : ℕ) → member w c ≡ true → c < blocks) → Walked w w blocks 0
walked_start w blocks long below = record { long = long; within = omega arith; below = below; passed = λ c h. absurd (not-suc-le-zero h); rest = λ c h. refl }

module _ {w left : List ℕ} {blocks k : ℕ} (p : Walked w left blocks k) (o : ℕ) (low : LowestIs left o) where
  reached : k ≤ o
  reached =
      elim (dec_lt o k) [
        | yes lt ↦ absurd (false≢true (sym (p.passed o lt) ∙ low.1))
        | no ge ↦ omega arith
      ]

  pub walked_here : member w o ≡ true
  walked_here = sym (p.rest o reached) ∙ low.1

  pub walked_below : o < blocks
  walked_below = p.below o walked_here

  between : (c : ℕ) → k ≤ c → c < o → member w c ≡ false
  between c a b = sym (p.rest c a) ∙ low.2 c b

  pub walked_next : Walked w (excluding left o) blocks (o + 1)
  walked_next =
      record {
        long = length-excluding left o ∙ p.long;
        within = omega (arith, walked_below);
        below = p.below;
        passed = λ c h. member-excluding left p.long o c ∙ elim (ℕ_discrete o c) [
          | yes e ↦ rw (eq-eqb o c e)
          | no ne ↦ rw (ne_eqb o c ne, low.2 c (omega arith))
        ];
        rest = λ c h. member-excluding left p.long o c ∙ rw (ne_eqb o c (λ e. omega arith)) (p.rest c (omega (arith, reached)));
      }

module _ (f : ℕ → List Hop) (w : List ℕ) (quiet : (c : ℕ) → member w c ≡ false → f c ≡ []) {left : List ℕ} {blocks k : ℕ} (p : Walked w left blocks k) where
  flat_here : (o : ℕ) → LowestIs left o → flat f o ≡ flat f k
  flat_here o low = flat_quiet f k o (reached p o low) (λ c a b. quiet c (between p o low c a b))

  flat_end : ((c : ℕ) → member left c ≡ false) → flat f blocks ≡ flat f k
  flat_end none = flat_quiet f k blocks p.within (λ c a b. quiet c (sym (p.rest c a) ∙ none c))

-- ---- hops taken

-- P holds of all below a number, from which on the members of w are left
pub record Taking (P : ℕ → Type 0) (w : List ℕ) (blocks : ℕ) (left : List ℕ) : Type 0 where
  pub at : ℕ
  pub walked : Walked w left blocks at
  pub held : P at

pub taking_start : (P : ℕ → Type 0) (w : List ℕ) (blocks : ℕ) → length w ≡ 16 → ((c : ℕ) → member w c ≡ true → c < blocks) → P 0 → Taking P w blocks w
taking_start P w blocks long below held = record { at = 0; walked = walked_start w blocks long below; held = held }

module _ (P : ℕ → Type 0) (f : ℕ → List Hop) (up : (k n : ℕ) → k ≤ n → flat f n ≡ flat f k → P k → P n) (w : List ℕ) (quiet : (c : ℕ) → member w c ≡ false → f c ≡ []) {left : List ℕ} {blocks : ℕ} (p : Taking P w blocks left) where
  pub taking_end : ((c : ℕ) → member left c ≡ false) → P blocks
  taking_end none = up p.at blocks p.walked.within (flat_end f w quiet p.walked none) p.held

  pub taking_here : (o : ℕ) → LowestIs left o → P o
  taking_here o low = up p.at o (reached p.walked o low) (flat_here f w quiet p.walked o low) p.held

pub taking_next : {P : ℕ → Type 0} (Q : ℕ → Type 0) {w left : List ℕ} {blocks : ℕ} → Taking P w blocks left → (o : ℕ) → LowestIs left o → Q (o + 1) → Taking Q w blocks (excluding left o)
taking_next Q p o low held = record { at = o + 1; walked = walked_next p.walked o low; held = held }

-- ---- sets as they are read

pub in_set_law : (l : List ℕ) (i b : ℕ) → 16 * i + 16 ≤ length l → in_set l i b ≡ member (set_at l i) b
in_set_law l i b fit = ap (λ (w : List ℕ). member w b) (sym (set_run l i fit))

-- ---- copies

module _ (parts : List ℕ) (i base : ℕ) where
  copy_yes : (o : ℕ) → in_set parts i o ≡ true → copy_number parts i base (suc o) ≡ copy_number parts i base o + 1
  unfolding copy_number
  copy_yes o e = ap (λ (t : Bool). copy_number parts i base o + cond t 1 0) e

  copy_no : (o : ℕ) → in_set parts i o ≡ false → copy_number parts i base (suc o) ≡ copy_number parts i base o + 0
  unfolding copy_number
  copy_no o e = ap (λ (t : Bool). copy_number parts i base o + cond t 1 0) e

  pub copy_rank : 16 * i + 16 ≤ length parts → (o : ℕ) → copy_number parts i base o ≡ base + count (member (set_at parts i)) o
  unfolding copy_number count
  copy_rank fit zero = omega arith
  copy_rank fit (suc o) =
      ⊎_elim
      (λ e. omega (arith, copy_yes o e, copy_rank fit o, count_yes (member (set_at parts i)) o (sym (in_set_law parts i o fit) ∙ e)))
      (λ e. omega (arith, copy_no o e, copy_rank fit o, count_no (member (set_at parts i)) o (sym (in_set_law parts i o fit) ∙ e)))
      (decided (in_set parts i o))

  pub copy_rises : (k n : ℕ) → k ≤ n → copy_number parts i base k ≤ copy_number parts i base n
  copy_rises k zero h = let e : k ≡ 0 = omega arith in rw e (omega arith)
  copy_rises k (suc n) h =
      elim (dec_lt n k) [
        | yes lt ↦ (let e : k ≡ suc n = omega arith in rw e (omega arith))
        | no ge ↦ ⊎_elim (λ e. omega (arith, copy_yes n e, copy_rises k n (omega arith))) (λ e. omega (arith, copy_no n e, copy_rises k n (omega arith))) (decided (in_set parts i n))
      ]

  pub copy_more : (o : ℕ) → in_set parts i o ≡ true → copy_number parts i base o + 1 ≤ copy_number parts i base (o + 1)
  copy_more o e = rw (add-one o) (omega (arith, copy_yes o e))

module _ (m : RouteImage) (nodes edges ends heads landings parts returns : List ℕ) (i base o : ℕ) where
  pub copy_here : (b : ℕ) → in_set returns i o ≡ true → b ≡ copy_number parts i base o → hops_from m nodes edges ends heads landings i b ≡ copy_hops m nodes edges ends heads landings parts returns i base o
  unfolding copy_hops hops_if
  copy_here b is e =
      ap (hops_from m nodes edges ends heads landings i) e
      ∙ sym (ap (λ (t : Bool). cond t (hops_from m nodes edges ends heads landings i (copy_number parts i base o)) []) is)

  pub copy_quiet : in_set returns i o ≡ false → copy_hops m nodes edges ends heads landings parts returns i base o ≡ []
  unfolding copy_hops hops_if
  copy_quiet e = ap (λ (t : Bool). cond t (hops_from m nodes edges ends heads landings i (copy_number parts i base o)) []) e

module _ (m : RouteImage) (nodes edges ends heads landings parts returns : List ℕ) (i base blocks : ℕ) (sets : NodeSets parts returns blocks i) where
  pub sets_quiet : (o : ℕ) → member (set_at returns i) o ≡ false → copy_hops m nodes edges ends heads landings parts returns i base o ≡ []
  sets_quiet o e = copy_quiet m nodes edges ends heads landings parts returns i base o (in_set_law returns i o sets.returns_fit ∙ e)

  pub sets_below : (o : ℕ) → member (set_at returns i) o ≡ true → o < blocks
  sets_below o e = sets.below o (in_set_law returns i o sets.returns_fit ∙ e)

  module _ (o r : ℕ) (part : List ℕ) (read : part ≡ set_at parts i) (is : r ≡ count (member part) o) where
    rank_is : r ≡ count (member (set_at parts i)) o
    rank_is = is ∙ ap (λ (w : List ℕ). count (member w) o) read

    pub sets_few : r ≤ 1024
    sets_few = omega (arith, rank_is, rank_most parts i o)

    pub sets_number : base + r ≡ copy_number parts i base o
    sets_number = omega (arith, rank_is, copy_rank parts i base sets.part_fits o)

    pub sets_here : member (set_at returns i) o ≡ true → hops_from m nodes edges ends heads landings i (base + r) ≡ copy_hops m nodes edges ends heads landings parts returns i base o
    sets_here e = copy_here m nodes edges ends heads landings parts returns i base o (base + r) (in_set_law returns i o sets.returns_fit ∙ e) sets_number

    pub sets_more : ReturnsWithin parts returns i → member (set_at returns i) o ≡ true → base + r + 1 ≤ copy_number parts i base (o + 1)
    sets_more k e = omega (arith, sets_number, copy_more parts i base o (k.within o (in_set_law returns i o sets.returns_fit ∙ e)))

-- ---- blocks that have a way out

pub routes_quiet : (m : RouteImage) (b : ℕ) (nodes edges ends heads landings roots guards : List ℕ) (routes : ℕ) → some (λ r. in_set guards r b) routes ≡ false → flat (route_records m b edges ends heads landings nodes roots guards) routes ≡ []
unfolding route_records
routes_quiet m b nodes edges ends heads landings roots guards routes none =
    flat-none (route_records m b edges ends heads landings nodes roots guards) routes
    (λ r h. ap (λ (t : Bool). cond t (record_exits m b edges ends heads landings (record_in nodes (get_or roots r 0))) []) (some-none (λ k. in_set guards k b) routes none r h))

-- ---- nodes on the original blocks

pub originals_none : (bases returns l : List ℕ) (w : ℕ) → Originals bases returns l 0 w 0
unfolding flat
originals_none bases returns l w = record { few = omega arith; within = λ k h. absurd (not-suc-le-zero h); original = λ k h. absurd (not-suc-le-zero h); all = λ f quiet. refl }

module _ (bases returns l : List ℕ) (n w c : ℕ) (p : Originals bases returns l n w c) where
  pub originals_more : c < length l → get_or bases n 0 ≡ 0 → Originals bases returns (set l c n) (n + 1) w (c + 1)
  originals_more fit own =
      let here : get_or (set l c n) c 0 ≡ n = get_or-set_same l c n 0 fit in
      record {
        few = omega (arith, p.few);
        within = λ k h. elim (ℕ_discrete c k) [
          | yes e ↦ (let at : get_or (set l c n) k 0 ≡ n = ap (λ (j : ℕ). get_or (set l c n) j 0) (sym e) ∙ here in omega (arith, at))
          | no ne ↦ omega (arith, get_or-set_other l c k n 0 (λ e. ne (sym e)), p.within k (omega arith))
        ];
        original = λ k h. elim (ℕ_discrete k c) [
          | yes e ↦ rw (e, here) own
          | no ne ↦ rw (get_or-set_other l c k n 0 ne) (p.original k (omega arith))
        ];
        all = λ f quiet.
            flat-more f n
            ∙ (λ t. (p.all f (λ i h. quiet i (omega arith)) ∙ flat-same (λ k. f (get_or l k 0)) (λ k. f (get_or (set l c n) k 0)) c (λ k h. ap f (sym (get_or-set_other l c k n 0 (omega arith))))) t ++ f (sym here t))
            ∙ sym (flat-more (λ k. f (get_or (set l c n) k 0)) c);
      }

  pub originals_skip : (get_or bases n 0 ≡ 0 → ⊥) ⊎ (get_or returns (16 * n + w) 0 ≡ 0) → Originals bases returns l (n + 1) w c
  originals_skip other =
      record {
        few = omega (arith, p.few);
        within = λ k h. omega (arith, p.within k h);
        original = p.original;
        all = λ f quiet.
            flat-more f n
            ∙ ap (λ (t : List Exit). flat f n ++ t) (quiet n (omega arith) other)
            ∙ append-nil (flat f n)
            ∙ p.all f (λ i h. quiet i (omega arith));
      }

pub originals_records : (m : RouteImage) (b : ℕ) (nodes edges ends heads landings bases returns originals : List ℕ) (n c : ℕ) → Originals bases returns originals n (b / 64) c → flat (λ k. return_records m b edges ends heads landings nodes returns (get_or originals k 0)) c ≡ flat (node_records m b edges ends heads landings nodes bases returns) n
originals_records m b nodes edges ends heads landings bases returns originals n c p =
    flat-same _ _ c (λ k h. node_own m b edges ends heads landings nodes bases returns (get_or originals k 0) (p.original k h))
    ∙ sym (p.all (node_records m b edges ends heads landings nodes bases returns)
    (λ i h. ⊎_elim
    (λ copies. sym (node_copy m b edges ends heads landings nodes bases returns i copies))
    (λ none. sym (node_off m b edges ends heads landings nodes bases returns i (set-none returns i b none)))))

module _ (m : RouteImage) (nodes edges ends heads landings roots guards bases returns : List ℕ) (c : Counts) (routes : ℕ) (is : length m.routes ≡ routes) (originals : List ℕ) (listed w x guarded : ℕ) (joined : Joins (λ r b. in_set guards r b) routes w guarded) (list : Originals bases returns originals c.nodes w listed) (busy : BusyIn guarded returns originals listed w x) (b : ℕ) (here : b / 64 ≡ w) (out : eqb (x / 2 ^ (b % 64) % 2) 1 ≡ false) where
  listed_quiet : flat (λ k. return_records m b edges ends heads landings nodes returns (get_or originals k 0)) listed ≡ []
  unfolding return_records
  listed_quiet =
      flat-none (λ k. return_records m b edges ends heads landings nodes returns (get_or originals k 0)) listed
      (λ k h. ap (λ (t : Bool). cond t (record_exits m b edges ends heads landings (record_in nodes (get_or originals k 0))) []) (busy.unreturned b here out k h))

  records_quiet : block_records m b nodes edges ends heads landings roots guards bases returns c ≡ []
  unfolding block_records
  records_quiet =
      (λ t. (ap (flat (route_records m b edges ends heads landings nodes roots guards)) is ∙ routes_quiet m b nodes edges ends heads landings roots guards routes (sym (joined.has b here) ∙ busy.unguarded b here out)) t
      ++ (sym (originals_records m b nodes edges ends heads landings bases returns originals c.nodes listed (rw here list)) ∙ listed_quiet) t)

  pub busy_quiet : block_hops m nodes edges ends heads landings roots guards bases returns c b ≡ []
  unfolding block_hops hops_on sorted
  busy_quiet = ap (λ (xs : List Exit). hops_on [] (sorted compare_exits xs)) records_quiet

-- ---- nodes that are placed

pub nodes_sets : (g : Graph) (m : RouteImage) (guards bases parts returns : List ℕ) (c : Counts) → Sides g m guards bases returns c → 16 * c.nodes ≤ length parts → 16 * c.nodes ≤ length returns → NodesSets parts returns (length g.blocks) c.nodes
nodes_sets g m guards bases parts returns c k p r =
    record {
      each = λ i h.
          record {
            part_fits = omega arith;
            returns_fit = omega arith;
            below = λ o e. blocks_lt g (routes_of m) (tries (routes_of m)).nodes i o (keep_mem (returning g) _ (among_mem _ o (sym (k.returns_are i o h) ∙ e))).0;
          };
    }

pub block_sets : (g : Graph) (m : RouteImage) (guards bases returns : List ℕ) (c : Counts) → Sides g m guards bases returns c → 16 * length m.routes ≤ length guards → 16 * c.nodes ≤ length returns → BlockSets guards returns (length g.blocks) (length m.routes) c.nodes
block_sets g m guards bases returns c k p r =
    record {
      guards_fit = p;
      returns_fit = r;
      guards_below = λ i o h e. (guarded_mem g (route_at (routes_of m) i) o (among_mem _ o (sym (k.guards_are i o h) ∙ e))).0.exists;
      returns_below = λ i o h e. blocks_lt g (routes_of m) (tries (routes_of m)).nodes i o (keep_mem (returning g) _ (among_mem _ o (sym (k.returns_are i o h) ∙ e))).0;
    }
