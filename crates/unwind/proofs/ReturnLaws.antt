-- The sets of the blocks from which nodes return: of each part the blocks that return.
--     returns_long, returns_word   as many words as the parts have, and each of them
--     returns_kept                 a set has what is kept of the list that its part has
--     records_here, records-none   what nodes give out of a block that returns, and out of one that does not
-- Assumes nothing.
use mathlib.Core.Path.{◌≡◌, sym, ap, ◌∙◌}
use mathlib.Core.Bool.{Bool, true, false, cond, ◌&&◌, and-true, and-false}
use mathlib.Core.List.{List, []}
use Prim.Native.Nat.{ℕ, ◌+◌, ◌*◌, ◌%◌, ◌≤◌, ◌<◌}
use native.Mathlib.Decide.{dec_lt}
use native.Mathlib.Omega.{arith}
use lib.Bits.{bit_and}
use lib.ListN.{length, get_or, get_or-eq_default}
use Rattle.image.specs.Image.{RouteImage}
use Rattle.image.proofs.Tables.{table_in_law, table_past}
use Rattle.graph.specs.Graph.{Graph}
use Rattle.graph.specs.Fold.{flat}
use Rattle.graph.specs.BlockSet.{member, Common}
use Rattle.graph.proofs.FoldLaws.{length-table, get_or_table, flat-none, flat-same}
use Rattle.graph.proofs.BlockLaws.{anded_all}
use Rattle.addition.specs.Lists.{keep}
use Rattle.addition.specs.Part.{returning}
use Rattle.unwind.specs.Stands.{Has}
use Rattle.unwind.specs.PartSearch.{Returners, Exist}
use Rattle.unwind.specs.Nodes.{record_in}
use Rattle.unwind.specs.Placed.{set_at, returns_in}
use Rattle.unwind.specs.Gather.{record_exits, in_set, return_records}
use Rattle.unwind.proofs.PartLaws.{common_returns}
use Rattle.unwind.proofs.Sets.{returns_has}
use Rattle.unwind.proofs.MemberLaws.{in_set_law}
use Rattle.unwind.proofs.SlotLaws.{set_long}

module _ (parts returners : List ℕ) where
  abbrev returns : List ℕ
  returns = returns_in parts returners

  -- ---- words

  abbrev word : ℕ → ℕ
  word j = bit_and (get_or parts j 0) (get_or returners (j % 16) 0)

  pub returns_long : length returns ≡ length parts
  unfolding returns_in
  returns_long = length-table word (length parts)

  word_is : (j : ℕ) → get_or returns j 0 ≡ word j
  unfolding returns_in
  word_is j =
      elim (dec_lt j (length parts)) [
        | yes lt ↦ table_in_law word 0 (length parts) j lt
        | no ge ↦ table_past word 0 (length parts) j (omega arith) ∙ sym (ap (λ (x : ℕ). bit_and x (get_or returners (j % 16) 0)) (get_or-eq_default parts 0 (omega arith)))
      ]

  pub returns_word : (i k : ℕ) → k < 16 → get_or returns (16 * i + k) 0 ≡ bit_and (get_or parts (16 * i + k) 0) (get_or returners k 0)
  returns_word i k h =
      let at : (16 * i + k) % 16 ≡ k = omega arith in
      word_is (16 * i + k) ∙ ap (λ (j : ℕ). bit_and (get_or parts (16 * i + k) 0) (get_or returners j 0)) at

  -- ---- sets

  returns_common : (i : ℕ) → Common (set_at parts i) returners (set_at returns i)
  unfolding set_at
  returns_common i =
      anded_all (set_at parts i) returners (set_at returns i) 16
      (record {
        long = set_long returns i;
        done = λ k h.
            get_or_table (λ k. get_or returns (16 * i + k) 0) 16 k 0 h
            ∙ returns_word i k h
            ∙ ap (λ (x : ℕ). bit_and x (get_or returners k 0)) (sym (get_or_table (λ k. get_or parts (16 * i + k) 0) 16 k 0 h));
      })
      (set_long parts i) (omega arith)

  returns_in_law : (i b : ℕ) → 16 * i + 16 ≤ length parts → in_set returns i b ≡ (in_set parts i b && member returners b)
  returns_in_law i b fit =
      in_set_law returns i b (rw returns_long fit) ∙ returns_common i b ∙ ap (λ (t : Bool). t && member returners b) (sym (in_set_law parts i b fit))

  pub returns_kept : (g : Graph) (l : List ℕ) (i : ℕ) → Returners g returners → Exist g (set_at parts i) → Has (set_at parts i) l → Has (set_at returns i) (keep (returning g) l)
  returns_kept g l i all exist has = returns_has g l (set_at parts i) (set_at returns i) has (common_returns g (set_at parts i) returners (set_at returns i) (returns_common i) all exist)

  -- ---- what is gathered

  module _ (m : RouteImage) (b : ℕ) (edges ends heads landings nodes originals : List ℕ) (n : ℕ) (fit : (k : ℕ) → k < n → 16 * get_or originals k 0 + 16 ≤ length parts) where
    pub records_here : member returners b ≡ true → flat (λ k. return_records m b edges ends heads landings nodes parts (get_or originals k 0)) n ≡ flat (λ k. return_records m b edges ends heads landings nodes returns (get_or originals k 0)) n
    unfolding return_records
    records_here is =
        flat-same _ _ n
        (λ k h.
        let i : ℕ = get_or originals k 0 in
        ap (λ (t : Bool). cond t (record_exits m b edges ends heads landings (record_in nodes i)) []) (sym (returns_in_law i b (fit k h) ∙ ap (λ (t : Bool). in_set parts i b && t) is ∙ and-true (in_set parts i b))))

    pub records-none : member returners b ≡ false → flat (λ k. return_records m b edges ends heads landings nodes returns (get_or originals k 0)) n ≡ []
    unfolding return_records
    records-none is =
        flat-none _ n
        (λ k h.
        let i : ℕ = get_or originals k 0 in
        ap (λ (t : Bool). cond t (record_exits m b edges ends heads landings (record_in nodes i)) []) (returns_in_law i b (fit k h) ∙ ap (λ (t : Bool). in_set parts i b && t) is ∙ and-false (in_set parts i b)))
