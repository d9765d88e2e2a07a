-- The cursor: what stands at a position of an image whose sources are starts.
--     leads_edges, leads_flow                    what `given_for` says
--     addresses_rise, same_place                 the table rises, so that each address stands once
--     is_given_law, given_here_law                       the cursor's source is given for p, or none is
--     edges_length, edges_within_law, edge_is        that source's edges stand from the cursor's edge on
--     cases_length, cases_within, case_is        the cases of the instruction at p stand from the cursor's case on
--     sources_most, edges_most                   the cursor stays within the sections
--     cursor_after                               the cursor behind p
--     visit_given, visit_next, visit_fits        a visit reads what is given, and the cursor behind it, which fits
-- Assumes nothing.
use mathlib.Core.Bool.{Bool, true, false, cond, ◌&&◌, false≢true}
use mathlib.Core.Path.{◌≡◌, refl, sym, ap, ◌∙◌}
use mathlib.Core.Logic.{⊎_elim}
use mathlib.Core.List.{List, []}
use Prim.Native.Nat.{ℕ, zero, suc, ◌+◌, ◌<◌, ◌≤◌}
use native.Mathlib.Nat.{eq-or-lt_of_le}
use native.Mathlib.Numerals.{add-one}
use native.Mathlib.Decide.{dec_lt, ℕ_discrete}
use native.Mathlib.Omega.{arith}
use borrow.Author.Tests.{eqb-true, eqb-false, eq-eqb, ne_eqb, ltb-true, lt-ltb}
use lib.Dec.{eqb, ltb}
use lib.ListN.{length, get_or}
use Rattle.image.specs.Image.{Image}
use Rattle.image.specs.Record.{instruction_from, case_from, source_from, edge_from}
use Rattle.image.specs.Deal.{total, cases_of, given_of}
use Rattle.image.proofs.Deals.{dealt_at, dealt_in, length_dealt}
use Rattle.image.specs.declared.record.Instruction.{Instruction}
use Rattle.image.specs.declared.record.GivenEdge.{GivenEdge}
use Rattle.graph.specs.Fold.{count}
use Rattle.graph.specs.Transfer.{table_of, size, instruction_at, address_at, cases_at, source_at, is_given, given_at, given}
use Rattle.graph.proofs.FoldLaws.{decided, some_at, some_where, some-none, flat_one, count_yes, count_no}
use Rattle.graph.proofs.TableLaws.{length-entries, entry_address, start_has, rises}
use Rattle.builder.specs.declared.cursor.Cursor.{Cursor}
use Rattle.builder.specs.Cursor.{Sourced, cases_before, sources_before, edges_before, cursor_at, given_for, given_here, after, Steps}
use Rattle.std.proofs.Common.{Option, Some, None}

-- ---- what `given_for` says

module _ (m : Image) (p : ℕ) where
  pub leads_edges : (n : ℕ) → given_for m p ≡ Some n → (is_given m p ≡ true) × (length (given_at m p) ≡ n)
  unfolding given_for
  leads_edges n e = go (is_given m p) refl e
    where
      go : (b : Bool) → is_given m p ≡ b → cond b (Some (length (given_at m p))) None ≡ Some n → (is_given m p ≡ true) × (length (given_at m p) ≡ n)
      go true b e = (b, cc)
      go false b e = absurd (let z : ◌≡◌ {A = ℕ} 0 1 = cc in omega arith)

  pub leads_flow : given_for m p ≡ None → is_given m p ≡ false
  unfolding given_for
  leads_flow e = go (is_given m p) refl e
    where
      go : (b : Bool) → is_given m p ≡ b → cond b (Some (length (given_at m p))) None ≡ None → is_given m p ≡ false
      go true b e = absurd (let z : ◌≡◌ {A = ℕ} 0 1 = cc in omega arith)
      go false b e = b

-- position p is where the sources from k on begin
record Splits (m : Image) (p k : ℕ) : Type 0 where
  most : k ≤ length m.sources
  front : (q s : ℕ) → q < size m → s < k → address_at m q ≡ (source_at m s).address → q < p
  back : (q s : ℕ) → q < size m → k ≤ s → s < length m.sources → address_at m q ≡ (source_at m s).address → p ≤ q

module _ (m : Image) (h : Sourced m) where
  -- ---- addresses

  pub addresses_rise : (p q : ℕ) → p < q → q < size m → address_at m p < address_at m q
  addresses_rise p q lt hq = rw (entry_address m p, entry_address m q) at (h.rising p q lt (rw (length-entries m.instructions) hq))

  lower_first : (p q : ℕ) → p < size m → address_at m p < address_at m q → p < q
  lower_first p q hp lt =
      elim (dec_lt p q) [
        | yes a ↦ a
        | no b ↦ elim (ℕ_discrete p q) [ yes e ↦ omega (arith, ap (address_at m) e) | no n ↦ omega (arith, addresses_rise q p (omega arith) hp) ]
      ]

  pub same_place : (p q : ℕ) → p < size m → q < size m → address_at m p ≡ address_at m q → p ≡ q
  same_place p q hp hq e =
      elim (ℕ_discrete p q) [
        | yes same ↦ same
        | no n ↦ elim (dec_lt p q) [ yes lt ↦ omega (arith, addresses_rise p q lt hq) | no ge ↦ omega (arith, addresses_rise q p (omega arith) hp) ]
      ]

  sources_rise : (s t : ℕ) → s < t → t < length m.sources → (source_at m s).address < (source_at m t).address
  unfolding source_at
  sources_rise s t lt ht = rises (λ k. (source_at m k).address) (length m.sources) h.accepted.sources_rise s t lt ht

  -- where a source stands
  stands : (s : ℕ) → s < length m.sources → (q : ℕ) × (q < size m) × (address_at m q ≡ (source_at m s).address)
  stands s hs =
      let r = start_has (table_of m) (source_at m s).address (h.starts s hs) in
      (r.0, rw (length-entries m.instructions) at r.1, sym (entry_address m r.0) ∙ r.2)

  -- ---- the source at a position

  is_first : (p k s : ℕ) → Splits m p k → p < size m → s < length m.sources → address_at m p ≡ (source_at m s).address → s ≡ k
  is_first p k s split hp hs e =
      elim (dec_lt s k) [
        | yes lt ↦ absurd (omega (arith, split.front p s hp lt e))
        | no ge ↦ elim (dec_lt k s) [
          | yes lt ↦
              let hk : k < length m.sources = omega arith in
              let r = stands k hk in
              absurd (omega (arith, split.back r.0 k r.1 (omega arith) hk r.2, lower_first r.0 p r.1 (omega (arith, r.2, sources_rise k s lt hs))))
          | no le ↦ omega arith
        ]
      ]

  behind-given : (p k : ℕ) → Splits m p k → p < size m → k < length m.sources → address_at m p ≡ (source_at m k).address → Splits m (suc p) (suc k)
  behind-given p k split hp hk e =
      record {
        most = hk;
        front = λ q s hq lt f. elim (ℕ_discrete s k) [
          | yes same ↦ omega (arith, same_place q p hq hp (f ∙ ap (λ (i : ℕ). (source_at m i).address) same ∙ sym e))
          | no other ↦ omega (arith, split.front q s hq (omega arith) f)
        ];
        back = λ q s hq le hs f. elim (ℕ_discrete p q) [
          | yes same ↦ absurd (omega (arith, sources_rise k s (omega arith) hs, sym e ∙ ap (address_at m) same ∙ f))
          | no other ↦ omega (arith, split.back q s hq (omega arith) hs f)
        ];
      }

  behind_flow : (p k : ℕ) → Splits m p k → is_given m p ≡ false → Splits m (suc p) k
  unfolding is_given
  behind_flow p k split none =
      record {
        most = split.most;
        front = λ q s hq lt f. omega (arith, split.front q s hq lt f);
        back = λ q s hq le hs f. elim (ℕ_discrete p q) [
          | yes same ↦ absurd (eqb-false _ _ (some-none _ (length m.sources) none s hs) (sym (ap (address_at m) same ∙ f)))
          | no other ↦ omega (arith, split.back q s hq le hs f)
        ];
      }

  -- the source that is given for p, if one is
  the_given : (p : ℕ) → p < size m → Splits m p (sources_before m p) → is_given m p ≡ true
      → (sources_before m p < length m.sources) × (address_at m p ≡ (source_at m (sources_before m p)).address)
  unfolding is_given
  the_given p hp split yes' =
      let r = some_where _ (length m.sources) yes' in
      let e = sym (eqb-true _ _ r.2) in
      let same = is_first p (sources_before m p) r.0 split hp r.1 e in
      (rw same at r.1, rw same at e)

  splits : (p : ℕ) → p ≤ size m → Splits m p (sources_before m p)
  unfolding sources_before count
  splits zero hp = record { most = omega arith; front = λ q s hq lt f. absurd (omega arith); back = λ q s hq le hs f. omega arith }
  splits (suc p) hp =
      let split = splits p (omega arith) in
      ⊎_elim
      (λ e. let r = the_given p hp split e in rw (count_yes (λ q. is_given m q) p e) (behind-given p (sources_before m p) split hp r.0 r.1))
      (λ e. rw (count_no (λ q. is_given m q) p e) (behind_flow p (sources_before m p) split e))
      (decided (is_given m p))

  -- ---- what is given at a position

  module _ (p : ℕ) (hp : p < size m) where
    split : Splits m p (sources_before m p)
    split = splits p (omega arith)

    -- the test that the code makes
    pub is_given_law : is_given m p ≡ (ltb (sources_before m p) (length m.sources) && eqb (source_at m (sources_before m p)).address (address_at m p))
    unfolding is_given
    is_given_law = go (is_given m p) refl (ltb (sources_before m p) (length m.sources)) refl (eqb (source_at m (sources_before m p)).address (address_at m p)) refl
      where
        go : (b : Bool) → is_given m p ≡ b
            → (c : Bool) → ltb (sources_before m p) (length m.sources) ≡ c
            → (d : Bool) → eqb (source_at m (sources_before m p)).address (address_at m p) ≡ d
            → b ≡ (c && d)
        go true b c ec d ed =
            let r = the_given p hp split b in
            sym (rw (sym ec ∙ lt-ltb _ _ r.0, sym ed ∙ eq-eqb _ _ (sym r.1)))
        go false b true ec true ed = absurd (false≢true (sym b ∙ some_at _ (length m.sources) (sources_before m p) (ltb-true _ _ ec) ed))
        go false b true ec false ed = refl
        go false b false ec d ed = refl

    module _ (yes' : is_given m p ≡ true) where
      source : (sources_before m p < length m.sources) × (address_at m p ≡ (source_at m (sources_before m p)).address)
      source = the_given p hp split yes'

      given_of_law : given_at m p ≡ get_or (given_of m) (sources_before m p) []
      unfolding given_at
      given_of_law =
          flat_one _ (length m.sources) (sources_before m p) source.0
          (λ i hi ne. rw (ne_eqb _ _ (λ e. ne (is_first p (sources_before m p) i split hp hi (sym e)))))
          ∙ rw (eq-eqb _ _ (sym source.1))

      pub edges_length : length (given_at m p) ≡ (source_at m (sources_before m p)).edges
      unfolding given_of source_at
      edges_length =
          ap length given_of_law
          ∙ length_dealt (λ s. s.edges) (source_from [] 0) refl m.sources m.edges h.accepted.edges_add (sources_before m p) source.0

      pub edges_within_law : edges_before m p + length (given_at m p) ≤ length m.edges
      unfolding edges_before source_at
      edges_within_law =
          rw edges_length
          (dealt_in (λ s. s.edges) (source_from [] 0) refl m.sources m.edges h.accepted.edges_add (sources_before m p) source.0)

      pub edge_is : (k : ℕ) → k < length (given_at m p) → given m p k ≡ get_or m.edges (edges_before m p + k) (edge_from [] 0)
      unfolding given_of edges_before source_at
      edge_is k hk =
          ap (λ (l : List GivenEdge). get_or l k (edge_from [] 0)) given_of_law
          ∙ dealt_at (λ s. s.edges) (source_from [] 0) refl m.sources m.edges (sources_before m p) k (edge_from [] 0) (rw edges_length at hk)

    pub given_here_law : given_here m.sources (sources_before m p) (address_at m p) ≡ given_for m p
    unfolding given_here given_for source_at
    given_here_law =
        ⊎_elim (λ e. let test = sym is_given_law ∙ e in rw test (rw e (ap Some (sym (edges_length e)))))
        (λ e. let test = sym is_given_law ∙ e in rw test (rw e refl))
        (decided (is_given m p))

    -- ---- its cases

    pub cases_length : length (cases_at m p) ≡ (instruction_at m p).cases
    unfolding cases_at cases_of instruction_at
    cases_length = length_dealt (λ i. i.cases) (instruction_from [] 0) refl m.instructions m.cases h.accepted.cases_add p hp

    pub cases_within : cases_before m p + (instruction_at m p).cases ≤ length m.cases
    unfolding cases_before instruction_at
    cases_within = dealt_in (λ i. i.cases) (instruction_from [] 0) refl m.instructions m.cases h.accepted.cases_add p hp

    pub case_is : (k : ℕ) → k < (instruction_at m p).cases → get_or (cases_at m p) k (case_from [] 0) ≡ get_or m.cases (cases_before m p + k) (case_from [] 0)
    unfolding cases_at cases_of cases_before instruction_at
    case_is k hk = dealt_at (λ i. i.cases) (instruction_from [] 0) refl m.instructions m.cases p k (case_from [] 0) hk

    -- ---- the cursor behind it

    pub cursor_after : (g : Option ℕ) → g ≡ given_for m p → after (cursor_at m p) (instruction_at m p).cases g ≡ cursor_at m (p + 1)
    unfolding cases_before sources_before edges_before total
    cursor_after (Some n) e =
        let r = leads_edges m p n (sym e) in
        rw (add-one p, count_yes (λ q. is_given m q) p r.0, add-one (sources_before m p), sym r.1 ∙ edges_length r.0)
    cursor_after None e = rw (add-one p, count_no (λ q. is_given m q) p (leads_flow m p (sym e)))

  pub sources_most : (p : ℕ) → p ≤ size m → sources_before m p ≤ length m.sources
  sources_most p hp = (splits p hp).most

  pub edges_most : (p : ℕ) → p ≤ size m → edges_before m p ≤ length m.edges
  unfolding edges_before source_at
  edges_most p hp =
      ⊎_elim (λ all. rw all (omega (arith, h.accepted.edges_add)))
      (λ less. omega (arith, dealt_in (λ s. s.edges) (source_from [] 0) refl m.sources m.edges h.accepted.edges_add (sources_before m p) less))
      (eq-or-lt_of_le (sources_most p hp))

  -- what a visit reads, from the cursor and the instruction at hand
  module _ (p : ℕ) (hp : p < size m) (c : Cursor) (i : Instruction) (here : c ≡ cursor_at m p) (is : i ≡ instruction_at m p) where
    pub visit_given : given_here m.sources c.source i.address ≡ given_for m p
    visit_given = rw (here, is) (given_here_law p hp)

    module _ (g : Option ℕ) (leads : g ≡ given_for m p) where
      pub visit_next : after c i.cases g ≡ cursor_at m (p + 1)
      visit_next = rw (here, is) (cursor_after p hp g leads)

      pub visit_fits : Steps c i.cases g
      visit_fits =
          record {
            at = rw here (omega (arith, h.accepted.instructions_most));
            case = rw (here, is) (omega (arith, cases_within p hp, h.accepted.cases_most));
            source = rw visit_next (omega (arith, sources_most (p + 1) (omega arith), h.accepted.sources_most));
            edge = rw visit_next (omega (arith, edges_most (p + 1) (omega arith), h.accepted.edges_most));
          }
