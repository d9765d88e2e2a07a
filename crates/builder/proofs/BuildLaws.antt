-- A build: what its passes ask, its outcome, and the graph that its stores leave.
--     passed, emitting, handled      what the leaders, the edges and the handlers ask
--     build_tabled, build_refused, build_late, build_built, read_refused, read_built     the outcome
--     code_laid                      the table and the blocks, from nothing
--     edges_added                    the three passes that add edges, unresolved transfers and calls
--     ready, graph_laid              the words before the regions, and behind the entry
-- Assumes nothing.
use mathlib.Core.Path.{◌≡◌, refl, ap, ◌∙◌}
use mathlib.Core.List.{List, [], ◌++◌, append-nil}
use Prim.Native.Nat.{ℕ, ◌≤◌, ◌<◌}
use native.Mathlib.Omega.{arith}
use lib.ListN.{length, get_or}
use Rattle.graph.specs.declared.store.Graph.{Graph as Lent}
use Rattle.image.specs.Refusal.{Refusal, Check, clear}
use Rattle.image.specs.Read.{read, refusing, read_image}
use Rattle.image.specs.Image.{Image}
use Rattle.image.specs.Accepted.{Accepted}
use Rattle.graph.specs.Graph.{Graph, Held, held}
use Rattle.graph.specs.Lent.{held_of}
use Rattle.graph.specs.Stored.{Stored, Emptied, entered}
use Rattle.graph.specs.Adding.{Added, adding, with_table, with_blocks}
use Rattle.graph.specs.Error.{refusal_of}
use Rattle.graph.specs.declared.error.AddressBuildError.{AddressBuildError}
use Rattle.graph.specs.Transfer.{table_of, size}
use Rattle.graph.specs.Blocks.{block_of, blocks_of, entry_of}
use Rattle.graph.specs.Edges.{normal_edges, exception_edges, edges_of, unresolved_of, calls_of}
use Rattle.graph.specs.Regions.{regions_of, handlers_of}
use Rattle.graph.specs.Build.{table_check, input_check, result_check, build_check, graph_from, Outcome, built, build_of, build_read, build_from}
use Rattle.graph.specs.Answers.{Laid}
use Rattle.graph.proofs.TableLaws.{length-entries}
use Rattle.graph.proofs.RangeLaws.{rising}
use Rattle.graph.proofs.BuiltChecks.{Parts, edges_few}
use Rattle.graph.proofs.BuiltBlocks.{blocks_most}
use Rattle.graph.proofs.StoredLaws.{untouched_then, stored_then, emptied_then, held-nothing}
use Rattle.graph.proofs.AddingLaws.{added_then, adding-held, table-held, blocks_held}
use Rattle.builder.specs.Drafts.{Handled, Whole, with_regions, with_handlers}
use Rattle.builder.specs.Emit.{Numbered, Emitting}
use Rattle.builder.specs.Marks.{Passed}
use Rattle.builder.specs.Answers.{code_only, build_answer}
use Rattle.image.specs.Verdict.{refusal_of as form_refusal}
use Rattle.image.specs.declared.form.ImageError.{ImageError}
use Rattle.std.proofs.Common.{Result, Ok, Err}
use Rattle.std.specs.Result.{IsErrAnd}
use Rattle.builder.proofs.GivenLaws.{sourced}
use Rattle.builder.proofs.BoundLaws.{unresolved_few, calls_few}

-- ---- the checks

module _ (m : Image) (accepted : Accepted m) (p : Parts m) where
  pub passed : Passed m
  passed = record { sourced = sourced m accepted p.table p.sources; table = p.table; handlers = p.handlers; routed = p.routed }

  module _ (blocks : List ℕ) where
    pub numbered : size m ≤ length blocks → ((q : ℕ) → q < size m → get_or blocks q 0 ≡ block_of m q) → Numbered m blocks
    numbered room is = record { rising = rising (table_of m) p.table; room = room; block = is }

    pub emitting : Numbered m blocks → Emitting m blocks
    emitting n = record { sourced = passed.sourced; given = p.given; room = n.room; block = n.block }

    pub handled : Numbered m blocks → Handled m blocks
    handled n = record { few = accepted.handlers_most; table = p.table; passed = p.handlers; numbered = n }

-- ---- the outcome

module _ (m : Image) where
  pub build_tabled : (r : Refusal) → Check.refused r ≡ table_check (table_of m) → Outcome.refused r ≡ build_of m
  unfolding build_of build_check input_check
  build_tabled r e = rw (← e)

  pub build_refused : (r : Refusal) → Check.refused r ≡ input_check m → Outcome.refused r ≡ build_of m
  unfolding build_of build_check
  build_refused r e = rw (← e)

  pub build_late : (r : Refusal) → input_check m ≡ clear → Check.refused r ≡ result_check m → Outcome.refused r ≡ build_of m
  unfolding build_of build_check
  build_late r a e = rw (a, ← e)

  pub build_built : {w w' : Lent} → input_check m ≡ clear → result_check m ≡ clear → Laid w w' (graph_from m) → (built (held_of w').graph ≡ build_of m) × Laid w w' (held_of w').graph
  unfolding build_of build_check held
  build_built {w} {w'} a b laid =
      let is : (held_of w').graph ≡ graph_from m = ap (λ (h : Held). h.graph) laid.holds in
      (rw (a, b) (ap built is), rw (← is) at laid)

module _ (l : List ℕ) where
  pub read_refused : {A : Type 0} (w : Lent) (e : ImageError) (r : Result A AddressBuildError) → IsErrAnd r (λ x. refusal_of x ≡ form_refusal e) → refusing (form_refusal e) ≡ read_image l
      → build_answer w r ≡ build_from l
  unfolding build_from build_read
  read_refused w e (Ok _) fails found = absurd fails
  read_refused w e (Err x) is found = rw (← found) (ap Outcome.refused is)

  pub read_built : (m : Image) → read m ≡ read_image l → build_of m ≡ build_from l
  unfolding build_from build_read
  read_built m e = rw (← e)

-- ---- the stores

pub code_laid : (m : Image) → size m ≤ 512 → {w w₁ w₂ w₃ : Lent} → Emptied w w₁ → Stored w₁ w₂ (with_table (held_of w₁) (table_of m)) → Stored w₂ w₃ (with_blocks (held_of w₂) (blocks_of m)) → Laid w w₃ (code_only m)
code_laid m most {w} {w₁} {w₂} {w₃} a b c =
    let nil : Graph = record { entry = 0; table = []; blocks = []; edges = []; regions = []; handlers = []; unresolved = []; calls = [] } in
    let one : Graph = record { entry = 0; table = table_of m; blocks = []; edges = []; regions = []; handlers = []; unresolved = []; calls = [] } in
    let held₁ : held_of w₁ ≡ held nil = a.holds ∙ held-nothing in
    let held₂ : held_of w₂ ≡ held one = b.holds ∙ ap (λ (h : Held). with_table h (table_of m)) held₁ ∙ table-held nil (table_of m) (omega (arith, length-entries m.instructions)) in
    let held₃ : held_of w₃ ≡ held (code_only m) = c.holds ∙ ap (λ (h : Held). with_blocks h (blocks_of m)) held₂ ∙ blocks_held one (blocks_of m) (omega (arith, blocks_most m most)) in
    record { holds = held₃; kept = emptied_then a (stored_then b c) }

pub edges_added : (m : Image) {w w₁ w₂ w₃ : Lent} → Added w w₁ (normal_edges m) (unresolved_of m) [] → Added w₁ w₂ (exception_edges m) [] [] → Added w₂ w₃ [] [] (calls_of m) → Added w w₃ (edges_of m) (unresolved_of m) (calls_of m)
unfolding edges_of
edges_added m {w} {w₁} {w₂} {w₃} a b c =
    rw (append-nil (unresolved_of m), append-nil (unresolved_of m), append-nil (normal_edges m ++ exception_edges m)) at (added_then (added_then a b) c)

module _ (m : Image) (accepted : Accepted m) (p : Parts m) (result : result_check m ≡ clear) {w w₁ w₂ : Lent} (code : Laid w w₁ (code_only m)) (edges : Added w₁ w₂ (edges_of m) (unresolved_of m) (calls_of m)) where
  abbrev with_edges : Graph
  with_edges =
      record { entry = 0; table = table_of m; blocks = blocks_of m; edges = edges_of m; regions = []; handlers = []; unresolved = unresolved_of m; calls = calls_of m }

  edges_held : held_of w₂ ≡ held with_edges
  edges_held =
      edges.stored.holds
      ∙ ap (λ (h : Held). adding h (edges_of m) (unresolved_of m) (calls_of m)) code.holds
      ∙ adding-held (code_only m) (edges_of m) (unresolved_of m) (calls_of m) (omega (arith, edges_few m result)) (omega (arith, unresolved_few m (passed m accepted p).sourced)) (omega (arith, calls_few m accepted.instructions_most))

  pub ready : Whole w₂ × ((held_of w₂).graph.regions ≡ []) × ((held_of w₂).graph.handlers ≡ [])
  unfolding held
  ready = rw edges_held (refl, refl, refl)

  pub graph_laid : {w₃ w₄ : Lent} {b : ℕ} → Stored w₂ w₃ (held (with_handlers (with_regions (held_of w₂).graph (regions_of m)) (handlers_of m))) → b ≡ entry_of m → Stored w₃ w₄ (entered (held_of w₃) b) → Laid w w₄ (graph_from m)
  unfolding graph_from held
  graph_laid {w₃} {w₄} {b} a is c =
      let full : Held = held (with_handlers (with_regions (held_of w₂).graph (regions_of m)) (handlers_of m)) in
      let held₄ : held_of w₄ ≡ held (graph_from m) = c.holds ∙ ap (λ (h : Held). entered h b) a.holds ∙ ap (λ (h : Held). entered (held (with_handlers (with_regions h.graph (regions_of m)) (handlers_of m))) b) edges_held ∙ ap (λ (k : ℕ). entered (held (with_handlers (with_regions with_edges (regions_of m)) (handlers_of m))) k) is in
      let all : Stored w₁ w₄ _ = stored_then edges.stored (stored_then a c) in
      record { holds = held₄; kept = untouched_then code.kept all.grows all.kept }
