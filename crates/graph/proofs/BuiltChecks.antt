-- What the checks of a build let pass.
--     Parts, parts                  each of 3 to 15 found nothing
--     input_clear, result_clear     no more did 3 to 15, and 16 and 19, where the build found nothing
--     table-passes                  3 to 5, as rule 21 asks them
--     entry_starts                  6: the entry, if there is one, is a start
--     given_starts                  8: the targets of given edges are starts
--     edges_few                     19: there are 4,096 edges at most
-- Assumes nothing.
use mathlib.Core.Bool.{true, not, ◌||◌}
use mathlib.Core.Path.{◌≡◌}
use Prim.Native.Nat.{ℕ, ◌≤◌, ◌<◌}
use borrow.Author.Tests.{leb-true}
use lib.ListN.{length}
use Rattle.image.specs.Refusal.{clear, refusal, ◌then◌}
use Rattle.image.specs.Image.{Image}
use Rattle.image.proofs.Checks.{then_left, then_right, unless_clear}
use Rattle.graph.specs.Fold.{checks}
use Rattle.graph.specs.Table.{is_start}
use Rattle.graph.specs.Transfer.{table_of, size, address_at, is_given, given_at, given}
use Rattle.graph.specs.Route.{route_check}
use Rattle.graph.specs.Leaders.{routes}
use Rattle.graph.specs.Edges.{edges_of}
use Rattle.graph.specs.Build.{table_check, entry_check, source_check, target_check, given_check, handler_check, continuation_check, input_check, result_check, build_check}
use Rattle.graph.specs.WellFormed.{passes}
use Rattle.graph.proofs.CheckLaws.{checks_at}

pub record Parts (m : Image) : Type 0 where
  pub table : table_check (table_of m) ≡ clear
  pub entry : entry_check m ≡ clear
  pub sources : checks (source_check m) (length m.sources) ≡ clear
  pub given : checks (given_check m) (size m) ≡ clear
  pub handlers : checks (handler_check m) (length m.handlers) ≡ clear
  pub routed : checks (route_check (table_of m) (routes m)) (length (routes m)) ≡ clear

module _ (m : Image) where
  pub parts : input_check m ≡ clear → Parts m
  unfolding input_check
  parts h =
      let a = table_check (table_of m) in
      let b = a then entry_check m in
      let c = b then checks (source_check m) (length m.sources) in
      let d = c then checks (given_check m) (size m) in
      let e = d then checks (handler_check m) (length m.handlers) in
      let he = then_left e _ h in
      let hd = then_left d _ he in
      let hc = then_left c _ hd in
      let hb = then_left b _ hc in
      record {
        table = then_left a _ hb;
        entry = then_right a _ hb;
        sources = then_right b _ hc;
        given = then_right c _ hd;
        handlers = then_right d _ he;
        routed = then_right e _ h;
      }

  module _ (clears : build_check m ≡ clear) where
    pub input_clear : input_check m ≡ clear
    unfolding build_check
    input_clear = then_left (input_check m) (result_check m) clears

    pub result_clear : result_check m ≡ clear
    unfolding build_check
    result_clear = then_right (input_check m) (result_check m) clears

    pub table-passes : passes (table_check (table_of m)) ≡ true
    table-passes = rw (parts input_clear).table

  pub entry_starts : m.header.has_entry ≡ true → entry_check m ≡ clear → is_start (table_of m) m.header.entry ≡ true
  unfolding entry_check
  entry_starts e h =
      let starts = unless_clear (not m.header.has_entry || is_start (table_of m) m.header.entry) (refusal 6 m.header.entry 0) h in
      rw e at starts

  pub given_starts : checks (given_check m) (size m) ≡ clear → (p : ℕ) → p < size m → is_given m p ≡ true
      → (k : ℕ) → k < length (given_at m p) → is_start (table_of m) (given m p k).target ≡ true
  unfolding given_check
  given_starts passed p here e k hk =
      unless_clear _ _
      (checks_at (λ i. target_check (table_of m) (address_at m p) (given m p i)) (length (given_at m p)) k (rw e at (checks_at (given_check m) (size m) p passed here)) hk)

  pub edges_few : result_check m ≡ clear → length (edges_of m) ≤ 4096
  unfolding result_check
  edges_few h = leb-true (length (edges_of m)) 4096 (unless_clear _ _ (then_right (checks (continuation_check m) (size m)) _ h))
