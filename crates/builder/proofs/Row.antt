-- A loop over a row of checks: those before k are clear.
--     row_none, row_more     none of them, and one more
--     row_stops, row_ends    the row, where check k is refused, and where all are clear
-- Assumes nothing.
use mathlib.Core.Path.{◌≡◌, refl, sym, ap, ◌∙◌}
use mathlib.Core.List.{List}
use Prim.Native.Nat.{ℕ, ◌+◌, ◌<◌}
use native.Mathlib.Omega.{arith}
use lib.ListN.{length, take}
use lib.Seq.{take_all}
use Rattle.image.specs.Refusal.{Check, Refusal, clear, refused}
use Rattle.image.proofs.Checks.{checks_stop, checks-more}
use Rattle.graph.specs.declared.record.TableEntry.{TableEntry}
use Rattle.graph.specs.Fold.{checks}
use Rattle.graph.specs.Table.{code_end_of}

module _ (f : ℕ → Check) where
  pub row_none : checks f 0 ≡ clear
  unfolding checks
  row_none = refl

  pub row_more : (k : ℕ) → checks f k ≡ clear → clear ≡ f k → checks f (k + 1) ≡ clear
  row_more k before here = checks-more f k before ∙ sym here

  pub row_stops : (k n : ℕ) (r : Refusal) → k < n → checks f k ≡ clear → refused r ≡ f k → refused r ≡ checks f n
  row_stops k n r within before here = sym (checks_stop f k n r within before (sym here))

  pub row_ends : (k n : ℕ) → k ≡ n → checks f k ≡ clear → clear ≡ checks f n
  row_ends k n all before = sym before ∙ ap (checks f) all

pub row_end : (t : List TableEntry) (k : ℕ) → k ≡ length t → code_end_of (take k t) ≡ code_end_of t
row_end t k all = ap code_end_of (take_all k t (omega (arith, all)))

pub ruleset rows = (row_none, row_more, row_stops, row_ends)
