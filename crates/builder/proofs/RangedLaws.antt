-- Ranges as they are looked up.
--     has_positions    one that no check refuses has positions
-- Assumes nothing.
use mathlib.Core.Path.{◌≡◌, refl}
use mathlib.Core.List.{List}
use Prim.Native.Nat.{ℕ}
use Rattle.image.specs.Refusal.{clear}
use Rattle.image.proofs.Checks.{not_clear}
use Rattle.graph.specs.declared.record.TableEntry.{TableEntry}
use Rattle.graph.specs.Table.{range_check}
use Rattle.builder.specs.Ranges.{Ranges}
use Rattle.builder.specs.declared.ranges.Positions.{Positions}
use Rattle.builder.specs.declared.ranges.RangeError.{RangeError}
use Rattle.builder.specs.declared.ranges.RangeError.TheVariants.{Empty, NoStart, NoEnd}
use Rattle.std.proofs.Common.{Result, Ok, Err}

module _ (t : List TableEntry) (start end : ℕ) (passes : range_check t start end ≡ clear) where
  pub has_positions : (r : Result Positions RangeError) → Ranges t start end r → ((p : Positions) → r ≡ Ok p → ⊥) → ⊥
  has_positions (Ok p) range other = other p refl
  has_positions (Err Empty) range other = not_clear range passes
  has_positions (Err NoStart) range other = not_clear range passes
  has_positions (Err NoEnd) range other = not_clear range passes
