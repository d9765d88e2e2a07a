-- The table of transfers.
--     slots_at     the code's table, by its numbers, is the definition's
-- Assumes nothing.
use mathlib.Core.Path.{◌≡◌, refl, sym, ◌∙◌}
use mathlib.Core.List.{List, [], ◌∷◌}
use Prim.Native.Nat.{ℕ, zero, suc, ◌<◌, ◌≤◌}
use native.Mathlib.Omega.{arith}
use lib.ListN.{length, get_or, get_or-map}
use Rattle.graph.specs.Flow.{empty, slots, slots_of}
use Rattle.builder.specs.Slots.{slots_in}
use Rattle.builder.specs.declared.roles.EdgeRole.{EdgeRole}
use Rattle.builder.specs.declared.roles.EdgeRole.TheVariants as R
use Rattle.builder.specs.declared.transfer.Origin.{Origin}
use Rattle.builder.specs.declared.transfer.Origin.TheVariants.{Nowhere, Computed, Named, End}
use Rattle.builder.specs.declared.transfer.Slot.{Slot as OneSlot}
use Rattle.builder.specs.declared.transfer.Slots.{Slots}

default : {A : Type 0} (l : List A) (k : ℕ) (d e : A) → k < length l → get_or l k d ≡ get_or l k e
default [] k d e h = absurd (omega arith)
default (x ∷ l) zero d e h = refl
default (x ∷ l) (suc k) d e h = default l k d e (omega arith)

abbrev one : EdgeRole → Origin → OneSlot
one r f = (r, f)

abbrev two : OneSlot → OneSlot → Slots
two a b = (a, b)

-- the table of the code
abbrev pub table : List Slots
table =
    let none = one R.Sequential Nowhere in
    let next = one R.Sequential End in
    let fall = one R.ConditionalFallThrough End in
    let back = one R.CallContinuation End in
    two next none ∷
    two none none ∷
    two none none ∷
    two (one R.Jump Computed) none ∷
    two (one R.ConditionalTaken Computed) fall ∷
    two (one R.Call Computed) back ∷
    two (one R.Jump Named) none ∷
    two (one R.ConditionalTaken Named) fall ∷
    two (one R.Call Named) back ∷
    two (one R.Exceptional Named) next ∷
    two (one R.Exceptional Computed) none ∷
    two (one R.Exceptional Computed) next ∷
    two (one R.SwitchDefault Named) none ∷
    []

-- both tables are written out, so that they are the same is computed
pub slots_at : (k : ℕ) (d : Slots) → k ≤ 12 → slots_in (get_or table k d) ≡ slots_of k
unfolding slots_of slots
slots_at k d h = sym (get_or-map slots_in table k d) ∙ default slots k (slots_in d) (empty, empty) (omega arith)
