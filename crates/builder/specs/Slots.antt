-- The slots and transfers of the code, by the numbers of `Flow.antt`.
use Rattle.std.specs.Prelude.{ℕ, zero, suc}
use Rattle.graph.specs.Flow.{From, Slot, slots_of}
use Rattle.graph.specs.Transfer.{Transfer}
use Rattle.builder.specs.Roles.{role_of}
use Rattle.builder.specs.declared.transfer.Origin.{Origin}
use Rattle.builder.specs.declared.transfer.Origin.TheVariants.{Nowhere, Computed, Named, End}
use Rattle.builder.specs.declared.transfer.Slot.{Slot as OneSlot}
use Rattle.builder.specs.declared.transfer.Slots.{Slots}
use Rattle.builder.specs.declared.transfer.Transfer.{Transfer as OneTransfer}

abbrev pub from_of : Origin → ℕ
from_of Nowhere = From.nowhere
from_of Computed = From.computed
from_of Named = From.named
from_of End = From.end

abbrev pub slot_in : OneSlot → Slot
slot_in x = record { role = role_of x.0; from = from_of x.1 }

abbrev pub slots_in : Slots → Slot × Slot
slots_in x = (slot_in x.0, slot_in x.1)

-- the slot of transfer k of a flow, if it has one
abbrev pub slot_at : ℕ → ℕ → Slot
slot_at flow zero = (slots_of flow).0
slot_at flow (suc k) = (slots_of flow).1

abbrev pub transfer_in : OneTransfer → Transfer
transfer_in x = record { role = role_of x.role; from = from_of x.from; target = x.target; number = x.number; key = x.key }
