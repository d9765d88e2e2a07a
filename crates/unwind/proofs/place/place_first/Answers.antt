-- `place_first` meets its contract: the set is emptied, and the part is put into it unless the node is a root. Assumes nothing.
use mathlib.Core.Path.{refl}
use Rattle.unwind.proofs.SlotLaws.{put_same, put_again}
use Rattle.unwind.proofs.place.place_first.Goals as goal

pub returns-then-f-ne0-clause-placed : goal.returns-then-f-ne0-clause-placed
returns-then-f-ne0-clause-placed c = record { bases_set = refl; entries_set = refl; part_put = put_again c.empty_set.ensures c.part_of.ensures.others }

pub returns-else-f-ne0-clause-placed : goal.returns-else-f-ne0-clause-placed
returns-else-f-ne0-clause-placed c = let emptied = c.empty_set.ensures in
    record { bases_set = refl; entries_set = refl; part_put = put_again (put_same _ _) emptied }
