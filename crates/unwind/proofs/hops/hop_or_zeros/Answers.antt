-- `hop_or_zeros` meets its contract: past the last there is none. Assumes nothing.
use mathlib.Core.Path.{sym}
use mathlib.Core.List.{[]}
use native.Mathlib.Omega.{arith}
use lib.ListN.{get_or-eq_default}
use Rattle.unwind.specs.HopWords.{hop_row, rows_in}
use Rattle.unwind.proofs.hops.hop_or_zeros.Goals as goal

pub returns : goal.returns
returns c = sym (get_or-eq_default (rows_in c.args.h.now).hops (hop_row []) (omega arith))
