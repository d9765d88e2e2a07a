-- What the checks of ranges, handlers and routes ask and answer.
use Rattle.std.specs.Prelude.{◌≡◌, List, ◌++◌, ℕ, ◌<◌, ◌≤◌, length, Result, Ok, Err}
use Rattle.image.specs.Refusal.{Check, clear, refused, refusal, unless}
use Rattle.image.specs.Image.{Image}
use Rattle.image.specs.Deal.{UnwindPath}
use Rattle.graph.specs.declared.record.TableEntry.{TableEntry}
use Rattle.graph.specs.Fold.{checks, check_each}
use Rattle.graph.specs.Table.{is_start, below, code_end_of, range_check}
use Rattle.graph.specs.Transfer.{table_of}
use Rattle.graph.specs.Leaders.{routes}
use Rattle.graph.specs.Route.{funclets, handler_of, route_check}
use Rattle.graph.specs.Build.{table_check, handler_check}
use Rattle.builder.specs.declared.ranges.Positions.{Positions}
use Rattle.builder.specs.declared.ranges.RangeError.{RangeError}
use Rattle.builder.specs.declared.ranges.RangeError.TheVariants.{Empty, NoStart, NoEnd}

-- 3 to 5 found nothing in the table, which ends at `end`
abbrev pub Ended : List TableEntry → ℕ → Type 0
Ended t end = (table_check t ≡ clear) × (end ≡ code_end_of t)

-- the positions of a range, from `first` up to `past`, or which refusal it is
abbrev pub Ranges : List TableEntry → ℕ → ℕ → Result Positions RangeError → Type 0
Ranges t start end (Ok p) =
    (range_check t start end ≡ clear) × (p.first ≡ below t start) × (p.past ≡ below t end) × (p.first < p.past) × (p.past ≤ length t)
Ranges t start end (Err Empty) = range_check t start end ≡ refused (refusal 10 start end)
Ranges t start end (Err NoStart) = range_check t start end ≡ refused (refusal 11 start 0)
Ranges t start end (Err NoEnd) = range_check t start end ≡ refused (refusal 12 end 0)

-- 14 of one entry, and of a path: its funclets, and then its handler
abbrev pub named_check : List TableEntry → ℕ → Check
named_check t a = unless (is_start t a) (refusal 14 a 0)

abbrev pub path_check : List TableEntry → UnwindPath → Check
path_check t p = check_each (named_check t) (funclets p ++ handler_of p.end)

-- the handlers of an image, and its routes
abbrev pub handlers_check : Image → Check
handlers_check m = checks (handler_check m) (length m.handlers)

abbrev pub routes_check : Image → Check
routes_check m = checks (route_check (table_of m) (routes m)) (length (routes m))
