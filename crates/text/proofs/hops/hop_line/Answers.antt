-- `hop_line` meets its contract: one field behind the other, and the tags. Assumes nothing.
use mathlib.Core.Path.{refl, ap}
use native.Mathlib.Omega.{arith}
use borrow.Author.Rules.{rules}
use Rattle.image.specs.Image.{routes_in}
use Rattle.unwind.specs.declared.hops.HopRow.{HopRow}
use Rattle.text.specs.Line.{bytes}
use Rattle.text.proofs.PutLaws.{◌then◌, told}
use Rattle.text.proofs.HopTextLaws.{lists_few, hop_there, list_there, told_at_law, none_told}
use Rattle.text.proofs.hops.hop_line.Goals as goal

pub returns-then-lists_of-k : goal.returns-then-lists_of-k
returns-then-lists_of-k c =
    let m = routes_in c.args.s.now c.args.y in
    rw (none_told m c.args.h.now c.args.i c.args.k (omega (arith, c.lists_of.ensures m))) (record { bytes = refl; count = refl; fits = search rules })

pub hop_at-x-requires : goal.hop_at-x-requires
hop_at-x-requires c =
    let m = routes_in c.args.s.now c.args.y in
    hop_there m c.args.h.now c.args.i c.args.k (omega (arith, c.lists_of.ensures m))

pub list_at-t-requires : goal.list_at-t-requires
list_at-t-requires c =
    let m = routes_in c.args.s.now c.args.y in
    rw c.hop_at-x.ensures (list_there m c.args.h.now c.args.i c.args.k (omega (arith, c.lists_of.ensures m))).1

pub overflow_add-x : goal.overflow_add-x
overflow_add-x c =
    let m = routes_in c.args.s.now c.args.y in
    omega (arith, ap (λ (x : HopRow). x.first) c.hop_at-x.ensures, list_there m c.args.h.now c.args.i c.args.k (omega (arith, c.lists_of.ensures m)), lists_few c.args.h.now)

pub returns : goal.returns
unfolding bytes
returns c =
    let m = routes_in c.args.s.now c.args.y in
    rw (told_at_law m c.args.h.now c.args.i c.args.k (omega (arith, c.lists_of.ensures m)), ← c.hop_at-x.ensures, ← c.list_at-t.ensures, ← c.end_field.ensures)
    (told (c.put_word-at.ensures then c.put_field-at.ensures.put then c.put_field-at-2.ensures.put then c.put_tags-at.ensures.put then c.put_end.ensures) (omega arith))
