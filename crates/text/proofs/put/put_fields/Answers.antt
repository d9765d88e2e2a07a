use native.Mathlib.Omega.{arith}
use mathlib.Core.Path.{refl}
use Rattle.text.specs.Line.{fields}
use Rattle.text.proofs.PutLaws.{field_put}
use Rattle.text.proofs.put.put_fields.Goals as goal

pub loop-f-init : goal.loop-f-init
unfolding fields
loop-f-init c = record { put = record { stored = refl; next = omega arith }; near = omega arith; room = refl }

pub loop-f-preserved : goal.loop-f-preserved
loop-f-preserved c = record {
  put = field_put _ _ _ c.loop-f-test.true c.loop-f.invariant.put c.put_field-next.ensures.put;
  near = omega arith;
  room = omega arith;
}
