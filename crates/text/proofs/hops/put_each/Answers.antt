use mathlib.Core.Path.{refl}
use native.Mathlib.Omega.{arith}
use Rattle.image.specs.Image.{routes_in}
use Rattle.unwind.specs.Nodes.{tags_in}
use Rattle.text.specs.Line.{fields}
use Rattle.text.proofs.PutLaws.{◌then◌}
use Rattle.text.proofs.HopTextLaws.{tags_put}
use Rattle.text.proofs.hops.put_each.Goals as goal

pub loop-j-init : goal.loop-j-init
unfolding tags_in fields
loop-j-init c = record { put = record { stored = refl; next = omega arith }; near = omega arith; room = refl }

pub loop-j-preserved : goal.loop-j-preserved
loop-j-preserved c = record {
  put = rw (tags_put (routes_in c.args.s.now c.args.y) c.args.step c.loop-j.j, ← c.tag_at-tag.ensures) (c.loop-j.invariant.put then c.put_field-next.ensures.put);
  near = omega arith;
  room = omega arith;
}
