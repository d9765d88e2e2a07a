-- One pass behind the other. Assumes nothing.
use Rattle.builder.specs.Code.{image_of}
use Rattle.builder.proofs.BuildLaws.{edges_added}
use Rattle.builder.proofs.build.store_edges.Goals as goal

pub returns : goal.returns
returns c = edges_added (image_of c.args.numbered.now.code) c.add_normal_edges.ensures c.add_exception_edges.ensures c.add_calls.ensures
