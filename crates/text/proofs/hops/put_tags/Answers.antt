-- `put_tags` meets its contract. Assumes nothing.
use Rattle.image.specs.Image.{routes_in}
use Rattle.text.proofs.HopTextLaws.{tags_told, none_listed}
use Rattle.text.proofs.hops.put_tags.Goals as goal

pub returns-then-n-eq0-clause-put : goal.returns-then-n-eq0-clause-put
returns-then-n-eq0-clause-put c = rw (none_listed (routes_in c.args.s.now c.args.y) c.args.t.step c.args.t.calls 512 _ c.min-n.ensures c.if-n-eq0.true) c.put_field.ensures.put

pub returns-clause-put : goal.returns-clause-put
returns-clause-put c = rw (tags_told (routes_in c.args.s.now c.args.y) c.args.t.step c.args.t.calls 512 _ c.min-n.ensures c.if-n-eq0.false) c.put_each.ensures.put
