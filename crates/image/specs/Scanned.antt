-- What the reading of routes and of an image answers: the records that the layout has in the bytes, or the refusal.
use Rattle.std.specs.Prelude.{List, ℕ, Result, Ok, Err}
use Rattle.image.specs.Verdict.{refusal_of}
use Rattle.image.specs.Image.{Image, RouteImage, image_in, routes_in}
use Rattle.image.specs.Read.{Reading, read, refusing}
use Rattle.image.specs.declared.form.ImageError.{ImageError}
use Rattle.image.specs.declared.section.RouteLayout.{RouteLayout}
use Rattle.image.specs.declared.section.Layout.{Layout}

abbrev pub routes_answer : List ℕ → Result RouteLayout ImageError → Reading RouteImage
routes_answer l (Ok y) = read (routes_in l y)
routes_answer l (Err e) = refusing (refusal_of e)

abbrev pub image_answer : List ℕ → Result Layout ImageError → Reading Image
image_answer l (Ok y) = read (image_in l y)
image_answer l (Err e) = refusing (refusal_of e)
