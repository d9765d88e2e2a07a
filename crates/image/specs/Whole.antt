-- What an image or its routes hold, once they are read, and what their reading answers.
use Rattle.std.specs.Prelude.{Result, Ok, Err}
use Rattle.image.specs.Verdict.{refusal_of}
use Rattle.image.specs.Image.{Image, RouteImage, image_in, routes_in}
use Rattle.image.specs.Read.{Reading, read, refusing}
use Rattle.image.specs.declared.form.ImageError.{ImageError}
use Rattle.image.specs.declared.whole.Image.{Image as Held}
use Rattle.image.specs.declared.whole.Routes.{Routes as HeldRoutes}

abbrev pub contents : Held → Image
contents h = image_in h.bytes.now h.layout

abbrev pub routes_of : HeldRoutes → RouteImage
routes_of h = routes_in h.bytes.now h.layout

abbrev pub reading_of : Result Held ImageError → Reading Image
reading_of (Ok h) = read (contents h)
reading_of (Err e) = refusing (refusal_of e)

abbrev pub routes_reading_of : Result HeldRoutes ImageError → Reading RouteImage
routes_reading_of (Ok h) = read (routes_of h)
routes_reading_of (Err e) = refusing (refusal_of e)
