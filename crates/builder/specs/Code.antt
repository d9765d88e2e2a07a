-- What the code that all builds share holds.
use Rattle.image.specs.Image.{Image}
use Rattle.image.specs.Whole.{contents}
use Rattle.builder.specs.declared.code.Code.{Code}

abbrev pub image_of : Code → Image
image_of c = contents c.image
