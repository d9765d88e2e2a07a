-- Records that are there: each byte of them is one of the bytes that were read.
use Rattle.std.specs.Prelude.{◌≡◌, List, ℕ, ◌≤◌, length, Result, Ok, Err}
use Rattle.image.specs.Image.{place_in}
use Rattle.image.specs.declared.section.Section.{Section}
use Rattle.image.specs.declared.section.CodeLayout.{CodeLayout}
use Rattle.image.specs.declared.section.RouteLayout.{RouteLayout}
use Rattle.image.specs.declared.section.Layout.{Layout}
use Rattle.image.specs.declared.form.ImageError.{ImageError}

-- all records of a section, w bytes each
abbrev pub Holds : List ℕ → Section → ℕ → Type 0
Holds l y w = (y.width ≡ w) × (place_in y y.count ≤ length l)

-- all of the three sections of routes
pub record RoutesThere (l : List ℕ) (y : RouteLayout) : Type 0 where
  pub routes_there : Holds l y.routes 20
  pub paths_there : Holds l y.paths 13
  pub steps_there : Holds l y.steps 9

-- those of routes that were read
abbrev pub RoutesReadThere : List ℕ → Result RouteLayout ImageError → Type 0
RoutesReadThere l (Ok y) = RoutesThere l y
RoutesReadThere l (Err e) = Unit {0}

-- all of the five sections before them
pub record CodeThere (l : List ℕ) (y : CodeLayout) : Type 0 where
  pub instructions_there : Holds l y.instructions 31
  pub cases_there : Holds l y.cases 12
  pub sources_there : Holds l y.sources 12
  pub edges_there : Holds l y.edges 13
  pub handlers_there : Holds l y.handlers 29

-- all of the eight sections of an image
pub record ImageThere (l : List ℕ) (y : Layout) : Type 0 where
  pub instructions_there : Holds l y.code.instructions 31
  pub cases_there : Holds l y.code.cases 12
  pub sources_there : Holds l y.code.sources 12
  pub edges_there : Holds l y.code.edges 13
  pub handlers_there : Holds l y.code.handlers 29
  pub routes_there : RoutesThere l y.routes

abbrev pub ImageReadThere : List ℕ → Result Layout ImageError → Type 0
ImageReadThere l (Ok y) = ImageThere l y
ImageReadThere l (Err e) = Unit {0}
