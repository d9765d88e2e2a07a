-- An answer in ten words: 0 and 0, or the refusal's number and its first value; then how many records each section has.
use Rattle.std.specs.Prelude.{List, [], ◌∷◌, ℕ, length}
use Rattle.image.specs.Refusal.{Refusal}
use Rattle.image.specs.Image.{Image, RouteImage}
use Rattle.image.specs.Read.{Reading, read, refusing}

abbrev pub refusal_words : Refusal → List ℕ
refusal_words r = r.number ∷ r.first ∷ 0 ∷ 0 ∷ 0 ∷ 0 ∷ 0 ∷ 0 ∷ 0 ∷ 0 ∷ []

abbrev pub route_words : RouteImage → List ℕ
route_words m = length m.routes ∷ length m.paths ∷ length m.steps ∷ []

abbrev pub told_image : Reading Image → List ℕ
told_image (read m) =
    0 ∷ 0 ∷ length m.instructions ∷ length m.cases ∷ length m.sources ∷ length m.edges ∷ length m.handlers ∷ route_words m.routes
told_image (refusing r) = refusal_words r

abbrev pub told_routes : Reading RouteImage → List ℕ
told_routes (read m) = 0 ∷ 0 ∷ 0 ∷ 0 ∷ 0 ∷ 0 ∷ 0 ∷ route_words m
told_routes (refusing r) = refusal_words r
