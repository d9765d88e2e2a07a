-- What the code finds, as a check, and document 01's number and values for each of its errors.
use Rattle.std.specs.Prelude.{Result, Ok, Err}
use Rattle.image.specs.Refusal.{Refusal, refusal, Check, clear, refused}
use Rattle.image.specs.declared.form.ImageError.{ImageError}
use Rattle.image.specs.declared.form.ImageError.TheVariants.{BadForm, OverLimit}

-- '1 bad form, byte offset'; '2 count over its limit, its offset'
abbrev pub refusal_of : ImageError → Refusal
refusal_of (BadForm offset) = refusal 1 offset 0
refusal_of (OverLimit offset) = refusal 2 offset 0

abbrev pub check_of : {A : Type 0} → Result A ImageError → Check
check_of (Ok _) = clear
check_of (Err e) = refused (refusal_of e)
