-- Document 01's number and values for each error, and what the code's checks find.
use Rattle.std.specs.Prelude.{Result, Ok, Err}
use Rattle.image.specs.Refusal.{Refusal, refusal, Check, clear, refused}
use Rattle.graph.specs.declared.error.AddressBuildError.{AddressBuildError}
use Rattle.graph.specs.declared.error.AddressBuildError.TheVariants.{BadForm, OverLimit, AddressOverflow, ZeroSizeInstruction, UnorderedInstruction, MissingEntry, MissingGivenSource, MissingGivenTarget, TransferWithoutGivenEdges, EmptyProtectedRange, MissingRangeStart, MissingRangeEnd, MissingHandlerEntry, MissingRouteEntry, ResumeAfterFunclet, MissingContinuation, RouteAddressNotBlockStart, TooManyBlocks, TooManyEdges, TooManyHops, NoGraph}

-- '3 to 17 carry the fields of the Rust error of that name, in its order; 18 to 21 carry none.'
abbrev pub refusal_of : AddressBuildError → Refusal
refusal_of (BadForm o) = refusal 1 o 0
refusal_of (OverLimit o) = refusal 2 o 0
refusal_of (AddressOverflow a) = refusal 3 a 0
refusal_of (ZeroSizeInstruction a) = refusal 4 a 0
refusal_of (UnorderedInstruction p a) = refusal 5 p a
refusal_of (MissingEntry a) = refusal 6 a 0
refusal_of (MissingGivenSource a) = refusal 7 a 0
refusal_of (MissingGivenTarget s t) = refusal 8 s t
refusal_of (TransferWithoutGivenEdges a) = refusal 9 a 0
refusal_of (EmptyProtectedRange s e) = refusal 10 s e
refusal_of (MissingRangeStart a) = refusal 11 a 0
refusal_of (MissingRangeEnd a) = refusal 12 a 0
refusal_of (MissingHandlerEntry a) = refusal 13 a 0
refusal_of (MissingRouteEntry a) = refusal 14 a 0
refusal_of (ResumeAfterFunclet r) = refusal 15 r 0
refusal_of (MissingContinuation s t) = refusal 16 s t
refusal_of (RouteAddressNotBlockStart a) = refusal 17 a 0
refusal_of TooManyBlocks = refusal 18 0 0
refusal_of TooManyEdges = refusal 19 0 0
refusal_of TooManyHops = refusal 20 0 0
refusal_of NoGraph = refusal 21 0 0

abbrev pub check_of : {A : Type 0} → Result A AddressBuildError → Check
check_of (Ok _) = clear
check_of (Err e) = refused (refusal_of e)
