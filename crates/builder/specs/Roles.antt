-- The numbers of roles and kinds.
use Rattle.std.specs.Prelude.{ℕ}
use Rattle.graph.specs.Flow.{Kind, Role, Unresolved}
use Rattle.builder.specs.declared.roles.EdgeRole.{EdgeRole}
use Rattle.builder.specs.declared.roles.EdgeRole.TheVariants as R
use Rattle.builder.specs.declared.roles.EdgeKind.{EdgeKind}
use Rattle.builder.specs.declared.roles.EdgeKind.TheVariants as K
use Rattle.builder.specs.declared.roles.UnresolvedRole.{UnresolvedRole}
use Rattle.builder.specs.declared.roles.UnresolvedRole.TheVariants as U

abbrev pub role_of : EdgeRole → ℕ
role_of R.Sequential = Role.sequential
role_of R.ConditionalTaken = Role.conditional_taken
role_of R.ConditionalFallThrough = Role.conditional_fall_through
role_of R.Jump = Role.jump
role_of R.SwitchDefault = Role.switch_default
role_of R.SwitchCase = Role.switch_case
role_of R.Call = Role.call
role_of R.CallContinuation = Role.call_continuation
role_of R.Exceptional = Role.exceptional
role_of R.Unwind = Role.unwind

abbrev pub kind_in : EdgeKind → ℕ
kind_in K.Fallthrough = Kind.fallthrough
kind_in K.ConditionalTrue = Kind.conditional_true
kind_in K.ConditionalFalse = Kind.conditional_false
kind_in K.Jump = Kind.jump
kind_in K.SwitchCase = Kind.switch_case
kind_in K.Call = Kind.call
kind_in K.CallReturn = Kind.call_return
kind_in K.ExceptionUnwind = Kind.exception_unwind

abbrev pub unresolved_in : UnresolvedRole → ℕ
unresolved_in U.Indirect = Unresolved.indirect
unresolved_in U.IndirectCall = Unresolved.indirect_call
unresolved_in U.ConditionalTaken = Unresolved.conditional_taken
unresolved_in U.ConditionalIndirect = Unresolved.conditional_indirect
unresolved_in U.Jump = Unresolved.jump
unresolved_in U.SwitchDefault = Unresolved.switch_default
unresolved_in U.SwitchCase = Unresolved.switch_case
unresolved_in U.Call = Unresolved.call
unresolved_in U.Exceptional = Unresolved.exceptional
unresolved_in U.Trap = Unresolved.trap
