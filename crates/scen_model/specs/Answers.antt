-- What a call answers, by its walk.
use Rattle.std.specs.Prelude.{Bool, true, false, Option, Some, None, Result, Ok, Err}
use Rattle.rationals.specs.Replies.{Reply, IsReply, reply_by}
use Rattle.rationals.specs.Replies.Reply.{Says, Silent, Never}
use Rattle.rationals.specs.Passes.{Operation}
use Rattle.scen_model.specs.declared.stop.Stop.{Stop}
use Rattle.scen_model.specs.declared.stop.Stop.TheVariants.{Decided, Passed as PassedStop}
use Rattle.scen_defs.specs.declared.report.Halt.{Halt}
use Rattle.scen_defs.specs.declared.report.Halt.TheVariants.{Passed, Memory}
use Rattle.scen_defs.specs.declared.report.Place.{Place}
use Rattle.scen_defs.specs.declared.report.Place.TheVariants.{Solve, Cut, Cost, Ground, Dual, Check}

-- what is said of a check, where the place is one
abbrev pub at_check : {End : Type 0} → Place → End → Reply End
at_check Check end = Says end
at_check (Solve k) end = Never
at_check (Cut k) end = Never
at_check (Cost k) end = Never
at_check Ground end = Never
at_check Dual end = Never

-- what an early end says: the first operation of the walk that passes
abbrev pub halt_says : {X : Type 0} → Halt → Reply (Result X Operation)
halt_says (Passed place p) = at_check place (Err p)
halt_says Memory = Silent

-- why the call ends early: the first operation of the walk that passes, or want of memory
abbrev pub HaltOf : {X : Type 0} → Result X Operation → Halt → Type 0
HaltOf walk halt = IsReply walk (halt_says halt)

-- the call gives the walk's value, or the operation in which the walk ends, or memory is wanting
abbrev pub Answers : {X : Type 0} → Result X Operation → Result X Halt → Type 0
Answers walk r = IsReply walk (reply_by (λ x. x) halt_says r)

-- ---- answers of a walk that may be stopped by what decides them
-- what an early end says: the operation in which the walk ends
abbrev pub stop_says : {X : Type 0} → Halt → Reply (Result X Stop)
stop_says (Passed place p) = at_check place (Err (PassedStop p))
stop_says Memory = Silent

-- a value, or nothing where the walk is stopped
abbrev pub option_says : {X : Type 0} → Result (Option X) Halt → Reply (Result X Stop)
option_says (Ok (Some x)) = Says (Ok x)
option_says (Ok None) = Says (Err Decided)
option_says (Err halt) = stop_says halt

-- yes where the walk comes to its end, no where it is stopped
abbrev pub test_says : Result Bool Halt → Reply (Result (Unit {0}) Stop)
test_says (Ok true) = Says (Ok tt)
test_says (Ok false) = Says (Err Decided)
test_says (Err halt) = stop_says halt

-- the walk's value; or nothing where the walk is stopped; or the operation in which it ends, or want of memory
abbrev pub AnswersOption : {X : Type 0} → Result X Stop → Result (Option X) Halt → Type 0
AnswersOption walk r = IsReply walk (option_says r)

-- yes where the walk comes to its end, no where it is stopped; or the operation in which it ends, or want of memory
abbrev pub AnswersTest : Result (Unit {0}) Stop → Result Bool Halt → Type 0
AnswersTest walk r = IsReply walk (test_says r)
