-- Calls that read as a definition says and can also want memory.
use Rattle.std.specs.Prelude.{◌≡◌, Bool, Result, Ok, Err}
use Rattle.rationals.specs.Replies.{Reply, IsReply, reply_by}
use Rattle.rationals.specs.Replies.Reply.{Says, Silent, Never}
use Rattle.refusals.specs.declared.cause.Cause.{Cause}
use Rattle.refusals.specs.declared.cause.Cause.TheVariants as cause
use Rattle.report_reader.specs.declared.fault.Fault.{Fault}
use Rattle.report_reader.specs.declared.fault.Fault.TheVariants.{Refused, Memory}

-- what an error says: the cause
abbrev pub cause_says : {X : Type 0} → Fault → Reply (Result X Cause)
cause_says (Refused c) = Says (Err c)
cause_says Memory = Silent

-- what an error says of what is read
abbrev pub FaultOf : {X : Type 0} → Result X Cause → Fault → Type 0
FaultOf read fault = IsReply read (cause_says fault)

-- the call gives what is read, or the cause why it isn't, or memory is wanting
abbrev pub Reads : {X : Type 0} → Result X Cause → Result X Fault → Type 0
Reads read r = IsReply read (reply_by (λ x. x) cause_says r)

-- what is read of what was read before
abbrev pub on_ok : {X Y : Type 0} → Result X Cause → (X → Result Y Cause) → Result Y Cause
on_ok (Ok x) f = f x
on_ok (Err c) f = Err c

-- a line that isn't of the grammar
abbrev pub bad : {X : Type 0} → Result X Cause
bad = Err cause.ReportBad

-- what an error says of a flag: never a cause
abbrev pub flag_says : Fault → Reply Bool
flag_says (Refused c) = Never
flag_says Memory = Silent

-- the call gives this flag, or memory is wanting
abbrev pub FlagIs : Bool → Result Bool Fault → Type 0
FlagIs flag (Ok b) = b ≡ flag
FlagIs flag (Err fault) = IsReply flag (flag_says fault)
