-- What code that reads gives, where a definition gives a value or a cause. Memory may run out.
use Rattle.std.specs.Prelude.{ℕ, Result, Err}
use Rattle.rationals.specs.Replies.{Reply, IsReply, reply_by}
use Rattle.rationals.specs.Replies.Reply.{Says, Silent}
use Rattle.refusals.specs.declared.cause.Cause.{Cause}
use Rattle.refusals.specs.declared.cause.ReadFail.{ReadFail}
use Rattle.refusals.specs.declared.cause.ReadFail.TheVariants as fail
use Rattle.refusals.specs.declared.cause.Refusal.{Refusal}
use Rattle.reader_defs.specs.declared.stop.Stop.{Stop}
use Rattle.reader_defs.specs.declared.stop.Stop.TheVariants as stop

-- what a stop says: the cause
abbrev pub stop_says : {B : Type 0} → Stop → Reply (Result B Cause)
stop_says stop.Memory = Silent
stop_says (stop.Fault cause) = Says (Err cause)

-- The value is the definition's, or the cause is, unless memory ran out.
abbrev pub Gives : {A B : Type 0} → (A → B) → Result A Stop → Result B Cause → Type 0
Gives view result given = IsReply given (reply_by view stop_says result)

-- what a failed reading says: the refusal
abbrev pub fail_says : {B : Type 0} → ReadFail → Reply (Result B Refusal)
fail_says fail.Memory = Silent
fail_says (fail.Refused refusal) = Says (Err refusal)

-- The text is read so, or refused at that line with that cause, unless memory ran out.
abbrev pub ReadsAs : {A B : Type 0} → (A → B) → Result A ReadFail → Result B Refusal → Type 0
ReadsAs view result given = IsReply given (reply_by view fail_says result)

-- the line is refused, unless memory ran out
abbrev pub refused : ℕ → Stop → ReadFail
refused line stop.Memory = fail.Memory
refused line (stop.Fault cause) = fail.Refused (record { line = line; cause = cause })
