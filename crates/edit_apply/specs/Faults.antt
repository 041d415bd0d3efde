-- Why an edit isn't applied, as an error says it.
use Rattle.std.specs.Prelude.{Option, Some}
use Rattle.rationals.specs.Replies.{Reply, IsReply}
use Rattle.rationals.specs.Replies.Reply.{Says, Silent}
use Rattle.refusals.specs.declared.cause.Cause.{Cause}
use Rattle.refusals.specs.declared.cause.Cause.TheVariants.{Passes}
use Rattle.frac128.specs.declared.fault.ArithmeticFault.{ArithmeticFault}
use Rattle.frac128.specs.declared.fault.ArithmeticFault.TheVariants.{Passed, Memory as TreeMemory}
use Rattle.edit_apply.specs.declared.fault.ApplyFault.{ApplyFault}
use Rattle.edit_apply.specs.declared.fault.ApplyFault.TheVariants.{Refused, Memory}

-- what an error says: the cause
abbrev pub apply_says : ApplyFault → Reply (Option Cause)
apply_says (Refused c) = Says (Some c)
apply_says Memory = Silent

-- it names the cause, or memory was wanting
abbrev pub ApplyFaultOf : Option Cause → ApplyFault → Type 0
ApplyFaultOf cause fault = IsReply cause (apply_says fault)

-- where a tree isn't made, neither is the edit applied
abbrev pub fault_of_tree : ArithmeticFault → ApplyFault
fault_of_tree (Passed p) = Refused (Passes p)
fault_of_tree TreeMemory = Memory
