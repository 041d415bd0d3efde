-- Calls that follow a walk and can also want memory.
use Rattle.std.specs.Prelude.{Result, Err}
use Rattle.rationals.specs.Replies.{Reply, IsReply, reply_by}
use Rattle.rationals.specs.Replies.Reply.{Says, Silent}
use Rattle.rationals.specs.Passes.{Operation}
use Rattle.frac128.specs.declared.fault.ArithmeticFault.{ArithmeticFault}
use Rattle.frac128.specs.declared.fault.ArithmeticFault.TheVariants.{Passed, Memory}

-- what an error says: the operation in which the walk ends
abbrev pub arithmetic_says : {X : Type 0} → ArithmeticFault → Reply (Result X Operation)
arithmetic_says (Passed p) = Says (Err p)
arithmetic_says Memory = Silent

-- what an error says of a walk
abbrev pub FaultOf : {X : Type 0} → Result X Operation → ArithmeticFault → Type 0
FaultOf walk fault = IsReply walk (arithmetic_says fault)

-- the call gives the walk's value, or the operation in which the walk ends, or it lacks memory
abbrev pub IfNotMemory : {X : Type 0} → Result X ArithmeticFault → Result X Operation → Type 0
IfNotMemory r walk = IsReply walk (reply_by (λ x. x) arithmetic_says r)
