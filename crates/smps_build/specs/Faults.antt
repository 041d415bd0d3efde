-- What an error says of the walk that a call follows.
use Rattle.std.specs.Prelude.{Result, Err}
use Rattle.rationals.specs.Replies.{Reply, IsReply}
use Rattle.rationals.specs.Replies.Reply.{Says, Silent, Never}
use Rattle.rationals.specs.Passes.{Operation}
use Rattle.smps_build.specs.declared.fault.BuildFault.{BuildFault}
use Rattle.smps_build.specs.declared.fault.BuildFault.TheVariants.{Limit, Passed, Memory}

-- what an error says: the operation in which the walk ends; never that there is too much of a program
abbrev pub build_says : {X : Type 0} → BuildFault → Reply (Result X Operation)
build_says Limit = Never
build_says (Passed p) = Says (Err p)
build_says Memory = Silent

-- what an error says of the walk
abbrev pub BuildFaultOf : {X : Type 0} → Result X Operation → BuildFault → Type 0
BuildFaultOf walk fault = IsReply walk (build_says fault)
