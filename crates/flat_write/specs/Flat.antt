-- What a program comes to as one core file: its text, or why it isn't written.
use Rattle.std.specs.Prelude.{ℕ, Bool, true, false, List, Result, Ok, Err}
use Rattle.rationals.specs.Passes.{Operation}
use Rattle.rationals.specs.Replies.{Reply}
use Rattle.rationals.specs.Replies.Reply.{Says, Silent}
use Rattle.scen_defs.specs.Program.{View}
use Rattle.flat_write.specs.declared.fault.FlatFault.{FlatFault}
use Rattle.flat_write.specs.declared.fault.FlatFault.TheVariants.{Limit, Passed, Memory}
use Rattle.flat_write.specs.declared.limits.FlatLimits.{FlatLimits}
use Rattle.flat_write.specs.Sizes.{is_beyond}
use Rattle.flat_write.specs.Operations.{operations}
use Rattle.flat_write.specs.FlatText.{flat_text}

-- the text, unless an operation passes
abbrev pub unless_passed : Result (Unit {0}) Operation → List ℕ → Result (List ℕ) FlatFault
unless_passed (Ok _) text = Ok text
unless_passed (Err passed) text = Err (Passed passed)

abbrev pub within : Bool → View → Result (List ℕ) FlatFault
within true v = Err Limit
within false v = unless_passed (operations v) (flat_text v)

-- the limits come first, then the operations
abbrev pub written : FlatLimits → View → Result (List ℕ) FlatFault
written limits v = within (is_beyond limits v) v

-- want of memory says nothing of the program
abbrev pub flat_says : FlatFault → Reply (Result (List ℕ) FlatFault)
flat_says Limit = Says (Err Limit)
flat_says (Passed passed) = Says (Err (Passed passed))
flat_says Memory = Silent
