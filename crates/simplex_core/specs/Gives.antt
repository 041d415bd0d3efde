-- What a function gives that follows a walk, and may want memory.
use Rattle.std.specs.Prelude.{Result, Ok}
use Rattle.rationals.specs.Rational.{ℚ}
use Rattle.rationals.specs.Passes.{then_walk}
use Rattle.lp_defs.specs.Walks.{Walk}
use Rattle.lp_defs.specs.Lines.{Line, cleared_by}
use Rattle.lp_defs.specs.Path.{Row}
use Rattle.frac128.specs.declared.fault.ArithmeticFault.{ArithmeticFault}
use Rattle.frac128.specs.Faults.{arithmetic_says}
use Rattle.rationals.specs.Replies.{IsReply, reply_by}

-- the value of the walk, or its error
abbrev pub Gives : {A B : Type 0} → Walk A → Result B ArithmeticFault → A → Type 0
Gives w result new = IsReply w (reply_by (λ _. new) arithmetic_says result)

-- a row less f times a line
abbrev pub less_row : ℚ → Line → Row → Walk Row
less_row f line r = then_walk (cleared_by f line r.line) (λ new. Ok (record { basic = r.basic; line = new }))
