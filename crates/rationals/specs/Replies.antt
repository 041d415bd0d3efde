-- What a call says of a walk that it follows: the one word for calls that may want memory, whatever their errors are.
use Rattle.std.specs.Prelude.{◌≡◌, Result, Ok, Err, ⊤}

-- the reply says how the walk ends; or it says nothing, since memory was wanting; or it is one that no such call gives
pub data Reply (End : Type 0) : Type 0 where
  Says : End → Reply End
  Silent : Reply End
  Never : Reply End

-- the walk ends as the reply says
abbrev pub IsReply : {End : Type 0} → End → Reply End → Type 0
IsReply walk (Says end) = walk ≡ end
IsReply walk Silent = ⊤
IsReply walk Never = ⊥

-- the reply of a call whose value is seen so, and whose error says so
abbrev pub reply_by : {X S A E : Type 0} → (A → X) → (E → Reply (Result X S)) → Result A E → Reply (Result X S)
reply_by seen says (Ok value) = Says (Ok (seen value))
reply_by seen says (Err error) = says error
