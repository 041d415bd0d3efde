-- The line of a verdict: the number of the report, and what its check comes to, ended by a line feed (10).
use Rattle.std.specs.Prelude.{ℕ, List, ◌++◌, Result, Ok, Err, codes}
use Rattle.std.specs.Fmt.{decimal}
use Rattle.rationals.specs.Passes.{Operation}
use Rattle.report_text.specs.Text.{operation_text}
use Rattle.certificate_check.specs.declared.verdict.Claim.{Claim}
use Rattle.certificate_check.specs.declared.verdict.Claim.TheVariants as claim
use Rattle.certificate_check.specs.declared.verdict.Verdict.{Verdict}
use Rattle.certificate_check.specs.declared.verdict.Verdict.TheVariants.{Holds, Fails}

abbrev pub claim_text : Claim → List ℕ
claim_text claim.Shape = codes "SHAPE"
claim_text claim.Policy = codes "POLICY"
claim_text claim.Cost = codes "COST"
claim_text claim.Dual = codes "DUAL"
claim_text claim.Lower = codes "LOWER"
claim_text claim.Ends = codes "ENDS"
claim_text claim.Ray = codes "RAY"
claim_text claim.Value = codes "VALUE"
claim_text claim.Direction = codes "DIRECTION"
claim_text claim.Slope = codes "SLOPE"

-- the verdict, or the operation that passed
abbrev pub outcome_text : Result Verdict Operation → List ℕ
outcome_text (Ok Holds) = codes "HOLDS"
outcome_text (Ok (Fails c)) = codes "FAILS " ++ claim_text c
outcome_text (Err p) = codes "PASSED " ++ operation_text p

abbrev pub verdict_text : ℕ → Result Verdict Operation → List ℕ
verdict_text number outcome = codes "REPORT " ++ decimal number ++ codes " " ++ outcome_text outcome ++ codes "\n"
