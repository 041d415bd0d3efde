-- The lists of a report are lists over the columns or the rows of its program.
use Rattle.std.proofs.Common.{◌≡◌, ℕ, Bool, true, false, List, Option, Some, None, Result, Ok, Err, IfOk, refl}
use Rattle.std.specs.Prelude.{IfSome}
use Rattle.scen_defs.specs.Program.{Program, content}
use Rattle.scen_defs.specs.Values.{At, AreValues}
use Rattle.scen_defs.specs.declared.program.Program.{Program as ProgramOf}
use Rattle.scen_defs.specs.declared.report.Place.{Place}
use Rattle.scen_defs.specs.declared.report.Report.{Report}
use Rattle.scen_nodes.specs.Derived.{all_fit}
use Rattle.proved_report.specs.declared.claim.Claim.{Claim}
use Rattle.proved_report.specs.declared.open.Open.{Open}
use Rattle.proved_report.specs.Reports.{IsClaimed}
use Rattle.claim_laws.proofs.Telling.{claims_are_told}
use Rattle.smps_session.specs.Lists.{IsListOf, ListsAreOf}

-- each list of the report rises, and has no 0, as all values do
pub record HasOrder (report : Report) : Type 0 where
  pub policy : IfSome report.policy AreValues
  pub direction : IfSome report.direction AreValues
  pub dual : IfSome report.dual AreValues
  pub ray : IfSome report.ray AreValues

list_of : (p : Program) (of_rows : Bool) (printed : Option (List At))
    → ((values : List At) → printed ≡ Some values → all_fit p of_rows values ≡ true)
    → IfSome printed AreValues → IfSome printed (IsListOf p of_rows)
list_of p of_rows None fits order = tt
list_of p of_rows (Some values) fits order = record { ordered = order; fits = fits values refl }

-- the lists of a report that tells a claim fit the program
pub lists_told : (program : ProgramOf) (number : ℕ) (place : Place) (why : Open) (solves : ℕ) (claim : Claim) (report : Report)
    → IsClaimed program number place why solves claim report → HasOrder report → ListsAreOf (content program) report
lists_told program number place why solves claim report c order =
    let p : Program = content program in
    let told = (claims_are_told program number place why solves claim report c).lists in
    record {
      policy = list_of p false report.policy (λ values e. (told.policy values e).1) order.policy;
      direction = list_of p false report.direction (λ values e. (told.direction values e).1) order.direction;
      dual = list_of p true report.dual (λ values e. (told.dual values e).1) order.dual;
      ray = list_of p true report.ray (λ values e. (told.ray values e).1) order.ray;
    }

pub lists_found : {E : Type 0} (program : ProgramOf) (number : ℕ) (place : Place) (why : Open) (solves : ℕ) (claim : Claim)
    (result : Result Report E) → IfOk result (IsClaimed program number place why solves claim) → IfOk result HasOrder
    → IfOk result (ListsAreOf (content program))
lists_found program number place why solves claim (Ok report) c order = lists_told program number place why solves claim report c order
lists_found program number place why solves claim (Err e) c order = tt

-- with the ray of another report of the program they are too
pub ray_listed : (p : Program) (found tested : Report) → ListsAreOf p found → ListsAreOf p tested
    → ListsAreOf p (record found { extra = tested.extra; ray = tested.ray })
ray_listed p found tested h k = record { policy = h.policy; direction = h.direction; dual = h.dual; ray = k.ray }
