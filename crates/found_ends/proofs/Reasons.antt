-- Why a report is open by what is claimed: the reason that is given, or the operation in which an assembly of multipliers ends.
use Rattle.std.proofs.Common.{◌≡◌, ◌⊎◌, List, Option, Some, None, Result, Ok, Err, refl, sym, ap, subst, ◌∙◌, inl, inr}
use Rattle.rationals.specs.Passes.{Operation}
use Rattle.scen_defs.specs.Values.{At}
use Rattle.cut_defs.specs.Stored.{Stored}
use Rattle.dual_assemble.specs.Values.{assembled}
use Rattle.proved_report.specs.declared.open.Open.{Open}
use Rattle.found_ends.specs.declared.ends.Ends.{Ends}
use Rattle.found_ends.specs.declared.settled.Settled.{Settled}
use Rattle.found_ends.specs.declared.settled.Settled.TheVariants.{Infeasible, Unbounded, Optimal, Stopped, Spent}
use Rattle.found_ends.specs.declared.claims.Closed.{Closed}
use Rattle.found_ends.specs.declared.claims.Multipliers.{Multipliers}
use Rattle.found_ends.specs.declared.claims.Multipliers.TheVariants.{Found, Not}
use Rattle.found_ends.specs.Claims.{IsReason, EndsAssembly, found_or, multipliers_of, policy_of, cut_of, by_ray, by_direction, by_ends, closed_by}

-- multipliers are not found only where the assembly of the cut passes
not_found : (cut : Stored) (o : Operation) (walk : Result (List At) Operation) → assembled cut ≡ walk → found_or walk ≡ Not o → assembled cut ≡ Err o
not_found cut o (Ok values) w e = absurd (cc)
not_found cut o (Err q) w e = let same : q ≡ o = cc in w ∙ ap (λ (p : Operation). Err p) same

of_assembly : (e : Ends) (cut : Option Stored) (o : Operation) → ((c : Stored) → cut ≡ Some c → (e.nowhere ≡ Some c) ⊎ (cut_of e.lower ≡ Some c))
    → multipliers_of cut ≡ Not o → EndsAssembly e o
of_assembly e None o r m = absurd (cc)
of_assembly e (Some cut) o r m = record { cut = cut; rests = r cut refl; passes = not_found cut o (assembled cut) refl m }

ray_reason : (e : Ends) (m : Multipliers) (why : Open) → ((o : Operation) → m ≡ Not o → EndsAssembly e o) → IsReason e why (by_ray m why).why
ray_reason e (Found (Some ray)) why h = inl refl
ray_reason e (Found None) why h = inl refl
ray_reason e (Not o) why h = inr (o, refl, h o refl)

ends_reason : (e : Ends) (policy : Option (List At)) (m : Multipliers) (why : Open) → ((o : Operation) → m ≡ Not o → EndsAssembly e o)
    → IsReason e why (by_ends policy m why).why
ends_reason e policy (Found dual) why h = inl refl
ends_reason e policy (Not o) why h = inr (o, refl, h o refl)

direction_reason : (e : Ends) (policy direction : Option (List At)) (why : Open) → IsReason e why (by_direction policy direction why).why
direction_reason e (Some policy) (Some direction) why = inl refl
direction_reason e None (Some direction) why = inl refl
direction_reason e (Some policy) None why = inl refl
direction_reason e None None why = inl refl

between_reason : (e : Ends) (why : Open) → IsReason e why (by_ends (policy_of e.upper) (multipliers_of (cut_of e.lower)) why).why
between_reason e why = ends_reason e (policy_of e.upper) (multipliers_of (cut_of e.lower)) why (λ o. of_assembly e (cut_of e.lower) o (λ c s. inr s))

claim_reason : (case : Option Settled) (e : Ends) (why : Open) → IsReason e why (closed_by case e why).why
claim_reason (Some Infeasible) e why = ray_reason e (multipliers_of e.nowhere) why (λ o. of_assembly e e.nowhere o (λ c s. inl s))
claim_reason (Some Unbounded) e why = direction_reason e (policy_of e.upper) (policy_of e.direction) why
claim_reason (Some Optimal) e why = between_reason e why
claim_reason (Some Stopped) e why = between_reason e why
claim_reason (Some Spent) e why = between_reason e why
claim_reason None e why = between_reason e why

-- what a claim tells is the reason, or the operation of an assembly
pub closed_reason : (case : Option Settled) (e : Ends) (why : Open) (closed : Closed) → closed ≡ closed_by case e why → IsReason e why closed.why
closed_reason case e why closed is = subst (λ (c : Closed). IsReason e why c.why) (sym is) (claim_reason case e why)
