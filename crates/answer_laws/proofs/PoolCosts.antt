-- The same by the pools of which the cuts were read.
use Rattle.std.proofs.Common.{◌≡◌, ◌∙◌, ℕ, ◌<◌, List, [], ◌∷◌, ◌++◌, Option, Some, map, length, slice_get, refl, sym, ap, subst}
use Rattle.std.specs.Option.{option_map, option_to_list}
use Rattle.rationals.specs.Rational.{ℚ}
use Rattle.rationals.specs.Sparse.{Entry}
use Rattle.scen_defs.specs.Lists.{Each}
use Rattle.scen_defs.specs.Program.{View}
use Rattle.scen_defs.specs.Flat.{children}
use Rattle.cut_defs.specs.Stored.{Stored}
use Rattle.cut_defs.proofs.Present.{each_mapped}
use Rattle.cut_pool.specs.Held.{Held}
use Rattle.cut_banks.specs.Pools.{no_cuts, cuts_of, cuts_at, cuts_read}
use Rattle.cut_banks.proofs.Places.{one_read}
use Rattle.cut_proof.specs.declared.child.ChildCuts.{ChildCuts}
use Rattle.node_lp.specs.declared.task.Task.{Task}
use Rattle.node_lp.specs.Problem.{problem_of, IsProblem}
use Rattle.node_lp.specs.Answers.{PointAnswer}
use Rattle.node_lp.proofs.Columns.{each_split}
use Rattle.answer_laws.specs.Points.{IsDatumIn}
use Rattle.answer_laws.specs.Costs.{AddsUp, BoundsBelow, RaysBelow, CostsAt, CostsOver, ValuesCoverPools}
use Rattle.answer_laws.proofs.Costs.{costs_at}

-- a child and its cuts
abbrev Owned : Type 0
Owned = ℕ × List Stored

-- ---- which children the cuts were read of
named : (cs : List ChildCuts) → map (λ (o : Owned). o.0) (map cuts_of cs) ≡ map (λ (c : ChildCuts). c.child) cs
named [] = refl
named (c ∷ cs) = ap (λ ms. c.child ∷ ms) (named cs)

owner_read : (pools : List Held) (ms : List ℕ) → Each (λ m. m < length pools) ms → map (λ (o : Owned). o.0) (cuts_read pools ms) ≡ ms
owner_read pools [] h = refl
owner_read pools (m ∷ ms) h =
    ap (λ (found : Option Held). map (λ (o : Owned). o.0) (option_to_list (option_map (λ p. (m, p.cuts)) found) ++ cuts_read pools ms))
    (one_read pools m (no_cuts m) h.0)
    ∙ ap (λ ns. m ∷ ns) (owner_read pools ms h.1)

-- ---- what holds of each child's cuts that were read holds of those of its pool
of_pools : (P : Owned → Type 0) (pools : List Held) (ms : List ℕ) → Each P (cuts_read pools ms)
    → Each (λ m. (p : Held) → slice_get pools m ≡ Some p → P (m, p.cuts)) ms
of_pools P pools [] h = tt
of_pools P pools (m ∷ ms) h =
    let parts : Each P (cuts_at pools m) × Each P (cuts_read pools ms) = each_split P (cuts_at pools m) (cuts_read pools ms) h in (
      λ p e. (subst (λ (found : Option Held). Each P (option_to_list (option_map (λ q. (m, q.cuts)) found))) e parts.0).0,
      of_pools P pools ms parts.1,
    )

of_read : (P : Owned → Type 0) (pools : List Held) (ms : List ℕ) (cs : List ChildCuts) → map cuts_of cs ≡ cuts_read pools ms
    → Each (λ (c : ChildCuts). P (c.child, c.cuts.items)) cs → Each (λ m. (p : Held) → slice_get pools m ≡ Some p → P (m, p.cuts)) ms
of_read P pools ms cs e h = of_pools P pools ms (subst (Each P) e (each_mapped P cuts_of cs h))

costs_over : (v : View) (n : ℕ) (pools : List Held) (t : Task) (x along : List Entry) (value : ℚ) (cut : Option Stored)
    → IsDatumIn v n t.datum → IsProblem (problem_of t) → map cuts_of t.children.items ≡ cuts_read pools (children v n)
    → Each (λ m. m < length pools) (children v n) → PointAnswer t x value cut → AddsUp t.trial x along
    → CostsOver v n pools t.kind x along value
costs_over v n pools t x along value cut d fits read there a adds =
    let own : map (λ (c : ChildCuts). c.child) t.children.items ≡ children v n
    = sym (named t.children.items) ∙ ap (map (λ (o : Owned). o.0)) read ∙ owner_read pools (children v n) there in
    let at : CostsAt v n t x along value = costs_at v n t x along value cut d fits own a adds in
    record {
      child_cost = at.child_cost;
      value_is = at.value_is;
      bounds = λ priced. of_read (λ o. BoundsBelow along (at.child_cost o.0) o.1) pools (children v n) t.children.items read
          (at.bounds priced);
      rays = of_read (λ o. RaysBelow along o.1) pools (children v n) t.children.items read at.rays;
    }

pub values_cover_pools : ValuesCoverPools
values_cover_pools = costs_over
