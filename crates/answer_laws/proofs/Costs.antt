-- The value of an answer is what its point costs with costs of the children.
use Rattle.std.proofs.Common.{◌≡◌, ◌∙◌, ℕ, zero, suc, ◌+◌, ◌≤◌, Bool, true, false, eqb, List, [], ◌∷◌, Option, Some, None, map}
use Rattle.std.proofs.Common.{refl, sym, ap, ap₂, subst, arith}
use Rattle.std.proofs.lemmas.Bool.{eq-eqb, ne_eqb}
use Rattle.rationals.specs.Rational.{ℚ, zero_ℚ, ◌+ℚ◌, ◌*ℚ◌, ◌≤ℚ◌, add_comm_ℚ, mul_zero_ℚ, zero_add_ℚ}
use Rattle.rationals.specs.Sums.{sum_ℚ, sum-map}
use Rattle.rationals.specs.Sparse.{Entry, coefficient, product}
use Rattle.rationals.specs.Choices.{pick}
use Rattle.scen_defs.specs.Lists.{Each}
use Rattle.scen_defs.specs.Program.{View}
use Rattle.scen_defs.specs.Flat.{children}
use Rattle.scen_defs.proofs.SumLaws.{sum-ext}
use Rattle.cut_defs.specs.declared.datum.Share.{Share}
use Rattle.cut_defs.specs.declared.kinds.CutKind.{CutKind}
use Rattle.cut_defs.specs.declared.kinds.CutKind.TheVariants.{Ray}
use Rattle.cut_defs.specs.Data.{SharesRise, share_of}
use Rattle.cut_defs.specs.Stored.{Stored, source_of, constant_of, form_of}
use Rattle.cut_proof.specs.declared.child.ChildCuts.{ChildCuts}
use Rattle.node_lp.specs.declared.task.Task.{Task}
use Rattle.node_lp.specs.Problem.{held, PlacedCut, Problem, is_priced, is_taken, taken_of, taken, problem_of, child_at, IsProblem}
use Rattle.node_lp.specs.Records.{form_at, shared_cost, place_cost, limit_of}
use Rattle.node_lp.specs.Answers.{PointAnswer, value_at_trial}
use Rattle.node_lp.proofs.Columns.{each_split}
use Rattle.answer_laws.specs.Points.{IsDatumIn}
use Rattle.answer_laws.specs.Costs.{AddsUp, BoundsBelow, RaysBelow, CostsAt, ValuesAreCosts}

-- ---- costs by place as costs by child
abbrev pub cost_by : List Share → List ℚ → ℕ → ℚ
cost_by [] costs m = zero_ℚ
cost_by (s ∷ ss) [] m = zero_ℚ
cost_by (s ∷ ss) (c ∷ cs) m = pick (eqb s.child m) c (cost_by ss cs m)

pub from_on : (n k m : ℕ) (ss : List Share) → SharesRise n ss → child_at ss k ≡ Some m → n ≤ m
from_on n k m [] h e = absurd (let no : ◌≡◌ {A = Option ℕ} None (Some m) = e in cc)
from_on n zero m (s ∷ ss) h e =
    let same : s.child ≡ m = (let some : ◌≡◌ {A = Option ℕ} (Some s.child) (Some m) = e in cc) in
    let low : n ≤ s.child = h.0 in
    omega arith
from_on n (suc k) m (s ∷ ss) h e =
    let rest : suc s.child ≤ m = from_on (suc s.child) k m ss h.1 e in
    let low : n ≤ s.child = h.0 in
    omega arith

pub cost_at_place : (n k m : ℕ) (ss : List Share) (costs : List ℚ) → SharesRise n ss → child_at ss k ≡ Some m
    → cost_by ss costs m ≡ place_cost costs k
cost_at_place n k m [] costs h e = absurd (let no : ◌≡◌ {A = Option ℕ} None (Some m) = e in cc)
cost_at_place n k m (s ∷ ss) [] h e = refl
cost_at_place n zero m (s ∷ ss) (c ∷ cs) h e =
    let same : s.child ≡ m = (let some : ◌≡◌ {A = Option ℕ} (Some s.child) (Some m) = e in cc) in
    ap (λ b. pick b c (cost_by ss cs m)) (eq-eqb s.child m same)
cost_at_place n (suc k) m (s ∷ ss) (c ∷ cs) h e =
    let rest : suc s.child ≤ m = from_on (suc s.child) k m ss h.1 e in
    ap (λ b. pick b c (cost_by ss cs m)) (ne_eqb s.child m (λ (same : s.child ≡ m). omega arith))
    ∙ cost_at_place (suc s.child) k m ss cs h.1 e

-- ---- the children's costs by their shares
no_costs : (ss : List Share) → shared_cost ss [] ≡ zero_ℚ
no_costs [] = refl
no_costs (s ∷ ss) = refl

pub shared_is : (cost : ℕ → ℚ) (ss : List Share) (costs : List ℚ) → ((k m : ℕ) → child_at ss k ≡ Some m → cost m ≡ place_cost costs k)
    → shared_cost ss costs ≡ sum_ℚ (λ (s : Share). s.share *ℚ cost s.child) ss
shared_is cost [] costs h = refl
shared_is cost (s ∷ ss) [] h =
    sym (ap₂ ◌+ℚ◌ (ap (λ z. s.share *ℚ z) (h zero s.child refl) ∙ mul_zero_ℚ s.share)
    (sym (shared_is cost ss [] (λ k m e. h (suc k) m e)) ∙ no_costs ss) ∙ zero_add_ℚ zero_ℚ)
shared_is cost (s ∷ ss) (c ∷ cs) h =
    ap₂ ◌+ℚ◌ (ap (λ z. s.share *ℚ z) (sym (h zero s.child refl))) (shared_is cost ss cs (λ k m e. h (suc k) m e))

-- ---- the cuts of each child
-- each child has the cost of its place, the first of place k
abbrev AreCosts : (ℕ → ℚ) → List ℚ → ℕ → List ChildCuts → Type 0
AreCosts cost costs k [] = Unit {0}
AreCosts cost costs k (c ∷ cs) = (cost c.child ≡ place_cost costs k) × AreCosts cost costs (suc k) cs

are_costs : (cost : ℕ → ℚ) (costs : List ℚ) (k : ℕ) (cs : List ChildCuts) (ss : List Share)
    → map (λ (c : ChildCuts). c.child) cs ≡ map (λ (s : Share). s.child) ss
    → ((i m : ℕ) → child_at ss i ≡ Some m → cost m ≡ place_cost costs (k + i)) → AreCosts cost costs k cs
are_costs cost costs k [] ss e h = tt
are_costs cost costs k (c ∷ cs) [] e h = absurd (let no : ◌≡◌ {A = List ℕ} (c.child ∷ map (λ (c : ChildCuts). c.child) cs) [] = e in cc)
are_costs cost costs k (c ∷ cs) (s ∷ ss) e h =
    let both : ◌≡◌ {A = List ℕ} (c.child ∷ map (λ (c : ChildCuts). c.child) cs) (s.child ∷ map (λ (s : Share). s.child) ss) = e in
    let same : c.child ≡ s.child = cc in
    let rest : map (λ (c : ChildCuts). c.child) cs ≡ map (λ (s : Share). s.child) ss = cc in (
      ap cost same ∙ subst (λ i. cost s.child ≡ place_cost costs i) (omega arith) (h zero s.child refl),
      are_costs cost costs (suc k) cs ss rest (λ i m f. subst (λ j. cost m ≡ place_cost costs j) (omega arith) (h (suc i) m f)),
    )

ray_taken : (priced : Bool) → is_taken priced Ray ≡ true
ray_taken true = refl
ray_taken false = refl

module _ (p : Problem) (x along : List Entry) (costs : List ℚ)
    (together : (f : List Entry) → form_at p x f ≡ product f (coefficient along)) where
  abbrev Below : PlacedCut → Type 0
  Below c = c.cut.constant +ℚ form_at p x c.cut.form ≤ℚ limit_of c.cut.kind costs c.child

  below : (k : ℕ) (cut : Stored) → Below (record { child = k; cut = held cut })
      → value_at_trial cut along ≤ℚ limit_of (source_of cut).kind costs k
  below k cut h = subst (λ z. constant_of cut +ℚ z ≤ℚ limit_of (source_of cut).kind costs k) (together (form_of cut)) h

  bounds_below : (k : ℕ) (cuts : List Stored) → Each Below (taken_of true k cuts) → BoundsBelow along (place_cost costs k) cuts
  bounds_below k [] h = tt
  bounds_below k (c ∷ cs) h =
      (λ e. subst (λ (kind : CutKind). value_at_trial c along ≤ℚ limit_of kind costs k) e (below k c h.0), bounds_below k cs h.1)

  rays_below : (priced : Bool) (k : ℕ) (cuts : List Stored) → Each Below (taken_of priced k cuts) → RaysBelow along cuts
  rays_below priced k [] h = tt
  rays_below priced k (c ∷ cs) h = go (is_taken priced (source_of c).kind) refl h (λ i. rays_below priced k cs i)
    where
      go : (b : Bool) → is_taken priced (source_of c).kind ≡ b
          → Each Below (pick b (record { child = k; cut = held c } ∷ taken_of priced k cs) (taken_of priced k cs))
          → (Each Below (taken_of priced k cs) → RaysBelow along cs) → RaysBelow along (c ∷ cs)
      go true q i rest = (λ e. subst (λ (kind : CutKind). value_at_trial c along ≤ℚ limit_of kind costs k) e (below k c i.0), rest i.1)
      go false q i rest = (λ e. absurd (let no : true ≡ false = sym (ray_taken priced) ∙ ap (is_taken priced) (sym e) ∙ q in cc), rest i)

  all_bounds_below : (cost : ℕ → ℚ) (k : ℕ) (cs : List ChildCuts) → AreCosts cost costs k cs → Each Below (taken true k cs)
      → Each (λ (c : ChildCuts). BoundsBelow along (cost c.child) c.cuts.items) cs
  all_bounds_below cost k [] a h = tt
  all_bounds_below cost k (c ∷ cs) a h =
      let parts : Each Below (taken_of true k c.cuts.items) × Each Below (taken true (suc k) cs)
      = each_split Below (taken_of true k c.cuts.items) (taken true (suc k) cs) h in
      let first : BoundsBelow along (cost c.child) c.cuts.items
      = subst (λ z. BoundsBelow along z c.cuts.items) (sym a.0) (bounds_below k c.cuts.items parts.0) in
      (first, all_bounds_below cost (suc k) cs a.1 parts.1)

  all_rays_below : (priced : Bool) (k : ℕ) (cs : List ChildCuts) → Each Below (taken priced k cs)
      → Each (λ (c : ChildCuts). RaysBelow along c.cuts.items) cs
  all_rays_below priced k [] h = tt
  all_rays_below priced k (c ∷ cs) h =
      let parts : Each Below (taken_of priced k c.cuts.items) × Each Below (taken priced (suc k) cs)
      = each_split Below (taken_of priced k c.cuts.items) (taken priced (suc k) cs) h in
      (rays_below priced k c.cuts.items parts.0, all_rays_below priced (suc k) cs parts.1)

children_of_shares : (v : View) (ms : List ℕ) → map (λ (s : Share). s.child) (map (share_of v) ms) ≡ ms
children_of_shares v [] = refl
children_of_shares v (m ∷ ms) = ap (λ ns. m ∷ ns) (children_of_shares v ms)

pub costs_at : (v : View) (n : ℕ) (t : Task) (x along : List Entry) (value : ℚ) (cut : Option Stored) → IsDatumIn v n t.datum
    → IsProblem (problem_of t) → map (λ (c : ChildCuts). c.child) t.children.items ≡ children v n → PointAnswer t x value cut
    → AddsUp t.trial x along → CostsAt v n t x along value
costs_at v n t x along value cut d fits own a adds =
    let p : Problem = problem_of t in
    let costs : List ℚ = a.point.costs in
    let cost : ℕ → ℚ = cost_by t.datum.shares costs in
    let at : (k m : ℕ) → child_at t.datum.shares k ≡ Some m → cost m ≡ place_cost costs k
    = λ k m e. cost_at_place 0 k m t.datum.shares costs fits.shares_rise e in
    let together : (f : List Entry) → form_at p x f ≡ product f (coefficient along)
    = λ f. sum-ext (λ (e : Entry). e.value *ℚ (coefficient x e.column +ℚ coefficient t.trial e.column))
    (λ (e : Entry). e.value *ℚ coefficient along e.column)
    (λ e. ap (λ z. e.value *ℚ z) (add_comm_ℚ (coefficient x e.column) (coefficient t.trial e.column) ∙ sym (adds e.column))) f in
    let same : map (λ (c : ChildCuts). c.child) t.children.items ≡ map (λ (s : Share). s.child) t.datum.shares
    = own ∙ sym (ap (map (λ (s : Share). s.child)) d.shares ∙ children_of_shares v (children v n)) in
    record {
      child_cost = cost;
      value_is = a.point.value_is ∙ ap₂ ◌+ℚ◌ (ap (λ (f : List Entry). product f (coefficient x)) d.cost)
          (shared_is cost t.datum.shares costs at ∙ ap (sum_ℚ (λ (s : Share). s.share *ℚ cost s.child)) d.shares
          ∙ sum-map (λ (s : Share). s.share *ℚ cost s.child) (share_of v) (children v n));
      bounds = λ priced. all_bounds_below p x along costs together cost 0 t.children.items
          (are_costs cost costs 0 t.children.items t.datum.shares same
          (λ i m e. subst (λ j. cost m ≡ place_cost costs j) (omega arith) (at i m e)))
          (subst (λ (b : Bool). Each (Below p x along costs together) (taken b 0 t.children.items)) priced a.point.meets.cuts);
      rays = all_rays_below p x along costs together (is_priced t.kind) 0 t.children.items a.point.meets.cuts;
    }

pub values_are_costs : ValuesAreCosts
values_are_costs = costs_at
