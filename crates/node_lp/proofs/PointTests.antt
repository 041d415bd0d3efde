-- What the test of a point tells.
use Rattle.std.proofs.Common.{◌≡◌, ℕ, zero, suc, ◌+◌, ◌<◌, ◌≤◌, Bool, true, false, List, [], ◌∷◌, ◌++◌, Ok, length, get_or, drop, refl, sym, ap, ap₂, subst, ◌∙◌, arith, add-one}
use mathlib.Core.Path.{fun_ext}
use Rattle.rationals.specs.declared.Op.TheVariants.{Add}
use Rattle.rationals.specs.Rational.{ℚ, zero_ℚ, one_ℚ, ◌+ℚ◌, ◌*ℚ◌, ◌/ℚ◌, ◌≤ℚ◌, by_ring, terms, zero_add_ℚ, add_zero_ℚ, mul_zero_ℚ}
use Rattle.rationals.specs.Intervals.{Between}
use Rattle.rationals.specs.Sparse.{Entry, coefficient, product}
use Rattle.rationals.specs.Forms.{product_from, add_scaled_walk}
use Rattle.rationals.specs.Passes.{Operation, answer, too_wide, div_walk, add_product_walk, IsNarrow}
use Rattle.rationals.specs.Choices.{pick}
use Rattle.rationals.proofs.WalkLaws.{sum_coefficient, product_from-ends, step_value}
use Rattle.scen_defs.specs.Lists.{Each}
use Rattle.scen_defs.specs.declared.program.NodeRow.{NodeRow}
use Rattle.scen_defs.proofs.SumLaws.{each-map}
use Rattle.cut_defs.specs.declared.datum.ColumnBounds.{ColumnBounds}
use Rattle.cut_defs.specs.declared.datum.Share.{Share}
use Rattle.cut_defs.specs.Stored.{Stored, source_of, constant_of, form_of}
use Rattle.cut_proof.specs.declared.child.ChildCuts.{ChildCuts}
use Rattle.node_lp.specs.declared.task.Task.{Task}
use Rattle.node_lp.specs.Problem.{held, PlacedCut, Problem, is_priced, is_taken, taken_of, taken, problem_of}
use Rattle.node_lp.specs.Records.{place_cost, limit_of, shared_cost, cost_at, Meets}
use Rattle.node_lp.specs.Tests.{point_and_trial, MeetsRow, MeetsBounds, MeetsCut}
use Rattle.node_lp.specs.Uses.{first}
use Rattle.node_lp.proofs.EndLemmas.{next_item}

-- ---- numbers
one_times : (q : ℚ) → one_ℚ *ℚ q ≡ q
one_times q = by_ring (q ∷ []) (search terms depth 40) tt

pub joined_is : (x trial at : List Entry) (one : ℚ) → one ≡ one_ℚ → add_scaled_walk x one trial ≡ Ok at → coefficient at ≡ point_and_trial x trial
joined_is x trial at one e h =
    fun_ext (λ (j : ℕ). sum_coefficient x one trial at j h ∙ ap (λ q. coefficient x j +ℚ q) (ap (λ w. w *ℚ coefficient trial j) e ∙ one_times (coefficient trial j)))

-- a sum that begins with 0
pub product_is : (x : ℕ → ℚ) (s q : ℚ) (f g : List Entry) → s ≡ zero_ℚ → f ≡ g → product_from x s f ≡ Ok q → q ≡ product g x
product_is x s q f g e same h =
    product_from-ends x s f q h ∙ ap₂ (λ a b. a +ℚ product b x) e same ∙ zero_add_ℚ (product g x)

-- and one that begins with the constant of a cut
pub value_is : (x : ℕ → ℚ) (s c q : ℚ) (f g : List Entry) → s ≡ c → f ≡ g → product_from x s f ≡ Ok q → q ≡ c +ℚ product g x
value_is x s c q f g e same h = product_from-ends x s f q h ∙ ap₂ (λ a b. a +ℚ product b x) e same

quotient_fits : (b : Bool) (p : Operation) (x v : ℚ) → b ≡ too_wide x → answer b p x ≡ Ok v → IsNarrow v
quotient_fits true p x v q e = absurd (cc)
quotient_fits false p x v q e = let same : v ≡ x = cc in ap too_wide same ∙ sym q

-- what is divided by 1 and stays as it is fits
pub kept_fits : (a v w : ℚ) → v ≡ a → v ≡ w → div_walk a one_ℚ ≡ Ok v → IsNarrow w
kept_fits a v w e f h = subst IsNarrow f (quotient_fits (too_wide (a /ℚ one_ℚ)) _ (a /ℚ one_ℚ) v refl h)

-- ---- the cost at a place
pub cost_here : (costs : List ℚ) (k : ℕ) (v : ℚ) → k < length costs → v ≡ get_or costs k v → v ≡ place_cost costs k
cost_here [] k v l e = absurd (omega (arith, l))
cost_here (c ∷ cs) zero v l e = e
cost_here (c ∷ cs) (suc k) v l e = cost_here cs k v (omega (arith, l)) e

pub cost_past : (costs : List ℚ) (k : ℕ) (v : ℚ) → v ≡ zero_ℚ → length costs ≤ k → v ≡ place_cost costs k
cost_past [] k v e l = e
cost_past (c ∷ cs) zero v e l = absurd (omega (arith, l))
cost_past (c ∷ cs) (suc k) v e l = cost_past cs k v e (omega (arith, l))

-- ---- cuts
pub met : (at : List Entry) (costs : List ℚ) (k : ℕ) (cut : Stored) (v b : ℚ) → v ≡ constant_of cut +ℚ product (form_of cut) (coefficient at)
    → b ≡ limit_of (source_of cut).kind costs k → v ≤ℚ b → MeetsCut at costs (record { child = k; cut = held cut })
met at costs k cut v b e f h = record { meets = subst (λ q. q ≤ℚ limit_of (source_of cut).kind costs k) e (subst (λ q. v ≤ℚ q) f h) }

-- a cut more, if it is taken
pub cuts_step : (P : PlacedCut → Type 0) (priced : Bool) (k i : ℕ) (c : Stored) (cs : List Stored) → i < length cs → c ≡ get_or cs i c
    → (is_taken priced (source_of c).kind ≡ true → P (record { child = k; cut = held c }))
    → (Each P (taken_of priced k (drop i cs)) → Each P (taken_of priced k cs)) → Each P (taken_of priced k (drop (i + 1) cs)) → Each P (taken_of priced k cs)
cuts_step P priced k i c cs l e here all rest =
    all (subst (λ (ds : List Stored). Each P (taken_of priced k ds)) (sym (next_item cs i c l e)) (go (is_taken priced (source_of c).kind) refl))
  where
    go : (b : Bool) → is_taken priced (source_of c).kind ≡ b → Each P (pick b (record { child = k; cut = held c } ∷ taken_of priced k (drop (i + 1) cs)) (taken_of priced k (drop (i + 1) cs)))
    go true t = (here t, rest)
    go false t = rest

each_joined : {A : Type 0} (P : A → Type 0) (xs ys : List A) → Each P xs → Each P ys → Each P (xs ++ ys)
each_joined P [] ys h k = k
each_joined P (x ∷ xs) ys h k = (h.0, each_joined P xs ys h.1 k)

pub children_step : (P : PlacedCut → Type 0) (priced : Bool) (i : ℕ) (c : ChildCuts) (cs : List ChildCuts) → i < length cs → c ≡ get_or cs i c
    → Each P (taken_of priced i c.cuts.items) → (Each P (taken priced i (drop i cs)) → Each P (taken priced 0 cs)) → Each P (taken priced (i + 1) (drop (i + 1) cs)) → Each P (taken priced 0 cs)
children_step P priced i c cs l e here all rest =
    all (subst (λ (ds : List ChildCuts). Each P (taken priced i ds)) (sym (next_item cs i c l e))
    (each_joined P (taken_of priced i c.cuts.items) (taken priced (suc i) (drop (i + 1) cs)) here (subst (λ (n : ℕ). Each P (taken priced n (drop (i + 1) cs))) (add-one i) rest)))

-- ---- all of a point
pub meets_all : (p : Problem) (x at : List Entry) (costs : List ℚ) → coefficient at ≡ point_and_trial x p.trial → Each (MeetsRow at) p.rows → Each (MeetsBounds x) p.bounds
    → Each (MeetsCut at costs) p.cuts → Meets p x costs
meets_all p x at costs e rows bounds cuts = record {
  rows = each-map (λ (r : NodeRow) (h : MeetsRow at r). subst (λ (f : ℕ → ℚ). Between r.low r.high (product r.entries f)) e h.meets) p.rows rows;
  bounds = each-map (λ (b : ColumnBounds) (h : MeetsBounds x b). h.meets) p.bounds bounds;
  cuts = each-map (λ (c : PlacedCut) (h : MeetsCut at costs c).
      subst (λ (f : ℕ → ℚ). c.cut.constant +ℚ product c.cut.form f ≤ℚ limit_of c.cut.kind costs c.child) e h.meets) p.cuts cuts;
}

pub point_met : (t : Task) (x at : List Entry) (costs : List ℚ) (priced : Bool) (rows : List NodeRow) (bounds : List ColumnBounds) (children : List ChildCuts)
    → priced ≡ is_priced t.kind → rows ≡ t.datum.rows → bounds ≡ t.datum.bounds → children ≡ t.children.items → coefficient at ≡ point_and_trial x t.trial
    → Each (MeetsRow at) rows → Each (MeetsBounds x) bounds → Each (MeetsCut at costs) (taken priced 0 children) → Meets (problem_of t) x costs
point_met t x at costs priced rows bounds children e f g h j meets within cuts = meets_all (problem_of t) x at costs j
    (subst (λ (rs : List NodeRow). Each (MeetsRow at) rs) f meets)
    (subst (λ (bs : List ColumnBounds). Each (MeetsBounds x) bs) g within)
    (subst (λ (b : Bool). Each (MeetsCut at costs) (taken b 0 t.children.items)) e
    (subst (λ (cs : List ChildCuts). Each (MeetsCut at costs) (taken priced 0 cs)) h cuts))

-- ---- what it costs
none_shared : (ss : List Share) → shared_cost ss [] ≡ zero_ℚ
none_shared [] = refl
none_shared (s ∷ ss) = refl

shared_head : (s : Share) (ss : List Share) (left : List ℚ) → shared_cost (s ∷ ss) left ≡ s.share *ℚ first left +ℚ shared_cost ss (drop 1 left)
shared_head s ss [] = sym (ap₂ ◌+ℚ◌ (mul_zero_ℚ s.share) (none_shared ss) ∙ zero_add_ℚ zero_ℚ)
shared_head s ss (c ∷ cs) = refl

pub shared_step : (sum new total w : ℚ) (ss : List Share) (i : ℕ) (s : Share) (left others : List ℚ) → i < length ss → s ≡ get_or ss i s → w ≡ first left → others ≡ drop 1 left
    → add_product_walk sum s.share w ≡ Ok new → sum +ℚ shared_cost (drop i ss) left ≡ total → new +ℚ shared_cost (drop (i + 1) ss) others ≡ total
shared_step sum new total w ss i s left others l e f o h k =
    let made : new ≡ sum +ℚ s.share *ℚ first left = step_value Add sum s.share w new h ∙ ap (λ q. sum +ℚ s.share *ℚ q) f in
    let here : shared_cost (drop i ss) left ≡ s.share *ℚ first left +ℚ shared_cost (drop (i + 1) ss) (drop 1 left) =
    ap (λ (qs : List Share). shared_cost qs left) (next_item ss i s l e) ∙ shared_head s (drop (i + 1) ss) left in
    ap₂ (λ a (b : List ℚ). a +ℚ shared_cost (drop (i + 1) ss) b) made o
    ∙ by_ring (sum ∷ s.share *ℚ first left ∷ shared_cost (drop (i + 1) ss) (drop 1 left) ∷ []) (search terms depth 40) tt
    ∙ ap (λ q. sum +ℚ q) (sym here) ∙ k

pub shared_ends : (sum start total : ℚ) (ss : List Share) (left : List ℚ) → ss ≡ [] → sum +ℚ shared_cost ss left ≡ total → sum ≡ total
shared_ends sum start total ss left e h = sym (ap (λ (qs : List Share). sum +ℚ shared_cost qs left) e ∙ add_zero_ℚ sum) ∙ h
