-- Sums that run over lists and are rounded.
use Rattle.std.proofs.Common.{◌≡◌, ◌<◌, length, get_or, ap₂, IsTrue, Bool, true, ℕ, List, [], ◌∷◌, Option, Some, None, IfSome, refl, sym, ap, subst, ◌∙◌}
use Rattle.rationals.specs.Rational.{ℚ, zero_ℚ, ◌+ℚ◌, ◌*ℚ◌, ◌≤ℚ◌, by_ring, terms, add_zero_ℚ, zero_add_ℚ, at_most, at_most_true, le_trans_ℚ}
use Rattle.rationals.specs.Sums.{sum_ℚ}
use Rattle.rationals.specs.Sparse.{Entry, product}
use Rattle.scen_defs.specs.declared.program.Node.{Node as NodeOf}
use Rattle.scen_defs.specs.declared.program.Program.{Program as ProgramOf}
use Rattle.scen_defs.specs.Program.{content, view_of}
use Rattle.scen_model.proofs.NodeSteps.{node_is}
use Rattle.scen_defs.specs.Lists.{Each}
use Rattle.scen_defs.specs.Ends.{used_end, IsFinite, number, worth}
use Rattle.rounded_sums.specs.declared.side.Side.{Side}
use Rattle.rounded_sums.specs.declared.side.Side.TheVariants.{Above, Below}
use Rattle.rounded_sums.specs.Sides.{Beside, factor_side}
use Rattle.rounded_sums.proofs.SideLemmas.{beside_refl, beside_trans, beside_add, beside_right}
use Rattle.rounded_ends.specs.Runs.{Runs, Ran, IsWorth}

module _ {A : Type 0} (side : Side) (G : A → Type 0) (g : A → ℚ) (start : ℚ) (all : List A) where
  pub runs_begin : (s : ℚ) (rest : List A) → s ≡ start → rest ≡ all → Runs side G g start all s rest
  runs_begin s rest e f = record {
    holds = λ h. subst (Each G) f h;
    beside = subst (λ (z : ℚ). Beside side (start +ℚ sum_ℚ g all) z) (ap (λ (z : ℚ). z +ℚ sum_ℚ g all) (sym e) ∙ ap (λ (l : List A). s +ℚ sum_ℚ g l) (sym f)) (beside_refl side (start +ℚ sum_ℚ g all));
  }

  moved : (s : ℚ) (rest more : List A) (x : A) → rest ≡ x ∷ more → (s +ℚ g x) +ℚ sum_ℚ g more ≡ s +ℚ sum_ℚ g rest
  moved s rest more x e = by_ring (s ∷ g x ∷ sum_ℚ g more ∷ []) (search terms depth 40) tt ∙ ap (λ (l : List A). s +ℚ sum_ℚ g l) (sym e)

  pub runs_next : (s t : ℚ) (rest more : List A) (x : A) → rest ≡ x ∷ more → Runs side G g start all s rest → G x → Beside side (s +ℚ g x) t
      → Runs side G g start all t more
  runs_next s t rest more x e r h b = record {
    holds = λ k. r.holds (subst (Each G) (sym e) (h, k));
    beside = beside_trans side (start +ℚ sum_ℚ g all) (s +ℚ sum_ℚ g rest) (t +ℚ sum_ℚ g more) r.beside
        (subst (λ (z : ℚ). Beside side z (t +ℚ sum_ℚ g more)) (moved s rest more x e)
        (beside_add side (s +ℚ g x) t (sum_ℚ g more) (sum_ℚ g more) b (beside_refl side (sum_ℚ g more))));
  }

  pub runs_same : (s t : ℚ) (rest more : List A) → s ≡ t → rest ≡ more → Runs side G g start all s rest → Runs side G g start all t more
  runs_same s t rest more e f r = subst (λ (l : List A). Runs side G g start all t l) f (subst (λ (z : ℚ). Runs side G g start all z rest) e r)

  pub runs_done : (s : ℚ) (rest : List A) → rest ≡ [] → Runs side G g start all s rest → Ran side G g start all s
  runs_done s rest e r = record {
    holds = r.holds (subst (Each G) (sym e) tt);
    beside = subst (Beside side (start +ℚ sum_ℚ g all)) (ap (λ (l : List A). s +ℚ sum_ℚ g l) e ∙ add_zero_ℚ s) r.beside;
  }

-- a sum that starts at 0
pub ran_sum : {A : Type 0} (side : Side) (G : A → Type 0) (g : A → ℚ) (all : List A) (s : ℚ) → Ran side G g zero_ℚ all s → Beside side (sum_ℚ g all) s
ran_sum side G g all s r = subst (λ (z : ℚ). Beside side z s) (zero_add_ℚ (sum_ℚ g all)) r.beside

-- ---- products
abbrev pub part : (ℕ → ℚ) → Entry → ℚ
part x e = e.value *ℚ x e.column

abbrev pub Free : {A : Type 0} → A → Type 0
Free a = Unit {0}

pub product_sum : (f : List Entry) (x : ℕ → ℚ) → zero_ℚ +ℚ sum_ℚ (part x) f ≡ product f x
product_sum f x = zero_add_ℚ _ ∙ go f
  where
    go : (f : List Entry) → sum_ℚ (part x) f ≡ product f x
    go [] = refl
    go (e ∷ f) = ap (λ (z : ℚ). e.value *ℚ x e.column +ℚ z) (go f)

pub product_ran : (side : Side) (f : List Entry) (x : ℕ → ℚ) (s : ℚ) → Ran side Free (part x) zero_ℚ f s → Beside side (product f x) s
product_ran side f x s r = subst (λ (z : ℚ). Beside side z s) (product_sum f x) r.beside

pub sum_told : (side : Side) (exact sum : ℚ) (told : Option ℚ) → Beside side exact sum → IfSome told (Beside side sum) → IfSome told (Beside side exact)
sum_told side exact sum None h k = tt
sum_told side exact sum (Some q) h k = beside_trans side exact sum q h k

-- ---- a multiplier and the end that it uses
pub worth_step : (side : Side) (low high : Option ℚ) (y s u : ℚ) (end : Option ℚ) (r : Option ℚ) → end ≡ used_end low high y → end ≡ Some u
    → IfSome r (Beside side (s +ℚ y *ℚ u)) → IfSome r (IsWorth side low high y s)
unfolding worth
worth_step side low high y s u end None e f h = tt
worth_step side low high y s u end (Some q) e f h =
    let is : used_end low high y ≡ Some u = sym e ∙ f in
    record {
      good = record { finite = subst IsFinite (sym is) tt };
      beside = subst (λ (o : Option ℚ). Beside side (s +ℚ y *ℚ number o) q) (sym is) h;
    }

-- ---- a factor that is rounded first
pub factor_step : (side : Side) (total cost s q : ℚ) (own : Side) (r : Option ℚ) → own ≡ factor_side side total → Beside own cost q
    → IfSome r (Beside side (s +ℚ total *ℚ q)) → IfSome r (Beside side (s +ℚ total *ℚ cost))
factor_step side total cost s q own None e h k = tt
factor_step side total cost s q own (Some t) e h k =
    beside_trans side (s +ℚ total *ℚ cost) (s +ℚ total *ℚ q) t
    (beside_add side s s (total *ℚ cost) (total *ℚ q) (beside_refl side s) (beside_right side total cost q (subst (λ (o : Side). Beside o cost q) e h))) k

-- ---- an end and a sum that is rounded away from it
sure : (b : Bool) → IsTrue b → b ≡ true
sure b h = h

pub is_above : (low q sum : ℚ) (b : Bool) → b ≡ at_most low sum → IsTrue b → Beside Below q sum → low ≤ℚ q
is_above low q sum b e t h = le_trans_ℚ (at_most_true low sum (sym e ∙ sure b t)) h

pub is_below : (high q sum : ℚ) (b : Bool) → b ≡ at_most sum high → IsTrue b → Beside Above q sum → q ≤ℚ high
is_below high q sum b e t h = le_trans_ℚ h (at_most_true sum high (sym e ∙ sure b t))

-- ---- the cost of a node
pub cost_there : (p : ProgramOf) (items : List (Option NodeOf)) (same : items ≡ p.nodes.items) (i : ℕ) (place : Option NodeOf) (n : NodeOf) → i < length items
    → place ≡ get_or items i place → place ≡ Some n → (t u : ℚ) → t ≡ u → (costs : List Entry) → costs ≡ n.cost → (x : ℕ → ℚ) (s : ℚ)
    → s +ℚ t *ℚ product costs x ≡ s +ℚ u *ℚ product ((view_of (content p)).cost i) x
cost_there p items same i place n h e d t u a costs b x s =
    ap₂ (λ (q : ℚ) (m : List Entry). s +ℚ q *ℚ product m x) a (b ∙ sym (ap (λ m. m.cost) (node_is p.nodes.items items same i place n h e d)))
