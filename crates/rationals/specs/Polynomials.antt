-- Polynomials in natural-number variables as closed data, which the checker computes with: a list of monomials, each
-- with two natural coefficients p and m (the coefficient p - m).
use Rattle.std.proofs.Common.{ℕ, ◌+◌, ◌*◌, Bool, true, false, ◌&&◌, ◌||◌, eqb, ltb, leb, List, [], ◌∷◌}

pub data Expr : Type 0 where
  var : ℕ → Expr
  nul one : Expr
  lit : ℕ → Expr
  add sub mul : Expr → Expr → Expr
  opp : Expr → Expr

-- (p - m) times the product of the variables of mono
pub record Term : Type 0 where
  pub p : ℕ
  pub m : ℕ
  pub mono : List ℕ

abbrev pub ins : ℕ → List ℕ → List ℕ
ins i [] = i ∷ []
ins i (j ∷ js) = elim (ltb j i) [ true ↦ j ∷ ins i js | false ↦ i ∷ j ∷ js ]

abbrev pub mul_mono : List ℕ → List ℕ → List ℕ
mul_mono [] b = b
mul_mono (i ∷ a) b = ins i (mul_mono a b)

abbrev pub eq_mono : List ℕ → List ℕ → Bool
eq_mono [] [] = true
eq_mono [] (_ ∷ _) = false
eq_mono (_ ∷ _) [] = false
eq_mono (i ∷ a) (j ∷ b) = eqb i j && eq_mono a b

abbrev pub add_term : Term → List Term → List Term
add_term t [] = t ∷ []
add_term t (u ∷ us) = elim (eq_mono t.mono u.mono) [
  | true ↦ record { p = t.p + u.p; m = t.m + u.m; mono = u.mono } ∷ us
  | false ↦ u ∷ add_term t us
]

abbrev pub add_poly : List Term → List Term → List Term
add_poly [] b = b
add_poly (t ∷ a) b = add_term t (add_poly a b)

abbrev pub mul_term : Term → Term → Term
mul_term t u = record { p = t.p * u.p + t.m * u.m; m = t.p * u.m + t.m * u.p; mono = mul_mono t.mono u.mono }

abbrev pub mul_by : Term → List Term → List Term
mul_by t [] = []
mul_by t (u ∷ us) = add_term (mul_term t u) (mul_by t us)

abbrev pub mul_poly : List Term → List Term → List Term
mul_poly [] b = []
mul_poly (t ∷ a) b = add_poly (mul_by t b) (mul_poly a b)

abbrev pub neg_poly : List Term → List Term
neg_poly [] = []
neg_poly (t ∷ a) = record { p = t.m; m = t.p; mono = t.mono } ∷ neg_poly a

abbrev pub norm : Expr → List Term
norm (var i) = record { p = 1; m = 0; mono = i ∷ [] } ∷ []
norm nul = []
norm one = record { p = 1; m = 0; mono = [] } ∷ []
norm (lit n) = record { p = n; m = 0; mono = [] } ∷ []
norm (add a b) = add_poly (norm a) (norm b)
norm (sub a b) = add_poly (norm a) (neg_poly (norm b))
norm (mul a b) = mul_poly (norm a) (norm b)
norm (opp a) = neg_poly (norm a)

abbrev pub all_zero : List Term → Bool
all_zero [] = true
all_zero (t ∷ a) = eqb t.p t.m && all_zero a

abbrev pub is_nil : List ℕ → Bool
is_nil [] = true
is_nil (_ ∷ _) = false

-- every coefficient is zero, but that the constant may be positive
abbrev pub all_slack : List Term → Bool
all_slack [] = true
all_slack (t ∷ a) = (eqb t.p t.m || (is_nil t.mono && leb t.m t.p)) && all_slack a
