-- A search for the factors of a sum of inequalities: Fourier and Motzkin's elimination. Nothing is proved of it, since
-- what it finds is checked (`verify`).
use Rattle.std.proofs.Common.{ℕ, zero, suc, ◌+◌, ◌*◌, ◌-◌, Bool, true, false, ◌||◌, ltb, List, [], ◌∷◌, length}
use Rattle.std.proofs.Common.{ℤ, pos, negsuc, ◌+ℤ◌, ◌*ℤ◌, nat_abs}
use lib.IntN.{sub_ℕ}
use lib.Signed.{le_z}
use Rattle.rationals.specs.Polynomials.{Term, eq_mono, add_poly, mul_by, neg_poly, is_nil, all_slack}

abbrev pub seen : List ℕ → List (List ℕ) → Bool
seen m [] = false
seen m (n ∷ ns) = eq_mono m n || seen m ns

-- the monomials of a polynomial, but the constant
abbrev pub monos : List Term → List (List ℕ) → List (List ℕ)
monos [] ms = ms
monos (t ∷ ts) ms = elim (is_nil t.mono || seen t.mono ms) [ true ↦ monos ts ms | false ↦ monos ts (t.mono ∷ ms) ]

abbrev pub monos_of : List (List Term) → List (List ℕ) → List (List ℕ)
monos_of [] ms = ms
monos_of (p ∷ ps) ms = monos_of ps (monos p ms)

abbrev pub coefficient : List ℕ → List Term → ℤ
coefficient m [] = pos 0
coefficient m (t ∷ ts) = elim (eq_mono m t.mono) [ true ↦ sub_ℕ t.p t.m | false ↦ coefficient m ts ]

abbrev pub vector : List (List ℕ) → List Term → List ℤ
vector [] p = coefficient [] p ∷ []
vector (m ∷ ms) p = coefficient m p ∷ vector ms p

-- the coefficients of a sum, and the factors that make it
pub record Line : Type 0 where
  pub at : List ℤ
  pub by : List ℕ

abbrev pub unit : ℕ → ℕ → List ℕ
unit zero i = []
unit (suc n) zero = 1 ∷ unit n n
unit (suc n) (suc i) = 0 ∷ unit n i

abbrev pub lines : ℕ → ℕ → List (List ℕ) → List (List Term) → List Line
lines n i ms [] = []
lines n i ms (p ∷ ps) = record { at = vector ms p; by = unit n i } ∷ lines n (suc i) ms ps

abbrev pub mix_at : ℕ → ℕ → List ℤ → List ℤ → List ℤ
mix_at a b [] ys = []
mix_at a b (x ∷ xs) [] = []
mix_at a b (x ∷ xs) (y ∷ ys) = ((pos a *ℤ x) +ℤ (pos b *ℤ y)) ∷ mix_at a b xs ys

abbrev pub mix_by : ℕ → ℕ → List ℕ → List ℕ → List ℕ
mix_by a b [] ys = []
mix_by a b (x ∷ xs) [] = []
mix_by a b (x ∷ xs) (y ∷ ys) = (a * x + b * y) ∷ mix_by a b xs ys

-- the lines whose first coefficient is positive, negative or zero
abbrev pub positive : List Line → List Line
positive [] = []
positive (l ∷ ls) = elim l.at [
  | [] ↦ positive ls
  | z ∷ _ ↦ elim z [
    | pos n ↦ elim n [ zero ↦ positive ls | suc _ ↦ l ∷ positive ls ]
    | negsuc _ ↦ positive ls
  ]
]

abbrev pub negative : List Line → List Line
negative [] = []
negative (l ∷ ls) = elim l.at [ [] ↦ negative ls | z ∷ _ ↦ elim z [ pos n ↦ negative ls | negsuc _ ↦ l ∷ negative ls ] ]

abbrev pub neutral : List Line → List Line
neutral [] = []
neutral (l ∷ ls) = elim l.at [
  | [] ↦ neutral ls
  | z ∷ zs ↦ elim z [
    | pos n ↦ elim n [ zero ↦ record { at = zs; by = l.by } ∷ neutral ls | suc _ ↦ neutral ls ]
    | negsuc _ ↦ neutral ls
  ]
]

-- two lines, so that the first coefficient goes
abbrev pub cross : Line → Line → Line
cross p n = elim p.at [
  | [] ↦ p
  | x ∷ xs ↦ elim n.at [
    | [] ↦ p
    | y ∷ ys ↦ record { at = mix_at (nat_abs y) (nat_abs x) xs ys; by = mix_by (nat_abs y) (nat_abs x) p.by n.by }
  ]
]

abbrev pub cross_all : Line → List Line → List Line → List Line
cross_all p [] ls = ls
cross_all p (n ∷ ns) ls = cross p n ∷ cross_all p ns ls

abbrev pub crosses : List Line → List Line → List Line → List Line
crosses [] ns ls = ls
crosses (p ∷ ps) ns ls = cross_all p ns (crosses ps ns ls)

-- the column i of a line, and the rest
abbrev pub entry_at : ℕ → List ℤ → ℤ
entry_at i [] = pos 0
entry_at zero (z ∷ zs) = z
entry_at (suc i) (z ∷ zs) = entry_at i zs

abbrev pub without : ℕ → List ℤ → List ℤ
without i [] = []
without zero (z ∷ zs) = zs
without (suc i) (z ∷ zs) = z ∷ without i zs

abbrev pub to_front : ℕ → List Line → List Line
to_front i [] = []
to_front i (l ∷ ls) = record { at = entry_at i l.at ∷ without i l.at; by = l.by } ∷ to_front i ls

abbrev pub count_sign : Bool → ℕ → List Line → ℕ
count_sign up i [] = 0
count_sign up i (l ∷ ls) = elim (entry_at i l.at) [
  | pos n ↦ elim n [
    | zero ↦ count_sign up i ls
    | suc _ ↦ elim up [ true ↦ suc (count_sign up i ls) | false ↦ count_sign up i ls ]
  ]
  | negsuc _ ↦ elim up [ true ↦ count_sign up i ls | false ↦ suc (count_sign up i ls) ]
]

-- the column, of the first n, whose elimination makes the fewest lines
abbrev pub cheapest : ℕ → List Line → ℕ × ℕ
cheapest zero ls = (0, 1000000)
cheapest (suc i) ls =
    let best : ℕ × ℕ = cheapest i ls in
    let up : ℕ = count_sign true i ls in
    let down : ℕ = count_sign false i ls in
    let cost : ℕ = 100 + up * down - (up + down) in
    elim (ltb cost best.1) [ true ↦ (i, cost) | false ↦ best ]

-- with the first n columns gone
abbrev pub eliminate : ℕ → List Line → List Line
eliminate zero ls = ls
eliminate (suc n) ls =
    let moved : List Line = to_front (cheapest (suc n) ls).0 ls in
    eliminate n (crosses (positive moved) (negative moved) (neutral moved))

-- the factors of the first line that uses the goal and has no positive constant
abbrev pub first_factors : List Line → List ℕ
first_factors [] = []
first_factors (l ∷ ls) = elim l.at [
  | [] ↦ first_factors ls
  | z ∷ _ ↦ elim (le_z z (pos 0)) [
    | false ↦ first_factors ls
    | true ↦ elim l.by [ [] ↦ first_factors ls | k ∷ ks ↦ elim k [ zero ↦ first_factors ls | suc j ↦ suc j ∷ ks ] ]
  ]
]

-- factors for the polynomials of a list that begins with the denied goal
abbrev pub factors : List (List Term) → List ℕ
factors ps = let ms = monos_of ps [] in first_factors (eliminate (length ms) (lines (length ps) 0 ms ps))

-- k times a polynomial
abbrev pub scaled : ℕ → List Term → List Term
scaled k p = mul_by record { p = k; m = 0; mono = [] } p

abbrev pub weighted : List ℕ → List (List Term) → List Term
weighted [] ps = []
weighted (k ∷ ks) [] = []
weighted (k ∷ ks) (p ∷ ps) = add_poly (scaled k p) (weighted ks ps)

-- whether k (y - x) is the sum of the others, each times its factor, or more by a number
abbrev pub verify : List ℕ → List Term → List (List Term) → Bool
verify [] goal ps = false
verify (zero ∷ ks) goal ps = false
verify (suc k ∷ ks) goal ps = all_slack (add_poly (scaled (suc k) goal) (neg_poly (weighted ks ps)))
