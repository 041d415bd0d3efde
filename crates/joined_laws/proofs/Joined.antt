-- The number at a node and a column of forms by node, of which only that of the node need be a form.
use Rattle.std.proofs.Common.{◌≡◌, ℕ, zero, suc, ◌+◌, ◌<◌, Bool, true, false, ◌&&◌, eqb, List, [], ◌∷◌, ◌++◌, Option, map, refl}
use Rattle.std.proofs.Common.{sym, ap, subst, ◌∙◌, arith}
use Rattle.std.proofs.lemmas.Bool.{ne_eqb}
use Rattle.rationals.specs.Rational.{ℚ, zero_ℚ}
use Rattle.rationals.specs.Sparse.{Entry, coefficient}
use Rattle.rationals.specs.Forms.{IsForm}
use Rattle.rationals.specs.Choices.{pick}
use Rattle.scen_defs.specs.Lists.{Each}
use Rattle.scen_defs.specs.Values.{At, at}
use Rattle.edit_defs.proofs.Lists.{each-append}
use Rattle.dual_assemble.specs.Walks.{form_at, empties}
use Rattle.dual_assemble.specs.Values.{is_place, number_at, node_values, numbers_by_node, point_entries}
use Rattle.dual_assemble.proofs.Numbers.{values_are_numbers}
use Rattle.found_ends.specs.declared.last.Last.{Last}
use Rattle.found_ends.specs.Lasts.{last_point, joined_points}
use Rattle.joined_laws.specs.Points.{point_at}

-- ---- lists of numbers, one behind the other
behind : (n i : ℕ) (xs ys : List At) → Each (λ a. a.node ≡ n → ⊥) xs → at (xs ++ ys) n i ≡ at ys n i
behind n i [] ys h = refl
behind n i (a ∷ xs) ys h = ap (λ b. pick (b && eqb a.index i) a.value (at (xs ++ ys) n i)) (ne_eqb a.node n h.0) ∙ behind n i xs ys h.1

before : (n i : ℕ) (xs ys : List At) → at ys n i ≡ zero_ℚ → at (xs ++ ys) n i ≡ at xs n i
before n i [] ys h = h
before n i (a ∷ xs) ys h = ap (λ (z : ℚ). pick (eqb a.node n && eqb a.index i) a.value z) (before n i xs ys h)

-- those of a node are of no other
of_node : (m n : ℕ) (f : List Entry) → (m ≡ n → ⊥) → Each (λ (a : At). a.node ≡ n → ⊥) (node_values m f)
of_node m n [] h = tt
of_node m n (e ∷ f) h =
    each-append (λ (a : At). a.node ≡ n → ⊥) (number_at m e.column e.value) (node_values m f) (one (is_place m e.column)) (of_node m n f h)
  where
    one : (b : Bool) → Each (λ (a : At). a.node ≡ n → ⊥) (pick b (record { node = m; index = e.column; value = e.value } ∷ []) [])
    one true = (h, tt)
    one false = tt

none_earlier : (m n i : ℕ) (fs : List (List Entry)) → n < m → at (numbers_by_node m fs) n i ≡ zero_ℚ
none_earlier m n i [] h = refl
none_earlier m n i (f ∷ fs) h =
    behind n i (node_values m f) (numbers_by_node (m + 1) fs) (of_node m n f (λ e. omega arith)) ∙ none_earlier (m + 1) n i fs (omega arith)

-- ---- a form at place k alone
abbrev alone : ℕ → List Entry → List (List Entry)
alone k f = empties k ++ f ∷ []

-- for its node the other forms don't count
same_alone : (m k n i : ℕ) (fs : List (List Entry)) → n ≡ m + k
    → at (numbers_by_node m fs) n i ≡ at (numbers_by_node m (alone k (form_at fs k))) n i
same_alone m zero n i [] e = refl
same_alone m (suc k) n i [] e = same_alone (m + 1) k n i [] (omega arith)
same_alone m zero n i (f ∷ fs) e =
    before n i (node_values m f) (numbers_by_node (m + 1) fs) (none_earlier (m + 1) n i fs (omega arith))
    ∙ sym (before n i (node_values m f) [] refl)
same_alone m (suc k) n i (f ∷ fs) e =
    behind n i (node_values m f) (numbers_by_node (m + 1) fs) (of_node m n f (λ q. omega arith)) ∙ same_alone (m + 1) k n i fs (omega arith)

alone_forms : (k : ℕ) (f : List Entry) → IsForm f → Each IsForm (alone k f)
alone_forms zero f h = (h, tt)
alone_forms (suc k) f h = (record { rises = tt; nonzero = tt }, alone_forms k f h)

alone_at : (k : ℕ) (f : List Entry) → form_at (alone k f) k ≡ f
alone_at zero f = refl
alone_at (suc k) f = alone_at k f

form_number : (n i : ℕ) (fs : List (List Entry)) → IsForm (form_at fs n) → n < 4294967296 → i < 4294967296
    → at (numbers_by_node 0 fs) n i ≡ coefficient (form_at fs n) i
form_number n i fs h a b =
    let all : List (List Entry) = alone n (form_at fs n) in
    same_alone 0 n n i fs (omega arith) ∙ values_are_numbers all (numbers_by_node 0 all) refl (alone_forms n (form_at fs n) h) n i a b
    ∙ ap (λ (f : List Entry). coefficient f i) (alone_at n (form_at fs n))

-- ---- the points of last solves
pub points_at : (lasts : List (Option Last)) (n : ℕ) → form_at (map point_entries (map last_point lasts)) n ≡ point_at lasts n
points_at [] n = refl
points_at (last ∷ lasts) zero = refl
points_at (last ∷ lasts) (suc n) = points_at lasts n

-- the number of the joined points at a node and a column is that of the node's point
pub joined_number : (lasts : List (Option Last)) (n j : ℕ) → IsForm (point_at lasts n) → n < 4294967296 → j < 4294967296
    → at (joined_points lasts) n j ≡ coefficient (point_at lasts n) j
joined_number lasts n j h a b =
    let fs : List (List Entry) = map point_entries (map last_point lasts) in
    form_number n j fs (subst IsForm (sym (points_at lasts n)) h) a b ∙ ap (λ (f : List Entry). coefficient f j) (points_at lasts n)
