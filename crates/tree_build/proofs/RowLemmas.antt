-- Rows of a node.
use Rattle.std.proofs.Common.{◌≡◌, ◌∙◌, ap, ap₂, sym, refl, subst, ℕ, zero, suc, ◌<◌, ◌≤◌, Bool, true, false, List, [], ◌∷◌, length, get_or, set, take, drop, nat_eq, arith, if◌then◌else◌}
use Rattle.std.proofs.lemmas.Bool.Decides.{nat_tests}
use Rattle.tree_build.specs.declared.parts.RowValues.{RowValues}
use Rattle.tree_build.specs.Values.{RowsFrom, RowsBelow, IsRowAt, row_past, at_row}

at_least : (n m : ℕ) (rows : List RowValues) (x : RowValues) (rest : List RowValues) → RowsFrom n rows → drop m rows ≡ x ∷ rest → n ≤ x.row
at_least n zero [] x rest rises e = cc
at_least n (suc m) [] x rest rises e = cc
at_least n zero (y ∷ rows) x rest rises e = let same : y ≡ x = cc in subst (λ (z : RowValues). n ≤ z.row) same rises.0
at_least n (suc m) (y ∷ rows) x rest rises e = let later = at_least (suc y.row) m rows x rest rises.1 e in omega (arith, rises.0, later)

pub rows_take : (n c m : ℕ) (rows : List RowValues) (x : RowValues) (rest : List RowValues) → RowsFrom n rows → drop m rows ≡ x ∷ rest → x.row < c → RowsBelow c (take (suc m) rows)
rows_take n c zero [] x rest rises e low = cc
rows_take n c (suc m) [] x rest rises e low = cc
rows_take n c zero (y ∷ rows) x rest rises e low = let same : y ≡ x = cc in (subst (λ (z : RowValues). z.row < c) (sym same) low, tt)
rows_take n c (suc m) (y ∷ rows) x rest rises e low =
    let later = at_least (suc y.row) m rows x rest rises.1 e in
    (omega (arith, later, low), rows_take (suc y.row) c m rows x rest rises.1 e low)

weaker : (n m : ℕ) (rows : List RowValues) → m ≤ n → RowsFrom n rows → RowsFrom m rows
weaker n m [] h rises = tt
weaker n m (r ∷ rows) h rises = (omega (arith, h, rises.0), rises.1)

pub rows_drop : (n m : ℕ) (rows : List RowValues) → RowsFrom n rows → RowsFrom n (drop m rows)
rows_drop n zero rows rises = rises
rows_drop n (suc m) [] rises = tt
rows_drop n (suc m) (r ∷ rows) rises = weaker (suc r.row) n (drop m rows) (omega (arith, rises.0)) (rows_drop (suc r.row) m rows rises.1)

like : (a b : ℕ) → a ≡ b → nat_eq a b ≡ true
like a b h = grind (arith, nat_tests)

unlike : (a b : ℕ) → (a ≡ b → ⊥) → nat_eq a b ≡ false
unlike a b h = grind (arith, nat_tests)

both : {one other : RowValues} {rest others : List RowValues} → one ≡ other → rest ≡ others → one ∷ rest ≡ other ∷ others
both a b = ap₂ (λ (s : RowValues) (ss : List RowValues). s ∷ ss) a b

-- no row of that number
no_row_from : (i n : ℕ) (change : RowValues → RowValues) (rows : List RowValues) → RowsFrom n rows → i < n → at_row i change rows ≡ rows
no_row_from i n change [] rises low = refl
no_row_from i n change (r ∷ rows) rises low =
    both (ap (λ b. if b then change r else r) (unlike r.row i (λ e. omega (arith, rises.0, low, e)))) (no_row_from i (suc r.row) change rows rises.1 (omega (arith, rises.0, low)))

pub row_there : (i n at : ℕ) (change : RowValues → RowValues) (rows : List RowValues) (r : RowValues) → RowsFrom n rows → IsRowAt rows at i → r ≡ get_or rows at r → set rows at (change r) ≡ at_row i change rows
row_there i n at change [] r rises stands read = absurd (omega (arith, stands.0))
row_there i n zero change (x ∷ rows) r rises stands read =
    both (ap change read ∙ sym (ap (λ b. if b then change x else x) (like x.row i stands.1))) (sym (no_row_from i (suc x.row) change rows rises.1 (omega (arith, stands.1))))
row_there i n (suc at) change (x ∷ rows) r rises stands read =
    let later = far (suc x.row) at rows rises.1 (omega (arith, stands.0)) stands.1 in
    both (sym (ap (λ b. if b then change x else x) (unlike x.row i (λ e. omega (arith, later, e))))) (row_there i (suc x.row) at change rows r rises.1 (omega (arith, stands.0), stands.1) read)
  where
    far : (m k : ℕ) (rest : List RowValues) → RowsFrom m rest → k < length rest → (get_or rest k (row_past i)).row ≡ i → m ≤ i
    far m k [] rise below e = absurd (omega (arith, below))
    far m zero (y ∷ rest) rise below e = omega (arith, rise.0, e)
    far m (suc k) (y ∷ rest) rise below e = let later = far (suc y.row) k rest rise.1 (omega (arith, below)) e in omega (arith, rise.0, later)

pub row_missing : (i at : ℕ) (change : RowValues → RowValues) (rows : List RowValues) → RowsBelow i (take at rows) → RowsFrom i (drop at rows) → (IsRowAt rows at i → ⊥) → rows ≡ at_row i change rows
row_missing i zero change [] before behind none = refl
row_missing i (suc at) change [] before behind none = refl
row_missing i zero change (x ∷ rows) before behind none =
    let apart : x.row ≡ i → ⊥ = λ e. none (omega arith, e) in
    both (sym (ap (λ b. if b then change x else x) (unlike x.row i apart))) (sym (no_row_from i (suc x.row) change rows behind.1 (omega (arith, behind.0, apart))))
row_missing i (suc at) change (x ∷ rows) before behind none =
    both (sym (ap (λ b. if b then change x else x) (unlike x.row i (λ e. omega (arith, before.0, e))))) (row_missing i at change rows before.1 behind (λ stands. none (omega (arith, stands.0), stands.1)))

pub rows_rise : (i n : ℕ) (change : RowValues → RowValues) (rows : List RowValues) → ((r : RowValues) → (change r).row ≡ r.row) → RowsFrom n rows → RowsFrom n (at_row i change rows)
rows_rise i n change [] keeps rises = tt
rows_rise i n change (r ∷ rows) keeps rises = go (nat_eq r.row i) (rows_rise i (suc r.row) change rows keeps rises.1)
  where
    go : (b : Bool) → RowsFrom (suc r.row) (at_row i change rows) → RowsFrom n ((if b then change r else r) ∷ at_row i change rows)
    go true rest = (omega (arith, keeps r, rises.0), subst (λ (k : ℕ). RowsFrom (suc k) (at_row i change rows)) (sym (keeps r)) rest)
    go false rest = (rises.0, rest)

-- a row of the same number in its place
pub rows_set : (n at : ℕ) (rows : List RowValues) (r d : RowValues) → r.row ≡ (get_or rows at d).row → RowsFrom n rows → RowsFrom n (set rows at r)
rows_set n at [] r d same rises = tt
rows_set n zero (x ∷ rows) r d same rises = (omega (arith, same, rises.0), subst (λ (k : ℕ). RowsFrom (suc k) rows) (sym same) rises.1)
rows_set n (suc at) (x ∷ rows) r d same rises = (rises.0, rows_set (suc x.row) at rows r d same rises.1)
