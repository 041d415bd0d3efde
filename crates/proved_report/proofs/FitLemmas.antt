-- Lists that fit a program have the numbers of its columns or rows.
use Rattle.std.proofs.Common.{◌≡◌, ℕ, zero, suc, ◌<◌, Bool, true, false, ◌&&◌, List, [], ◌∷◌, length, arith}
use Rattle.scen_defs.specs.Lists.{passes_at}
use Rattle.scen_defs.specs.Values.{At}
use Rattle.scen_defs.specs.Fits.{HaveNames}
use Rattle.scen_defs.specs.Program.{Program, node_at, is_live}
use Rattle.scen_model.specs.Derived.{is_row_of, is_column_of, fits_at, all_fit}

below : {A : Type 0} (test : A → Bool) (n : ℕ) (xs : List A) → passes_at test n xs ≡ true → n < length xs
below test n [] h = cc
below test zero (x ∷ xs) h = omega arith
below test (suc n) (x ∷ xs) h = omega (arith, below test n xs h)

-- both of two tests hold
both : (a b : Bool) → (a && b) ≡ true → (a ≡ true) × (b ≡ true)
both true b h = (cc, h)
both false b h = cc

module _ (p : Program) where
  pub columns-have-names : (values : List At) → all_fit p false values ≡ true → HaveNames (length p.columns) values
  columns-have-names [] h = tt
  columns-have-names (a ∷ values) h =
      let split = both (fits_at p false a) (all_fit p false values) h in
      let inner = both (passes_at is_live a.node p.nodes) (is_column_of p (node_at p.nodes a.node).stage a.index) split.0 in
      (below _ a.index p.columns inner.1, columns-have-names values split.1)

  pub rows-have-names : (values : List At) → all_fit p true values ≡ true → HaveNames (length p.rows) values
  rows-have-names [] h = tt
  rows-have-names (a ∷ values) h =
      let split = both (fits_at p true a) (all_fit p true values) h in
      let inner = both (passes_at is_live a.node p.nodes) (is_row_of p (node_at p.nodes a.node).stage a.index) split.0 in
      (below _ a.index p.rows inner.1, rows-have-names values split.1)
