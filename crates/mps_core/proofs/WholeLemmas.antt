-- The constraints and the columns of what is filed.
use Rattle.std.proofs.Common.{◌≡◌, ◌+◌, ◌<◌, ◌∙◌, ap, ℕ, suc, List, [], ◌∷◌, length, get_or, drop, refl, arith}
use Rattle.core_defs.specs.declared.parts.ColumnPart.{ColumnPart}
use Rattle.core_defs.specs.Filed.{Filed, nothing_filed}
use Rattle.core_defs.specs.Finished.{row_defs, column_defs}
use Rattle.core_defs.proofs.CoreLemmas.{row_names_are}

pub rows_by : (f g : Filed) → f.kinds ≡ g.kinds → f.rhs ≡ g.rhs → f.ranges ≡ g.ranges → (place : ℕ) (names : List (List ℕ)) → row_defs f place names ≡ row_defs g place names
rows_by f g kinds rhs ranges place [] = refl
rows_by f g kinds rhs ranges place (name ∷ names) = rw (kinds, rhs, ranges, rows_by f g kinds rhs ranges (place + 1) names) refl

pub columns_by : (f g : Filed) → f.names ≡ g.names → f.bounds ≡ g.bounds → (place : ℕ) (parts : List ColumnPart) → column_defs f place parts ≡ column_defs g place parts
columns_by f g names bounds place [] = refl
columns_by f g names bounds place (part ∷ parts) = rw (names, bounds, columns_by f g names bounds (place + 1) parts) refl

-- closing the last column changes neither the constraints
pub same_row_defs : (f d : Filed) → d ≡ record f { parts = d.parts; costs = d.costs; terms = d.terms; free_rhs = d.free_rhs } → row_defs d 0 d.rows ≡ row_defs f 0 f.rows
same_row_defs f d rest =
    rows_by d f (ap (λ (g : Filed). g.kinds) rest) (ap (λ (g : Filed). g.rhs) rest) (ap (λ (g : Filed). g.ranges) rest) 0 d.rows ∙ ap (λ (g : Filed). row_defs f 0 g.rows) rest

-- nor the columns' names and bounds
pub same_column_defs : (f d : Filed) → d ≡ record f { parts = d.parts; costs = d.costs; terms = d.terms } → (parts : List ColumnPart) → column_defs (record nothing_filed { names = d.names; bounds = d.bounds }) 0 parts ≡ column_defs f 0 parts
same_column_defs f d rest parts = columns_by (record nothing_filed { names = d.names; bounds = d.bounds }) f (ap (λ (g : Filed). g.names) rest) (ap (λ (g : Filed). g.bounds) rest) 0 parts

pub row_count : (f : Filed) (place : ℕ) (names : List (List ℕ)) → length (row_defs f place names) ≡ length names
row_count f place [] = refl
row_count f place (name ∷ names) = ap suc (row_count f (place + 1) names)

pub column_count : (f : Filed) (place : ℕ) (parts : List ColumnPart) → length (column_defs f place parts) ≡ length parts
column_count f place [] = refl
column_count f place (part ∷ parts) = ap suc (column_count f (place + 1) parts)

pub split_first : (names : List (List ℕ)) → 0 < length names → names ≡ get_or names 0 [] ∷ drop 1 names
split_first [] some = absurd (omega arith)
split_first (name ∷ names) some = refl

pub ruleset core_lemmas = (same_row_defs, row_names_are, row_count, column_count, split_first)
